-- A partition shares out all identifiers, and goes on doing so when a prefix is replaced by its halves.
use Rattle.std.proofs.Common.{◌≡◌, ℕ, suc, ◌≤◌, ◌&&◌, List, [], ◌∷◌, ◌++◌, length, Bool, true, false, cond, refl, sym, ap, subst, ◌∙◌, arith}
use Rattle.std.specs.Prelude.{filter}
use Rattle.std.specs.List.{All, AllByRecursion}
use Rattle.std.proofs.lemmas.List.Elements.{recursion_from_All}
use Rattle.bucket_tree.specs.Partition.{begins, same_bit, after_bit, NoneEmpty, Partition, whole, halves, BeforeAll, Ascending}
use Rattle.bucket_tree.proofs.Begun.{before-more_right, before-more_left, before-halves}

abbrev Short : ℕ → List (List Bool) → Type 0
Short n [] = Unit {0}
Short n (p ∷ P) = (length p ≤ n) × Short n P

-- how many members begin the bits
abbrev begun : List (List Bool) → List Bool → ℕ
begun P w = length (filter (λ p. begins p w) P)

-- one partition has some member
some_member : (P : List (List Bool)) → P ≡ [] → Partition P → ⊥
some_member P e whole = absurd cc
some_member P e (halves n lo hi) = some_member (after_bit false P) (ap (after_bit false) e) lo

none_short : (P : List (List Bool)) → NoneEmpty P → Short 0 P → P ≡ []
none_short [] n s = refl
none_short ([] ∷ P) n s = absurd n
none_short ((x ∷ p) ∷ P) n s = absurd (omega (arith, s.0))

-- with the first bit gone from all
begun-after : (b : Bool) (P : List (List Bool)) (w : List Bool) → NoneEmpty P → begun P (b ∷ w) ≡ begun (after_bit b P) w
begun-after b [] w n = refl
begun-after b ([] ∷ P) w n = absurd n
begun-after b ((x ∷ p) ∷ P) w n = go (same_bit x b) (begun-after b P w n)
  where
    go : (s : Bool) → begun P (b ∷ w) ≡ begun (after_bit b P) w
        → length (cond (s && begins p w) ((x ∷ p) ∷ filter (λ q. begins q (b ∷ w)) P) (filter (λ q. begins q (b ∷ w)) P)) ≡ begun (cond s (p ∷ after_bit b P) (after_bit b P)) w
    go true e = more (begins p w)
      where
        more : (t : Bool) → length (cond t ((x ∷ p) ∷ filter (λ q. begins q (b ∷ w)) P) (filter (λ q. begins q (b ∷ w)) P))
            ≡ length (cond t (p ∷ filter (λ q. begins q w) (after_bit b P)) (filter (λ q. begins q w) (after_bit b P)))
        more true = ap suc e
        more false = e
    go false e = e

short-after : (b : Bool) (P : List (List Bool)) (n : ℕ) → Short (suc n) P → Short n (after_bit b P)
short-after b [] n s = tt
short-after b ([] ∷ P) n s = short-after b P n s.1
short-after b ((x ∷ p) ∷ P) n s = go (same_bit x b) (short-after b P n s.1)
  where
    go : (t : Bool) → Short n (after_bit b P) → Short n (cond t (p ∷ after_bit b P) (after_bit b P))
    go true r = (omega (arith, s.0), r)
    go false r = r

one : (P : List (List Bool)) (w : List Bool) → Partition P → Short (length w) P → begun P w ≡ 1
one P w whole s = refl
one P [] (halves n lo hi) s = absurd (some_member (after_bit false P) (ap (after_bit false) (none_short P n s)) lo)
one P (false ∷ w) (halves n lo hi) s = begun-after false P w n ∙ one (after_bit false P) w lo (short-after false P (length w) s)
one P (true ∷ w) (halves n lo hi) s = begun-after true P w n ∙ one (after_bit true P) w hi (short-after true P (length w) s)

short_from : (n : ℕ) (P : List (List Bool)) → AllByRecursion (λ p. length p ≤ n) P → Short n P
short_from n [] a = tt
short_from n (p ∷ P) a = (a.0, short_from n P a.1)

pub one_begins : (P : List (List Bool)) (w : List Bool) → Partition P → All (λ p. length p ≤ length w) P → begun P w ≡ 1
one_begins P w d a = one P w d (short_from (length w) P (recursion_from_All (λ p. length p ≤ length w) P a))

after-append : (b : Bool) (A B : List (List Bool)) → after_bit b (A ++ B) ≡ after_bit b A ++ after_bit b B
after-append b [] B = refl
after-append b ([] ∷ A) B = after-append b A B
after-append b ((x ∷ p) ∷ A) B = go (same_bit x b) (after-append b A B)
  where
    go : (t : Bool) → after_bit b (A ++ B) ≡ after_bit b A ++ after_bit b B → cond t (p ∷ after_bit b (A ++ B)) (after_bit b (A ++ B)) ≡ cond t (p ∷ after_bit b A) (after_bit b A) ++ after_bit b B
    go true e = ap (λ (l : List (List Bool)). p ∷ l) e
    go false e = e

none_empty-front : (A B : List (List Bool)) → NoneEmpty (A ++ B) → NoneEmpty A × NoneEmpty B
none_empty-front [] B n = (tt, n)
none_empty-front ([] ∷ A) B n = absurd n
none_empty-front ((x ∷ p) ∷ A) B n = none_empty-front A B n

none_empty-append : (A B : List (List Bool)) → NoneEmpty A → NoneEmpty B → NoneEmpty (A ++ B)
none_empty-append [] B n m = m
none_empty-append ([] ∷ A) B n m = absurd n
none_empty-append ((x ∷ p) ∷ A) B n m = none_empty-append A B n m

-- a prefix is replaced by its halves
pub partition-split : (Q A B : List (List Bool)) (p : List Bool) → Partition Q → Q ≡ A ++ p ∷ B → Partition (A ++ (p ++ false ∷ []) ∷ (p ++ true ∷ []) ∷ B)
partition-split Q [] B p whole e =
    let f : p ≡ [] = cc in
    let g : B ≡ [] = cc in
    rw (f, g) (halves tt whole whole)
partition-split Q (a ∷ A) B p whole e = absurd (some A e)
  where
    some : (A' : List (List Bool)) → [] ∷ [] ≡ a ∷ (A' ++ p ∷ B) → ⊥
    some [] f = absurd cc
    some (c ∷ A') f = absurd cc
partition-split Q A B [] (halves n lo hi) e = absurd ((none_empty-front A ([] ∷ B) (subst NoneEmpty e n)).1)
partition-split Q A B (false ∷ p) (halves n lo hi) e =
    let parts = none_empty-front A ((false ∷ p) ∷ B) (subst NoneEmpty e n) in
    let low = partition-split (after_bit false Q) (after_bit false A) (after_bit false B) p lo (ap (after_bit false) e ∙ after-append false A ((false ∷ p) ∷ B)) in
    let high : after_bit true Q ≡ after_bit true A ++ after_bit true B = ap (after_bit true) e ∙ after-append true A ((false ∷ p) ∷ B) in
    let new = (false ∷ (p ++ false ∷ [])) ∷ (false ∷ (p ++ true ∷ [])) ∷ B in
    halves (none_empty-append A new parts.0 parts.1) (subst Partition (sym (after-append false A new)) low)
    (subst Partition (high ∙ sym (after-append true A new)) hi)
partition-split Q A B (true ∷ p) (halves n lo hi) e =
    let parts = none_empty-front A ((true ∷ p) ∷ B) (subst NoneEmpty e n) in
    let high = partition-split (after_bit true Q) (after_bit true A) (after_bit true B) p hi (ap (after_bit true) e ∙ after-append true A ((true ∷ p) ∷ B)) in
    let low : after_bit false Q ≡ after_bit false A ++ after_bit false B = ap (after_bit false) e ∙ after-append false A ((true ∷ p) ∷ B) in
    let new = (true ∷ (p ++ false ∷ [])) ∷ (true ∷ (p ++ true ∷ [])) ∷ B in
    halves (none_empty-append A new parts.0 parts.1) (subst Partition (low ∙ sym (after-append false A new)) lo)
    (subst Partition (sym (after-append true A new)) high)

-- and the order stays
before_all-split : (q : List Bool) (A B : List (List Bool)) (p : List Bool) → BeforeAll q (A ++ p ∷ B) → BeforeAll q (A ++ (p ++ false ∷ []) ∷ (p ++ true ∷ []) ∷ B)
before_all-split q [] B p b = (before-more_right q p (false ∷ []) b.0, (before-more_right q p (true ∷ []) b.0, b.1))
before_all-split q (a ∷ A) B p b = (b.0, before_all-split q A B p b.1)

before_all-more : (p r : List Bool) (B : List (List Bool)) → BeforeAll p B → BeforeAll (p ++ r) B
before_all-more p r [] b = tt
before_all-more p r (q ∷ B) b = (before-more_left p q r b.0, before_all-more p r B b.1)

pub ascending-split : (A B : List (List Bool)) (p : List Bool) → Ascending (A ++ p ∷ B) → Ascending (A ++ (p ++ false ∷ []) ∷ (p ++ true ∷ []) ∷ B)
ascending-split [] B p s =
    ((before-halves p, before_all-more p (false ∷ []) B s.0), (before_all-more p (true ∷ []) B s.0, s.1))
ascending-split (a ∷ A) B p s = (before_all-split a A B p s.0, ascending-split A B p s.1)
