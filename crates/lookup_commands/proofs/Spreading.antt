-- Whom a command follows up that spreads over its lookup's paths: as the loops make the list, and what it is.
use Rattle.std.proofs.Common.{◌≡◌, ◌≢◌, ℕ, zero, suc, ◌+◌, ◌<◌, ◌≤◌, List, [], ◌∷◌, ◌++◌, length, take, get_or, Bool, true, false, not, inl, inr, refl, sym, ap, ◌∙◌, arith, eqb, ◌||◌}
use Rattle.std.specs.List.{AllByRecursion, IsDistinct, flat_map, range_with_len}
use Rattle.std.proofs.lemmas.List.{append_assoc, take_more}
use Rattle.std.proofs.lemmas.List.Elements.{filter-append}
use Rattle.std.proofs.lemmas.Bool.{or_cases, or_left, or_right, or_parts, eqb-true, eqb-false}
use Rattle.kad_base.specs.declared.types.Contact.{Contact}
use Rattle.kad_base.specs.declared.types.Id.{Id}
use Rattle.kad_base.specs.Contacts.{same, among, without}
use Rattle.kad_base.proofs.Contacts.{same_itself, among_more}
use Rattle.kad_distance.specs.KClosest.{k_closest}
use Rattle.kad_distance.proofs.Chosen.{closest_rises}
use Rattle.claim_book.specs.declared.types.Setting.{Setting}
use Rattle.claim_book.specs.declared.types.Entry.{Entry}
use Rattle.claim_book.specs.Journal.{path_of, ask_elsewhere, fail_of, path, own, theirs, failed, alive, asked_on, answered}
use Rattle.claim_book.specs.Legal.{Legal}
use Rattle.claim_book.specs.Lineage.{IsContained}
use Rattle.claim_book.specs.RunOut.{RunOut}
use Rattle.claim_book.proofs.Among.{without_twice}
use Rattle.claim_book.proofs.More.{flat_more, path_more, theirs_more, failed_more}
use Rattle.claim_book.proofs.Claims.{alive_on_path, alive_says, own_on_path, one_asker, asked_split, answered_asked}
use Rattle.claim_book.proofs.Closest.{closest_within, distinct_sorted}
use Rattle.claim_book.proofs.Descent.{is_contained}
use Rattle.claim_book.proofs.Ends.{each_from_all}
use Rattle.lookup_commands.specs.Spread.{closest_on, spread_over, IsSpread}

-- ---- one entry more of a journal

-- with the entry at this place
front_more : (J : List Entry) (i : ℕ) (e : Entry) → i < length J → e ≡ get_or J i e → take i J ++ e ∷ [] ≡ take (i + 1) J
front_more J i e lt here = ap (λ (x : Entry). take i J ++ x ∷ []) here ∙ sym (take_more J i e lt)

pub failed_on : (J : List Entry) (i : ℕ) (e : Entry) (lost lost' : List Contact) → i < length J → e ≡ get_or J i e → lost ≡ failed (take i J) → lost' ≡ lost ++ fail_of e → lost' ≡ failed (take (i + 1) J)
failed_on J i e lost lost' lt here was is =
    is
    ∙ ap (λ (l : List Contact). l ++ fail_of e) was
    ∙ sym (failed_more (take i J) e)
    ∙ ap failed (front_more J i e lt here)

pub failed_none : failed [] ≡ []
unfolding failed
failed_none = refl

pub path_none : (p : ℕ) (lost : List Contact) → without (path p []) lost ≡ []
unfolding path
path_none p lost = refl

pub alive_then : (p : ℕ) (J : List Entry) (i : ℕ) (e : Entry) (lost own own' : List Contact) → i < length J → e ≡ get_or J i e → own ≡ without (path p (take i J)) lost → own' ≡ own ++ without (path_of p e) lost → own' ≡ without (path p (take (i + 1) J)) lost
alive_then p J i e lost own own' lt here was is =
    is
    ∙ ap (λ (l : List Contact). l ++ without (path_of p e) lost) was
    ∙ sym (filter-append (λ (c : Contact). not (among lost c)) (path p (take i J)) (path_of p e))
    ∙ ap (λ (l : List Contact). without l lost) (sym (path_more p (take i J) e))
    ∙ ap (λ (l : List Entry). without (path p l) lost) (front_more J i e lt here)

-- ---- one path more

range_more : (a n : ℕ) → range_with_len a (suc n) ≡ range_with_len a n ++ (a + n) ∷ []
range_more a zero = let e : a ≡ a + 0 = omega arith in ap (λ (x : ℕ). x ∷ []) e
range_more a (suc n) =
    let e : a + 1 + n ≡ a + suc n = omega arith in
    ap (λ (l : List ℕ). a ∷ l) (range_more (a + 1) n)
    ∙ ap (λ (x : ℕ). a ∷ (range_with_len (a + 1) n ++ x ∷ [])) e

numbers_more : (n : ℕ) → range_with_len 0 (n + 1) ≡ range_with_len 0 n ++ n ∷ []
numbers_more n =
    let e : n + 1 ≡ suc n = omega arith in
    let z : 0 + n ≡ n = omega arith in
    ap (λ (m : ℕ). range_with_len 0 m) e ∙ range_more 0 n ∙ ap (λ (x : ℕ). range_with_len 0 n ++ x ∷ []) z

pub theirs_none : (p : ℕ) → theirs p [] ≡ []
unfolding theirs
theirs_none p = refl

pub theirs_on : (p : ℕ) (J : List Entry) (i : ℕ) (e : Entry) (asked asked' : List Contact) → i < length J → e ≡ get_or J i e → asked ≡ theirs p (take i J) → asked' ≡ asked ++ ask_elsewhere p e → asked' ≡ theirs p (take (i + 1) J)
theirs_on p J i e asked asked' lt here was is =
    is
    ∙ ap (λ (l : List Contact). l ++ ask_elsewhere p e) was
    ∙ sym (theirs_more p (take i J) e)
    ∙ ap (theirs p) (front_more J i e lt here)

closest_is : (t : Id) (k p : ℕ) (J : List Entry) → closest_on t k J p ≡ k_closest t k (without (path p J) (theirs p J ++ failed J))
unfolding alive own
closest_is t k p J = ap (k_closest t k) (sym (without_twice (path p J) (theirs p J) (failed J)))

pub spread_more : (t : Id) (k p : ℕ) (J : List Entry) (gone own near found found' : List Contact) → gone ≡ theirs p J ++ failed J → own ≡ without (path p J) gone → near ≡ k_closest t k own → found ≡ spread_over t k p J → found' ≡ found ++ near → found' ≡ spread_over t k (p + 1) J
spread_more t k p J gone own near found found' out on closest was is =
    let here : near ≡ closest_on t k J p = closest ∙ ap (k_closest t k) (on ∙ ap (without (path p J)) out) ∙ sym (closest_is t k p J) in
    is
    ∙ ap (λ (l : List Contact). l ++ near) was
    ∙ ap (λ (l : List Contact). spread_over t k p J ++ l) here
    ∙ sym (flat_more (closest_on t k J) (range_with_len 0 p) p)
    ∙ ap (flat_map (closest_on t k J)) (sym (numbers_more p))

-- ---- lists of one number after another, joined

no_true : (b : Bool) → (b ≡ true → ⊥) → b ≡ false
no_true true n = absurd (n refl)
no_true false n = refl

-- one of them has it
record Has (f : ℕ → List Contact) (a n : ℕ) (c : Contact) : Type 0 where
  pub number : ℕ
  pub from : a ≤ number
  pub below : number < a + n
  pub there : among (f number) c ≡ true

has_of : (f : ℕ → List Contact) (a n : ℕ) (c : Contact) → among (flat_map f (range_with_len a n)) c ≡ true → Has f a n c
has_of f a zero c h = absurd cc
has_of f a (suc n) c h =
    let rest : List Contact = flat_map f (range_with_len (a + 1) n) in
    elim (or_cases (among (f a) c) (among rest c) (sym (among_more (f a) rest c) ∙ h)) [
      | inl here ↦ record { number = a; from = omega arith; below = omega arith; there = here }
      | inr later ↦
          let w = has_of f (a + 1) n c later in
          let from = w.from in
          let below = w.below in
          record { number = w.number; from = omega (arith, from); below = omega (arith, below); there = w.there }
    ]

none_same : (x : Contact) (ys : List Contact) → among ys x ≡ false → AllByRecursion (λ y. same x y ≡ false) ys
none_same x [] h = tt
none_same x (y ∷ ys) h = let parts = or_parts (same x y) (among ys x) h in (parts.0, none_same x ys parts.1)

all_joined : (P : Contact → Type 0) (xs ys : List Contact) → AllByRecursion P xs → AllByRecursion P ys → AllByRecursion P (xs ++ ys)
all_joined P [] ys h k = k
all_joined P (x ∷ xs) ys h k = (h.0, all_joined P xs ys h.1 k)

distinct_joined : (xs ys : List Contact) → IsDistinct same xs → IsDistinct same ys → ((c : Contact) → among xs c ≡ true → among ys c ≡ false) → IsDistinct same (xs ++ ys)
unfolding IsDistinct
distinct_joined [] ys d e apart = e
distinct_joined (x ∷ xs) ys d e apart =
    (all_joined (λ y. same x y ≡ false) xs ys d.0 (none_same x ys (apart x (or_left (same x x) (among xs x) (same_itself x)))), distinct_joined xs ys d.1 e (λ c h. apart c (or_right (same c x) (among xs c) h)))

flat_distinct : (f : ℕ → List Contact) (a n : ℕ) → ((p : ℕ) → IsDistinct same (f p)) → ((p q : ℕ) (c : Contact) → p < a + n → q < a + n → among (f p) c ≡ true → among (f q) c ≡ true → p ≡ q) → IsDistinct same (flat_map f (range_with_len a n))
unfolding IsDistinct
flat_distinct f a zero each once = tt
flat_distinct f a (suc n) each once =
    let rest : List Contact = flat_map f (range_with_len (a + 1) n) in
    distinct_joined (f a) rest (each a) (flat_distinct f (a + 1) n each (λ p q c lt lt'. once p q c (omega (arith, lt)) (omega (arith, lt'))))
    (λ c here. no_true (among rest c) (λ later.
    let w = has_of f (a + 1) n c later in
    let below = w.below in
    let e = once a w.number c (omega arith) (omega (arith, below)) here w.there in
    let from = w.from in
    omega (arith, e, from)))

-- one of them stands in it whole
record Stands (f : ℕ → List Contact) (a n p : ℕ) : Type 0 where
  pub before : List Contact
  pub behind : List Contact
  pub own : flat_map f (range_with_len a n) ≡ before ++ f p ++ behind

stands_in : (f : ℕ → List Contact) (a n p : ℕ) → a ≤ p → p < a + n → Stands f a n p
stands_in f a zero p from below = absurd (omega (arith, from, below))
stands_in f a (suc n) p from below =
    let rest : List Contact = flat_map f (range_with_len (a + 1) n) in
    elim (eqb a p) as (λ b. eqb a p ≡ b → Stands f a (suc n) p) [
      | true ↦ λ t. record { before = []; behind = rest; own = ap (λ q. f q ++ rest) (eqb-true a p t) }
      | false ↦ λ t.
          let ne : a ≢ p = eqb-false a p t in
          let w = stands_in f (a + 1) n p (omega (arith, from, ne)) (omega (arith, below)) in
          record {
            before = f a ++ w.before;
            behind = w.behind;
            own = ap (λ (l : List Contact). f a ++ l) w.own ∙ sym (append_assoc (f a) (w.before ++ f p) w.behind) ∙ ap (λ (l : List Contact). l ++ w.behind) (sym (append_assoc (f a) w.before (f p)));
          }
    ] refl

-- ---- what it is to be spread

on_its_path : (t : Id) (k : ℕ) (J : List Entry) (p : ℕ) (c : Contact) → among (closest_on t k J p) c ≡ true → among (path p J) c ≡ true
on_its_path t k J p c h = (alive_on_path p J c (closest_within t k (alive p J) c h)).0

-- whom a path has places for that has run out, the path itself asked
asked_by_it : (s : Setting) (J : List Entry) (p : ℕ) (c : Contact) → Legal s J → RunOut s p J → among (closest_on s.target s.k J p) c ≡ true → among (asked_on p J) c ≡ true
asked_by_it s J p c l out h =
    let heard = each_from_all (λ x. among (answered J) x ≡ true) (closest_on s.target s.k J p) out.all_answered c h in
    let free = (own_on_path p J c (alive_says p J c (closest_within s.target s.k (alive p J) c h)).0).1 in
    let parts = sym (asked_split p J c) ∙ answered_asked s J l c heard in
    pick (among (asked_on p J) c) (among (theirs p J) c) refl free parts
  where
    pick : (a b : Bool) → among (asked_on p J) c ≡ a → b ≡ false → (a || b) ≡ true → among (asked_on p J) c ≡ true
    pick true b e f t = e
    pick false b e f t = absurd cc

pub spread_is : (s : Setting) (J : List Entry) → Legal s J → ((p : ℕ) → p < s.paths → RunOut s p J) → IsSpread s J
unfolding IsContained
spread_is s J l over =
    let f : ℕ → List Contact = closest_on s.target s.k J in
    record {
      places = λ p lt. (let w = stands_in f 0 s.paths p (omega arith) (omega (arith, lt)) in record { before = w.before; behind = w.behind; own = w.own });
      once = flat_distinct f 0 s.paths (λ p. distinct_sorted s.target (f p) (closest_rises s.target s.k (alive p J)))
          (λ p q c lt lt' here there. one_asker s J l p q c (asked_by_it s J p c l (over p (omega (arith, lt))) here) (asked_by_it s J q c l (over q (omega (arith, lt'))) there));
      on_path = λ p c h. on_its_path s.target s.k J p c h;
      have_answered = λ p c lt h. each_from_all (λ x. among (answered J) x ≡ true) (f p) (over p lt).all_answered c h;
      contained = λ p H c closed h. (is_contained s J l p H closed).holds c (on_its_path s.target s.k J p c h);
    }
