-- Rows that are the leaves of a tree: in one way, and exactly where their prefixes are a partition in ascending order.
use Rattle.std.proofs.Common.{◌≡◌, ℕ, ◌+◌, ◌≤◌, List, [], ◌∷◌, ◌++◌, length, Bool, true, false, refl, sym, ap, ◌∙◌, arith}
use Rattle.std.proofs.lemmas.List.{append-nil, append_assoc, append_cancel_left, length-append}
use Rattle.kad_base.specs.declared.types.Id.{Id}
use Rattle.bucket_tree.specs.Partition.{Partition, whole, halves, NoneEmpty, after_bit, BeforeAll, Ascending}
use Rattle.bucket_tree.specs.Rows.{RowState, SoundRows, prefixes_of}
use Rattle.bucket_tree.specs.declared.node.Node.{Node}
use Rattle.bucket_tree.specs.declared.node.Node.TheVariants.{Leaf, Fork'}
use Rattle.bucket_tree.specs.Trees.{rows_of, IsUnder}
use Rattle.bucket_tree.specs.States.{Hangs, one, two, HasFront}
use Rattle.bucket_tree.proofs.Shape.{behind, on, on-behind, on-append, on-none}

-- the rows of a tree hang as it does
pub node-hangs : (p : List Bool) (n : Node) → IsUnder p n → Hangs p (rows_of n)
node-hangs p (Leaf row) u = one row.value u refl
node-hangs p (Fork' a low b high) u = two (rows_of low) (rows_of high) (node-hangs (p ++ false ∷ []) low u.0) (node-hangs (p ++ true ∷ []) high u.1) refl

-- the first row's prefix is at least as long as the way to it
pub record Begins (n : ℕ) (rows : List RowState) : Type 0 where
  pub first : RowState
  pub others : List RowState
  pub rows_are : rows ≡ first ∷ others
  pub long : n ≤ length first.prefix

pub hangs-first : (p : List Bool) (rows : List RowState) → Hangs p rows → Begins (length p) rows
hangs-first p rows (one row e is) = record { first = row; others = []; rows_are = is; long = omega (arith, ap length e) }
hangs-first p rows (two low high l h is) =
    let b = hangs-first (p ++ false ∷ []) low l in
    let more = length-append p (false ∷ []) in
    let le = b.long in
    record { first = b.first; others = b.others ++ high; rows_are = is ∙ ap (λ (x : List RowState). x ++ high) b.rows_are; long = omega (arith, more, le) }

two-first : (p : List Bool) (low high : List RowState) → Hangs (p ++ false ∷ []) low → Begins (length p + 1) (low ++ high)
two-first p low high l =
    let b = hangs-first (p ++ false ∷ []) low l in
    let more = length-append p (false ∷ []) in
    let le = b.long in
    record { first = b.first; others = b.others ++ high; rows_are = ap (λ (x : List RowState). x ++ high) b.rows_are; long = omega (arith, more, le) }

pub head-same : (a b : RowState) (x y : List RowState) → a ∷ x ≡ b ∷ y → a ≡ b
head-same a b x y e = cc

-- a leaf isn't a fork
apart : (p : List Bool) (row : RowState) (low high back rest : List RowState) → row.prefix ≡ p → Hangs (p ++ false ∷ []) low → row ∷ rest ≡ (low ++ high) ++ back → ⊥
apart p row low high back rest is l e =
    let b = two-first p low high l in
    let same : row ≡ b.first = head-same row b.first rest (b.others ++ back) (e ∙ ap (λ (x : List RowState). x ++ back) b.rows_are) in
    let long : length b.first.prefix ≡ length p = ap (λ (r : RowState). length r.prefix) (sym same) ∙ ap length is in
    let le = b.long in
    omega (arith, long, le)

pub first-apart : (p : List Bool) (row : RowState) (low high back rest : List RowState) → length row.prefix ≤ length p → Hangs (p ++ false ∷ []) low → row ∷ rest ≡ (low ++ high) ++ back → ⊥
first-apart p row low high back rest le l e =
    let b = two-first p low high l in
    let same : row ≡ b.first = head-same row b.first rest (b.others ++ back) (e ∙ ap (λ (x : List RowState). x ++ back) b.rows_are) in
    let long : length b.first.prefix ≡ length row.prefix = ap (λ (r : RowState). length r.prefix) (sym same) in
    let more = b.long in
    omega (arith, long, le, more)

-- two first parts of one list that hang under one prefix are one
pub same-front : (p : List Bool) (xs ys a b : List RowState) → Hangs p xs → Hangs p ys → xs ++ a ≡ ys ++ b → xs ≡ ys
same-front p xs ys a b (one row is e) (one row' is' e') q =
    let f : row ∷ a ≡ row' ∷ b = sym (ap (λ (l : List RowState). l ++ a) e) ∙ q ∙ ap (λ (l : List RowState). l ++ b) e' in
    e ∙ ap (λ (r : RowState). r ∷ []) (head-same row row' a b f) ∙ sym e'
same-front p xs ys a b (one row is e) (two low' high' l' h' e') q =
    absurd (apart p row low' high' b a is l' (sym (ap (λ (l : List RowState). l ++ a) e) ∙ q ∙ ap (λ (l : List RowState). l ++ b) e'))
same-front p xs ys a b (two low high l h e) (one row' is' e') q =
    absurd (apart p row' low high a b is' l (sym (ap (λ (l : List RowState). l ++ b) e') ∙ sym q ∙ ap (λ (l : List RowState). l ++ a) e))
same-front p xs ys a b (two low high l h e) (two low' high' l' h' e') q =
    let f : low ++ (high ++ a) ≡ low' ++ (high' ++ b) = sym (ap (λ (l : List RowState). l ++ a) e ∙ append_assoc low high a) ∙ q ∙ ap (λ (l : List RowState). l ++ b) e' ∙ append_assoc low' high' b in
    let lows : low ≡ low' = same-front (p ++ false ∷ []) low low' (high ++ a) (high' ++ b) l l' f in
    let rest : high ++ a ≡ high' ++ b = append_cancel_left low (high ++ a) (high' ++ b) (f ∙ ap (λ (l : List RowState). l ++ (high' ++ b)) (sym lows)) in
    let highs : high ≡ high' = same-front (p ++ true ∷ []) high high' a b h h' rest in
    e ∙ ap (λ (l : List RowState). l ++ high) lows ∙ ap (λ (l : List RowState). low' ++ l) highs ∙ sym e'

-- how a partition splits
data Shape : Type 0 where
  leaf : Shape
  fork : Shape → Shape → Shape

abbrev ways_of : Shape → List (List Bool)
ways_of leaf = [] ∷ []
ways_of (fork a b) = behind false (ways_of a) ++ behind true (ways_of b)

record Shaped (P : List (List Bool)) : Type 0 where
  shape : Shape
  is : P ≡ ways_of shape

-- behind a 1 there are only ones
record Ones (P : List (List Bool)) : Type 0 where
  no_zeros : after_bit false P ≡ []
  are : P ≡ behind true (after_bit true P)

ones : (p : List Bool) (P : List (List Bool)) → BeforeAll (true ∷ p) P → Ones P
ones p [] h = record { no_zeros = refl; are = refl }
ones p ([] ∷ P) h = absurd (let e : false ≡ true = h.0 in cc)
ones p ((true ∷ q) ∷ P) h = let o = ones p P h.1 in record { no_zeros = o.no_zeros; are = ap (λ (l : List (List Bool)). (true ∷ q) ∷ l) o.are }
ones p ((false ∷ q) ∷ P) h = absurd (let e : false ≡ true = h.0 in cc)

halved : (P : List (List Bool)) → NoneEmpty P → Ascending P → P ≡ behind false (after_bit false P) ++ behind true (after_bit true P)
halved [] n a = refl
halved ([] ∷ P) n a = absurd n
halved ((false ∷ p) ∷ P) n a = ap (λ (l : List (List Bool)). (false ∷ p) ∷ l) (halved P n a.1)
halved ((true ∷ p) ∷ P) n a =
    let o = ones p P a.0 in
    ap (λ (l : List (List Bool)). (true ∷ p) ∷ l) o.are ∙ sym (ap (λ (l : List (List Bool)). behind false l ++ ((true ∷ p) ∷ behind true (after_bit true P))) o.no_zeros)

before-after : (b : Bool) (p : List Bool) (P : List (List Bool)) → BeforeAll (b ∷ p) P → BeforeAll p (after_bit b P)
before-after b p [] h = tt
before-after b p ([] ∷ P) h = before-after b p P h.1
before-after true p ((true ∷ q) ∷ P) h = (h.0, before-after true p P h.1)
before-after true p ((false ∷ q) ∷ P) h = before-after true p P h.1
before-after false p ((true ∷ q) ∷ P) h = before-after false p P h.1
before-after false p ((false ∷ q) ∷ P) h = (h.0, before-after false p P h.1)

rises-after : (b : Bool) (P : List (List Bool)) → Ascending P → Ascending (after_bit b P)
rises-after b [] a = tt
rises-after b ([] ∷ P) a = rises-after b P a.1
rises-after true ((true ∷ p) ∷ P) a = (before-after true p P a.0, rises-after true P a.1)
rises-after true ((false ∷ p) ∷ P) a = rises-after true P a.1
rises-after false ((true ∷ p) ∷ P) a = rises-after false P a.1
rises-after false ((false ∷ p) ∷ P) a = (before-after false p P a.0, rises-after false P a.1)

shaped : (P : List (List Bool)) → Partition P → Ascending P → Shaped P
shaped P whole a = record { shape = leaf; is = refl }
shaped P (halves n low high) a =
    let s = shaped (after_bit false P) low (rises-after false P a) in
    let t = shaped (after_bit true P) high (rises-after true P a) in
    record {
      shape = fork s.shape t.shape;
      is = halved P n a ∙ ap (λ (l : List (List Bool)). behind false l ++ behind true (after_bit true P)) s.is ∙ ap (λ (l : List (List Bool)). behind false (ways_of s.shape) ++ behind true l) t.is;
    }

-- rows whose prefixes are two lists, one after the other
record Parts (rows : List RowState) (X Y : List (List Bool)) : Type 0 where
  front : List RowState
  back : List RowState
  rows_are : rows ≡ front ++ back
  fronts : prefixes_of front ≡ X
  backs : prefixes_of back ≡ Y

parts : (rows : List RowState) (X Y : List (List Bool)) → prefixes_of rows ≡ X ++ Y → Parts rows X Y
parts rows [] Y e = record { front = []; back = rows; rows_are = refl; fronts = refl; backs = e }
parts [] (x ∷ X) Y e = absurd cc
parts (row ∷ rows) (x ∷ X) Y e =
    let here : row.prefix ≡ x = cc in
    let rest : prefixes_of rows ≡ X ++ Y = cc in
    let r = parts rows X Y rest in
    record { front = row ∷ r.front; back = r.back; rows_are = ap (λ (l : List RowState). row ∷ l) r.rows_are; fronts = ap (λ (l : List (List Bool)). row.prefix ∷ l) r.fronts ∙ ap (λ (w : List Bool). w ∷ X) here; backs = r.backs }

hang-one : (p : List Bool) (rows : List RowState) → prefixes_of rows ≡ (p ++ []) ∷ [] → Hangs p rows
hang-one p [] e = absurd cc
hang-one p (row ∷ []) e = let is : row.prefix ≡ p ++ [] = cc in one row (is ∙ append-nil p) refl
hang-one p (row ∷ (other ∷ rows)) e = absurd cc

hang : (p : List Bool) (s : Shape) (rows : List RowState) → prefixes_of rows ≡ on p (ways_of s) → Hangs p rows
hang p leaf rows e = hang-one p rows e
hang p (fork a b) rows e =
    let f : prefixes_of rows ≡ on (p ++ false ∷ []) (ways_of a) ++ on (p ++ true ∷ []) (ways_of b) =
    e ∙ on-append p (behind false (ways_of a)) (behind true (ways_of b)) ∙ ap (λ (l : List (List Bool)). l ++ on p (behind true (ways_of b))) (sym (on-behind p false (ways_of a)))
    ∙ ap (λ (l : List (List Bool)). on (p ++ false ∷ []) (ways_of a) ++ l) (sym (on-behind p true (ways_of b))) in
    let r = parts rows (on (p ++ false ∷ []) (ways_of a)) (on (p ++ true ∷ []) (ways_of b)) f in
    two r.front r.back (hang (p ++ false ∷ []) a r.front r.fronts) (hang (p ++ true ∷ []) b r.back r.backs) r.rows_are

-- sound rows are the leaves of a tree
pub sound-hangs : (own : Id) (k b : ℕ) (rows : List RowState) → SoundRows own k b rows → Hangs [] rows
sound-hangs own k b rows s =
    let r = shaped (prefixes_of rows) s.partition s.ascending in
    hang [] r.shape rows (r.is ∙ sym (on-none (ways_of r.shape)))

pub sound-front : (own : Id) (k b : ℕ) (rows : List RowState) → SoundRows own k b rows → HasFront own k b [] rows
sound-front own k b rows s = record { front = rows; back = []; rows_are = sym (append-nil rows); hangs = sound-hangs own k b rows s; each = s.each }
