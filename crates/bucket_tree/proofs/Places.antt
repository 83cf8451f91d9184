-- The row of an identifier: there is one, and no other.
use Rattle.std.proofs.Common.{◌≡◌, ℕ, ◌≤◌, ◌||◌, List, [], ◌∷◌, ◌++◌, length, Bool, true, false, cond, refl, sym, ap, subst, ◌∙◌, arith}
use Rattle.std.specs.Prelude.{filter}
use Rattle.std.specs.List.{All}
use Rattle.std.proofs.lemmas.List.{length-map}
use Rattle.std.proofs.lemmas.List.Elements.{All-map, All-head, All-tail}
use Rattle.kad_base.specs.declared.types.Id.{Id}
use Rattle.bucket_tree.specs.Partition.{id_bits, begins, Partition}
use Rattle.bucket_tree.specs.Rows.{RowState, IsRow, SoundRows, prefix_of, prefixes_of, live_in, live_of}
use Rattle.kad_base.specs.declared.types.Contact.{Contact}
use Rattle.kad_base.specs.Contacts.{same, among}
use Rattle.kad_base.proofs.Contacts.{same_exact, among_more}
use Rattle.bucket_tree.proofs.Every.{all-left, all-after, count-append, flat_map-append}
use Rattle.bucket_tree.proofs.OneBit.{id_bits-length}
use Rattle.bucket_tree.proofs.Counted.{filter-map}
use Rattle.bucket_tree.proofs.Shares.{one_begins}

-- the row covers the identifier
abbrev pub covers : Id → RowState → Bool
covers id row = begins row.prefix (id_bits id)

-- one row of a partition covers it
pub one-covers : (id : Id) (rows : List RowState) → Partition (prefixes_of rows) → All (λ row. length row.prefix ≤ 160) rows → length (filter (covers id) rows) ≡ 1
one-covers id rows d short =
    let all : All (λ p. length p ≤ 160) (prefixes_of rows) = All-map (λ (p : List Bool). length p ≤ 160) prefix_of rows short in
    let one = one_begins (prefixes_of rows) (id_bits id) d (subst (λ (n : ℕ). All (λ (p : List Bool). length p ≤ n) (prefixes_of rows)) (sym (id_bits-length id)) all) in
    sym (length-map (filter (covers id) rows) prefix_of) ∙ ap length (sym (filter-map prefix_of (λ p. begins p (id_bits id)) rows)) ∙ one

-- those before the place don't
-- another row doesn't cover it
pub alone : (id : Id) (front back : List RowState) (row : RowState) → Partition (prefixes_of (front ++ row ∷ back)) → All (λ row. length row.prefix ≤ 160) (front ++ row ∷ back) → covers id row ≡ true
    → (length (filter (covers id) front) ≡ 0) × (length (filter (covers id) back) ≡ 0)
alone id front back row d short c =
    let one = one-covers id (front ++ row ∷ back) d short in
    let parts = count-append (covers id) front (row ∷ back) in
    let here = ap (λ (t : Bool). length (cond t (row ∷ filter (covers id) back) (filter (covers id) back))) c in
    (omega (arith, one, parts, here), omega (arith, one, parts, here))

-- a contact that a row without its identifier can't have
unknown-there : (own : Id) (k b : ℕ) (c : Contact) (row : RowState) → IsRow own k b row → covers c.id row ≡ false → among (live_in row) c ≡ false
unknown-there own k b c row is other = go (live_in row) (all-left (λ (x : Contact). covers x.id row ≡ true) (live_in row) row.spares is.covered)
  where
    differ : (x : Contact) → covers x.id row ≡ true → same c x ≡ false
    differ x e = tell (same c x) refl
      where
        tell : (t : Bool) → same c x ≡ t → same c x ≡ false
        tell true s = let f : c ≡ x = same_exact c x s in let g = sym other ∙ ap (λ (y : Contact). covers y.id row) f ∙ e in absurd cc
        tell false s = s

    go : (cs : List Contact) → All (λ x. covers x.id row ≡ true) cs → among cs c ≡ false
    go [] a = refl
    go (x ∷ cs) a =
        let here = differ x (All-head (λ (y : Contact). covers y.id row ≡ true) x cs a) in
        ap (λ (t : Bool). t || among cs c) here ∙ go cs (All-tail (λ (y : Contact). covers y.id row ≡ true) x cs a)

pub unknown-all : (own : Id) (k b : ℕ) (c : Contact) (rows : List RowState) → All (IsRow own k b) rows → length (filter (covers c.id) rows) ≡ 0 → among (live_of rows) c ≡ false
unknown-all own k b c [] a none = refl
unknown-all own k b c (row ∷ rows) a none =
    go (covers c.id row) refl none (All-head (IsRow own k b) row rows a) (λ e. unknown-all own k b c rows (All-tail (IsRow own k b) row rows a) e)
  where
    go : (t : Bool) → covers c.id row ≡ t → length (cond t (row ∷ filter (covers c.id) rows) (filter (covers c.id) rows)) ≡ 0 → IsRow own k b row → (length (filter (covers c.id) rows) ≡ 0 → among (live_of rows) c ≡ false)
        → among (live_in row ++ live_of rows) c ≡ false
    go true e n is f = absurd (omega (arith, n))
    go false e n is f = among_more (live_in row) (live_of rows) c ∙ ap (λ (s : Bool). s || among (live_of rows) c) (unknown-there own k b c row is e) ∙ f n

pub unknown-rows : (own : Id) (k b : ℕ) (c : Contact) (front back : List RowState) (row : RowState) → SoundRows own k b (front ++ row ∷ back) → covers c.id row ≡ true → among (live_in row) c ≡ false
    → among (live_of (front ++ row ∷ back)) c ≡ false
unknown-rows own k b c front back row s e here =
    let other = alone c.id front back row s.partition s.short e in
    let a = unknown-all own k b c front (all-left (IsRow own k b) front (row ∷ back) s.each) other.0 in
    let z = unknown-all own k b c back (all-after (IsRow own k b) front row back s.each) other.1 in
    ap (λ (l : List Contact). among l c) (flat_map-append live_in front (row ∷ back)) ∙ among_more (live_of front) (live_in row ++ live_of back) c
    ∙ ap (λ (t : Bool). t || among (live_in row ++ live_of back) c) a ∙ among_more (live_in row) (live_of back) c ∙ ap (λ (t : Bool). t || among (live_of back) c) here ∙ z
