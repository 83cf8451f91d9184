-- What the rows keep when a contact was seen.
use Rattle.std.proofs.Common.{◌≡◌, ℕ, suc, zero, ◌<◌, ◌≤◌, ◌||◌, List, [], ◌∷◌, ◌++◌, length, get_or, map, Bool, true, false, sym, subst, arith}
use Rattle.std.specs.Prelude.{filter, not, IfOk, OnErr, Result, Ok, Err}
use Rattle.kad_base.specs.declared.types.NoMemory.{NoMemory}
use Rattle.std.specs.List.{All, list_any}
use Rattle.std.proofs.lemmas.List.{length-append}
use Rattle.std.proofs.lemmas.List.Elements.{All-append, All-cons, All-nil, All-filter}
use Rattle.kad_base.specs.declared.types.Id.{Id}
use Rattle.kad_base.specs.declared.types.Contact.{Contact}
use Rattle.bucket_tree.specs.declared.types.Live.{Live}
use Rattle.bucket_tree.specs.declared.types.Seen.{Seen}
use Rattle.bucket_tree.specs.declared.types.Seen.TheVariants.{Added, Moved, Spared, Conflict, Own}
use Rattle.bucket_tree.specs.Partition.{id_bits, begins}
use Rattle.bucket_tree.specs.Rows.{RowState, IsRow, contact_of, live_in, same_id}
use Rattle.bucket_tree.specs.BucketSteps.{SeenStep, NeedsSplit, RowSeen, half, without, with_room, moved, added, is_own, in_row, split}
use Rattle.bucket_tree.proofs.Counted.{filter-map}
use Rattle.bucket_tree.proofs.Every.{all-left, all-right, all-here, all-after, all-one, all-put}
use Rattle.bucket_tree.proofs.Ids.{same_bits-id}
use Rattle.bucket_tree.proofs.RowKept.{two-ids, half-kept, all-without, all-ended, all-room}
use Rattle.bucket_tree.proofs.RowSteps.{seen-kept}
use Rattle.bucket_tree.specs.declared.node.Node.{Node}
use Rattle.bucket_tree.specs.Trees.{rows_of, IsUnder, IsShort, IsWhole, IsWholeRow, IsTree}

abbrev pub whole : Contact → Type 0
whole c = IsWhole c.id

whole_seen : (k : ℕ) (c : Contact) (row : RowState) (seen : Seen) (after : RowState) → RowSeen k c row seen after → IsWhole c.id → IsWholeRow row → IsWholeRow after
whole_seen k c row Moved after s w a =
    subst IsWholeRow (sym s.1) (All-append whole (live_in (moved c row)) row.spares (all-ended whole (without c row.live) c (all-without whole c row.live (all-left whole (live_in row) row.spares a)) w) (all-right whole (live_in row) row.spares a))
whole_seen k c row Conflict after s w a = subst IsWholeRow (sym s.2) a
whole_seen k c row Added after s w a =
    subst IsWholeRow (sym s.2) (All-append whole (live_in (added c row)) row.spares (all-ended whole row.live c (all-left whole (live_in row) row.spares a) w) (all-right whole (live_in row) row.spares a))
whole_seen k c row Spared after s w a =
    let q = λ (x : Contact). not (same_id x.id c.id) in
    subst IsWholeRow (sym s.2) (All-append whole (live_in row) (with_room k (filter q row.spares) ++ c ∷ []) (all-left whole (live_in row) row.spares a)
    (All-append whole (with_room k (filter q row.spares)) (c ∷ []) (all-room whole k (filter q row.spares) (All-filter q whole row.spares (all-right whole (live_in row) row.spares a))) (all-one whole c w)))
whole_seen k c row Own after s w a = absurd s

half_whole : (bit : Bool) (row : RowState) → IsWholeRow row → IsWholeRow (half bit row)
half_whole bit row a =
    let p = λ (c : Contact). begins (row.prefix ++ bit ∷ []) (id_bits c.id) in
    All-append whole (live_in (half bit row)) [] (subst (All whole) (filter-map contact_of p row.live) (All-filter p whole (live_in row) (all-left whole (live_in row) row.spares a))) (All-nil whole)

none_passes : (p : Live → Bool) (xs : List Live) → list_any p xs ≡ false → (k : ℕ) (d : Live) → k < length xs → p (get_or xs k d) ≡ true → ⊥
none_passes p [] e k d lt h = absurd (omega arith)
none_passes p (x ∷ xs) e zero d lt h = go (p x) (list_any p xs) e h
  where
    go : (s t : Bool) → (s || t) ≡ false → s ≡ true → ⊥
    go true t e h = absurd cc
    go false t e h = absurd cc
none_passes p (x ∷ xs) e (suc k) d lt h = none_passes p xs (go (p x) (list_any p xs) e) k d (omega arith) h
  where
    go : (s t : Bool) → (s || t) ≡ false → t ≡ false
    go true t e = absurd cc
    go false t e = e

-- a row that needs a split has a bit left
needs_two : (own : Id) (k b : ℕ) (id : Id) (row : RowState) → 0 < k → IsRow own k b row → IsWholeRow row → IsWhole id → begins row.prefix (id_bits id) ≡ true → NeedsSplit own k b id row → length row.prefix < 160
needs_two own k b id row some is a w covers n =
    let covered = all-left (λ (c : Contact). begins row.prefix (id_bits c.id) ≡ true) (live_in row) row.spares is.covered in
    let full = n.full in
    two-ids row.prefix row.live id (omega (arith, some, full)) covered covers
    (λ i d lt q.
    let e = get_or row.live i d in
    let we : IsWhole e.contact.id = whole_entry row.live (all-left whole (live_in row) row.spares a) i d lt in
    none_passes (λ (e : Live). same_id e.contact.id id) row.live n.new i d lt (same_bits-id e.contact.id id we.0 w.0 we.1 w.1 q))
  where
    whole_entry : (es : List Live) → All whole (map contact_of es) → (i : ℕ) (d : Live) → i < length es → IsWhole (get_or es i d).contact.id
    whole_entry [] all i d lt = absurd (omega arith)
    whole_entry (e ∷ es) all zero d lt = all 0 e.contact (omega arith)
    whole_entry (e ∷ es) all (suc i) d lt = whole_entry es (λ j f lt. all (suc j) f (omega arith)) i d (omega arith)

-- what the rows keep
pub record Keeps (own : Id) (k b : ℕ) (rows : List RowState) : Type 0 where
  pub short : All IsShort rows
  pub each : All (IsRow own k b) rows
  pub whole : All IsWholeRow rows

pub step_keeps : (own : Id) (k b : ℕ) (c : Contact) (rows after : List RowState) (seen : Seen) → 0 < k → IsWhole c.id → Keeps own k b rows → SeenStep own k b c rows seen after → Keeps own k b after
step_keeps own k b c rows after seen some w keeps (is_own e) = keeps
step_keeps own k b c rows after seen some w keeps (in_row f g row row' others e covers n s e') =
    let short : All IsShort (f ++ row ∷ g) = subst (All IsShort) e keeps.short in
    let each : All (IsRow own k b) (f ++ row ∷ g) = subst (All (IsRow own k b)) e keeps.each in
    let wholes : All IsWholeRow (f ++ row ∷ g) = subst (All IsWholeRow) e keeps.whole in
    let kept = seen-kept own k b c row seen row' some (all-here (IsRow own k b) f row g each) covers others n s in
    let le : IsShort row' = subst (λ (p : List Bool). length p ≤ 160) (sym kept.1) (all-here IsShort f row g short) in
    record {
      short = subst (All IsShort) (sym e') (all-put IsShort f row row' g short le);
      each = subst (All (IsRow own k b)) (sym e') (all-put (IsRow own k b) f row row' g each kept.0);
      whole = subst (All IsWholeRow) (sym e') (all-put IsWholeRow f row row' g wholes (whole_seen k c row seen row' s w (all-here IsWholeRow f row g wholes)));
    }
step_keeps own k b c rows after seen some w keeps (split f g row others e covers n rest) =
    step_keeps own k b c (f ++ half false row ∷ half true row ∷ g) after seen some w (record { short = shorts; each = eachs; whole = wholes }) rest
  where
    two : (P : RowState → Type 0) → All P (f ++ row ∷ g) → P (half false row) → P (half true row) → All P (f ++ half false row ∷ half true row ∷ g)
    two P all l h = All-append P f (half false row ∷ half true row ∷ g) (all-left P f (row ∷ g) all) (All-cons P (half false row) (half true row ∷ g) l (All-cons P (half true row) g h (all-after P f row g all)))

    row_is : IsRow own k b row
    row_is = all-here (IsRow own k b) f row g (subst (All (IsRow own k b)) e keeps.each)

    row_whole : IsWholeRow row
    row_whole = all-here IsWholeRow f row g (subst (All IsWholeRow) e keeps.whole)

    lt : length row.prefix < 160
    lt = needs_two own k b c.id row some row_is row_whole w covers n

    longer : (bit : Bool) → IsShort (half bit row)
    longer bit = let l = length-append row.prefix (bit ∷ []) in let lt' = lt in omega (arith, l, lt')

    shorts : All IsShort (f ++ half false row ∷ half true row ∷ g)
    shorts = two IsShort (subst (All IsShort) e keeps.short) (longer false) (longer true)

    eachs : All (IsRow own k b) (f ++ half false row ∷ half true row ∷ g)
    eachs = two (IsRow own k b) (subst (All (IsRow own k b)) e keeps.each) (half-kept own k b false row row_is) (half-kept own k b true row row_is)

    wholes : All IsWholeRow (f ++ half false row ∷ half true row ∷ g)
    wholes = two IsWholeRow (subst (All IsWholeRow) e keeps.whole) (half_whole false row row_whole) (half_whole true row row_whole)

pub tree_keeps : (own : Id) (k b : ℕ) (c : Contact) (old new : Node) (seen : Seen) → IsTree own k b old → IsWhole c.id → SeenStep own k b c (rows_of old) seen (rows_of new) → IsUnder [] new → IsTree own k b new
tree_keeps own k b c old new seen t w s u =
    let keeps = step_keeps own k b c (rows_of old) (rows_of new) seen t.some_live w (record { short = t.short; each = t.each; whole = t.whole }) s in
    record { some_live = t.some_live; few_live = t.few_live; some_bits = t.some_bits; few_bits = t.few_bits; under = u; short = keeps.short; each = keeps.each; whole = keeps.whole }

-- a tree with the same rows
pub tree_same : (own : Id) (k b : ℕ) (old new : Node) → IsTree own k b old → rows_of new ≡ rows_of old → IsUnder [] new → IsTree own k b new
tree_same own k b old new t e u = record {
  some_live = t.some_live;
  few_live = t.few_live;
  some_bits = t.some_bits;
  few_bits = t.few_bits;
  under = u;
  short = subst (All IsShort) (sym e) t.short;
  each = subst (All (IsRow own k b)) (sym e) t.each;
  whole = subst (All IsWholeRow) (sym e) t.whole;
}

-- after a call: it took the contact in, or left all
pub tree_after : (own : Id) (k b : ℕ) (c : Contact) (old new : Node) (r : Result Seen NoMemory) → IsTree own k b old → IsWhole c.id → IfOk r (λ seen. SeenStep own k b c (rows_of old) seen (rows_of new)) → IsUnder [] new → OnErr r (rows_of new ≡ rows_of old) → IsTree own k b new
tree_after own k b c old new (Ok seen) t w s u e = tree_keeps own k b c old new seen t w s u
tree_after own k b c old new (Err x) t w s u e = tree_same own k b old new t e u
