-- A failure in one row of a tree.
use Rattle.std.proofs.Common.{◌≡◌, ℕ, ◌≤◌, List, [], ◌∷◌, ◌++◌, length, map, Bool, false, refl, sym, ap, subst, ◌∙◌}
use Rattle.std.specs.List.{All}
use Rattle.std.proofs.lemmas.List.{append_assoc}
use Rattle.std.proofs.lemmas.List.Elements.{All-append}
use Rattle.kad_base.specs.declared.types.Id.{Id}
use Rattle.kad_base.specs.Contacts.{same, among}
use Rattle.bucket_tree.specs.declared.types.Live.{Live}
use Rattle.kad_base.specs.declared.types.Contact.{Contact}
use Rattle.bucket_tree.specs.declared.types.Gone.{Gone}
use Rattle.bucket_tree.specs.declared.types.Gone.TheVariants.{Kept, Removed, Replaced, Unknown}
use Rattle.bucket_tree.specs.Rows.{RowState, IsRow, SoundRows, contact_of, live_in, live_of}
use Rattle.bucket_tree.specs.BucketSteps.{fresh, without, marked, removed, RowFailed, InItsRow, FailedStep}
use Rattle.bucket_tree.proofs.Counted.{any-map}
use Rattle.bucket_tree.proofs.Every.{all-left, all-right, all-here, all-put}
use Rattle.bucket_tree.proofs.Places.{unknown-rows}
use Rattle.bucket_tree.proofs.RowKept.{all-without, all-ended, find-none}
use Rattle.bucket_tree.proofs.RowSteps.{mark-contacts, failed-kept}
use Rattle.bucket_tree.proofs.Stays.{whole}
use Rattle.bucket_tree.specs.declared.node.Node.{Node}
use Rattle.bucket_tree.specs.declared.node.Node.TheVariants.{Leaf, Fork'}
use Rattle.bucket_tree.specs.Trees.{rows_of, IsUnder, IsShort, IsWholeRow, IsTree, path}
use Rattle.bucket_tree.proofs.SeenRows.{leaf_covers}

pub leaf_fails : (c : Contact) (at : ℕ) (node : Node) (row : _) (r r' : RowState) (gone : Gone) → node ≡ Leaf row → IsUnder (path at c.id) node → All IsShort (rows_of node) → r ≡ row.value → RowFailed c r gone r' → InItsRow c gone (rows_of node) (r' ∷ [])
leaf_fails c at node row r r' gone e u s er f = record {
  front = [];
  back = [];
  row = r;
  row' = r';
  rows_are = ap rows_of e ∙ ap (λ (x : RowState). x ∷ []) (sym er);
  covers = leaf_covers c.id at node row r e u s er;
  step = f;
  after_are = refl;
}

pub high_fails : (c : Contact) (gone : Gone) (node : Node) (a : _) (low : Node) (b : _) (high : Node) (child : Node) (new : List RowState) → node ≡ Fork' a low b high → child ≡ high → InItsRow c gone (rows_of child) new → InItsRow c gone (rows_of node) (rows_of low ++ new)
high_fails c gone node a low b high child new e f s = record {
  front = rows_of low ++ s.front;
  back = s.back;
  row = s.row;
  row' = s.row';
  rows_are = ap rows_of e ∙ ap (λ (n : Node). rows_of low ++ rows_of n) (sym f) ∙ ap (λ (l : List RowState). rows_of low ++ l) s.rows_are ∙ sym (append_assoc (rows_of low) s.front (s.row ∷ s.back));
  covers = s.covers;
  step = s.step;
  after_are = ap (λ (l : List RowState). rows_of low ++ l) s.after_are ∙ sym (append_assoc (rows_of low) s.front (s.row' ∷ s.back));
}

-- the law of one row as the law of all: where the contact isn't live in its own row, it is in none
pub fails_there : (own : Id) (k b : ℕ) (c : Contact) (rows after : List RowState) (gone : Gone) → SoundRows own k b rows → InItsRow c gone rows after → FailedStep c rows gone after
fails_there own k b c rows after Unknown s i =
    let unknown : among (live_in i.row) c ≡ false = any-map contact_of (same c) i.row.live ∙ find-none (λ (e : Live). same c e.contact) i.row.live i.step.0 in
    let all = unknown-rows own k b c i.front i.back i.row (subst (SoundRows own k b) i.rows_are s) i.covers unknown in
    (ap (λ (l : List RowState). among (live_of l) c) i.rows_are ∙ all, i.after_are ∙ ap (λ (r : RowState). i.front ++ r ∷ i.back) i.step.1 ∙ sym i.rows_are)
fails_there own k b c rows after Kept s i = i
fails_there own k b c rows after Removed s i = i
fails_there own k b c rows after Replaced s i = i

whole_failed : (c : Contact) (row : RowState) (gone : Gone) (after : RowState) → RowFailed c row gone after → IsWholeRow row → IsWholeRow after
whole_failed c row Kept after s a = subst IsWholeRow (sym s.1) (All-append whole (live_in (marked c row)) row.spares (subst (All whole) (sym (mark-contacts c row.live)) (all-left whole (live_in row) row.spares a)) (all-right whole (live_in row) row.spares a))
whole_failed c row Removed after s a = subst IsWholeRow (sym s.2) (All-append whole (live_in (removed c row)) row.spares (all-without whole c row.live (all-left whole (live_in row) row.spares a)) (all-right whole (live_in row) row.spares a))
whole_failed c row Unknown after s a = subst IsWholeRow (sym s.1) a
whole_failed c row Replaced after s a =
    let r = s.1 in
    let spares : All whole (r.older ++ r.newest ∷ []) = subst (All whole) r.spares (all-right whole (live_in row) row.spares a) in
    let newest : whole r.newest = all-here whole r.older r.newest [] spares in
    let live = all-ended whole (without c row.live) r.newest (all-without whole c row.live (all-left whole (live_in row) row.spares a)) newest in
    subst IsWholeRow (sym r.after_is) (All-append whole (map contact_of (without c row.live ++ fresh r.newest ∷ [])) r.older live (all-left whole r.older (r.newest ∷ []) spares))

-- what the tree keeps
pub failed_tree : (own : Id) (k b : ℕ) (c : Contact) (gone : Gone) (old new : Node) → IsTree own k b old → InItsRow c gone (rows_of old) (rows_of new) → IsUnder [] new → IsTree own k b new
failed_tree own k b c gone old new t i u =
    let each = subst (All (IsRow own k b)) i.rows_are t.each in
    let short = subst (All IsShort) i.rows_are t.short in
    let wholes = subst (All IsWholeRow) i.rows_are t.whole in
    let kept = failed-kept own k b c i.row gone i.row' (all-here (IsRow own k b) i.front i.row i.back each) i.step in
    record {
      some_live = t.some_live;
      few_live = t.few_live;
      some_bits = t.some_bits;
      few_bits = t.few_bits;
      under = u;
      short = subst (All IsShort) (sym i.after_are) (all-put IsShort i.front i.row i.row' i.back short (subst (λ (p : List Bool). length p ≤ 160) (sym kept.1) (all-here IsShort i.front i.row i.back short)));
      each = subst (All (IsRow own k b)) (sym i.after_are) (all-put (IsRow own k b) i.front i.row i.row' i.back each kept.0);
      whole = subst (All IsWholeRow) (sym i.after_are) (all-put IsWholeRow i.front i.row i.row' i.back wholes (whole_failed c i.row gone i.row' i.step (all-here IsWholeRow i.front i.row i.back wholes)));
    }
