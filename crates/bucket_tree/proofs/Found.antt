-- What the row of an identifier has of it is what all rows have.
use Rattle.std.proofs.Common.{◌≡◌, ℕ, ◌||◌, List, [], ◌∷◌, ◌++◌, length, Bool, true, false, cond, refl, sym, ap, subst, ◌∙◌, arith}
use Rattle.std.specs.Prelude.{filter}
use Rattle.std.specs.List.{All, list_any, flat_map}
use Rattle.std.proofs.lemmas.List.{append_assoc}
use Rattle.std.proofs.lemmas.List.Concat.{flat_map-cons}
use Rattle.std.proofs.lemmas.List.Elements.{All-head, All-tail, All-weaker}
use Rattle.std.proofs.lemmas.List.Folds.{list_any-append}
use Rattle.kad_base.specs.declared.types.Id.{Id}
use Rattle.kad_base.specs.declared.types.Contact.{Contact}
use Rattle.kad_base.specs.Contacts.{same, among}
use Rattle.kad_base.proofs.Contacts.{same_exact}
use Rattle.bucket_tree.specs.Partition.{id_bits, begins}
use Rattle.bucket_tree.specs.Rows.{RowState, IsRow, SoundRows, live_in, live_of, same_id}
use Rattle.bucket_tree.specs.States.{kept_in}
use Rattle.bucket_tree.specs.Trees.{rows_of, IsUnder, IsShort, IsRowOf, path}
use Rattle.bucket_tree.specs.declared.node.Node.{Node}
use Rattle.bucket_tree.specs.declared.node.Node.TheVariants.{Leaf, Fork'}
use Rattle.bucket_tree.proofs.Every.{all-left, all-after, flat_map-append}
use Rattle.bucket_tree.proofs.Ids.{same_id-exact}
use Rattle.bucket_tree.proofs.Places.{covers, alone}
use Rattle.bucket_tree.proofs.SeenRows.{leaf_covers}

-- ---- the way to the row

pub leaf_found : (id : Id) (at : ℕ) (node : Node) (row : _) (r : RowState) → node ≡ Leaf row → IsUnder (path at id) node → All IsShort (rows_of node) → r ≡ row.value → IsRowOf id (rows_of node) r
leaf_found id at node row r e u s er = record {
  front = [];
  back = [];
  rows_are = ap rows_of e ∙ ap (λ (x : RowState). x ∷ []) (sym er);
  covers = leaf_covers id at node row r e u s er;
}

pub high_found : (id : Id) (node : Node) (a : _) (low : Node) (b : _) (high : Node) (child : Node) (r : RowState) → node ≡ Fork' a low b high → child ≡ high → IsRowOf id (rows_of child) r → IsRowOf id (rows_of node) r
high_found id node a low b high child r e f s = record {
  front = rows_of low ++ s.front;
  back = s.back;
  rows_are = ap rows_of e ∙ ap (λ (n : Node). rows_of low ++ rows_of n) (sym f) ∙ ap (λ (l : List RowState). rows_of low ++ l) s.rows_are ∙ sym (append_assoc (rows_of low) s.front (r ∷ s.back));
  covers = s.covers;
}

pub low_found : (id : Id) (node : Node) (a : _) (low : Node) (b : _) (high : Node) (child : Node) (r : RowState) → node ≡ Fork' a low b high → child ≡ low → IsRowOf id (rows_of child) r → IsRowOf id (rows_of node) r
low_found id node a low b high child r e f s = record {
  front = s.front;
  back = s.back ++ rows_of high;
  rows_are = ap rows_of e ∙ ap (λ (n : Node). rows_of n ++ rows_of high) (sym f) ∙ ap (λ (l : List RowState). l ++ rows_of high) s.rows_are ∙ append_assoc s.front (r ∷ s.back) (rows_of high);
  covers = s.covers;
}

-- ---- what it has

-- the row covers all that is read of it
abbrev Covered : (RowState → List Contact) → RowState → Type 0
Covered f row = All (λ (x : Contact). begins row.prefix (id_bits x.id) ≡ true) (f row)

module _ (q : Contact → Bool) (id : Id) (only : (x : Contact) → q x ≡ true → x.id ≡ id) (f : RowState → List Contact) where
  none_in : (row : RowState) (cs : List Contact) → All (λ (x : Contact). begins row.prefix (id_bits x.id) ≡ true) cs → covers id row ≡ false → list_any q cs ≡ false
  none_in row [] a other = refl
  none_in row (x ∷ cs) a other = go (q x) refl (none_in row cs (All-tail (λ (y : Contact). begins row.prefix (id_bits y.id) ≡ true) x cs a) other)
    where
      go : (t : Bool) → q x ≡ t → list_any q cs ≡ false → (q x || list_any q cs) ≡ false
      go true e rest =
          let here : begins row.prefix (id_bits x.id) ≡ true = All-head (λ (y : Contact). begins row.prefix (id_bits y.id) ≡ true) x cs a in
          let there : begins row.prefix (id_bits id) ≡ true = subst (λ (i : Id). begins row.prefix (id_bits i) ≡ true) (only x e) here in
          absurd cc
      go false e rest = ap (λ (t : Bool). t || list_any q cs) e ∙ rest

  none_all : (rows : List RowState) → All (Covered f) rows → length (filter (covers id) rows) ≡ 0 → list_any q (flat_map f rows) ≡ false
  none_all [] a none = refl
  none_all (row ∷ rows) a none = go (covers id row) refl none (λ e. none_all rows (All-tail (Covered f) row rows a) e)
    where
      go : (t : Bool) → covers id row ≡ t → length (cond t (row ∷ filter (covers id) rows) (filter (covers id) rows)) ≡ 0 → (length (filter (covers id) rows) ≡ 0 → list_any q (flat_map f rows) ≡ false) → list_any q (flat_map f (row ∷ rows)) ≡ false
      go true e n rest = absurd (omega (arith, n))
      go false e n rest =
          ap (list_any q) (flat_map-cons f row rows) ∙ list_any-append q (f row) (flat_map f rows)
          ∙ ap (λ (t : Bool). t || list_any q (flat_map f rows)) (none_in row (f row) (All-head (Covered f) row rows a) e)
          ∙ rest n

  or_none : (a b : Bool) → b ≡ false → (a || b) ≡ a
  or_none true b e = refl
  or_none false b e = e

  in_row_of : (own : Id) (k b : ℕ) (rows : List RowState) (row : RowState) → All (Covered f) rows → SoundRows own k b rows → IsRowOf id rows row → list_any q (f row) ≡ list_any q (flat_map f rows)
  in_row_of own k b rows row all s r =
      let is = subst (SoundRows own k b) r.rows_are s in
      let covered = subst (All (Covered f)) r.rows_are all in
      let other = alone id r.front r.back row is.partition is.short r.covers in
      let a = none_all r.front (all-left (Covered f) r.front (row ∷ r.back) covered) other.0 in
      let z = none_all r.back (all-after (Covered f) r.front row r.back covered) other.1 in
      sym
      (ap (λ (l : List RowState). list_any q (flat_map f l)) r.rows_are ∙ ap (list_any q) (flat_map-append f r.front (row ∷ r.back))
      ∙ list_any-append q (flat_map f r.front) (flat_map f (row ∷ r.back))
      ∙ ap (λ (t : Bool). t || list_any q (flat_map f (row ∷ r.back))) a
      ∙ ap (list_any q) (flat_map-cons f row r.back) ∙ list_any-append q (f row) (flat_map f r.back)
      ∙ or_none (list_any q (f row)) (list_any q (flat_map f r.back)) z)

pub kept_there : (own : Id) (k b : ℕ) (c : Contact) (rows : List RowState) (row : RowState) → SoundRows own k b rows → IsRowOf c.id rows row → among (kept_in row) c ≡ among (flat_map kept_in rows) c
kept_there own k b c rows row s r =
    in_row_of (same c) c.id (λ x e. ap (λ (y : Contact). y.id) (sym (same_exact c x e))) kept_in own k b rows row
    (All-weaker (IsRow own k b) (Covered kept_in) (λ x is. is.covered) rows s.each) s r

pub known_there : (own : Id) (k b : ℕ) (id : Id) (rows : List RowState) (row : RowState) → SoundRows own k b rows → IsRowOf id rows row → list_any (λ (x : Contact). same_id x.id id) (live_in row) ≡ list_any (λ (x : Contact). same_id x.id id) (live_of rows)
known_there own k b id rows row s r =
    in_row_of (λ (x : Contact). same_id x.id id) id (λ x e. same_id-exact x.id id e) live_in own k b rows row
    (All-weaker (IsRow own k b) (Covered live_in) (λ x is. all-left (λ (y : Contact). begins x.prefix (id_bits y.id) ≡ true) (live_in x) x.spares is.covered) rows s.each) s r
