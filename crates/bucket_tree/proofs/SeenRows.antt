-- What a contact that was seen does to a part of the rows it does to all of them.
use Rattle.std.proofs.Common.{◌≡◌, ℕ, ◌+◌, ◌-◌, ◌*◌, ◌<◌, List, [], ◌∷◌, ◌++◌, length, Bool, true, false, not, refl, sym, ap, subst, ◌∙◌, arith}
use Rattle.std.specs.Prelude.{IsTrue, IfOk, Result, ◌↔◌}
use Rattle.std.specs.List.{All}
use Rattle.std.proofs.lemmas.Result.{IfOk-weaker}
use Rattle.std.proofs.lemmas.List.{append-nil, append_assoc, length-append}
use Rattle.std.proofs.lemmas.List.Elements.{All-head}
use Rattle.kad_base.specs.declared.types.Id.{Id}
use Rattle.kad_base.specs.declared.types.Contact.{Contact}
use Rattle.kad_base.specs.declared.types.NoMemory.{NoMemory}
use Rattle.bucket_tree.specs.declared.types.Seen.{Seen}
use Rattle.bucket_tree.specs.Partition.{bit, id_bits, begins}
use Rattle.bucket_tree.specs.Rows.{RowState, IsRow, same_id}
use Rattle.bucket_tree.specs.BucketSteps.{SeenStep, NeedsSplit, RowSeen, half, is_own, in_row, split}
use Rattle.bucket_tree.proofs.Begun.{begins-halves}
use Rattle.bucket_tree.proofs.Every.{all-left, all-right, all-one}
use Rattle.bucket_tree.proofs.OneBit.{id_bits-length}
use Rattle.bucket_tree.proofs.RowKept.{half-kept}
use Rattle.bucket_tree.specs.declared.node.Node.{Node}
use Rattle.bucket_tree.specs.declared.node.Node.TheVariants.{Leaf, Fork'}
use Rattle.bucket_tree.specs.Trees.{rows_of, IsUnder, IsShort, path}
use Rattle.bucket_tree.proofs.Ways.{leaf_path, path_begins, path_long, path_more, node_short}

around : (front back f g : List RowState) (mid : List RowState) → front ++ ((f ++ (mid ++ g)) ++ back) ≡ (front ++ f) ++ (mid ++ (g ++ back))
around front back f g mid =
    ap (λ (l : List RowState). front ++ l) (append_assoc f (mid ++ g) back ∙ ap (λ (l : List RowState). f ++ l) (append_assoc mid g back)) ∙ sym (append_assoc front f (mid ++ (g ++ back)))

pub step_within : (own : Id) (k b : ℕ) (c : Contact) (rows after : List RowState) (seen : Seen) (front back : List RowState) → SeenStep own k b c rows seen after → SeenStep own k b c (front ++ (rows ++ back)) seen (front ++ (after ++ back))
step_within own k b c rows after seen front back (is_own e) = is_own e
step_within own k b c rows after seen front back (in_row f g row row' others e covers n s e') =
    in_row (front ++ f) (g ++ back) row row' others (ap (λ (l : List RowState). front ++ (l ++ back)) e ∙ around front back f g (row ∷ [])) covers n s (ap (λ (l : List RowState). front ++ (l ++ back)) e' ∙ around front back f g (row' ∷ []))
step_within own k b c rows after seen front back (split f g row others e covers n rest) =
    split (front ++ f) (g ++ back) row others (ap (λ (l : List RowState). front ++ (l ++ back)) e ∙ around front back f g (row ∷ [])) covers n
    (subst (λ (l : List RowState). SeenStep own k b c l seen (front ++ (after ++ back))) (around front back f g (half false row ∷ half true row ∷ []))
    (step_within own k b c (f ++ half false row ∷ half true row ∷ g) after seen front back rest))

pub step_low : (own : Id) (k b : ℕ) (c : Contact) (rows after rest : List RowState) (seen : Seen) → SeenStep own k b c rows seen after → SeenStep own k b c (rows ++ rest) seen (after ++ rest)
step_low own k b c rows after rest seen s = step_within own k b c rows after seen [] rest s

pub step_high : (own : Id) (k b : ℕ) (c : Contact) (rows after rest : List RowState) (seen : Seen) → SeenStep own k b c rows seen after → SeenStep own k b c (rest ++ rows) seen (rest ++ after)
step_high own k b c rows after rest seen s =
    subst (λ (l : List RowState). SeenStep own k b c (rest ++ l) seen (rest ++ after)) (append-nil rows)
    (subst (λ (l : List RowState). SeenStep own k b c (rest ++ (rows ++ [])) seen (rest ++ l)) (append-nil after) (step_within own k b c rows after seen rest [] s))

-- one row
pub step_one : (own : Id) (k b : ℕ) (c : Contact) (row row' : RowState) (seen : Seen) → same_id c.id own ≡ false → begins row.prefix (id_bits c.id) ≡ true → (NeedsSplit own k b c.id row → ⊥) → RowSeen k c row seen row' → SeenStep own k b c (row ∷ []) seen (row' ∷ [])
step_one own k b c row row' seen others covers n s = in_row [] [] row row' others refl covers n s refl

pub step_split : (own : Id) (k b : ℕ) (c : Contact) (row : RowState) (after : List RowState) (seen : Seen) → same_id c.id own ≡ false → begins row.prefix (id_bits c.id) ≡ true → NeedsSplit own k b c.id row
    → SeenStep own k b c (half false row ∷ half true row ∷ []) seen after → SeenStep own k b c (row ∷ []) seen after
step_split own k b c row after seen others covers n s = split [] [] row others refl covers n s

-- a row that was split, by its half that takes the contact
module _ (own : Id) (k b : ℕ) (c : Contact) (row : RowState) (others : same_id c.id own ≡ false) (covers : begins row.prefix (id_bits c.id) ≡ true) (n : NeedsSplit own k b c.id row) where
  pub split_on_high : (l h : RowState) (seen : Seen) (low after : List RowState) → l ≡ half false row → h ≡ half true row → low ≡ l ∷ [] → SeenStep own k b c (h ∷ []) seen after → SeenStep own k b c (row ∷ []) seen (low ++ after)
  split_on_high l h seen low after el eh elow s =
      step_split own k b c row (low ++ after) seen others covers n
      (subst (λ (m : List RowState). SeenStep own k b c (half false row ∷ half true row ∷ []) seen (m ++ after)) (sym (elow ∙ ap (λ (r : RowState). r ∷ []) el))
      (step_high own k b c (half true row ∷ []) after (half false row ∷ []) seen (subst (λ (r : RowState). SeenStep own k b c (r ∷ []) seen after) eh s)))

  pub split_on_low : (l h : RowState) (seen : Seen) (high after : List RowState) → l ≡ half false row → h ≡ half true row → high ≡ h ∷ [] → SeenStep own k b c (l ∷ []) seen after → SeenStep own k b c (row ∷ []) seen (after ++ high)
  split_on_low l h seen high after el eh ehigh s =
      step_split own k b c row (after ++ high) seen others covers n
      (subst (λ (m : List RowState). SeenStep own k b c (half false row ∷ half true row ∷ []) seen (after ++ m)) (sym (ehigh ∙ ap (λ (r : RowState). r ∷ []) eh))
      (step_low own k b c (half false row ∷ []) after (half true row ∷ []) seen (subst (λ (r : RowState). SeenStep own k b c (r ∷ []) seen after) el s)))

-- what the call on a half asks
pub low_covers : (id : Id) (row l h : RowState) (t : Bool) → l ≡ half false row → h ≡ half true row → begins row.prefix (id_bits id) ≡ true → length row.prefix < 160 → t ≡ begins h.prefix (id_bits id) → t ≡ false → begins l.prefix (id_bits id) ≡ true
low_covers id row l h t el eh covers lt is no_ =
    let all = id_bits-length id in
    let other = begins-halves row.prefix (id_bits id) covers (omega (arith, lt, all)) in
    let high : begins (row.prefix ++ true ∷ []) (id_bits id) ≡ false = sym (is ∙ ap (λ (r : RowState). begins r.prefix (id_bits id)) eh) ∙ no_ in
    ap (λ (r : RowState). begins r.prefix (id_bits id)) el ∙ flip (begins (row.prefix ++ false ∷ []) (id_bits id)) (sym other ∙ high)
  where
    flip : (x : Bool) → not x ≡ false → x ≡ true
    flip true e = refl
    flip false e = absurd cc

pub half_row : (own : Id) (k b : ℕ) (bit : Bool) (row r : RowState) → r ≡ half bit row → IsRow own k b row → IsRow own k b r
half_row own k b bit row r e is = subst (IsRow own k b) (sym e) (half-kept own k b bit row is)

pub half_long : (bit : Bool) (row r : RowState) → r ≡ half bit row → length r.prefix ≡ length row.prefix + 1
half_long bit row r e = ap (λ (x : RowState). length x.prefix) e ∙ length-append row.prefix (bit ∷ [])

pub half_way : (bit : Bool) (row r : RowState) (n : Node) → r ≡ half bit row → IsUnder r.prefix n → IsUnder (row.prefix ++ bit ∷ []) n
half_way bit row r n e u = subst (λ (p : List Bool). IsUnder p n) (ap (λ (x : RowState). x.prefix) e) u

-- the measure of the two that grow a tree
pub grown_falls : (n m t : ℕ) → n < 160 → m ≡ n + 1 → 2 * (160 - n) ≡ t → 2 * (160 - m) + 1 < t
grown_falls n m t lt e f = omega (arith, lt, e, f)

pub no_split : (b : Bool) (P : Type 0) → b ≡ false → (IsTrue b ↔ P) → P → ⊥
no_split true P e f p = absurd cc
no_split false P e f p = let q : false ≡ true = f.1 p in absurd cc

-- a leaf, and what it asks of the calls on its row
pub leaf_covers : (id : Id) (at : ℕ) (node : Node) (row : _) (r : RowState) → node ≡ Leaf row → IsUnder (path at id) node → All IsShort (rows_of node) → r ≡ row.value → begins r.prefix (id_bits id) ≡ true
leaf_covers id at node row r e u s er =
    let p = leaf_path id at node row e u in
    ap (λ (x : RowState). begins x.prefix (id_bits id)) er ∙ ap (λ (q : List Bool). begins q (id_bits id)) p ∙ path_begins at id (node_short (path at id) node at (path_long at id) u s)

pub leaf_rows : (node : Node) (row : _) → node ≡ Leaf row → rows_of node ≡ row.value ∷ []
leaf_rows node row e = ap rows_of e

-- a contact that one half of a fork has taken in
pub low_step : (own : Id) (k b : ℕ) (c : Contact) (r : Result Seen NoMemory) (node : Node) (a : _) (low : Node) (a' : _) (high : Node) (child : Node) (new : List RowState) → node ≡ Fork' a low a' high → child ≡ low → IfOk r (λ seen. SeenStep own k b c (rows_of child) seen new)
    → IfOk r (λ seen. SeenStep own k b c (rows_of node) seen (new ++ rows_of high))
low_step own k b c r node a low a' high child new e f =
    IfOk-weaker r (λ seen. SeenStep own k b c (rows_of child) seen new) (λ seen. SeenStep own k b c (rows_of node) seen (new ++ rows_of high))
    (λ seen s. subst (λ (n : Node). SeenStep own k b c (rows_of n) seen (new ++ rows_of high)) (sym e) (step_low own k b c (rows_of low) new (rows_of high) seen (subst (λ (n : Node). SeenStep own k b c (rows_of n) seen new) f s)))

pub high_step : (own : Id) (k b : ℕ) (c : Contact) (r : Result Seen NoMemory) (node : Node) (a : _) (low : Node) (a' : _) (high : Node) (child : Node) (new : List RowState) → node ≡ Fork' a low a' high → child ≡ high → IfOk r (λ seen. SeenStep own k b c (rows_of child) seen new)
    → IfOk r (λ seen. SeenStep own k b c (rows_of node) seen (rows_of low ++ new))
high_step own k b c r node a low a' high child new e f =
    IfOk-weaker r (λ seen. SeenStep own k b c (rows_of child) seen new) (λ seen. SeenStep own k b c (rows_of node) seen (rows_of low ++ new))
    (λ seen s. subst (λ (n : Node). SeenStep own k b c (rows_of n) seen (rows_of low ++ new)) (sym e) (step_high own k b c (rows_of high) new (rows_of low) seen (subst (λ (n : Node). SeenStep own k b c (rows_of n) seen new) f s)))

-- what all rows of a fork have, those of its halves have
pub low_all : (P : RowState → Type 0) (node : Node) (a : _) (low : Node) (b : _) (high : Node) (child : Node) → node ≡ Fork' a low b high → child ≡ low → All P (rows_of node) → All P (rows_of child)
low_all P node a low b high child e f all = subst (λ (n : Node). All P (rows_of n)) (sym f) (all-left P (rows_of low) (rows_of high) (subst (λ (n : Node). All P (rows_of n)) e all))

pub high_all : (P : RowState → Type 0) (node : Node) (a : _) (low : Node) (b : _) (high : Node) (child : Node) → node ≡ Fork' a low b high → child ≡ high → All P (rows_of node) → All P (rows_of child)
high_all P node a low b high child e f all = subst (λ (n : Node). All P (rows_of n)) (sym f) (all-right P (rows_of low) (rows_of high) (subst (λ (n : Node). All P (rows_of n)) e all))

pub low_way : (id : Id) (at : ℕ) (node : Node) (a : _) (low : Node) (b : _) (high : Node) (child : Node) → node ≡ Fork' a low b high → child ≡ low → false ≡ bit id.0 at → IsUnder (path at id) node → IsUnder (path (at + 1) id) child
low_way id at node a low b high child e f is u =
    let u' : IsUnder (path at id) (Fork' a low b high) = subst (IsUnder (path at id)) e u in
    subst (IsUnder (path (at + 1) id)) (sym f) (subst (λ (p : List Bool). IsUnder p low) (sym (path_more at id false is)) u'.0)

pub high_way : (id : Id) (at : ℕ) (node : Node) (a : _) (low : Node) (b : _) (high : Node) (child : Node) → node ≡ Fork' a low b high → child ≡ high → true ≡ bit id.0 at → IsUnder (path at id) node → IsUnder (path (at + 1) id) child
high_way id at node a low b high child e f is u =
    let u' : IsUnder (path at id) (Fork' a low b high) = subst (IsUnder (path at id)) e u in
    subst (IsUnder (path (at + 1) id)) (sym f) (subst (λ (p : List Bool). IsUnder p high) (sym (path_more at id true is)) u'.1)

pub leaf_step : (own : Id) (k b : ℕ) (c : Contact) (at : ℕ) (node : Node) (row : _) (r r' : RowState) (seen : Seen) → node ≡ Leaf row → IsUnder (path at c.id) node → All IsShort (rows_of node) → r ≡ row.value → same_id c.id own ≡ false → (NeedsSplit own k b c.id r → ⊥) → RowSeen k c r seen r'
    → SeenStep own k b c (rows_of node) seen (r' ∷ [])
leaf_step own k b c at node row r r' seen e u s er others n is =
    subst (λ (l : List RowState). SeenStep own k b c l seen (r' ∷ [])) (ap (λ (x : RowState). x ∷ []) er ∙ sym (leaf_rows node row e))
    (step_one own k b c r r' seen others (leaf_covers c.id at node row r e u s er) n is)

-- the same of each answer but want of memory
pub leaf_seen : (own : Id) (k b : ℕ) (c : Contact) (at : ℕ) (node : Node) (row : _) (r r' : RowState) (result : Result Seen NoMemory) → node ≡ Leaf row → IsUnder (path at c.id) node → All IsShort (rows_of node) → r ≡ row.value → same_id c.id own ≡ false
    → (NeedsSplit own k b c.id r → ⊥) → IfOk result (λ seen. RowSeen k c r seen r') → IfOk result (λ seen. SeenStep own k b c (rows_of node) seen (r' ∷ []))
leaf_seen own k b c at node row r r' result e u s er others n is =
    IfOk-weaker result (λ seen. RowSeen k c r seen r') (λ seen. SeenStep own k b c (rows_of node) seen (r' ∷ [])) (λ seen. leaf_step own k b c at node row r r' seen e u s er others n) is

pub leaf_all : (P : RowState → Type 0) (node : Node) (row : _) (r : RowState) → node ≡ Leaf row → r ≡ row.value → All P (rows_of node) → P r
leaf_all P node row r e er all = subst P (sym er) (All-head P row.value [] (subst (λ (n : Node). All P (rows_of n)) e all))

-- what holds of one row
pub one_row : (P : RowState → Type 0) (row r : RowState) → r ≡ row → P r → All P (row ∷ [])
one_row P row r e p = all-one P row (subst P e p)
