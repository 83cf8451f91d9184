-- The way down a tree.
use Rattle.std.proofs.Common.{◌≡◌, ℕ, ◌+◌, ◌-◌, ◌<◌, ◌≤◌, ◌&&◌, List, [], ◌∷◌, ◌++◌, length, Bool, true, false, refl, sym, ap, subst, ◌∙◌, arith}
use Rattle.std.specs.List.{All}
use Rattle.std.proofs.lemmas.List.{length-append}
use Rattle.std.proofs.lemmas.List.Elements.{All-head}
use Rattle.kad_base.specs.declared.types.Id.{Id}
use Rattle.bucket_tree.specs.Partition.{bit, bits_from, id_bits, begins}
use Rattle.bucket_tree.proofs.Begun.{same_bit-itself}
use Rattle.bucket_tree.proofs.Every.{all-left}
use Rattle.bucket_tree.proofs.OneBit.{bits_from-length, bits_from-append, bits_from-more, id_bits-is}
use Rattle.bucket_tree.specs.declared.node.Node.{Node}
use Rattle.bucket_tree.specs.declared.node.Node.TheVariants.{Leaf, Fork'}
use Rattle.bucket_tree.specs.Trees.{rows_of, IsUnder, IsShort, path, HangsAt}

-- prefixes
begins_itself : (p q : List Bool) → begins p (p ++ q) ≡ true
begins_itself [] q = refl
begins_itself (x ∷ p) q = ap (λ (t : Bool). t && begins p (p ++ q)) (same_bit-itself x) ∙ begins_itself p q

pub path_long : (at : ℕ) (id : Id) → length (path at id) ≡ at
path_long at id = bits_from-length at 0 id.0

pub path_more : (at : ℕ) (id : Id) (b : Bool) → b ≡ bit id.0 at → path (at + 1) id ≡ path at id ++ b ∷ []
path_more at id b e = bits_from-more at id.0 ∙ ap (λ (x : Bool). path at id ++ x ∷ []) (sym e)

pub path_begins : (at : ℕ) (id : Id) → at ≤ 160 → begins (path at id) (id_bits id) ≡ true
path_begins at id le =
    let all : 160 ≡ at + (160 - at) = omega arith in
    ap (begins (path at id)) (id_bits-is id ∙ ap (λ (n : ℕ). bits_from n 0 id.0) all ∙ bits_from-append at (160 - at) 0 id.0)
    ∙ begins_itself (path at id) (bits_from (160 - at) (0 + at) id.0)

-- a tree has a row, whose prefix is at least as long as the way to it
some_short : (p : List Bool) (n : Node) → IsUnder p n → All IsShort (rows_of n) → length p ≤ 160
some_short p (Leaf row) u s = subst (λ (q : List Bool). length q ≤ 160) u (All-head IsShort row.value [] s)
some_short p (Fork' a low b high) u s =
    let le = some_short (p ++ false ∷ []) low u.0 (all-left IsShort (rows_of low) (rows_of high) s) in
    let e = length-append p (false ∷ []) in
    omega (arith, le, e)

pub node_short : (p : List Bool) (n : Node) (at : ℕ) → length p ≡ at → IsUnder p n → All IsShort (rows_of n) → at ≤ 160
node_short p n at e u s = let le = some_short p n u s in omega (arith, le, e)

pub fork_short : (p : List Bool) (a : _) (low : Node) (b : _) (high : Node) (at : ℕ) → length p ≡ at → IsUnder p (Fork' a low b high) → All IsShort (rows_of (Fork' a low b high)) → at < 160
fork_short p a low b high at e u s =
    let le = some_short (p ++ false ∷ []) low u.0 (all-left IsShort (rows_of low) (rows_of high) s) in
    let long = length-append p (false ∷ []) in
    omega (arith, le, e, long)

pub hangs_short : (at : ℕ) (node : Node) (a : _) (low : Node) (b : _) (high : Node) → node ≡ Fork' a low b high → HangsAt at node → All IsShort (rows_of node) → at < 160
hangs_short at node a low b high e h s = fork_short h.prefix a low b high at h.deep (subst (IsUnder h.prefix) e h.under) (subst (λ (n : Node). All IsShort (rows_of n)) e s)

pub under_short : (id : Id) (at : ℕ) (node : Node) (a : _) (low : Node) (b : _) (high : Node) → node ≡ Fork' a low b high → IsUnder (path at id) node → All IsShort (rows_of node) → at < 160
under_short id at node a low b high e u s = fork_short (path at id) a low b high at (path_long at id) (subst (IsUnder (path at id)) e u) (subst (λ (n : Node). All IsShort (rows_of n)) e s)

-- the measure of a recursion down the bits
pub falls : (at t : ℕ) → at < 160 → 160 - at ≡ t → 160 - (at + 1) < t
falls at t lt e = omega (arith, lt, e)

-- a leaf that became a fork
pub leaf_path : (id : Id) (at : ℕ) (node : Node) (row : _) → node ≡ Leaf row → IsUnder (path at id) node → row.value.prefix ≡ path at id
leaf_path id at node row e u = subst (IsUnder (path at id)) e u

pub way_on : (id : Id) (at : ℕ) (b : Bool) (n : Node) → b ≡ bit id.0 at → IsUnder (path (at + 1) id) n → IsUnder (path at id ++ b ∷ []) n
way_on id at b n is u = subst (λ (p : List Bool). IsUnder p n) (path_more at id b is) u

pub path_none : (id : Id) → path 0 id ≡ []
unfolding bits_from
path_none id = refl

-- the halves of a tree that hangs that deep hang one bit deeper
pub low_hangs : (at : ℕ) (node : Node) (a : _) (low : Node) (b : _) (high : Node) (child : Node) → node ≡ Fork' a low b high → child ≡ low → HangsAt at node → HangsAt (at + 1) child
low_hangs at node a low b high child e f h =
    let u : IsUnder h.prefix (Fork' a low b high) = subst (IsUnder h.prefix) e h.under in
    subst (HangsAt (at + 1)) (sym f) (record { prefix = h.prefix ++ false ∷ []; deep = length-append h.prefix (false ∷ []) ∙ ap (λ (n : ℕ). n + 1) h.deep; under = u.0 })

pub high_hangs : (at : ℕ) (node : Node) (a : _) (low : Node) (b : _) (high : Node) (child : Node) → node ≡ Fork' a low b high → child ≡ high → HangsAt at node → HangsAt (at + 1) child
high_hangs at node a low b high child e f h =
    let u : IsUnder h.prefix (Fork' a low b high) = subst (IsUnder h.prefix) e h.under in
    subst (HangsAt (at + 1)) (sym f) (record { prefix = h.prefix ++ true ∷ []; deep = length-append h.prefix (true ∷ []) ∙ ap (λ (n : ℕ). n + 1) h.deep; under = u.1 })
