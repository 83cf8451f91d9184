-- A tree of rows: what it means as a list, and what a call owes that changes one of its rows.
use Rattle.std.specs.Prelude.{◌≡◌, ℕ, ◌<◌, ◌≤◌, get_or, Bool, true, false, List, [], ◌∷◌, ◌++◌, length}
use Rattle.std.specs.List.{All}
use Rattle.kad_base.specs.declared.types.Id.{Id}
use Rattle.kad_base.specs.declared.types.Contact.{Contact}
use Rattle.kad_distance.specs.Order.{IsCloser}
use Rattle.bucket_tree.specs.Partition.{bits_from, id_bits, begins}
use Rattle.bucket_tree.specs.Rows.{RowState, IsRow, live_in}
use Rattle.bucket_tree.specs.declared.node.Node.{Node}
use Rattle.bucket_tree.specs.declared.node.Node.TheVariants.{Leaf, Fork'}

-- the rows in ascending order of their prefixes
abbrev pub rows_of : Node → List RowState
rows_of (Leaf row) = row.value ∷ []
rows_of (Fork' a low b high) = rows_of low ++ rows_of high

-- a tree of one row
abbrev pub IsLeaf : Node → Type 0
IsLeaf (Leaf row) = Unit {0}
IsLeaf (Fork' a low b high) = ⊥

-- the prefixes of its rows are that prefix and the way down to each
abbrev pub IsUnder : List Bool → Node → Type 0
IsUnder p (Leaf row) = row.value.prefix ≡ p
IsUnder p (Fork' a low b high) = IsUnder (p ++ false ∷ []) low × IsUnder (p ++ true ∷ []) high

-- a prefix has at most the 160 bits of an identifier
abbrev pub IsShort : RowState → Type 0
IsShort row = length row.prefix ≤ 160

-- an identifier of twenty bytes
abbrev pub IsWhole : Id → Type 0
IsWhole id = (length id.0 ≡ 20) × ((i : ℕ) → get_or id.0 i 0 < 256)

-- the row covers each contact that it has
pub record IsTidy (row : RowState) : Type 0 where
  pub covered : All (λ c. begins row.prefix (id_bits c.id) ≡ true) (live_in row)
  pub whole : All (λ c. IsWhole c.id) (live_in row)

-- the first bits of an identifier
abbrev pub path : ℕ → Id → List Bool
path at id = bits_from at 0 id.0

-- the row of an identifier: the one of these whose prefix begins it
pub record IsRowOf (id : Id) (rows : List RowState) (row : RowState) : Type 0 where
  pub front : List RowState
  pub back : List RowState
  pub rows_are : rows ≡ front ++ row ∷ back
  pub covers : begins row.prefix (id_bits id) ≡ true

-- a tree that hangs that deep, under some prefix
pub record HangsAt (at : ℕ) (node : Node) : Type 0 where
  pub prefix : List Bool
  pub deep : length prefix ≡ at
  pub under : IsUnder prefix node

-- each of the first list is closer to the target than each of the second
abbrev pub AllCloser : Id → List Contact → List Contact → Type 0
AllCloser target S T = All (λ a. All (λ b. IsCloser target a b) T) S

-- the identifiers of a row have twenty bytes
abbrev pub IsWholeRow : RowState → Type 0
IsWholeRow row = All (λ c. IsWhole c.id) (live_in row ++ row.spares)

-- what the buckets keep
pub record IsTree (own : Id) (k b : ℕ) (node : Node) : Type 0 where
  pub some_live : 0 < k
  pub few_live : k ≤ 20
  pub some_bits : 0 < b
  pub few_bits : b ≤ 5
  pub under : IsUnder [] node
  pub short : All IsShort (rows_of node)
  pub each : All (IsRow own k b) (rows_of node)
  pub whole : All IsWholeRow (rows_of node)

-- a failure of one of its contacts can be counted
abbrev pub IsFailable : RowState → Type 0
IsFailable row = All (λ e. e.failures ≤ 1) row.live
