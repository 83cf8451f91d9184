-- The rows that callers hold, as the state of the buckets, and when rows are those of a tree.
use Rattle.std.specs.Prelude.{◌≡◌, ℕ, Bool, true, false, not, ◌&&◌, List, [], ◌∷◌, ◌++◌, map}
use Rattle.std.specs.List.{All, list_any}
use Rattle.kad_base.specs.declared.types.Id.{Id}
use Rattle.kad_base.specs.declared.types.Contact.{Contact}
use Rattle.bucket_tree.specs.Partition.{id_bits, begins}
use Rattle.bucket_tree.specs.Rows.{RowState, IsRow, live_in, same_id}
use Rattle.bucket_tree.specs.Trees.{rows_of, IsUnder, IsShort, IsWholeRow}
use Rattle.bucket_tree.specs.declared.node.Node.{Node}
use Rattle.bucket_tree.specs.declared.rows.Row.{Row}

-- a row that a caller holds, as the state of a bucket
abbrev pub state_of : Row → RowState
state_of row = record { prefix = row.prefix; live = row.live; spares = row.spare }

abbrev pub states_of : List Row → List RowState
states_of rows = map state_of rows

-- all contacts of a row, the live ones first
abbrev pub kept_in : RowState → List Contact
kept_in row = live_in row ++ row.spares

-- none of the contacts has the identifier of one after it
abbrev pub distinct : List Contact → Bool
distinct [] = true
distinct (c ∷ cs) = not (list_any (λ x. same_id x.id c.id) cs) && distinct cs

-- the contact belongs to a bucket with that prefix, and isn't the node itself
pub record IsHome (own : Id) (prefix : List Bool) (c : Contact) : Type 0 where
  pub covered : begins prefix (id_bits c.id) ≡ true
  pub other : same_id c.id own ≡ false

-- rows are the leaves of a tree that hangs under a prefix, from left to right
pub data Hangs : List Bool → List RowState → Type 0 where
  one : {p : List Bool} {rows : List RowState} (row : RowState) → row.prefix ≡ p → rows ≡ row ∷ [] → Hangs p rows
  two : {p : List Bool} {rows : List RowState} (low high : List RowState) → Hangs (p ++ false ∷ []) low → Hangs (p ++ true ∷ []) high → rows ≡ low ++ high → Hangs p rows

-- some first rows of a list are those of a tree under a prefix, and each is one that a bucket can be
pub record HasFront (own : Id) (k b : ℕ) (p : List Bool) (rows : List RowState) : Type 0 where
  pub front : List RowState
  pub back : List RowState
  pub rows_are : rows ≡ front ++ back
  pub hangs : Hangs p front
  pub each : All (IsRow own k b) front

-- a tree has the first rows of a list, and these are left
pub record IsGrown (own : Id) (k b : ℕ) (p : List Bool) (rows : List RowState) (node : Node) (left : List RowState) : Type 0 where
  pub rows_are : rows ≡ rows_of node ++ left
  pub under : IsUnder p node
  pub short : All IsShort (rows_of node)
  pub each : All (IsRow own k b) (rows_of node)
  pub whole : All IsWholeRow (rows_of node)
