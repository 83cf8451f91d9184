-- What callers see of the routing table: its buckets as a list of rows, its siblings, how many contacts of one host it holds
-- at most (0: as many as there are), and the proofs that its contacts showed.
use Rattle.std.specs.Prelude.{ℕ, List, []}
use Rattle.kad_base.specs.declared.types.Id.{Id}
use Rattle.kad_base.specs.declared.types.Contact.{Contact}
use Rattle.bucket_tree.specs.Rows.{RowState, BucketsState, Sound}
use Rattle.sibling_list.specs.Siblings.{SiblingList, IsSiblings}
use Rattle.contact_table.specs.Vouched.{Proofs}

pub record TableState : Type 0 where
  pub own : Id
  pub k : ℕ
  pub b : ℕ
  pub rows : List RowState
  pub siblings : List Contact
  pub per_address : ℕ
  pub proofs : Proofs

-- its buckets, and its siblings, each as their own crate has them
abbrev pub buckets_of : TableState → BucketsState
buckets_of s = record { own = s.own; k = s.k; b = s.b; rows = s.rows }

abbrev pub siblings_of : TableState → SiblingList
siblings_of s = record { own = s.own; list = s.siblings }

-- the buckets are sound, and so are the siblings
pub record SoundTable (s : TableState) : Type 0 where
  pub buckets : Sound (buckets_of s)
  pub siblings : IsSiblings (siblings_of s)

-- the table without its limit and its proofs, as it is saved
abbrev pub unlimited : TableState → TableState
unlimited s = record { own = s.own; k = s.k; b = s.b; rows = s.rows; siblings = s.siblings; per_address = 0; proofs = [] }
