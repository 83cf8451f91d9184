-- The buckets as a flat list of rows, one for each prefix (Kademlia, 2002, sections 2.2, 2.4 and 4.2).
use Rattle.std.specs.Prelude.{◌≡◌, ℕ, ◌%◌, ◌<◌, ◌≤◌, Bool, true, false, not, ◌||◌, ◌==◌, List, ◌++◌, length, map, filter}
use Rattle.std.specs.List.{All, flat_map}
use Rattle.std.specs.Ordering.{is_eq, nat_cmp}
use Rattle.std.specs.Cmp.Lexicographic.{slice_cmp}
use Rattle.kad_base.specs.declared.types.Id.{Id}
use Rattle.kad_base.specs.declared.types.Contact.{Contact}
use Rattle.bucket_tree.specs.declared.types.Live.{Live}
use Rattle.bucket_tree.specs.Partition.{id_bits, begins, Partition, Ascending}

-- a bucket: the prefix of its identifiers, its contacts, the least recently seen first, and its replacement cache, the
-- newest last
pub record RowState : Type 0 where
  pub prefix : List Bool
  pub live : List Live
  pub spares : List Contact

-- what callers see of the buckets
pub record BucketsState : Type 0 where
  pub own : Id
  pub k : ℕ
  pub b : ℕ
  pub rows : List RowState

abbrev pub contact_of : Live → Contact
contact_of e = e.contact

-- the contacts of a bucket, the least recently seen first
abbrev pub live_in : RowState → List Contact
live_in row = map contact_of row.live

abbrev pub prefix_of : RowState → List Bool
prefix_of row = row.prefix

abbrev pub prefixes_of : List RowState → List (List Bool)
prefixes_of rows = map prefix_of rows

-- the contacts of all buckets
abbrev pub live_of : List RowState → List Contact
live_of rows = flat_map live_in rows

-- two identifiers are one
abbrev pub same_id : Id → Id → Bool
same_id x y = is_eq (slice_cmp nat_cmp x.0 y.0)

-- a bucket may split where its range has the node's own identifier, and else while its prefix isn't a whole number of
-- b bits (Kademlia, section 4.2)
abbrev pub may_split : Id → ℕ → List Bool → Bool
may_split own b prefix = begins prefix (id_bits own) || not (length prefix % b == 0)

-- at most one of the contacts has the identifier
abbrev pub IsOnce : List Contact → Id → Type 0
IsOnce cs id = length (filter (λ c. same_id c.id id) cs) ≤ 1

-- what a bucket keeps
pub record IsRow (own : Id) (k b : ℕ) (row : RowState) : Type 0 where
  pub few : length row.live ≤ k
  pub few_spares : length row.spares ≤ k
  pub failed_once : All (λ e. e.failures ≤ 1) row.live
  pub covered : All (λ c. begins row.prefix (id_bits c.id) ≡ true) (live_in row ++ row.spares)
  pub others : All (λ c. same_id c.id own ≡ false) (live_in row ++ row.spares)
  pub once : (id : Id) → IsOnce (live_in row ++ row.spares) id
  pub spares_full : 0 < length row.spares → length row.live ≡ k
  pub spares_stay : 0 < length row.spares → may_split own b row.prefix ≡ false

-- what the buckets keep: their prefixes are a partition, in ascending order
pub record SoundRows (own : Id) (k b : ℕ) (rows : List RowState) : Type 0 where
  pub partition : Partition (prefixes_of rows)
  pub ascending : Ascending (prefixes_of rows)
  pub short : All (λ row. length row.prefix ≤ 160) rows
  pub each : All (IsRow own k b) rows

-- what callers see of sound buckets: k and b within their limits, and their rows
pub record Sound (s : BucketsState) : Type 0 where
  pub some_live : 0 < s.k
  pub few_live : s.k ≤ 20
  pub some_bits : 0 < s.b
  pub few_bits : s.b ≤ 5
  pub rows : SoundRows s.own s.k s.b s.rows
