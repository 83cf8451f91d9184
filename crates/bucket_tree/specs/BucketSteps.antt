-- What the calls do to the rows, by cases (Kademlia, 2002, sections 2.2, 2.4, 4.1 and 4.2).
use Rattle.std.specs.Prelude.{◌≡◌, ℕ, ◌<◌, ◌≤◌, Bool, true, false, not, cond, nat_le, List, [], ◌∷◌, ◌++◌, length, drop, map, filter, find, Option, Some, None}
use Rattle.std.specs.Option.{option_map}
use Rattle.std.specs.List.{list_any}
use Rattle.kad_base.specs.declared.types.Id.{Id}
use Rattle.kad_base.specs.declared.types.Contact.{Contact}
use Rattle.kad_base.specs.Contacts.{same, among}
use Rattle.bucket_tree.specs.declared.types.Live.{Live}
use Rattle.bucket_tree.specs.declared.types.Seen.{Seen}
use Rattle.bucket_tree.specs.declared.types.Seen.TheVariants.{Added, Moved, Spared, Conflict, Own}
use Rattle.bucket_tree.specs.declared.types.Gone.{Gone}
use Rattle.bucket_tree.specs.declared.types.Gone.TheVariants.{Kept, Removed, Replaced, Unknown}
use Rattle.bucket_tree.specs.Partition.{id_bits, begins}
use Rattle.bucket_tree.specs.Rows.{RowState, live_in, live_of, same_id, may_split}

-- an entry that was just seen
abbrev pub fresh : Contact → Live
fresh c = record { contact = c; failures = 0 }

-- the contact is live in the row
abbrev pub knows : RowState → Contact → Bool
knows row c = among (live_in row) c

-- its identifier is, at whatever address
abbrev pub knows_id : RowState → Id → Bool
knows_id row id = list_any (λ e. same_id e.contact.id id) row.live

-- the entries of other contacts
abbrev pub without : Contact → List Live → List Live
without c entries = filter (λ e. not (same c e.contact)) entries

-- the contact is the most recently seen
abbrev pub moved : Contact → RowState → RowState
moved c row = record { prefix = row.prefix; live = without c row.live ++ fresh c ∷ []; spares = row.spares }

-- the contact is new, and the most recently seen
abbrev pub added : Contact → RowState → RowState
added c row = record { prefix = row.prefix; live = row.live ++ fresh c ∷ []; spares = row.spares }

-- the oldest leaves where there are k
abbrev pub with_room : ℕ → List Contact → List Contact
with_room k cs = cond (nat_le k (length cs)) (drop 1 cs) cs

-- the contact is the newest spare, and the only one with its identifier
abbrev pub spared : ℕ → Contact → RowState → RowState
spared k c row = record {
  prefix = row.prefix;
  live = row.live;
  spares = with_room k (filter (λ x. not (same_id x.id c.id)) row.spares) ++ c ∷ [];
}

-- half of a row that splits: one bit more, and the live entries that it covers, in order
abbrev pub half : Bool → RowState → RowState
half bit row = record {
  prefix = row.prefix ++ bit ∷ [];
  live = filter (λ e. begins (row.prefix ++ bit ∷ []) (id_bits e.contact.id)) row.live;
  spares = [];
}

-- the row has no room for a new identifier, and may split
pub record NeedsSplit (own : Id) (k b : ℕ) (id : Id) (row : RowState) : Type 0 where
  pub new : knows_id row id ≡ false
  pub full : k ≤ length row.live
  pub splits : may_split own b row.prefix ≡ true

-- what a contact that was seen does to its row, where that row doesn't split
abbrev pub RowSeen : ℕ → Contact → RowState → Seen → RowState → Type 0
RowSeen k c row Moved after = (knows row c ≡ true) × (after ≡ moved c row)
RowSeen k c row Conflict after = (knows row c ≡ false) × (knows_id row c.id ≡ true) × (after ≡ row)
RowSeen k c row Added after = (knows_id row c.id ≡ false) × (length row.live < k) × (after ≡ added c row)
RowSeen k c row Spared after = (knows_id row c.id ≡ false) × (k ≤ length row.live) × (after ≡ spared k c row)
RowSeen k c row Own after = ⊥

-- what a contact that was seen does to the rows: the own identifier nothing; else it is seen by the row whose prefix
-- begins its identifier, once that row has been split as often as it needs
pub data SeenStep (own : Id) (k b : ℕ) (c : Contact) : List RowState → Seen → List RowState → Type 0 where
  is_own : {rows : List RowState} → same_id c.id own ≡ true → SeenStep own k b c rows Own rows
  in_row : {rows after : List RowState} {seen : Seen} (front back : List RowState) (row row' : RowState) → same_id c.id own ≡ false → rows ≡ front ++ row ∷ back
      → begins row.prefix (id_bits c.id) ≡ true → ¬ NeedsSplit own k b c.id row → RowSeen k c row seen row' → after ≡ front ++ row' ∷ back → SeenStep own k b c rows seen after
  split : {rows after : List RowState} {seen : Seen} (front back : List RowState) (row : RowState) → same_id c.id own ≡ false → rows ≡ front ++ row ∷ back
      → begins row.prefix (id_bits c.id) ≡ true → NeedsSplit own k b c.id row → SeenStep own k b c (front ++ half false row ∷ half true row ∷ back) seen after
      → SeenStep own k b c rows seen after

-- how often the contact failed since it was last seen, where it is live
abbrev pub failures_of : RowState → Contact → Option ℕ
failures_of row c = option_map (λ e. e.failures) (find (λ e. same c e.contact) row.live)

-- the entry of the contact has now failed once
abbrev pub mark : Contact → Live → Live
mark c e = cond (same c e.contact) (record { contact = e.contact; failures = 1 }) e

-- the row whose entry of the contact has now failed once
abbrev pub marked : Contact → RowState → RowState
marked c row = record { prefix = row.prefix; live = map (mark c) row.live; spares = row.spares }

-- the row without the contact
abbrev pub removed : Contact → RowState → RowState
removed c row = record { prefix = row.prefix; live = without c row.live; spares = row.spares }

-- the newest spare takes the place of a contact that left
pub record IsReplaced (c : Contact) (row after : RowState) : Type 0 where
  pub older : List Contact
  pub newest : Contact
  pub spares : row.spares ≡ older ++ newest ∷ []
  pub after_is : after ≡ record { prefix = row.prefix; live = without c row.live ++ fresh newest ∷ []; spares = older }

-- what a failure does to the row of the contact: the first is counted, the second removes it
abbrev pub RowFailed : Contact → RowState → Gone → RowState → Type 0
RowFailed c row Kept after = (failures_of row c ≡ Some 0) × (after ≡ marked c row)
RowFailed c row Removed after = (failures_of row c ≡ Some 1) × (row.spares ≡ []) × (after ≡ removed c row)
RowFailed c row Replaced after = (failures_of row c ≡ Some 1) × IsReplaced c row after
RowFailed c row Unknown after = (failures_of row c ≡ None) × (after ≡ row)

-- a failure changes the row whose prefix begins the identifier of the contact, and no other
pub record InItsRow (c : Contact) (gone : Gone) (rows after : List RowState) : Type 0 where
  pub front : List RowState
  pub back : List RowState
  pub row : RowState
  pub row' : RowState
  pub rows_are : rows ≡ front ++ row ∷ back
  pub covers : begins row.prefix (id_bits c.id) ≡ true
  pub step : RowFailed c row gone row'
  pub after_are : after ≡ front ++ row' ∷ back

-- what a failure of a contact does to the rows: nothing where it isn't live
abbrev pub FailedStep : Contact → List RowState → Gone → List RowState → Type 0
FailedStep c rows Unknown after = (among (live_of rows) c ≡ false) × (after ≡ rows)
FailedStep c rows gone after = InItsRow c gone rows after
