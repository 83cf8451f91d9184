-- The siblings of a node: the contacts closest to its own identifier (S/Kademlia, 2007, section 4.2; the number is this
-- project's own).
use Rattle.std.specs.Prelude.{◌≢◌, ◌≤◌, List, ◌∷◌, [], ◌++◌, filter, length, not, cond}
use Rattle.std.specs.List.{All}
use Rattle.std.specs.List.Sorted.{IsStrictlySortedBy}
use Rattle.std.specs.Str.{bytes_eq}
use Rattle.kad_base.specs.Limits.{max_siblings}
use Rattle.kad_base.specs.declared.types.Id.{Id}
use Rattle.kad_base.specs.declared.types.Contact.{Contact}
use Rattle.kad_base.specs.Contacts.{same}
use Rattle.kad_distance.specs.Order.{closeness}
use Rattle.kad_distance.specs.KClosest.{k_closest}

-- a node's own identifier, and its siblings
pub record SiblingList : Type 0 where
  pub own : Id
  pub list : List Contact

-- none has the own identifier, they are no more than the list may have, and each is closer to it than those after it
pub record IsSiblings (s : SiblingList) : Type 0 where
  pub sorted : IsStrictlySortedBy (closeness s.own) s.list
  pub few : length s.list ≤ max_siblings
  pub others : All (λ (c : Contact). c.id ≢ s.own) s.list

-- a contact more: of those that are there and this one as many as the list may have, the closest to the own identifier,
-- which itself is never among them
abbrev pub with_one : SiblingList → Contact → List Contact
with_one s c = cond (bytes_eq c.id.0 s.own.0) s.list (k_closest s.own max_siblings (s.list ++ c ∷ []))

-- all but this contact
abbrev pub without_one : SiblingList → Contact → List Contact
without_one s c = filter (λ other. not (same other c)) s.list
