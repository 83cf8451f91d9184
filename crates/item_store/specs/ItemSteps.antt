-- A store of items as an object whose calls are steps: when each reply comes, and what it leaves.
use Rattle.std.specs.Prelude.{◌≡◌, ℕ, Some, None}
use Rattle.kad_base.specs.declared.types.Id.{Id}
use Rattle.kad_base.specs.declared.types.Addr.{Addr}
use Rattle.aged_map.specs.declared.aged.Stored.{Stored}
use Rattle.aged_map.specs.declared.aged.Stored.TheVariants.{New, Renewed}
use Rattle.item_store.specs.declared.calls.ItemCall.{ItemCall}
use Rattle.item_store.specs.declared.calls.ItemCall.TheVariants.{Get, Put}
use Rattle.item_store.specs.declared.calls.ItemReply.{ItemReply}
use Rattle.item_store.specs.declared.calls.ItemReply.TheVariants.{Held as Held_reply, Absent, Stored as Stored_reply, Crowded, Full, NoMemory}
use Rattle.item_store.specs.Items.{ItemsState, IsItem, Holds, IsCrowded, HasNoPlace, key_of, with_item, purged, handed_out}

-- each role may make each call; what is put has to be an item
abbrev pub ItemMay : ℕ → ItemCall → Type 0
ItemMay role (Get key at) = Unit {0}
ItemMay role (Put v from at) = IsItem v

-- no item of the key is held, and who puts one isn't refused
pub record HasPlace (s : ItemsState) (key : Id) (from : Addr) : Type 0 where
  pub absent : ¬ Holds s key
  pub free : ¬ IsCrowded s key from
  pub room : ¬ HasNoPlace s key from

-- an item of the key was renewed where one is held, and is new where there is a place
abbrev pub StoredStep : ItemsState → Id → Addr → Stored → Type 0
StoredStep s key from New = HasPlace s key from
StoredStep s key from Renewed = Holds s key

-- when each reply comes: an item is put among those that a purge leaves. Putting what isn't held needs memory, and so does
-- a copy of what is handed out
abbrev pub ItemStep : ItemsState → ℕ → ItemCall → ItemReply → Type 0
ItemStep s role (Get key at) (Held_reply v) = (handed_out s key at ≡ Some v) × IsItem v
ItemStep s role (Get key at) Absent = handed_out s key at ≡ None
ItemStep s role (Get key at) NoMemory = Unit {0}
ItemStep s role (Get key at) other = ⊥
ItemStep s role (Put v from at) (Stored_reply stored) = StoredStep (purged s at) (key_of v) from stored
ItemStep s role (Put v from at) Crowded = IsCrowded (purged s at) (key_of v) from
ItemStep s role (Put v from at) Full = HasNoPlace (purged s at) (key_of v) from
ItemStep s role (Put v from at) NoMemory = HasPlace (purged s at) (key_of v) from
ItemStep s role (Put v from at) other = ⊥

-- what is held after a reply; where an item is refused or there is no memory the purge stands
abbrev pub item_after : ItemsState → ℕ → ItemCall → ItemReply → ItemsState
item_after s role (Get key at) reply = s
item_after s role (Put v from at) (Stored_reply stored) = with_item (purged s at) v from at
item_after s role (Put v from at) other = purged s at
