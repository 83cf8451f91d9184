-- The immutable items that a node keeps for others (BEP 44), as a flat list. The numbers are this project's own.
use Rattle.std.specs.Prelude.{◌≡◌, ℕ, ◌-◌, ◌<◌, ◌≤◌, Bool, nat_lt, List, [], length, filter, IsTrue, Option, Some, None, if◌then◌else◌}
use Rattle.std.specs.List.{All, list_any}
use Rattle.std.specs.List.Sorted.{IsStrictlySortedBy}
use Rattle.std.specs.Map.{keys_of, lookup}
use Rattle.std.specs.BTreeMap.{insert_entry}
use Rattle.std.specs.Ordering.{is_eq, nat_cmp}
use Rattle.std.specs.Cmp.Lexicographic.{slice_cmp}
use Rattle.std.specs.declared.cmp.Ordering.{Ordering}
use Rattle.kad_base.specs.Puzzles.{hash}
use Rattle.kad_base.specs.Hosts.{host}
use Rattle.kad_base.specs.declared.types.Id.{Id}
use Rattle.kad_base.specs.declared.types.Addr.{Addr}
use Rattle.kad_base.specs.declared.host.Host.{Host}
use Rattle.aged_map.specs.PerHost.{Limited, limited, holding, at_host, HasNoPlaceAt, HasNoPlaceAmong}
use Rattle.kad_bencode.specs.WrittenForm.{IsWrittenForm}
use Rattle.item_store.specs.declared.held.Item.{Item}

-- the most items that are kept
abbrev pub max_items : ℕ
max_items = 4096

-- how long an item is kept and handed out after its last add, in milliseconds
abbrev pub max_age : ℕ
max_age = 7200000

-- the most bytes of an item's written form
abbrev pub max_length : ℕ
max_length = 1000

-- the bytes are the written form of a value that may stand where two lists or dictionaries are open around it, as they are
-- in a message: of 16 at most 14 are its own
abbrev pub IsWritten : List ℕ → Type 0
IsWritten bytes = IsWrittenForm 2 bytes

-- the bytes may be an item: the written form of a value, and not too long
pub record IsItem (bytes : List ℕ) : Type 0 where
  pub short : length bytes ≤ max_length
  pub written : IsWritten bytes

-- the key of an item: the SHA-1 of its written form
abbrev pub key_of : List ℕ → Id
key_of bytes = record { 0 = hash bytes }

-- an item that is held, under its key
abbrev pub Held : Type 0
Held = Id × Item

-- the order of keys, by their bytes
abbrev pub key_cmp : Id → Id → Ordering
key_cmp a b = slice_cmp nat_cmp a.0 b.0

-- an item stands under its own key
pub record IsSound (h : Held) : Type 0 where
  pub key : h.0.0 ≡ hash h.1.v
  pub item : IsItem h.1.v

-- whose an item is: of the host that put it first
abbrev pub item_host : Id → Item → Host
item_host key item = item.from

-- a store of items: what is held, and the most items of one host that may be, 0 where there is no limit
abbrev pub ItemsState : Type 0
ItemsState = Limited Id Item

-- a store that holds nothing
abbrev pub no_items : ℕ → ItemsState
no_items per_address = limited per_address []

-- what is held: each key once, in order, no more than there may be, no more of one host, and each item under its own key
pub record IsItems (s : ItemsState) : Type 0 where
  pub sorted : IsStrictlySortedBy key_cmp (keys_of s.held)
  pub few : length s.held ≤ max_items
  pub sound : All IsSound s.held
  pub few_of_a_host : 0 < s.per_host → (h : Host) → length (at_host item_host h s.held) ≤ s.per_host

-- an item of the key is held
abbrev pub Holds : ItemsState → Id → Type 0
Holds s key = IsTrue (list_any (λ k. is_eq (key_cmp key k)) (keys_of s.held))

-- who puts an item is crowded: none of its key is held, there is a limit, and as many that its host put first are held
abbrev pub IsCrowded : ItemsState → Id → Addr → Type 0
IsCrowded s key from = HasNoPlaceAt key_cmp item_host s key (host from)

-- an item of the key has no place: none is held, its host isn't crowded, and as many are held as may be
abbrev pub HasNoPlace : ItemsState → Id → Addr → Type 0
HasNoPlace s key from = HasNoPlaceAmong key_cmp item_host s key (host from) max_items

-- the last add is less than the greatest age before the moment. One after the moment counts as 0 before it.
abbrev pub is_fresh : ℕ → Item → Bool
is_fresh at item = nat_lt (at - item.last) max_age

-- what is held under the key
abbrev pub found : ItemsState → Id → Option Item
found s key = lookup (λ k. is_eq (key_cmp key k)) s.held

-- who put an item first: its host where one is found, and else who puts it
abbrev pub first_from : Option Item → Host → Host
first_from None h = h
first_from (Some item) h = item.from

-- what is held after the item was put under the key, from the host at the moment: with this last add
abbrev pub with_entry : ItemsState → Id → List ℕ → Host → ℕ → ItemsState
with_entry s key v h at = holding s (insert_entry key_cmp s.held key (record { v = v; last = at; from = first_from (found s key) h }))

-- what is held after the item was put from the address at the moment: under its own key
abbrev pub with_item : ItemsState → List ℕ → Addr → ℕ → ItemsState
with_item s v from at = with_entry s (key_of v) v (host from) at

-- what is held after a purge at the moment: all that is fresh
abbrev pub purged : ItemsState → ℕ → ItemsState
purged s at = holding s (filter (λ h. is_fresh at h.1) s.held)

-- the written form of what was found, if it is fresh
abbrev pub if_fresh : ℕ → Option Item → Option (List ℕ)
if_fresh at None = None
if_fresh at (Some item) = if is_fresh at item then Some item.v else None

-- the item of the key that is handed out at the moment
abbrev pub handed_out : ItemsState → Id → ℕ → Option (List ℕ)
handed_out s key at = if_fresh at (found s key)
