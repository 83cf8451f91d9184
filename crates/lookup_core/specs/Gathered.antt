-- What the heard answers of a lookup gave beside contacts: peers and tokens (BEP 5), and items (BEP 44).
use Rattle.std.specs.Prelude.{◌≡◌, ◌⊎◌, ◌↔◌, ℕ, List, [], ◌∷◌, ◌++◌, Option, Some, None, Contains}
use Rattle.std.specs.List.{flat_map}
use Rattle.std.specs.List.Sorted.{IsStrictlySortedBy}
use Rattle.std.specs.Ordering.{ordering_then, nat_cmp}
use Rattle.std.specs.Cmp.Lexicographic.{slice_cmp}
use Rattle.std.specs.declared.cmp.Ordering.{Ordering}
use Rattle.kad_base.specs.declared.types.Addr.{Addr}
use Rattle.kad_base.specs.declared.types.Contact.{Contact}
use Rattle.kad_base.specs.Contacts.{address_bytes}
use Rattle.lookup_core.specs.declared.gather.Gathered.{Gathered}
use Rattle.lookup_core.specs.declared.gather.Item.{Item}
use Rattle.lookup_core.specs.declared.gather.Token.{Token}
use Rattle.lookup_core.specs.declared.quest.AskKind.{AskKind}
use Rattle.lookup_core.specs.declared.quest.AskKind.TheVariants.{FindNode, GetPeers, GetItem}
use Rattle.lookup_core.specs.declared.quest.Quest.{Quest}
use Rattle.lookup_core.specs.Matching.{OpenQuery, Replies}
use Rattle.lookup_core.specs.Quest.{part_of}
use Rattle.lookup_core.specs.Reply.{Answered}
use Rattle.lookup_core.specs.Reply as reply
use Rattle.lookup_core.specs.Sealed.{Accepts}

-- ---- who is heard

-- the datagram is the answer of a contact that was asked, in its own name
pub record HeardIn (quest : Quest) (accepts : Accepts) (queries : List OpenQuery) (from : Addr) (bytes : List ℕ) (a : Answered) : Type 0 where
  pub query : OpenQuery
  pub is_open : Contains queries query
  pub replies : Replies quest accepts bytes from query (reply.Answer a.answer)
  pub own_name : a.answer.id ≡ query.contact.id
  pub contact_is : a.contact ≡ query.contact

-- what one datagram shows to be heard: an answer of one of those that were asked, or none
abbrev pub HearsOne : Quest → Accepts → List OpenQuery → Addr → List ℕ → List Answered → Type 0
HearsOne quest accepts queries from bytes found =
    ((a : Answered) × HeardIn quest accepts queries from bytes a × (found ≡ a ∷ []))
    ⊎ (((a : Answered) → ¬ HeardIn quest accepts queries from bytes a) × (found ≡ []))

-- ---- what the answers gave

-- in the order of the bytes of the address and then of the port, IPv4 first
abbrev pub addr_cmp : Addr → Addr → Ordering
addr_cmp a b = ordering_then (slice_cmp nat_cmp (address_bytes a.ip) (address_bytes b.ip)) (nat_cmp a.port b.port)

-- the different members of a list of addresses, in order
pub record IsEachOnce (all found : List Addr) : Type 0 where
  pub in_order : IsStrictlySortedBy addr_cmp found
  pub same : (a : Addr) → Contains found a ↔ Contains all a

-- the peers that an answer named (`values`)
abbrev pub values_of : Answered → List Addr
values_of a = part_of a.answer.values

-- a token with the contact that gave it, where there is one
abbrev pub tokens_in : Contact → Option (List ℕ) → List Token
tokens_in c None = []
tokens_in c (Some token) = record { contact = c; token = token } ∷ []

-- the token of an answer (BEP 5): an announce_peer or put query to that contact needs it
abbrev pub token_of : Answered → List Token
token_of a = tokens_in a.contact a.answer.token

-- an item with the contact that gave it, where there is one
abbrev pub items_in : Contact → Option (List ℕ) → List Item
items_in c None = []
items_in c (Some v) = record { contact = c; v = v } ∷ []

-- the item of an answer (BEP 44), in its written form, whatever its length and its hash
abbrev pub item_of : Answered → List Item
item_of a = items_in a.contact a.answer.v

-- the peers that the answers named, the tokens and the items that they gave, where those were asked for
abbrev pub GathersOf : AskKind → List Answered → List Addr → List Token → List Item → Type 0
GathersOf FindNode heard peers tokens items = (peers ≡ []) × (tokens ≡ []) × (items ≡ [])
GathersOf GetPeers heard peers tokens items = IsEachOnce (flat_map values_of heard) peers × (tokens ≡ flat_map token_of heard) × (items ≡ [])
GathersOf GetItem heard peers tokens items = (peers ≡ []) × (tokens ≡ flat_map token_of heard) × (items ≡ flat_map item_of heard)

-- ---- what is kept of them

-- nothing was gathered
pub record IsBare (gathered : Gathered) : Type 0 where
  pub no_peers : gathered.peers ≡ []
  pub no_tokens : gathered.tokens ≡ []
  pub no_items : gathered.items ≡ []

-- of the answers this is kept, as it came, by what is asked for
abbrev pub Keeping : AskKind → List Answered → Gathered → Type 0
Keeping FindNode heard gathered = (gathered.peers ≡ []) × (gathered.tokens ≡ []) × (gathered.items ≡ [])
Keeping GetPeers heard gathered = (gathered.peers ≡ flat_map values_of heard) × (gathered.tokens ≡ flat_map token_of heard) × (gathered.items ≡ [])
Keeping GetItem heard gathered = (gathered.peers ≡ []) × (gathered.tokens ≡ flat_map token_of heard) × (gathered.items ≡ flat_map item_of heard)

-- what was heard gave these peers and these items beside contacts, and its tokens
pub record KeepsAlso (heard : List Answered) (named : List Addr) (given : List Item) (old new : Gathered) : Type 0 where
  pub peers : new.peers ≡ old.peers ++ named
  pub tokens : new.tokens ≡ old.tokens ++ flat_map token_of heard
  pub items : new.items ≡ old.items ++ given

-- what is asked for is kept
abbrev pub KeepsFor : AskKind → List Answered → Gathered → Gathered → Type 0
KeepsFor FindNode heard old new = new ≡ old
KeepsFor GetPeers heard old new = KeepsAlso heard (flat_map values_of heard) [] old new
KeepsFor GetItem heard old new = KeepsAlso heard [] (flat_map item_of heard) old new
