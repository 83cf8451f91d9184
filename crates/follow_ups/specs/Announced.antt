-- Announcements: whoever gave a token is told that this node is a peer of the key (BEP 5, `announce_peer`), or is given an
-- item to keep (BEP 44, `put`), by messages that say that their sender answers no queries, or don't (BEP 43).
use Rattle.std.specs.Prelude.{◌≡◌, ℕ, zero, suc, ◌+◌, ◌<◌, List, [], ◌∷◌, length, get_or, take, map, filter, Option, Some, None, Bool, false}
use Rattle.std.specs.List.{flat_map}
use Rattle.kad_base.specs.declared.types.Id.{Id}
use Rattle.kad_base.specs.declared.types.Contact.{Contact}
use Rattle.kad_base.specs.declared.types.Event.{Event}
use Rattle.kad_base.specs.declared.types.Proof.{Proof}
use Rattle.kad_base.specs.Contacts.{same}
use Rattle.kad_base.specs.Words.{word, word_bytes}
use Rattle.kad_krpc.specs.declared.message.Ask.{Ask}
use Rattle.kad_krpc.specs.declared.message.Ask.TheVariants.{AnnouncePeer, Put}
use Rattle.kad_krpc.specs.declared.message.Message.TheVariants as message
use Rattle.kad_krpc.specs.declared.message.Port.{Port}
use Rattle.kad_krpc.specs.declared.message.Port.TheVariants.{Given, Implied}
use Rattle.kad_krpc.specs.Fields.{IsCarried}
use Rattle.kad_krpc.specs.Form.{form}
use Rattle.lookup_core.specs.Quest.{brought}
use Rattle.lookup_core.specs.declared.gather.Token.{Token}
use Rattle.follow_ups.specs.declared.announce.Announcement.{Announcement}
use Rattle.follow_ups.specs.declared.announce.Said.{Said}
use Rattle.follow_ups.specs.declared.announce.Said.TheVariants.{Item, Peer}
-- the event of a send, and how many of the events are sends that the link took
pub use Rattle.node_serve.specs.Receives.{is_sent, sent_in, tried}

-- port 0 means the one that the datagram comes from
abbrev pub port_of : ℕ → Port
port_of zero = Implied
port_of (suc n) = Given (suc n)

-- what is asked with a token: that the sender be known as a peer of the key, at the port
abbrev pub announcing : Id → Id → ℕ → List ℕ → Ask
announcing own key port token = AnnouncePeer own key (port_of port) token

-- or that an immutable item be kept, by the written form of its value
abbrev pub putting : Id → List ℕ → List ℕ → Ask
putting own v token = Put own token v false

-- the same, as the code has it
abbrev pub asks_of : Said → List ℕ → Ask
asks_of (Peer own key port) = announcing own key port
asks_of (Item own v) = putting own v.now

-- what is given to be kept may stand in a message
abbrev pub MaySay : Said → Type 0
MaySay (Peer own key port) = Unit {0}
MaySay (Item own v) = IsCarried v.now

-- to the contact of the token, with its token
abbrev pub announcement : (List ℕ → Ask) → Token → Announcement
announcement asks t = record { to = t.contact.addr; ask = asks t.token }

-- the first of the tokens that the contact gave; none if it gave none
abbrev pub first_from : List Token → Contact → List Token
first_from tokens c = take 1 (filter (λ t. same t.contact c) tokens)

-- the place of that one
pub record IsFirstFrom (tokens : List Token) (c : Contact) (place : ℕ) : Type 0 where
  pub within : place < length tokens
  pub first : (d : Token) → first_from tokens c ≡ get_or tokens place d ∷ []

-- one token of each contact that was found and gave some, in order
abbrev pub tokens_for : List Contact → List Token → List Token
tokens_for found tokens = flat_map (first_from tokens) found

abbrev pub announcements : (List ℕ → Ask) → List Contact → List Token → List Announcement
announcements asks found tokens = map (announcement asks) (tokens_for found tokens)

-- what is owed to those that were found: nothing if no port was told
abbrev pub owed : Option ℕ → Id → Id → List Contact → List Token → List Announcement
owed None own key found tokens = []
owed (Some port) own key found tokens = announcements (announcing own key port) found tokens

-- the query under this transaction id, which is read-only or not (BEP 43): one that isn't brings the proof of who asks, if
-- there is one
abbrev pub asking : Bool → Option Proof → ℕ → Ask → List ℕ
asking read_only proof tx ask = form (message.Query (word_bytes tx) read_only (brought read_only proof) ask)

-- each was sent or refused, in order, and nothing else happened; their transaction ids are the words of the seed from this
-- place on
abbrev pub Announces : Bool → Option Proof → List ℕ → ℕ → List Announcement → List Event → Type 0
Announces read_only proof seed place [] events = events ≡ []
Announces read_only proof seed place (a ∷ rest) events =
    (was_sent : Bool) × (later : List Event)
    × (events ≡ tried was_sent a.to (asking read_only proof (word seed place) a.ask) ∷ later)
    × Announces read_only proof seed (place + 1) rest later

-- a front of them was, and then no more
abbrev pub AnnouncesSome : Bool → Option Proof → List ℕ → ℕ → List Announcement → List Event → Type 0
AnnouncesSome read_only proof seed place all events = (n : ℕ) × Announces read_only proof seed place (take n all) events
