-- What a node of the network answers to a query, and when. Messages are KRPC's (BEP 5); who answers what is this project's
-- own.
use Rattle.std.specs.Prelude.{◌≡◌, ℕ, zero, suc, ◌+◌, ◌-◌, ◌/◌, ◌%◌, ◌^◌, ◌<◌, min, pos, Bool, cond, List, [], ◌∷◌, map, get_or, set, codes, bit_xor, Option, Some, None}
use Rattle.std.specs.Borrow.{Bor}
use Rattle.kad_base.specs.declared.types.Id.{Id}
use Rattle.kad_base.specs.declared.types.Proof.{Proof}
use Rattle.kad_base.specs.declared.types.Ip.TheVariants.{V4}
use Rattle.kad_base.specs.declared.types.Addr.{Addr}
use Rattle.kad_base.specs.declared.types.Contact.{Contact}
use Rattle.kad_distance.specs.KClosest.{k_closest}
use Rattle.kad_krpc.specs.declared.message.Message.{Message}
use Rattle.kad_krpc.specs.declared.message.Message.TheVariants as message
use Rattle.kad_krpc.specs.declared.message.Ask.{Ask}
use Rattle.kad_krpc.specs.declared.message.Ask.TheVariants.{Ping, FindNode, GetPeers, AnnouncePeer, Get as GetItem, Put as PutItem, Other}
use Rattle.kad_krpc.specs.declared.message.Want.{Want}
use Rattle.kad_krpc.specs.Reading.{Says}
use Rattle.kad_krpc.specs.Form.{form}
use Rattle.fake_net.specs.declared.replies.Conduct.{Conduct}
use Rattle.fake_net.specs.declared.replies.Conduct.TheVariants.{Honest, Inventing, Silent, Posing, Failing}
use Rattle.fake_net.specs.declared.waiting.Waiting.{Waiting}
use Rattle.fake_net.specs.Network.{Network, numbers, id_of, address_of, is_hostile, known}

-- the bytes say a find_node query under the transaction id, for the target, whatever else it wants
pub record SaysFindNode (bytes tx : List ℕ) (target : Id) : Type 0 where
  pub read_only : Bool
  pub proof : Option Proof
  pub asker : Id
  pub want : Want
  pub says : Says bytes (message.Query tx read_only proof (FindNode asker target want))

-- the transaction id and the target of a find_node query
abbrev pub asked_for : List ℕ → Ask → Option (List ℕ × Id)
asked_for tx (Ping id) = None
asked_for tx (FindNode id target want) = Some (tx, target)
asked_for tx (GetPeers id info_hash want) = None
asked_for tx (AnnouncePeer id info_hash port token) = None
asked_for tx (GetItem id target want) = None
asked_for tx (PutItem id token v mutable) = None
asked_for tx (Other method) = None

abbrev pub find_node_of : Message → Option (List ℕ × Id)
find_node_of (message.Query tx read_only proof ask) = asked_for tx ask
find_node_of (message.Answer tx answer) = None
find_node_of (message.Fault tx code text) = None

-- the same, where the transaction id is lent
abbrev pub lent_query : Option (Bor (List ℕ) × Id) → Option (List ℕ × Id)
lent_query None = None
lent_query (Some q) = Some (q.0.now, q.1)

-- ---- what is answered

-- what a hostile node does, by its number's remainder by 4
abbrev pub misconduct : ℕ → Conduct
misconduct zero = Inventing
misconduct (suc zero) = Silent
misconduct (suc (suc zero)) = Posing
misconduct (suc (suc (suc n))) = Failing

-- what node i does
abbrev pub conduct_of : ℕ → ℕ → Conduct
conduct_of hostile i = cond (is_hostile hostile i) (misconduct (i % 4)) Honest

-- invented contact r of node i: the target with its last two bytes changed by the number and by r, at a place where
-- nobody is
abbrev pub invented : Id → ℕ → ℕ → Contact
invented target i r = record {
  id = record { 0 = set (set target.0 18 (bit_xor (get_or target.0 18 0) (i % 256))) 19 (bit_xor (get_or target.0 19 0) (r + 1)) };
  addr = record { ip = V4 (127 ∷ i / 256 ∷ i % 256 ∷ r ∷ []); port = 1 };
}

-- the 8 closest to the target of the nodes that node i knows
abbrev pub near : Network → ℕ → Id → List Contact
near net i target = k_closest target 8 (known net i)

-- an answer that names contacts
abbrev pub naming : List ℕ → Id → List Contact → Message
naming tx id nodes = message.Answer tx (record { id = id; nodes = Some nodes; snodes = None; nodes6 = None; snodes6 = None; token = None; v = None; values = None })

-- what node i says to a query, by what it does
abbrev pub said : Conduct → Network → ℕ → List ℕ → Id → Option Message
said Honest net i tx target = Some (naming tx (id_of net.seed i) (near net i target))
said Inventing net i tx target = Some (naming tx (id_of net.seed i) (map (invented target i) (numbers 16)))
said Silent net i tx target = None
said Posing net i tx target = Some (naming tx target (near net i target))
said Failing net i tx target = Some (message.Fault tx (pos 202) (codes "Server Error"))

abbrev pub reply_of : Network → ℕ → List ℕ → Id → Option Message
reply_of net i tx target = said (conduct_of net.hostile i) net i tx target

-- ---- when it comes

-- when an answer of node i comes to what was sent at the moment: 10 to 49 milliseconds later, by the number, and at the
-- last moment, 2^64 - 1, where the sum is past it
abbrev pub comes_at : ℕ → ℕ → ℕ
comes_at moment i = min (moment + (10 + i % 40)) (2 ^ 64 - 1)

-- a message on its way from node i, sent for at the moment
abbrev pub on_its_way : ℕ → ℕ → Option Message → List Waiting
on_its_way moment i None = []
on_its_way moment i (Some m) = record { at = comes_at moment i; from = address_of i; bytes = form m } ∷ []

-- a datagram to an address brings about these answers: a query for a target to a node that of the node, and else none
pub record BringsAbout (net : Network) (moment : ℕ) (to : Addr) (bytes : List ℕ) (answers : List Waiting) : Type 0 where
  pub answered : (i : ℕ) (tx : List ℕ) (target : Id) → i < net.count → to ≡ address_of i → SaysFindNode bytes tx target
      → answers ≡ on_its_way moment i (reply_of net i tx target)
  pub unanswered : ((i : ℕ) (tx : List ℕ) (target : Id) → i < net.count → to ≡ address_of i → SaysFindNode bytes tx target → ⊥)
      → answers ≡ []
