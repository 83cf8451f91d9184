-- How long a reply is at most.
use Rattle.std.specs.Prelude.{◌≡◌, ℕ, ◌+◌, ◌*◌, ◌≤◌, List, length, flat_map, Option, Some, None}
use Rattle.kad_bencode.specs.Spelling.{integer_text}
use Rattle.kad_base.specs.declared.types.Addr.{Addr}
use Rattle.kad_base.specs.declared.types.Contact.{Contact}
use Rattle.kad_base.specs.declared.types.Report.{Report}
use Rattle.kad_krpc.specs.declared.message.Answer.{Answer}
use Rattle.kad_krpc.specs.declared.message.Message.{Message}
use Rattle.kad_krpc.specs.declared.message.Message.TheVariants as message
use Rattle.kad_krpc.specs.Form.{BearsForm}
use Rattle.kad_krpc.specs.Records.{addr_bytes, nodes_bytes, snodes_bytes}

-- how long a reply is at most, so that in 4,096 bytes there is room for the pair of a tag, which has at most 78
abbrev pub max_reply : ℕ
max_reply = 4018

-- how many there are, none where the part is missing
abbrev pub count : {A : Type 0} → Option (List A) → ℕ
count None = 0
count (Some items) = length items

-- an answer with few parts, and none of IPv6; a value takes the room of peers
pub record HasFew (a : Answer) : Type 0 where
  pub nodes : count a.nodes ≤ 20
  pub snodes : count a.snodes ≤ 20
  pub nodes6 : a.nodes6 ≡ None
  pub snodes6 : a.snodes6 ≡ None
  pub token : count a.token ≤ 8
  pub v : BearsForm a
  pub values : count a.v + 20 * count a.values ≤ 1000

-- a reply with few parts
abbrev pub IsSmall : Message → Type 0
IsSmall (message.Query tx read_only proof ask) = ⊥
IsSmall (message.Answer tx answer) = (length tx ≤ 32) × HasFew answer
IsSmall (message.Fault tx code text) = (length tx ≤ 32) × ((length (integer_text code) ≤ 7) × (length text ≤ 25))

-- the records of the parts take no more bytes than their numbers allow
abbrev pub nodes_size : Option (List Contact) → ℕ
nodes_size None = 0
nodes_size (Some nodes) = length (nodes_bytes nodes)

abbrev pub snodes_size : Option (List Report) → ℕ
snodes_size None = 0
snodes_size (Some snodes) = length (snodes_bytes snodes)

-- each peer is a string with its length in front
abbrev pub peers_bytes : List Addr → List ℕ
peers_bytes peers = flat_map (λ peer. addr_bytes peer) peers

abbrev pub values_size : Option (List Addr) → ℕ
values_size None = 0
values_size (Some peers) = length (peers_bytes peers)

pub record IsCompact (a : Answer) : Type 0 where
  pub id : length a.id.0 ≤ 20
  pub nodes : nodes_size a.nodes ≤ 38 * count a.nodes
  pub snodes : snodes_size a.snodes ≤ 90 * count a.snodes
  pub values : values_size a.values ≤ 18 * count a.values
