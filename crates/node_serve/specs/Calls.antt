-- Which calls a datagram makes on what a node holds, and the reply that it is owed, computed from their replies alone. The
-- rules are those of node_serve: the nodes that a reply names are Kademlia's (2002, section 2.3), peers and tokens BEP 5's,
-- items BEP 44's.
use Rattle.std.specs.Prelude.{ℕ, ◌-◌, ◌<◌, ◌≤◌, Bool, true, false, cond, ◌&&◌, ◌||◌, nat_lt, nat_le, length, List, [], ◌∷◌, ◌++◌, map, drop, Option, Some, None}
use Rattle.std.specs.List.{All}
use Rattle.std.specs.Str.{bytes_eq}
use Rattle.kad_base.specs.declared.types.Id.{Id}
use Rattle.kad_base.specs.declared.types.Addr.{Addr}
use Rattle.kad_base.specs.declared.types.Contact.{Contact}
use Rattle.kad_base.specs.declared.types.Proof.{Proof}
use Rattle.kad_base.specs.declared.types.Report.{Report}
use Rattle.kad_base.specs.declared.types.Policy.{Policy}
use Rattle.kad_base.specs.declared.types.Policy.TheVariants.{Plain, Puzzled}
use Rattle.kad_base.specs.Limits.{max_k}
use Rattle.kad_base.specs.Puzzles.{Passes}
use Rattle.kad_krpc.specs.declared.message.Ask.{Ask}
use Rattle.kad_krpc.specs.declared.message.Ask.TheVariants.{Ping, FindNode, GetPeers, AnnouncePeer, Get as GetItem, Put as PutItem, Other}
use Rattle.kad_krpc.specs.declared.message.Answer.{Answer}
use Rattle.kad_krpc.specs.declared.message.Message.{Message}
use Rattle.kad_krpc.specs.declared.message.Message.TheVariants as message
use Rattle.kad_krpc.specs.Records.{ip_bytes}
use Rattle.contact_table.specs.declared.calls.TableCall.{TableCall}
use Rattle.contact_table.specs.declared.calls.TableCall.TheVariants.{Closest, Vouchers}
use Rattle.contact_table.specs.declared.calls.TableReply.{TableReply}
use Rattle.contact_table.specs.declared.calls.TableReply.TheVariants.{List as List_reply, Reports as Reports_reply}
use Rattle.contact_table.specs.Told.{HasMemory}
use Rattle.node_tokens.specs.Tokens.{TokensState, epoch_at, token_of}
use Rattle.node_serve.specs.AnswerOf.{notify_by}
use Rattle.node_serve.specs.Replies.{of_ipv4, reports_of_ipv4, proved, where_some, point_for, peer_for, named, server_error, bad_token, no_mutable, too_big, method_unknown}
use Rattle.peer_store.specs.declared.calls.PeerCall.{PeerCall}
use Rattle.peer_store.specs.declared.calls.PeerCall.TheVariants.{List as List_call, Put}
use Rattle.peer_store.specs.declared.calls.PeerReply.{PeerReply}
use Rattle.peer_store.specs.declared.calls.PeerReply.TheVariants.{Listed, Crowded, Full, NoMemory}
use Rattle.item_store.specs.Items.{max_length}
use Rattle.item_store.specs.declared.calls.ItemCall.{ItemCall}
use Rattle.item_store.specs.declared.calls.ItemCall.TheVariants.{Get as Get_call, Put as Keep_call}
use Rattle.item_store.specs.declared.calls.ItemReply.{ItemReply}
use Rattle.item_store.specs.declared.calls.ItemReply.TheVariants.{Held as Held_reply, Crowded as Host_full, Full as No_room, NoMemory as No_item_memory}
use Rattle.node_serve.specs.declared.nodes.Near.{Near}
use Rattle.node_serve.specs.declared.nodes.Near.TheVariants as near
use Rattle.node_serve.specs.declared.setting.ServeSetting.{ServeSetting}

-- k is within its limits, and each proof passes
pub record IsSetting (s : ServeSetting) : Type 0 where
  pub some_nodes : 0 < s.k
  pub few_nodes : s.k ≤ max_k
  pub proofs : All (Passes s.policy) s.proofs

-- ---- calls, replies, and both

pub data Call : Type 0 where
  of_table : TableCall → Call
  of_peers : PeerCall → Call
  of_items : ItemCall → Call

pub data Reply : Type 0 where
  by_table : TableReply → Reply
  by_peers : PeerReply → Reply
  by_items : ItemReply → Reply

-- a call that was made, and its reply
pub data Did : Type 0 where
  on_table : TableCall → TableReply → Did
  on_peers : PeerCall → PeerReply → Did
  on_items : ItemCall → ItemReply → Did

abbrev pub call_of : Did → Call
call_of (on_table call reply) = of_table call
call_of (on_peers call reply) = of_peers call
call_of (on_items call reply) = of_items call

abbrev pub reply_of : Did → Reply
reply_of (on_table call reply) = by_table reply
reply_of (on_peers call reply) = by_peers reply
reply_of (on_items call reply) = by_items reply

-- there was memory for it
abbrev pub HasRoom : PeerReply → Type 0
HasRoom NoMemory = ⊥
HasRoom other = Unit {0}

abbrev pub HasItemRoom : ItemReply → Type 0
HasItemRoom No_item_memory = ⊥
HasItemRoom other = Unit {0}

abbrev pub HadMemory : Did → Type 0
HadMemory (on_table call reply) = HasMemory reply
HadMemory (on_peers call reply) = HasRoom reply
HadMemory (on_items call reply) = HasItemRoom reply

-- ---- which calls

-- the token is that of the address in the epoch of the moment, or in the one before it, where there is one
abbrev pub is_accepted : TokensState → List ℕ → ℕ → List ℕ → Bool
is_accepted t ip at token =
    bytes_eq token (token_of t.seed (epoch_at t at) ip)
    || (nat_lt 0 (epoch_at t at) && bytes_eq token (token_of t.seed (epoch_at t at - 1) ip))

-- what a put asks, by whether its token is accepted and whether it is mutable
abbrev pub put_calls : Bool → Bool → Addr → ℕ → List ℕ → List Call
put_calls true false from at v = cond (nat_le (length v) max_length) (of_items (Keep_call v from at) ∷ []) []
put_calls accepted mutable from at v = []

-- the call for the contacts closest to a target: where the node asks for puzzles, with the proofs that its table has of them
abbrev pub near_call : Policy → Id → ℕ → TableCall
near_call Plain target n = Closest target n
near_call (Puzzled c1 c2) target n = Vouchers target n

-- what a query asks
abbrev pub calls_for : ServeSetting → Addr → ℕ → Ask → List Call
calls_for s from at (Ping id) = []
calls_for s from at (FindNode id target want) = of_table (near_call s.policy target s.k) ∷ []
calls_for s from at (GetPeers id key want) = of_peers (List_call key at (point_for s.tokens from at key)) ∷ of_table (near_call s.policy key s.k) ∷ []
calls_for s from at (AnnouncePeer id key port token) =
    cond (is_accepted s.tokens (ip_bytes from.ip) at token) (of_peers (Put key (peer_for from port) at) ∷ []) []
calls_for s from at (GetItem id key want) = of_items (Get_call key at) ∷ of_table (near_call s.policy key s.k) ∷ []
calls_for s from at (PutItem id token v mutable) = put_calls (is_accepted s.tokens (ip_bytes from.ip) at token) mutable from at v
calls_for s from at (Other method) = []

-- what the table is told
abbrev pub calls_told : Option TableCall → List Call
calls_told None = []
calls_told (Some call) = of_table call ∷ []

-- the calls that a query makes, in order: what it asks, and then, where the table is told of the asker, that
abbrev pub calls_of : ServeSetting → Addr → ℕ → Bool → Option Proof → Ask → List Call
calls_of s from at read_only proof ask = calls_for s from at ask ++ calls_told (notify_by s.policy read_only proof ask from)

-- ---- the reply

-- the closest contacts, as a reply gives them: alone, or each with the proof that the table has of it
abbrev pub near_by : TableReply → Near
near_by (List_reply list) = near.Listed list
near_by (Reports_reply reports) = near.Reported reports
near_by other = near.Listed []

-- those that the first reply gives
abbrev pub near_in : List Reply → Near
near_in [] = near.Listed []
near_in (by_table reply ∷ rest) = near_by reply
near_in (by_peers reply ∷ rest) = near.Listed []
near_in (by_items reply ∷ rest) = near.Listed []

-- the nodes that a reply names of them: those of IPv4
abbrev pub nodes_near : Near → List Contact
nodes_near (near.Listed list) = of_ipv4 list
nodes_near (near.Reported reports) = map (λ r. r.contact) (reports_of_ipv4 reports)

-- and their proofs, where the table was asked for these: that of the node's own list first, else the table's
abbrev pub snodes_near : List Report → Near → Option (List Report)
snodes_near proofs (near.Listed list) = None
snodes_near proofs (near.Reported reports) = Some (proved proofs (reports_of_ipv4 reports))

-- the peers that the first reply lists
abbrev pub peers_by : PeerReply → List Addr
peers_by (Listed list) = list
peers_by other = []

abbrev pub peers_in : List Reply → List Addr
peers_in [] = []
peers_in (by_table reply ∷ rest) = []
peers_in (by_peers reply ∷ rest) = peers_by reply
peers_in (by_items reply ∷ rest) = []

-- the item that the first reply has
abbrev pub item_by : ItemReply → Option (List ℕ)
item_by (Held_reply v) = Some v
item_by other = None

abbrev pub item_in : List Reply → Option (List ℕ)
item_in [] = None
item_in (by_table reply ∷ rest) = None
item_in (by_peers reply ∷ rest) = None
item_in (by_items reply ∷ rest) = item_by reply

-- what the first reply says of a peer that was to be added
abbrev pub put_by : List ℕ → Id → PeerReply → Message
put_by tx own Crowded = server_error tx
put_by tx own Full = server_error tx
put_by tx own other = named tx own

abbrev pub put_in : List ℕ → Id → List Reply → Message
put_in tx own [] = named tx own
put_in tx own (by_table reply ∷ rest) = named tx own
put_in tx own (by_peers reply ∷ rest) = put_by tx own reply
put_in tx own (by_items reply ∷ rest) = named tx own

-- what the first reply says of an item that was to be kept
abbrev pub kept_by : List ℕ → Id → ItemReply → Message
kept_by tx own Host_full = server_error tx
kept_by tx own No_room = server_error tx
kept_by tx own other = named tx own

abbrev pub kept_in : List ℕ → Id → List Reply → Message
kept_in tx own [] = named tx own
kept_in tx own (by_table reply ∷ rest) = named tx own
kept_in tx own (by_peers reply ∷ rest) = named tx own
kept_in tx own (by_items reply ∷ rest) = kept_by tx own reply

-- the reply to a put, by whether its token is accepted and whether it is mutable
abbrev pub put_reply : Bool → Bool → List ℕ → Id → List ℕ → List Reply → Message
put_reply false mutable tx own v replies = bad_token tx
put_reply true true tx own v replies = no_mutable tx
put_reply true false tx own v replies = cond (nat_le (length v) max_length) (kept_in tx own replies) (too_big tx)

-- the nodes of a reply, from the closest contacts
abbrev pub found_from : List ℕ → ServeSetting → Near → Message
found_from tx s closest = message.Answer tx (record {
  id = s.own;
  nodes = Some (nodes_near closest);
  snodes = snodes_near s.proofs closest;
  nodes6 = None;
  snodes6 = None;
  token = None;
  v = None;
  values = None;
})

-- with a token for whoever asks, and a value or peers
abbrev pub tokened_from : ServeSetting → Addr → ℕ → Near → Option (List ℕ) → Option (List Addr) → Answer
tokened_from s from at closest v values = record {
  id = s.own;
  nodes = Some (nodes_near closest);
  snodes = snodes_near s.proofs closest;
  nodes6 = None;
  snodes6 = None;
  token = Some (token_of s.tokens.seed (epoch_at s.tokens at) (ip_bytes from.ip));
  v = v;
  values = values;
}

-- with the listed peers
abbrev pub peers_from : List ℕ → ServeSetting → Addr → ℕ → List Addr → Near → Message
peers_from tx s from at listed closest = message.Answer tx (tokened_from s from at closest None (where_some listed))

-- with the item, where there is one
abbrev pub item_from : List ℕ → ServeSetting → Addr → ℕ → Option (List ℕ) → Near → Message
item_from tx s from at v closest = message.Answer tx (tokened_from s from at closest v None)

-- the reply to a query, from the replies to its calls
abbrev pub answer_with : ServeSetting → Addr → ℕ → List ℕ → Ask → List Reply → Message
answer_with s from at tx (Ping id) replies = named tx s.own
answer_with s from at tx (FindNode id target want) replies = found_from tx s (near_in replies)
answer_with s from at tx (GetPeers id key want) replies = peers_from tx s from at (peers_in replies) (near_in (drop 1 replies))
answer_with s from at tx (AnnouncePeer id key port token) replies =
    cond (is_accepted s.tokens (ip_bytes from.ip) at token) (put_in tx s.own replies) (bad_token tx)
answer_with s from at tx (GetItem id key want) replies = item_from tx s from at (item_in replies) (near_in (drop 1 replies))
answer_with s from at tx (PutItem id token v mutable) replies = put_reply (is_accepted s.tokens (ip_bytes from.ip) at token) mutable tx s.own v replies
answer_with s from at tx (Other method) replies = method_unknown tx
