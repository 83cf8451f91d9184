-- The answer to a datagram: its reply, made from the state before it, and the state after it. The routing table is told of who
-- asks afterwards (Kademlia, 2002, section 2.2), but not of who is read-only (BEP 43); where the node asks for puzzles, only of
-- whoever brings a proof that solves them (S/Kademlia, 2007, section 4.1). That a query brings one is this project's own.
use Rattle.std.specs.Prelude.{◌≡◌, ◌≢◌, ℕ, Bool, true, false, cond, List, Option, Some, None}
use Rattle.kad_base.specs.declared.types.Id.{Id}
use Rattle.kad_base.specs.declared.types.Addr.{Addr}
use Rattle.kad_base.specs.declared.types.Contact.{Contact}
use Rattle.kad_base.specs.declared.types.Proof.{Proof}
use Rattle.kad_base.specs.declared.types.Policy.{Policy}
use Rattle.kad_base.specs.declared.types.Policy.TheVariants.{Plain, Puzzled}
use Rattle.kad_base.specs.Puzzles.{Solves}
use Rattle.kad_krpc.specs.declared.message.Ask.{Ask}
use Rattle.kad_krpc.specs.declared.message.Ask.TheVariants.{Ping, FindNode, GetPeers, AnnouncePeer, Get as GetItem, Put as PutItem, Other}
use Rattle.kad_krpc.specs.declared.message.Message.{Message}
use Rattle.kad_krpc.specs.Records.{ip_bytes}
use Rattle.contact_table.specs.declared.calls.TableCall.{TableCall}
use Rattle.contact_table.specs.declared.calls.TableCall.TheVariants.{Seen, Vouched}
use Rattle.contact_table.specs.declared.calls.TableReply.{TableReply}
use Rattle.contact_table.specs.declared.calls.TableReply.TheVariants.{NoMemory}
use Rattle.contact_table.specs.TableState.{TableState}
use Rattle.contact_table.specs.TableStep.{TableStep, table_after}
use Rattle.peer_store.specs.Peers.{purged}
use Rattle.item_store.specs.Items.{purged as purged_items}
use Rattle.node_tokens.specs.Tokens.{IsAccepted}
use Rattle.node_serve.specs.declared.node.Answered.{Answered}
use Rattle.node_serve.specs.declared.node.Answered.TheVariants as answered
use Rattle.node_serve.specs.NodeState.{NodeState, Stores, stores_of, with_parts}
use Rattle.node_serve.specs.Queries.{IsQuery}
use Rattle.node_serve.specs.Replies.{IsTaken, RepliesWith, with_peers, with_items}
use Rattle.node_serve.specs.Sealing.{Tags, sent_form}
use Rattle.node_serve.specs.Vouching.{solves_both}

-- ---- what the table is told

abbrev pub asker_of : Ask → Option Id
asker_of (Ping id) = Some id
asker_of (FindNode id target want) = Some id
asker_of (GetPeers id key want) = Some id
asker_of (AnnouncePeer id key port token) = Some id
asker_of (GetItem id target want) = None
asker_of (PutItem id token v mutable) = None
asker_of (Other method) = None

abbrev pub contact_at : Addr → Option Id → Option Contact
contact_at from None = None
contact_at from (Some id) = Some (record { id = id; addr = from })

-- the asker, unless it is read-only
abbrev pub asker_at : Bool → Ask → Addr → Option Contact
asker_at false ask from = contact_at from (asker_of ask)
asker_at true ask from = None

-- the call that tells of a contact and of its proof, where there is one and it solves both puzzles
abbrev pub vouched_by : ℕ → ℕ → Contact → Option Proof → Option TableCall
vouched_by c1 c2 c None = None
vouched_by c1 c2 c (Some proof) = cond (solves_both c1 c2 c.id.0 proof) (Some (Vouched c proof)) None

-- the call that tells of an asker, by what the node asks for and by what its query brought
abbrev pub told_by : Policy → Option Proof → Option Contact → Option TableCall
told_by policy proof None = None
told_by Plain proof (Some c) = Some (Seen c)
told_by (Puzzled c1 c2) proof (Some c) = vouched_by c1 c2 c proof

-- the call that tells the table who asked, where it is told
abbrev pub notify_by : Policy → Bool → Option Proof → Ask → Addr → Option TableCall
notify_by policy read_only proof ask from = told_by policy proof (asker_at read_only ask from)

-- where puzzles are asked for: the query is none of a read-only node, its method is one of BEP 5, it brings a proof that solves
-- both puzzles for the identifier that it names, and the call tells of that identifier, at the address that asks, and of that
-- proof
pub record IsVouchedFor (c1 c2 : ℕ) (read_only : Bool) (proof : Option Proof) (ask : Ask) (from : Addr) (call : TableCall) : Type 0 where
  pub id : Id
  pub shown : Proof
  pub in_service : read_only ≡ false
  pub asks : asker_of ask ≡ Some id
  pub brings : proof ≡ Some shown
  pub solves : Solves c1 c2 id.0 shown
  pub tells : call ≡ Vouched (record { id = id; addr = from }) shown

-- the call was made on the table, which had the memory for it
pub record IsMade (call : TableCall) (before after : TableState) : Type 0 where
  pub reply : TableReply
  pub step : TableStep before 0 call reply
  pub kept : reply ≢ NoMemory
  pub leaves : after ≡ table_after before 0 call reply

-- the table was told that the contact was seen, and had the memory for it
abbrev pub IsSeen : Contact → TableState → TableState → Type 0
IsSeen c before after = IsMade (Seen c) before after

abbrev pub IsTold : Option TableCall → TableState → TableState → Type 0
IsTold None before after = after ≡ before
IsTold (Some call) before after = IsMade call before after

-- ---- the answer

-- the datagram is a query, this is its reply, and this the node after it
pub record AnswerOf (s : NodeState) (from : Addr) (bytes : List ℕ) (at : ℕ) (reply : Message) (next : NodeState) : Type 0 where
  pub tx : List ℕ
  pub read_only : Bool
  pub proof : Option Proof
  pub ask : Ask
  pub query : IsQuery from bytes tx read_only proof ask
  pub replies : RepliesWith s from at tx ask (record { message = reply; stores = stores_of next })
  pub told : IsTold (notify_by s.policy read_only proof ask from) s.table next.table
  pub rest : next ≡ with_parts s next.table (stores_of next)

-- the text is what the node sends for the reply, with its tag where it is sealed
pub record Answers (tag_of : Tags) (s : NodeState) (from : Addr) (bytes : List ℕ) (at : ℕ) (text : List ℕ) (next : NodeState) : Type 0 where
  pub reply : Message
  pub answer : AnswerOf s from bytes at reply next
  pub written : text ≡ sent_form tag_of s.sealed s.own reply

-- ---- want of memory

-- an announcement whose token is accepted
abbrev pub IsTokenAccepted : NodeState → Addr → ℕ → Ask → Type 0
IsTokenAccepted s from at (AnnouncePeer id key port token) = IsAccepted s.tokens (ip_bytes from.ip) at token
IsTokenAccepted s from at other = ⊥

-- a put that isn't refused
abbrev pub IsPutTaken : NodeState → Addr → ℕ → Ask → Type 0
IsPutTaken s from at (PutItem id token v mutable) = IsTaken s from at token v mutable
IsPutTaken s from at other = ⊥

-- what it may leave of what is kept: all; what a purge leaves of the peers, where a peer was to be added, or of the items,
-- where an item was; or that of the whole answer, where only the table had no memory for the asker
pub data LeavesStores (s : NodeState) (from : Addr) (at : ℕ) (tx : List ℕ) (ask : Ask) (told : Option TableCall) (stores : Stores) : Type 0 where
  all : stores ≡ stores_of s → LeavesStores s from at tx ask told stores
  peers_purged : IsTokenAccepted s from at ask → stores ≡ with_peers s (purged s.peers at) → LeavesStores s from at tx ask told stores
  items_purged : IsPutTaken s from at ask → stores ≡ with_items s (purged_items s.items at) → LeavesStores s from at tx ask told stores
  whole : (reply : Message) → told ≢ None → RepliesWith s from at tx ask (record { message = reply; stores = stores }) → LeavesStores s from at tx ask told stores

-- the datagram is a query whose answer found no memory: the table is as it was
pub record EndsEarly (s : NodeState) (from : Addr) (bytes : List ℕ) (at : ℕ) (next : NodeState) : Type 0 where
  pub tx : List ℕ
  pub read_only : Bool
  pub proof : Option Proof
  pub ask : Ask
  pub query : IsQuery from bytes tx read_only proof ask
  pub stores : LeavesStores s from at tx ask (notify_by s.policy read_only proof ask from) (stores_of next)
  pub rest : next ≡ with_parts s s.table (stores_of next)

-- ---- by what was answered

abbrev pub IfReply : Answered → (ℕ → Type 0) → Type 0
IfReply (answered.Reply n) P = P n
IfReply answered.Silent P = Unit {0}
IfReply answered.NoMemory P = Unit {0}
