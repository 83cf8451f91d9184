-- What became of a datagram, in terms of the calls that were made for it.
use Rattle.std.specs.Prelude.{◌≡◌, ℕ, ◌≤◌, Bool, List, [], ◌++◌, map, take, Option}
use Rattle.std.specs.List.{All}
use Rattle.kad_base.specs.declared.types.Addr.{Addr}
use Rattle.kad_base.specs.declared.types.Proof.{Proof}
use Rattle.kad_krpc.specs.declared.message.Ask.{Ask}
use Rattle.node_serve.specs.Calls.{Call, Did, HadMemory, call_of, reply_of, calls_of, answer_with}
use Rattle.node_serve.specs.Queries.{IsQuery, IsSilent}
use Rattle.node_serve.specs.Sealing.{Tags, sent_form}
use Rattle.node_serve.specs.declared.node.Answered.{Answered}
use Rattle.node_serve.specs.declared.node.Answered.TheVariants.{Reply as Reply_owed, Silent, NoMemory}
use Rattle.node_serve.specs.declared.setting.ServeSetting.{ServeSetting}

-- the datagram is a query, these are its calls, and the text is what is sent for the reply that their replies give: with
-- its tag where the setting is sealed
pub record IsReply (tag_of : Tags) (s : ServeSetting) (from : Addr) (bytes : List ℕ) (at : ℕ) (text : List ℕ) (did : List Did) : Type 0 where
  pub tx : List ℕ
  pub read_only : Bool
  pub proof : Option Proof
  pub ask : Ask
  pub query : IsQuery from bytes tx read_only proof ask
  pub calls : map call_of did ≡ calls_of s from at read_only proof ask
  pub memory : All HadMemory did
  pub written : text ≡ sent_form tag_of s.sealed s.own (answer_with s from at tx ask (map reply_of did))

-- the datagram is a query, and these are the first of its calls: there was no memory to go on
pub record IsStopped (s : ServeSetting) (from : Addr) (bytes : List ℕ) (at : ℕ) (did : List Did) : Type 0 where
  pub tx : List ℕ
  pub read_only : Bool
  pub proof : Option Proof
  pub ask : Ask
  pub query : IsQuery from bytes tx read_only proof ask
  pub left : List Call
  pub calls : map call_of did ++ left ≡ calls_of s from at read_only proof ask

-- by what was answered: the first bytes of what was written are the reply, or none is owed and no call was made
abbrev pub IsAnswered : Tags → ServeSetting → Addr → List ℕ → ℕ → Answered → List ℕ → List Did → Type 0
IsAnswered tag_of s from bytes at (Reply_owed n) out did = (n ≤ 4096) × IsReply tag_of s from bytes at (take n out) did
IsAnswered tag_of s from bytes at Silent out did = IsSilent from bytes × (did ≡ [])
IsAnswered tag_of s from bytes at NoMemory out did = IsStopped s from bytes at did
