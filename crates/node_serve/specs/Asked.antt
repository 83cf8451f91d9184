-- A query as the code has it.
use Rattle.std.specs.Prelude.{◌≡◌, ◌≤◌, false, ℕ, List, length}
use Rattle.kad_base.specs.declared.types.Addr.{Addr}
use Rattle.kad_base.specs.Limits.{max_answered_tx}
use Rattle.kad_krpc.specs.declared.message.Ask.{Ask}
use Rattle.kad_krpc.specs.declared.message.Message.{Message}
use Rattle.kad_krpc.specs.declared.message.Message.TheVariants.{Query}
use Rattle.kad_krpc.specs.Form.{is_mutable_ask, CarriesForm}
use Rattle.kad_krpc.specs.Records.{ip_bytes}
use Rattle.kad_krpc.specs.Asking.{proof_of}
use Rattle.kad_krpc.specs.Views.{ask_seen}
use Rattle.node_serve.specs.declared.asked.Asked.{Asked}
use Rattle.node_serve.specs.Queries.{IsQuery}

-- a query that puts an item which isn't mutable carries a value's written form (BEP 44 has a value of any kind, which a
-- datagram carries in its own)
abbrev pub IsSaid : Ask → Type 0
IsSaid ask = is_mutable_ask ask ≡ false → CarriesForm ask

-- the message is this query
pub record IsOf (from : Addr) (m : Message) (asked : Asked) : Type 0 where
  pub from_is : asked.from ≡ from
  pub ip : ip_bytes from.ip ≡ asked.ip
  pub message : m ≡ Query asked.tx.now asked.read_only (proof_of asked.arguments) (ask_seen asked.ask)
  pub short : length asked.tx.now ≤ max_answered_tx

-- the datagram is this query
pub record IsAsked (from : Addr) (bytes : List ℕ) (asked : Asked) : Type 0 where
  pub from_is : asked.from ≡ from
  pub ip : ip_bytes from.ip ≡ asked.ip
  pub query : IsQuery from bytes asked.tx.now asked.read_only (proof_of asked.arguments) (ask_seen asked.ask)
