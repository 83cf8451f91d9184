-- Which datagrams a node answers: queries (BEP 5). The limits are this project's own, and so is that a query may bring its
-- sender's proof.
use Rattle.std.specs.Prelude.{◌≡◌, ◌≢◌, ℕ, ◌<◌, ◌≤◌, Bool, List, length, Option}
use Rattle.kad_base.specs.declared.types.Addr.{Addr}
use Rattle.kad_base.specs.declared.types.Proof.{Proof}
use Rattle.kad_base.specs.Limits.{max_datagram, max_answered_tx}
use Rattle.kad_krpc.specs.declared.message.Ask.{Ask}
use Rattle.kad_krpc.specs.declared.message.KrpcFault.{KrpcFault}
use Rattle.kad_krpc.specs.declared.message.Message.{Message}
use Rattle.kad_krpc.specs.declared.message.Message.TheVariants.{Query, Answer, Fault}
use Rattle.kad_krpc.specs.Form.{IsV4}
use Rattle.kad_krpc.specs.Reading.{Says, Refuses}

-- a datagram of at most 4,096 bytes from an IPv4 address with a port that says a query, whose transaction id has at most
-- 32 bytes
pub record IsQuery (from : Addr) (bytes tx : List ℕ) (read_only : Bool) (proof : Option Proof) (ask : Ask) : Type 0 where
  pub short : length bytes ≤ max_datagram
  pub port : from.port ≢ 0
  pub family : IsV4 from.ip
  pub says : Says bytes (Query tx read_only proof ask)
  pub short_tx : length tx ≤ max_answered_tx

-- a message that nobody is owed a reply to: an answer, an error message, or a query whose transaction id is longer
abbrev pub IsNotAnswered : Message → Type 0
IsNotAnswered (Query tx read_only proof ask) = max_answered_tx < length tx
IsNotAnswered (Answer tx answer) = Unit {0}
IsNotAnswered (Fault tx code text) = Unit {0}

-- why a datagram is not answered
pub data IsSilent (from : Addr) (bytes : List ℕ) : Type 0 where
  long : max_datagram < length bytes → IsSilent from bytes
  no_port : from.port ≡ 0 → IsSilent from bytes
  other_family : ¬ IsV4 from.ip → IsSilent from bytes
  unread : (fault : KrpcFault) → Refuses bytes fault → IsSilent from bytes
  not_answered : (m : Message) → Says bytes m → IsNotAnswered m → IsSilent from bytes
