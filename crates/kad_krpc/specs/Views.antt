-- What a view of a message says, as the message that it would be in memory of its own.
use Rattle.std.specs.Prelude.{ℕ, ℤ, List, Option, Some, None, option_copied, Result, Ok, Err}
use Rattle.std.specs.Borrow.{Bor}
use Rattle.kad_bencode.specs.Parts.{member_of}
use Rattle.kad_bencode.specs.declared.value.Value.{Value}
use Rattle.kad_krpc.specs.declared.message.Message.{Message}
use Rattle.kad_krpc.specs.declared.message.Message.TheVariants as message
use Rattle.kad_krpc.specs.declared.message.KrpcFault.{KrpcFault}
use Rattle.kad_krpc.specs.declared.borrowed.View.{View}
use Rattle.kad_krpc.specs.declared.borrowed.View.TheVariants as view
use Rattle.kad_krpc.specs.declared.reader.Decoded.{Decoded}
use Rattle.kad_krpc.specs.Fields.{Step, Look}
pub use Rattle.kad_krpc.specs.Asking.{ask_seen, ask_outcome, proof_of}
pub use Rattle.kad_krpc.specs.Answering.{answer_seen, answered}

-- what a view says
abbrev pub message_seen : View → Message
message_seen (view.Query tx read_only arguments ask) = message.Query tx.now read_only (proof_of arguments) (ask_seen ask)
message_seen (view.Answer tx answer) = message.Answer tx.now (answer_seen answer)
message_seen (view.Fault tx code text) = message.Fault tx.now code text.now

-- the view, or the refusal
abbrev pub viewed : Result View KrpcFault → Step Message
viewed (Ok x) = Ok (message_seen x)
viewed (Err fault) = Err fault

-- what a value that was read says, or the refusal
abbrev pub decoded_view : Result Decoded KrpcFault → Step Message
decoded_view (Ok s) = Ok (message_seen s.view)
decoded_view (Err fault) = Err fault

-- ---- for the steps of the reading

-- the members of a value where it stands, or the refusal
abbrev pub looks : Result Value KrpcFault → Step Look
looks (Ok v) = Ok (member_of v)
looks (Err fault) = Err fault

-- a string that is lent
abbrev pub lent : Result (Bor (List ℕ)) KrpcFault → Step (List ℕ)
lent (Ok x) = Ok x.now
lent (Err fault) = Err fault

-- one that may be missing
abbrev pub lent_some : Result (Option (Bor (List ℕ))) KrpcFault → Step (Option (List ℕ))
lent_some (Ok o) = Ok (option_copied o)
lent_some (Err fault) = Err fault

-- a code with a text that is lent
abbrev pub lent_code : Option (ℤ × Bor (List ℕ)) → Option (ℤ × List ℕ)
lent_code None = None
lent_code (Some x) = Some (x.0, x.1.now)

-- the same, or the refusal
abbrev pub lent_error : Result (ℤ × Bor (List ℕ)) KrpcFault → Step (ℤ × List ℕ)
lent_error (Ok x) = Ok (x.0, x.1.now)
lent_error (Err fault) = Err fault
