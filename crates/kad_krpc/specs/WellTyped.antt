-- What the types of a message keep of their arrays and numbers, for laws that speak of every message.
use Rattle.std.specs.Prelude.{◌≡◌, true}
use Rattle.kad_bencode.specs.Spelling.{is_i64}
use Rattle.kad_krpc.specs.declared.message.Message.{Message}
use Rattle.kad_krpc.specs.declared.message.Message.TheVariants as message
pub use Rattle.kad_records.specs.Records.{IsWellProof}
pub use Rattle.kad_krpc.specs.Asking.{IsWellAsk}
pub use Rattle.kad_krpc.specs.Answering.{IsWellAnswer}

-- each part of a message; the code of an error message is an integer of 64 bits with a sign
abbrev pub IsWell : Message → Type 0
IsWell (message.Query tx read_only proof ask) = IsWellProof proof × IsWellAsk ask
IsWell (message.Answer tx answer) = IsWellAnswer answer
IsWell (message.Fault tx code text) = is_i64 code ≡ true
