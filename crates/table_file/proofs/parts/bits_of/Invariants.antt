use Rattle.std.proofs.Common.{◌≡◌, map, take}
use Rattle.table_file.specs.SavedText.{bit_text}
use Rattle.table_file.proofs.parts.bits_of.Given as goal

abbrev pub invariant-loop-byte : goal.invariant-loop-byte
invariant-loop-byte l = take l.byte-index l.text ≡ map bit_text l.prefix
