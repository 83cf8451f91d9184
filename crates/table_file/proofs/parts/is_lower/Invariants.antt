use Rattle.std.proofs.Common.{◌≡◌, take}
use Rattle.std.specs.Str.{str_to_ascii_lowercase}
use Rattle.table_file.proofs.parts.is_lower.Given as goal

abbrev pub invariant-loop-byte : goal.invariant-loop-byte
invariant-loop-byte l = str_to_ascii_lowercase (take l.byte-index l.text) ≡ take l.byte-index l.text
