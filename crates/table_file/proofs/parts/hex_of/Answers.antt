use Rattle.std.proofs.Common.{true≢false, sym, ◌∙◌}
use Rattle.table_file.proofs.PartSpelling.{lower_cases, lower_is, lower_utf8}
use Rattle.table_file.proofs.parts.hex_of.Goals as goal

pub returns-then-not-is_lower : goal.returns-then-not-is_lower
returns-then-not-is_lower g c = λ bytes s. true≢false (sym (c.is_lower.ensures.1 (lower_is _ _ bytes s)) ∙ c.if-not-is_lower.true)

pub returns-in_default : goal.returns-in_default
returns-in_default g c = λ bytes s. c.in_default.ensures.cases.0 (lower_utf8 _ _ bytes s)

pub returns : goal.returns
returns g c = lower_cases _ _ _ (c.is_lower.ensures.0 c.if-not-is_lower.false) (rw c.in-Ok.ensures.cases.0 at c.read_hex.ensures)
