use Rattle.std.proofs.Common.{true≢false, sym, ◌∙◌}
use Rattle.table_file.proofs.PartSpelling.{addr_cases, addr_is, addr_utf8}
use Rattle.table_file.proofs.parts.addr_of.Goals as goal

pub returns-then-not-is_lower : goal.returns-then-not-is_lower
returns-then-not-is_lower c = λ addr s. true≢false (sym (c.is_lower.ensures.1 (addr_is _ addr s)) ∙ c.if-not-is_lower.true)

pub returns-in_default : goal.returns-in_default
returns-in_default c = λ addr s. c.in_default.ensures.cases.0 (addr_utf8 _ addr s)

pub returns : goal.returns
returns c = addr_cases _ _ (c.is_lower.ensures.0 c.if-not-is_lower.false) (rw c.in-Ok.ensures.cases.0 at c.read_addr.ensures)
