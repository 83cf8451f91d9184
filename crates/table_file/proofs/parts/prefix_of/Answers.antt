use Rattle.std.proofs.Common.{true≢false, sym, ◌∙◌}
use Rattle.table_file.proofs.PartSpelling.{prefix_cases}
use Rattle.table_file.proofs.parts.prefix_of.Goals as goal

pub returns : goal.returns
returns c = prefix_cases _ _ (λ e. true≢false (sym (c.is_same.ensures.1 e) ∙ c.if-is_same.false)) c.if-is_empty.ensures c.if-text-gt160.false c.bits_of.ensures
