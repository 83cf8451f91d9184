use Rattle.std.proofs.Common.{refl}
use Rattle.table_file.proofs.PartSpelling.{lower_all}
use Rattle.table_file.proofs.parts.is_lower.Goals as goal

pub returns : goal.returns
returns c = (λ _. lower_all _ _ c.loop-byte-test.false c.loop-byte.invariant, λ _. refl)
