use Rattle.std.proofs.Common.{◌≡◌, take}
use Rattle.std.specs.Prelude.{flat_map}
use Rattle.plain_commands.specs.Checked.{verdict_text}
use Rattle.command_base.specs.Printed.{line_of}
use Rattle.plain_commands.proofs.check.print_verdicts.Given as goal

abbrev pub invariant-loop-passes : goal.invariant-loop-passes
invariant-loop-passes l = l.output ≡ flat_map (λ verdict. line_of (verdict_text verdict)) (take l.passes-index l.verdicts)
