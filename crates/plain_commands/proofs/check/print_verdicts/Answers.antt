use Rattle.std.proofs.Common.{ap, length, ◌∙◌}
use Rattle.plain_commands.specs.Checked.{passed_text}
use Rattle.plain_commands.proofs.Verdicts.{verdict_more, verdicts_end}
use Rattle.plain_commands.proofs.check.print_verdicts.Goals as goal

pub loop-passes-preserved : goal.loop-passes-preserved
loop-passes-preserved c =
    verdict_more c.args.verdicts.now c.loop-passes.output c.add_line.new.output c.loop-passes.passes-index _ _ c.loop-passes-test.true c.loop-passes.invariant c.verdict.ensures c.in_ok-add_line.ensures

pub returns : goal.returns
returns c =
    verdicts_end c.args.verdicts.now c.loop-passes.output c.add_line-2.new.output _ c.loop-passes.passes-index c.loop-passes-test.false c.loop-passes.invariant
    (c.as_str.ensures.value ∙ c.in-Ok.ensures ∙ ap (λ n. passed_text n (length c.args.verdicts.now)) c.passed.ensures) c.in_ok-add_line-2.ensures
