use Rattle.std.proofs.Common.{◌≡◌, ◌∙◌, ap, rules, get_or}
use Rattle.clap.specs.Walk.{rule_of}
use Rattle.clap.specs.Simple.{with_rule}
use Rattle.clap.specs.Words.{app_of}
use Rattle.kad_words.specs.Taken.{rule}
use Rattle.kad_words.proofs.Parsing.{rule_more}
use Rattle.kad_words.proofs.Listing.{past}
use Rattle.kad_words.proofs.matched.command_of.Goals as goal

pub loop-choice-preserved : goal.loop-choice-preserved
loop-choice-preserved c =
    let is : rule_of c.long-arg.result ≡ rule (get_or c.args.choices.now c.loop-choice.choice-index past).name.now = search rules in
    c.in_ok-command.ensures.shape (search rules) ∙ ap (with_rule (app_of c.loop-choice.command)) is
    ∙ rule_more _ c.args.choices.now c.loop-choice.choice-index past c.loop-choice-test.true c.loop-choice.invariant
