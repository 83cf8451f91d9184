use Rattle.std.proofs.Common.{◌∙◌}
use Rattle.kad_words.proofs.Listing.{past, kind_here, kind_passed}
use Rattle.kad_words.proofs.grammar.kind_named.Goals as goal

pub returns-then-is_option : goal.returns-then-is_option
returns-then-is_option c = kind_here c.args.choices.now c.loop-choice.choice-index past c.args.word.now c.loop-choice-test.true (c.is_option.ensures.0 c.if-is_option.true) ∙ c.loop-choice.invariant

pub loop-choice-preserved : goal.loop-choice-preserved
loop-choice-preserved c = kind_passed c.args.choices.now c.loop-choice.choice-index past c.args.word.now c.loop-choice-test.true (λ e. cc (c.is_option.ensures.1 e)) ∙ c.loop-choice.invariant
