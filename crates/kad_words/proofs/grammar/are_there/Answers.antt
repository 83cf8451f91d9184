use Rattle.std.proofs.Common.{map, string_bytes}
use Rattle.kad_words.specs.Plain.{pairs_of}
use Rattle.kad_words.proofs.Listing.{past, lacking, there_too}
use Rattle.kad_words.proofs.grammar.are_there.Goals as goal

pub returns-then-not-is_there : goal.returns-then-not-is_there
returns-then-not-is_there c = (
  λ t. cc t,
  λ h. absurd (lacking (pairs_of (map (λ w. string_bytes w) c.args.words.now)) c.args.choices.now c.loop-choice.choice-index past c.loop-choice-test.true
      (λ s. cc (c.is_there.ensures.1 (rw c.value_named.ensures s))) (c.loop-choice.invariant.1 h)),
)

pub loop-choice-preserved : goal.loop-choice-preserved
loop-choice-preserved c = there_too (pairs_of (map (λ w. string_bytes w) c.args.words.now)) _ c.args.choices.now c.loop-choice.choice-index past c.loop-choice-test.true
    (rw c.value_named.ensures at (c.is_there.ensures.0 c.if-not-is_there.false)) c.loop-choice.invariant
