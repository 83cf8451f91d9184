use Rattle.std.proofs.Common.{sym, ◌∙◌}
use Rattle.follow_ups.proofs.Announcing.{place_is, none_more, none_first}
use Rattle.follow_ups.proofs.announce.place_from.Goals as goal

pub returns-then-is_from : goal.returns-then-is_from
returns-then-is_from c =
    place_is c.args.tokens.now c.args.contact.now c.loop-place.place c.index-tokens-place.result c.loop-place-test.true c.index-tokens-place.is c.loop-place.invariant.none (sym c.is_from.ensures ∙ c.if-is_from.true)

pub loop-place-preserved : goal.loop-place-preserved
loop-place-preserved c = record {
  none = none_more c.args.tokens.now c.args.contact.now c.loop-place.place c.index-tokens-place.result c.loop-place-test.true c.index-tokens-place.is c.loop-place.invariant.none (sym c.is_from.ensures ∙ c.if-is_from.false);
}

pub returns : goal.returns
returns c = none_first c.args.tokens.now c.args.contact.now c.loop-place.place c.loop-place-test.false c.loop-place.invariant.none
