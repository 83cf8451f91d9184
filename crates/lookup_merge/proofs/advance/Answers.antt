use Rattle.std.proofs.Common.{length-set, ◌∙◌}
use Rattle.kad_distance.specs.Order.{closeness}
use Rattle.lookup_merge.proofs.Merged.{advance_more}
use Rattle.lookup_merge.proofs.advance.Goals as goal

pub loop-i-preserved : goal.loop-i-preserved
loop-i-preserved c = record {
  same = length-set c.loop-i.places c.loop-i.i c.passed.result ∙ c.loop-i.invariant.same;
  passed = advance_more (closeness c.args.target.now) c.args.contact.now c.args.lists.now _ c.loop-i.places c.loop-i.i c.passed.result c.index-lists-i.result c.loop-i-test.true c.loop-i.invariant.same c.index-lists-i.is c.passed.ensures c.loop-i.invariant.passed;
}
