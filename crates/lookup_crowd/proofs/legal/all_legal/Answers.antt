use Rattle.lookup_crowd.specs.inner.Crowd.{IsLegal}
use Rattle.lookup_crowd.proofs.Lists.{all_more, all_taken}
use Rattle.lookup_crowd.proofs.legal.all_legal.Goals as goal

pub loop-i-preserved : goal.loop-i-preserved
loop-i-preserved c = all_more IsLegal c.loop-i.i c.args.seekers.now c.index-seekers-i.result c.loop-i-test.true c.loop-i.invariant c.legal.ensures

pub returns : goal.returns
returns c = all_taken IsLegal c.loop-i.i c.args.seekers.now c.loop-i-test.false c.loop-i.invariant
