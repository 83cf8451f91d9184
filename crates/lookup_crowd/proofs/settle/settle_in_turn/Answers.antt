use Rattle.lookup_crowd.proofs.Settled.{settling_begins, settling_next, settling_can}
use Rattle.lookup_crowd.proofs.settle.settle_in_turn.Goals as goal

pub loop-i-init : goal.loop-i-init
loop-i-init g c = settling_begins c.args.seekers.now

pub settle_lookup-requires : goal.settle_lookup-requires
settle_lookup-requires g c = settling_can c.args.tables.now c.loop-i.i c.args.seekers.now c.loop-i.seekers c.index-seekers-i.result c.loop-i.invariant c.loop-i-test.true c.requires.can

pub loop-i-preserved : goal.loop-i-preserved
loop-i-preserved g c = settling_next c.loop-i.i c.args.seekers.now c.loop-i.seekers c.index-seekers-i.result c.settle_lookup.new.seeker c.loop-i.invariant c.loop-i-test.true c.settle_lookup.ensures
