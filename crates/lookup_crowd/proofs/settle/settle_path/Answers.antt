use Rattle.std.proofs.Common.{refl}
use Rattle.lookup_crowd.proofs.Settling.{on_none, on_then, some_then, can_still}
use Rattle.lookup_crowd.proofs.settle.settle_path.Goals as goal

pub loop-init : goal.loop-init
loop-init g c = on_none c.args.path c.args.seeker.now c.args.seeker.now c.requires.can.holds refl refl refl refl

pub settle_first-requires-clause-can : goal.settle_first-requires-clause-can
settle_first-requires-clause-can g c = can_still c.args.tables.now c.args.seeker.now c.loop.seeker c.requires.can c.loop.invariant.some

pub loop-preserved : goal.loop-preserved
loop-preserved g c = on_then c.args.path c.args.seeker.now c.loop.seeker c.settle_first.new.seeker c.loop.invariant c.in-Ok-true.ensures.ok

pub returns-in-Ok-false-clause-ok : goal.returns-in-Ok-false-clause-ok
returns-in-Ok-false-clause-ok g c = on_then c.args.path c.args.seeker.now c.loop.seeker c.settle_first.new.seeker c.loop.invariant c.in-Ok-false.ensures.ok

pub returns-in-Err-clause-err : goal.returns-in-Err-clause-err
returns-in-Err-clause-err g c = some_then c.args.seeker.now c.loop.seeker c.settle_first.new.seeker c.loop.invariant.some c.in-Err.ensures.err
