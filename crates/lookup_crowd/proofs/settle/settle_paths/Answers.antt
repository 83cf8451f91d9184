use Rattle.std.proofs.Common.{arith}
use Rattle.lookup_crowd.proofs.Settling.{to_none, to_more, whole_of, some_then, can_still}
use Rattle.lookup_crowd.proofs.settle.settle_paths.Goals as goal

pub loop-path-init : goal.loop-path-init
loop-path-init g c = to_none c.args.seeker.now c.requires.holds

pub settle_path-requires-clause-can : goal.settle_path-requires-clause-can
settle_path-requires-clause-can g c = can_still c.args.tables.now c.args.seeker.now c.loop-path.seeker c.requires c.loop-path.invariant.some

pub loop-path-preserved : goal.loop-path-preserved
loop-path-preserved g c = to_more c.loop-path.path c.args.seeker.now c.loop-path.seeker c.settle_path.new.seeker c.loop-path.invariant c.in-Ok.ensures.ok c.in-Ok.ensures.none

pub returns-in-Err-clause-some : goal.returns-in-Err-clause-some
returns-in-Err-clause-some g c = some_then c.args.seeker.now c.loop-path.seeker c.settle_path.new.seeker c.loop-path.invariant.some c.in-Err.ensures.err

pub returns-clause-whole : goal.returns-clause-whole
returns-clause-whole g c = whole_of c.args.tables.now c.loop-path.path c.args.seeker.now c.loop-path.seeker c.requires (omega (arith, c.loop-path-test.false)) c.loop-path.invariant
