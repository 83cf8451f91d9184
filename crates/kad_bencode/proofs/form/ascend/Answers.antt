use Rattle.std.proofs.Common.{arith}
use Rattle.kad_bencode.proofs.Ascending.{few_ascend, first_seen, next_seen, all_seen}
use Rattle.kad_bencode.proofs.form.ascend.Goals as goal

pub returns-then-sizes-lt2 : goal.returns-then-sizes-lt2
returns-then-sizes-lt2 c ps a z e = few_ascend c.args.sizes.now ps z c.if-sizes-lt2.true

pub loop-i-init : goal.loop-i-init
loop-i-init c ps a z =
    first_seen c.args.sizes.now ps z c.args.pairs.now c.in-Some.key.now c.in-Some.field-0-1.now c.in-Some.others.now a (omega (arith, c.if-sizes-lt2.false)) c.in-Some.ensures

pub loop-i-preserved : goal.loop-i-preserved
loop-i-preserved c ps a z =
    next_seen c.args.sizes.now ps z c.loop-i.last.now c.loop-i.rest.now c.loop-i.i (c.loop-i.invariant ps a z) c.in-Some-cut_pair.key.now c.in-Some-cut_pair.field-0-1.now c.in-Some-cut_pair.others.now
    c.loop-i-test.true c.in-Some-cut_pair.ensures c.if-not-is_above.ensures

pub returns : goal.returns
returns c ps a z e = all_seen c.args.sizes.now ps z c.loop-i.last.now c.loop-i.rest.now c.loop-i.i (c.loop-i.invariant ps a z) c.loop-i-test.false
