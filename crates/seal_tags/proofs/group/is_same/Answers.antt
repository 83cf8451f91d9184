use Rattle.std.proofs.Common.{◌≡◌, length, arith}
use Rattle.seal_tags.proofs.Comparing.{same_more, same_all}
use Rattle.seal_tags.proofs.group.is_same.Goals as goal

pub loop-i-preserved : goal.loop-i-preserved
loop-i-preserved c = same_more c.args.theirs.now c.args.ours.now c.loop-i.i c.loop-i.differing c.loop-i.invariant

pub returns : goal.returns
returns c =
    let i = c.loop-i.i in
    let theirs : length c.args.theirs.now ≡ i = omega (arith, c.requires, c.loop-i-test.false, c.loop-i.auto.i-end) in
    let ours : length c.args.ours.now ≡ i = omega (arith, c.told-ours, c.loop-i-test.false, c.loop-i.auto.i-end) in
    same_all c.args.theirs.now c.args.ours.now i c.loop-i.differing theirs ours c.loop-i.invariant
