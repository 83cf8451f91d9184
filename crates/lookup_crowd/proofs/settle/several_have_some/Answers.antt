use Rattle.std.proofs.Common.{refl, subst}
use Rattle.lookup_crowd.proofs.Unsettled.{AtMostOne, still_same, idle_next, busy_next}
use Rattle.lookup_crowd.proofs.settle.several_have_some.Goals as goal

pub loop-i-preserved-then-not-has_some : goal.loop-i-preserved-then-not-has_some
loop-i-preserved-then-not-has_some c = record {
  same = still_same c.args.seekers.now c.loop-i.seekers c.loop-i.i c.index-seekers-i.result c.has_some.new.seeker c.loop-i.invariant.same c.has_some.ensures.same;
  so_far = idle_next c.loop-i.some c.loop-i.i c.args.seekers.now c.loop-i.seekers c.index-seekers-i.result c.loop-i.invariant.same c.loop-i.invariant.so_far (c.if-not-has_some.ensures.nothing refl);
}

pub loop-i-preserved : goal.loop-i-preserved
loop-i-preserved c = record {
  same = still_same c.args.seekers.now c.loop-i.seekers c.loop-i.i c.index-seekers-i.result c.has_some.new.seeker c.loop-i.invariant.same c.has_some.ensures.same;
  so_far = busy_next c.loop-i.i c.args.seekers.now c.loop-i.seekers c.index-seekers-i.result c.loop-i.invariant.same c.loop-i-test.true (subst (λ b. AtMostOne b c.loop-i.i c.args.seekers.now) c.if-some.false c.loop-i.invariant.so_far) (c.if-not-has_some.ensures.some refl);
}
