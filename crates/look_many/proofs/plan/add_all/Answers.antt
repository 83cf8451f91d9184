use Rattle.std.proofs.Common.{◌++◌, map, ap}
use Rattle.look_many.specs.Planned.{by}
use Rattle.look_many.proofs.Planning.{adds_next}
use Rattle.look_many.proofs.plan.add_all.Goals as goal

pub loop-announcement-init : goal.loop-announcement-init
loop-announcement-init c = record { all = ap (λ l. c.args.plan.now ++ map (by c.args.owner) l) c.last_first-left.ensures }

pub loop-announcement-preserved : goal.loop-announcement-preserved
loop-announcement-preserved c =
    record { all = adds_next c.args.owner c.loop-announcement.plan c.push.new.self c.loop-announcement.left.items c.pop.new.self.items c.in-Some.announcement _ c.loop-announcement.invariant.all c.in-Some.ensures.items c.in-Ok.ensures.ok }
