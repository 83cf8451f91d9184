use Rattle.std.proofs.Common.{rules, ◌≡◌, ◌∙◌, [], ◌∷◌, ◌++◌}
use Rattle.look_many.proofs.Seating.{finishing_first, finishing_next, sent_next}
use Rattle.look_many.proofs.finish.finish_all.Goals as goal

pub finish-requires : goal.finish-requires
finish-requires c = finishing_first c.args.all.items c.loop-done.all.items c.pop.new.self.items c.in-Some.done c.loop-done.ones c.loop-done.invariant.found c.in-Some.ensures.items

pub loop-done-preserved : goal.loop-done-preserved
loop-done-preserved c =
    let is : c.push.new.self ≡ c.loop-done.ones ++ c.in-Ok.one ∷ [] = search rules in
    record {
      found = finishing_next c.args.all.items c.loop-done.all.items c.pop.new.self.items c.in-Some.done c.loop-done.ones c.push.new.self c.in-Ok.one c.loop-done.invariant.found c.in-Some.ensures.items c.in-Ok.ensures.found is;
      sent = sent_next c.args.said.now c.loop-done.ones c.push.new.self c.in-Ok.one _ c.loop-done.invariant.sent (c.in-Ok.ensures.sent ∙ c.count_of-sent.ensures) c.len.ensures is;
    }
