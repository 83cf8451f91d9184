use Rattle.std.proofs.Common.{◌<◌, length, rules}
use Rattle.serve_batches.proofs.Listing.{begun_none, begun_more}
use Rattle.serve_batches.proofs.shift.answer_all.Goals as goal

pub loop-slot-init : goal.loop-slot-init
loop-slot-init g c = begun_none (g.G.Seal.tag_of c.args.seal.now) c.args.desk.now.setting.now c.args.worker.now c.args.slots.now

pub loop-slot-preserved : goal.loop-slot-preserved
loop-slot-preserved g c =
    let lt : c.loop-slot.slot-index < length c.loop-slot.slots = search rules in
    begun_more (g.G.Seal.tag_of c.args.seal.now) c.args.desk.now.setting.now c.args.worker.now c.loop-slot.worker c.answer.new.worker c.args.slots.now c.loop-slot.slots c.loop-slot.slot-index c.slot-item.result c.answer.new.self c.loop-slot.invariant lt c.answer.ensures.same c.answer.ensures.answers
