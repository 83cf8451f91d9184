use Rattle.serve_batches.proofs.Listing.{Begun}
use Rattle.serve_batches.proofs.shift.answer_all.Given as goal

abbrev pub invariant-loop-slot : goal.invariant-loop-slot
invariant-loop-slot g l = Begun (g.G.Seal.tag_of l.seal) l.desk.setting.now l.fn.worker l.worker l.fn.slots l.slots l.slot-index
