use Rattle.std.proofs.Common.{◌<◌, get_or, length, subst, arith}
use Rattle.serve_batches.specs.Deeds.{IsTold}
use Rattle.serve_batches.proofs.Doing.{told_none, told_more}
use Rattle.serve_batches.proofs.crew.deal_shares.Goals as goal

pub loop-w-init : goal.loop-w-init
loop-w-init c = told_none c.args.place.now c.args.crew.now

pub loop-w-preserved : goal.loop-w-preserved
loop-w-preserved c =
    let len = c.loop-w.auto.crew in
    let test = c.loop-w-test.true in
    let lt : c.loop-w.w < length c.loop-w.crew = omega (arith, len, test) in
    told_more c.args.place.now c.args.crew.now c.loop-w.w c.loop-w.crew c.index-crew-w.result c.tell.new.self lt c.loop-w.invariant
    (subst (λ n. IsTold n (get_or c.loop-w.crew c.loop-w.w c.index-crew-w.result) c.tell.new.self) c.share_of.ensures c.tell.ensures)
