use Rattle.serve_batches.proofs.Doing.{ToldFirst}
use Rattle.serve_batches.proofs.crew.deal_shares.Given as goal

abbrev pub invariant-loop-w : goal.invariant-loop-w
invariant-loop-w l = ToldFirst l.place l.fn.crew l.w l.crew
