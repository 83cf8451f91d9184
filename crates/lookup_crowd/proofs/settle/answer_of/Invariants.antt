use Rattle.std.proofs.Common.{take, All}
use Rattle.std.specs.Prelude.{IsOk}
use Rattle.lookup_crowd.proofs.settle.answer_of.Given as goal

abbrev pub invariant-loop-seeker : goal.invariant-loop-seeker
invariant-loop-seeker l = All (λ k. IsOk k.settled) (take l.seeker-index l.seekers)
