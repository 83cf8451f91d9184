use Rattle.std.proofs.Common.{ℕ, List, take}
use Rattle.std.specs.List.{AllByRecursion}
use Rattle.lookup_core.specs.Says.{IsRead}
use Rattle.lookup_crowd.specs.inner.ManySteps.{IsNotFor}
use Rattle.lookup_crowd.proofs.take.first_that_waits.Given as goal

abbrev pub invariant-loop-i : goal.invariant-loop-i
invariant-loop-i g l = (bytes : List ℕ) → IsRead bytes l.said → AllByRecursion (λ k. IsNotFor (g.G.SealCheck.accepted l.seal) l.from bytes k) (take l.i l.seekers)
