-- The last call of a source, a sink or a link is one that failed.
use Rattle.std.specs.Prelude.{◌≡◌, ℕ, List, Option, Some, IfSome}
use Rattle.kad_base.specs.Outside.{Rose}

-- Until some state of it none had failed, and from there a call that failed led to its end. Where it tells what it holds, nothing
-- was read, written, received or sent from there on.
pub record FailsLast {X A : Type 0} (told : X → Option (List A)) (faults : X → ℕ) (old new : X) : Type 0 where
  pub at : X
  pub well : faults at ≡ faults old
  pub failed : Rose (faults at) (faults new)
  pub nothing_more : IfSome (told new) (λ held. told at ≡ Some held)
