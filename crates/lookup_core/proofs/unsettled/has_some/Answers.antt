use Rattle.std.proofs.Common.{◌+◌, arith}
use Rattle.claim_book.specs.Calls.{path_of_role}
use Rattle.lookup_core.proofs.Settling.{pulled_some}
use Rattle.lookup_core.proofs.unsettled.has_some.Goals as goal
use Rattle.lookup_core.proofs.unsettled.has_some.Goals.{in-Idle, in_default}

pub returns-clause-some : goal.returns-clause-some
returns-clause-some c is = elim c.match-apply.branch [
  | in-Idle w ↦ (let r = w.result-is in absurd cc)
  | in_default w ↦ pulled_some c.args.book.now.journal c.args.path (path_of_role (c.args.path + 1)) c.apply.result (omega arith) w.in_default.not-Idle c.apply.ensures.step
]
