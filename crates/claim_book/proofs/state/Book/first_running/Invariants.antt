use Rattle.std.proofs.Common.{ℕ, ◌<◌}
use Rattle.claim_book.specs.RunOut.{RunOut}
use Rattle.claim_book.proofs.state.Book.first_running.Given as goal

abbrev pub invariant-loop-path : goal.invariant-loop-path
invariant-loop-path l = (p : ℕ) → p < l.path → RunOut l.self.setting p l.self.journal
