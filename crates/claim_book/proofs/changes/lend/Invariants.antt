use Rattle.std.proofs.Common.{◌≡◌, ◌<◌, ◌≤◌, length, get_or, ℕ}
use Rattle.claim_book.specs.declared.path.Path.{Path}
use Rattle.claim_book.specs.Index.{Lent}
use Rattle.claim_book.proofs.changes.lend.Given as goal

abbrev pub invariant-loop-path : goal.invariant-loop-path
invariant-loop-path l = record {
  len : length l.paths.items ≡ length l.fn.paths.items;
  done : (p : ℕ) (d : Path) → p < l.path → Lent l.claims l.asker l.contact p (get_or l.fn.paths.items p d) (get_or l.paths.items p d);
  rest : (p : ℕ) (d : Path) → l.path ≤ p → get_or l.paths.items p d ≡ get_or l.fn.paths.items p d;
}
