use Rattle.std.proofs.Common.{◌≡◌, take, map}
use Rattle.claim_book.proofs.starting.nearest_lists.Given as goal

abbrev pub invariant-loop-path : goal.invariant-loop-path
invariant-loop-path l = l.lists.items ≡ map (λ x. take l.k x.near.items) (take l.path-index l.paths)
