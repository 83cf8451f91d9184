use Rattle.std.proofs.Common.{◌≡◌, [], ◌++◌, List, map, false}
use Rattle.std.specs.List.{All}
use Rattle.turn_book.specs.Turns.{PassState}
use Rattle.turn_book.specs.Rule.{view, part_of}
use Rattle.turn_book.proofs.seats.gather.Given as goal

abbrev pub invariant-loop-pass : goal.invariant-loop-pass
invariant-loop-pass g l =
    (done : List (PassState g.row.S-Call.Denot g.row.S-Reply.Denot)) × (l.fn.list.items ≡ l.list.items ++ done)
    × (l.all.me ≡ (view (map part_of done) false, []))
    × (l.all.table_id ≡ l.board.shared.table_id)
    × All (λ p. p.turn ≡ l.board.shared.table_id) l.list.items

abbrev pub decreases-loop-pass : goal.decreases-loop-pass
decreases-loop-pass g l = goal.left-loop-pass g l
