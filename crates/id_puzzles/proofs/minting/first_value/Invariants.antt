use Rattle.id_puzzles.specs.Minting.{HasNoFirstValue}
use Rattle.id_puzzles.proofs.minting.first_value.Given as goal

abbrev pub invariant-loop-n : goal.invariant-loop-n
invariant-loop-n l = HasNoFirstValue l.id l.bits l.n
