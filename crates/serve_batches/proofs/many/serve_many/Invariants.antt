use Rattle.std.specs.Prelude.{Some}
use Rattle.serve_batches.specs.Deeds.{known}
use Rattle.serve_batches.proofs.many.serve_many.Given as goal

abbrev pub ghosts-serve_helped : goal.ghosts-serve_helped
ghosts-serve_helped g a = record { known = Some (known (g.G.Seal.tag_of a.service.now.seal.now) a.setting a.service.now.turns.now) }
