use Rattle.std.proofs.Common.{refl}
use Rattle.lookup_run.proofs.Settled.{settles_path}
use Rattle.lookup_run.proofs.settle.settle_path.Goals as goal

pub returns-clause-ok : goal.returns-clause-ok
returns-clause-ok g c scheduling told = settles_path scheduling _ _ _ _ told c.requires.keeps c.requires.round_over c.requires.settled c.in_ok-settle_alone.ensures.ok.settling c.in_ok-settle_alone.ensures.ok.none_left refl refl refl
