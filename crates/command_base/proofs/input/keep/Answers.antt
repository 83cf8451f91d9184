use Rattle.std.proofs.Common.{◌≡◌, true, inr, refl}
use Rattle.command_base.proofs.input.keep.Goals as goal

pub returns : goal.returns
returns g c = inr ((λ ok. let t : c.is_kept.result ≡ true = c.is_kept.ensures.1 ok in absurd cc), refl)
