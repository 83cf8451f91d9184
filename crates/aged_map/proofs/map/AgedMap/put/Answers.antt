use Rattle.std.proofs.Common.{◌≡◌, refl}
use Rattle.std.specs.BTreeMap.{is_at}
use Rattle.aged_map.proofs.Marking.{held_some, held_none}
use Rattle.aged_map.proofs.map.AgedMap.put.Goals as goal

pub returns-in-Some-clause-renewed : goal.returns-in-Some-clause-renewed
returns-in-Some-clause-renewed g c =
    (λ h. held_some (is_at (g.K.Ord.cmp c.args.key)) (λ v. g.V.Aged.moment v ≡ c.in-Some.last) c.args.self.now c.in-Some.ensures, λ h. refl)

pub returns-in-Ok-clause-renewed : goal.returns-in-Ok-clause-renewed
returns-in-Ok-clause-renewed g c =
    (λ h. absurd cc, λ h. absurd (held_none (is_at (g.K.Ord.cmp c.args.key)) c.args.self.now c.in-None.ensures h))

pub returns-in-Err-clause-renewed : goal.returns-in-Err-clause-renewed
returns-in-Err-clause-renewed g c =
    (λ h. absurd cc, λ h. absurd (held_none (is_at (g.K.Ord.cmp c.args.key)) c.args.self.now c.in-None.ensures h))
