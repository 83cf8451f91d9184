use Rattle.std.proofs.Common.{ap, ◌∙◌, sym, ◌++◌, ◌∷◌, []}
use Rattle.kad_records.proofs.Places.{one_longer}
use Rattle.kad_records.proofs.records.Records.first.Goals as goal

pub loop-i-preserved : goal.loop-i-preserved
loop-i-preserved g c =
    c.in_ok-push-in-Some.ensures.ok ∙ ap (λ l. l ++ c.in-Some.item ∷ []) c.loop-i.invariant ∙ one_longer c.args.self.now c.loop-i.i c.in-Some.item (sym c.in-Some.is ∙ c.at.ensures)
