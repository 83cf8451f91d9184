use Rattle.std.proofs.Common.{◌++◌, ◌∷◌, [], sym, ap, ◌∙◌}
use Rattle.std.specs.Prelude.{map, take}
use Rattle.kad_records.proofs.Places.{one_longer}
use Rattle.lookup_core.specs.Quest.{bare}
use Rattle.lookup_core.proofs.Lists.{map_append}
use Rattle.lookup_core.proofs.quest.bare_reports.Goals as goal

pub loop-i-preserved : goal.loop-i-preserved
loop-i-preserved g c =
    let all = c.args.contacts.now in
    let i = c.loop-i.i in
    let x = c.in-Some.contact in
    c.in_ok-push-in-Some.ensures.ok ∙ ap (λ l. l ++ bare x ∷ []) c.loop-i.invariant ∙ sym (map_append bare (take i all) (x ∷ [])) ∙ ap (map bare) (one_longer all i x (sym c.in-Some.is ∙ c.at.ensures))
