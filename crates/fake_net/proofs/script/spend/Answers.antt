use Rattle.std.proofs.Common.{◌≡◌, set}
use Rattle.std.proofs.lemmas.List.Elements.{at_read}
use Rattle.fake_net.specs.declared.script.ScriptEvent.{ScriptEvent}
use Rattle.fake_net.specs.Scripts.{spent}
use Rattle.fake_net.proofs.Spending.{stays_at}
use Rattle.fake_net.proofs.script.spend.Goals as goal

pub returns-else-not-stays : goal.returns-else-not-stays
returns-else-not-stays c =
    at_read c.args.script.now.items (λ (e : ScriptEvent). set c.args.script.now.items c.args.place c.count_down-stays.new.event ≡ spent c.args.script.now.items c.args.place e)
    c.args.place c.index_mut.result.now c.requires c.index_mut.ensures.value
    (stays_at _ _ _ _ c.requires (c.count_down-stays.ensures.stays c.if-not-stays.false))
