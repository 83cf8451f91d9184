use Rattle.std.proofs.Common.{◌≡◌, List, [], ◌∷◌, Option, ap, subst, ◌∙◌}
use Rattle.kad_base.specs.declared.types.Event.{Event}
use Rattle.kad_base.specs.declared.types.Event.TheVariants.{Sent}
use Rattle.kad_base.specs.Outside.{Grows}
use Rattle.fake_net.specs.Scripts.{Play}
use Rattle.fake_net.proofs.link.ScriptLinkLink.send.Goals as goal

pub returns-in-Ok-clause-sent : goal.returns-in-Ok-clause-sent
returns-in-Ok-clause-sent c =
    subst (λ (told : Option (List Event)). Grows told c.telling_sent.result (λ t. t ≡ Sent c.args.to c.args.bytes.now ∷ []))
    (c.take-in-Ok.ensures.value ∙ ap (λ (p : Play). p.told) c.self.view_is) c.telling_sent.ensures
