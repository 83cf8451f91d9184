use Rattle.std.proofs.Common.{ap, ◌∙◌}
use Rattle.lookup_core.proofs.Tags.{carries, lacks, parts_tagged}
use Rattle.lookup_core.proofs.sealed.has_tag.Goals as goal

pub returns-in-Ok-None : goal.returns-in-Ok-None
returns-in-Ok-None g c bytes s =
    let none = rw c.in-Ok-None.field-0-is at c.in-Ok-None.ensures in
    ((λ e. absurd cc), (λ h. absurd (lacks (g.G.SealCheck.accepted c.args.seal.now) bytes c.args.top.now c.args.id.now s none h)))

pub returns : goal.returns
returns g c bytes s =
    let accepts = g.G.SealCheck.accepted c.args.seal.now in
    let parts = c.in-Ok-Some.parts in
    let are = rw c.in-Ok-Some.field-0-is at c.in-Ok-Some.ensures in
    carries accepts bytes parts.body parts.tag c.args.id.now c.accepts.result (parts_tagged bytes c.args.top.now parts.body parts.tag s are.0 are.1)
    (c.accepts.ensures ∙ ap (λ b. accepts c.args.id.now b c.as_slice-2.result.now) c.as_slice.ensures ∙ ap (λ t. accepts c.args.id.now parts.body t) c.as_slice-2.ensures)
