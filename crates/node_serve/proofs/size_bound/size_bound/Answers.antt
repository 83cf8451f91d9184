use Rattle.std.proofs.Common.{◌≤◌, length, subst, sym}
use Rattle.kad_krpc.specs.declared.message.Message.TheVariants as message
use Rattle.kad_krpc.specs.Form.{form}
use Rattle.node_serve.specs.Sizes.{IsSmall, max_reply}
use Rattle.node_serve.proofs.Small.{answer_short, fault_short}
use Rattle.node_serve.proofs.size_bound.size_bound.Goals as goal

pub returns-in-Answer : goal.returns-in-Answer
returns-in-Answer c =
    let small : IsSmall (message.Answer c.in-Answer.tx c.in-Answer.answer) = subst IsSmall c.in-Answer.is c.requires in
    subst (λ m. length (form m) ≤ max_reply) (sym c.in-Answer.is)
    (answer_short c.in-Answer.tx c.in-Answer.answer small.0 small.1 c.answer_fits.ensures)

pub returns-in-Fault : goal.returns-in-Fault
returns-in-Fault c =
    let small : IsSmall (message.Fault c.in-Fault.tx c.in-Fault.code c.in-Fault.text) = subst IsSmall c.in-Fault.is c.requires in
    subst (λ m. length (form m) ≤ max_reply) (sym c.in-Fault.is)
    (fault_short c.in-Fault.tx c.in-Fault.text c.in-Fault.code small.0 small.1.0 small.1.1)
