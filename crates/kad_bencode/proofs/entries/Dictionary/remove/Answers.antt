use Rattle.std.proofs.Common.{◌≡◌, ◌∙◌, subst, get_or, Ok, Err, sym, ap}
use Rattle.std.specs.List.{remove}
use Rattle.kad_bencode.specs.Keys.{IsPlace, IsAscending}
use Rattle.kad_bencode.proofs.Places.{value_there, value_free, remove_without, without_free, without_ascending}
use Rattle.kad_bencode.proofs.entries.Dictionary.remove.Goals as goal

pub returns-in-Ok-clause-rest : goal.returns-in-Ok-clause-rest
returns-in-Ok-clause-rest g c =
    c.remove-value.ensures.items ∙ ap (λ l. remove l c.in-Ok.at) c.self.view_is
    ∙ remove_without g.row.V.Denot c.args.self.now c.args.key.now c.in-Ok.at (subst (λ l. IsPlace l c.args.key.now (Ok c.in-Ok.at)) (c.as_slice.ensures.value ∙ c.self.view_is) c.in-Ok.ensures)

pub invariant_of-self : goal.invariant_of-self
invariant_of-self g c =
    subst IsAscending (sym (c.remove-value.ensures.items ∙ ap (λ l. remove l c.in-Ok.at) c.self.view_is
    ∙ remove_without g.row.V.Denot c.args.self.now c.args.key.now c.in-Ok.at (subst (λ l. IsPlace l c.args.key.now (Ok c.in-Ok.at)) (c.as_slice.ensures.value ∙ c.self.view_is) c.in-Ok.ensures)))
    (without_ascending g.row.V.Denot c.args.self.now c.args.key.now (subst IsAscending c.self.view_is c.self.invariant))

pub returns-in-Ok-clause-value : goal.returns-in-Ok-clause-value
returns-in-Ok-clause-value g c =
    value_there g.row.V.Denot c.args.self.now c.args.key.now c.in-Ok.at c.remove-value.result
    (subst (λ l. IsPlace l c.args.key.now (Ok c.in-Ok.at)) (c.as_slice.ensures.value ∙ c.self.view_is) c.in-Ok.ensures)
    (subst (λ l. c.remove-value.result ≡ get_or l c.in-Ok.at c.remove-value.result) c.self.view_is c.remove-value.ensures.value)

pub returns-in-Err-clause-value : goal.returns-in-Err-clause-value
returns-in-Err-clause-value g c =
    value_free g.row.V.Denot c.args.self.now c.args.key.now c.in-Err.field-0
    (subst (λ l. IsPlace l c.args.key.now (Err c.in-Err.field-0)) (c.as_slice.ensures.value ∙ c.self.view_is) c.in-Err.ensures)

pub returns-in-Err-clause-rest : goal.returns-in-Err-clause-rest
returns-in-Err-clause-rest g c =
    without_free g.row.V.Denot c.args.self.now c.args.key.now c.in-Err.field-0
    (subst (λ l. IsPlace l c.args.key.now (Err c.in-Err.field-0)) (c.as_slice.ensures.value ∙ c.self.view_is) c.in-Err.ensures)
