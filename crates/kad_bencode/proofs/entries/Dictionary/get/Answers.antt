use Rattle.std.proofs.Common.{◌≡◌, ◌∙◌, subst, get_or, Ok, Err}
use Rattle.kad_bencode.specs.Keys.{IsPlace}
use Rattle.kad_bencode.proofs.Places.{value_there, value_free}
use Rattle.kad_bencode.proofs.entries.Dictionary.get.Goals as goal

pub returns-in-Ok : goal.returns-in-Ok
returns-in-Ok g c =
    value_there g.row.V.Denot c.args.self.now c.args.key.now c.in-Ok.at c.index.result.now
    (subst (λ l. IsPlace l c.args.key.now (Ok c.in-Ok.at)) (c.as_slice.ensures.value ∙ c.self.view_is) c.in-Ok.ensures)
    (subst (λ l. c.index.result.now ≡ get_or l c.in-Ok.at c.index.result.now) c.self.view_is c.index.ensures)

pub returns-in-Err : goal.returns-in-Err
returns-in-Err g c =
    value_free g.row.V.Denot c.args.self.now c.args.key.now c.in-Err.field-0
    (subst (λ l. IsPlace l c.args.key.now (Err c.in-Err.field-0)) (c.as_slice.ensures.value ∙ c.self.view_is) c.in-Err.ensures)
