use Rattle.std.proofs.Common.{◌++◌, ◌∷◌, [], ap, ◌∙◌}
use Rattle.kad_base.specs.Serial.{made}
use Rattle.turn_book.specs.Turns.{mine}
use Rattle.claim_book.specs.declared.calls.BookCall.TheVariants.{Note}
use Rattle.claim_book.specs.declared.types.Thing.TheVariants.{Responder}
use Rattle.path_worker.proofs.Fronts.{finds, note_kept, own_calls}
use Rattle.path_worker.proofs.calls.note.Goals as goal

pub returns-clause-mine : goal.returns-clause-mine
returns-clause-mine g c =
    let p = c.args.pass.now in
    let own = own_calls p c.call.new.pass _ c.call.ensures.role c.call.ensures.mine in
    let found = finds c.args.turn.now.start p.role (Note c.args.contact) c.call.result p.seen c.call.new.pass.seen (Responder c.args.contact) c.requires.worker c.requires.legal c.call.ensures.run c.call.ensures.seen own c.requires.front.front in
    c.call.ensures.mine ∙ ap (λ r. mine p ++ made p.role (Note c.args.contact) r ∷ []) (note_kept c.args.turn.now.start p.role c.args.contact c.call.result found)
