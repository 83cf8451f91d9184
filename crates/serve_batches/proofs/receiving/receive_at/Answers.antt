use Rattle.std.proofs.Common.{◌≡◌, get_or, sym, subst, IfOk}
use Rattle.std.proofs.lemmas.List.{get_or_default}
use Rattle.kad_base.specs.Outside.{Grows}
use Rattle.serve_batches.specs.Slots.{SlotState, Took, datagram_in, took_event}
use Rattle.serve_batches.specs.declared.shift.Shift.{Shift}
use Rattle.serve_batches.proofs.Arriving.{slot_set, put_at, same_crew_set}
use Rattle.serve_batches.proofs.receiving.receive_at.Goals as goal

pub returns-clause-same : goal.returns-clause-same
returns-clause-same g c =
    let given : Shift = get_or c.args.crew.now c.args.place.holder c.index-crew-place.result in
    same_crew_set c.args.place c.args.crew.now given c.receive.new.self c.requires.within (get_or_default c.args.crew.now c.args.place.holder c.index-crew-place.result given c.requires.within) c.receive.ensures.worker c.receive.ensures.len

pub returns-clause-put : goal.returns-clause-put
returns-clause-put g c =
    let given : Shift = get_or c.args.crew.now c.args.place.holder c.index-crew-place.result in
    put_at c.args.place c.args.crew.now given c.receive.new.self c.requires.within (get_or_default c.args.crew.now c.args.place.holder c.index-crew-place.result given c.requires.within) c.receive.ensures.put

pub returns-clause-took : goal.returns-clause-took
returns-clause-took g c =
    subst (λ (x : SlotState). IfOk c.receive.result (λ came. Took came x)) (sym (slot_set c.args.place c.args.crew.now c.index-crew-place.result c.receive.new.self c.requires.within c.index-crew-place.is)) c.receive.ensures.took

pub returns-clause-told : goal.returns-clause-told
returns-clause-told g c =
    subst (λ (x : SlotState). IfOk c.receive.result (λ came. Grows (g.L.Link.told c.args.link.now) (g.L.Link.told c.receive.new.link) (λ es. es ≡ took_event came c.args.until (datagram_in x))))
    (sym (slot_set c.args.place c.args.crew.now c.index-crew-place.result c.receive.new.self c.requires.within c.index-crew-place.is)) c.receive.ensures.told
