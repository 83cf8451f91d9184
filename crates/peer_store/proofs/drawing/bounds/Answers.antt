use Rattle.std.proofs.Common.{sym, ap, ◌∙◌}
use Rattle.peer_store.specs.Peers.{Held, number_of, last_number, peers_of}
use Rattle.peer_store.proofs.Around.{last_back}
use Rattle.peer_store.proofs.drawing.bounds.Goals as goal

pub returns-in-Some-next_back-clause-last : goal.returns-in-Some-next_back-clause-last
returns-in-Some-next_back-clause-last c =
    let a : Held = (c.in-Some.field-0-0.now, c.in-Some.field-0-1.now) in
    let b : Held = (c.in-Some-next_back.field-0-0.now, c.in-Some-next_back.field-0-1.now) in
    let behind = last_back (number_of a.0.1.ip) c.next.new.self c.next_back.new.self b c.in-Some-next_back.ensures.steps in
    c.number_of.ensures ∙ sym (ap (λ l. last_number 0 (peers_of l)) c.in-Some.ensures.steps ∙ behind)
