use Rattle.std.proofs.Common.{length, ap, arith}
use Rattle.turn_book.specs.Rule.{seen_by, seen_in}
use Rattle.turn_book.proofs.Uses.{called_at}
use Rattle.turn_book.proofs.calls.call_at.Goals as goal

pub give-requires-clause-room : goal.give-requires-clause-room
give-requires-clause-room g c = let e = ap (λ v. length (seen_in v.parts)) c.work-reply.ensures.view in let r = c.take.ensures.taken.room in omega arith

pub returns-clause-called : goal.returns-clause-called
returns-clause-called g c =
    called_at g.S.Serial.may g.S.Serial.step g.S.Serial.after c.args.board.now.shared.key.state.value c.args.role c.args.call c.of-asked.result.value c.work-reply.result (seen_by c.args.seat.now.me) c.take.new.seat.me c.work-reply.new.seat.me c.give.new.seat.me
    c.of-asked.ensures
    c.requires.may
    (c.take.ensures.taken.goes_on, c.take.ensures.taken.own_calls)
    c.work-reply.ensures.view
    c.work-reply.ensures.ready
    c.give.ensures.given
