use Rattle.std.proofs.Common.{rules, arith}
use Rattle.turn_book.proofs.Uses.{gives_at, given_at}
use Rattle.turn_book.proofs.calls.give.Goals as goal

pub fetch_add-requires : goal.fetch_add-requires
fetch_add-requires g c = (search rules, search rules, gives_at g.S.Serial.may g.S.Serial.step g.S.Serial.after c.args.board.now.shared.key.state.value _ _ _ c.args.role c.args.call.now.value c.args.reply.now _ c.args.seat.now.me c.requires.picked c.requires.may c.requires.ready (let r = c.requires.room in omega arith))

pub returns-clause-given : goal.returns-clause-given
returns-clause-given g c = given_at g.S.Serial.may g.S.Serial.step g.S.Serial.after c.args.board.now.shared.key.state.value 1 c.args.role c.args.call.now.value c.args.reply.now _ c.args.seat.now.me c.fetch_add.new.seat.me c.fetch_add.result c.requires.picked c.requires.ready c.fetch_add.ensures.2
