use Rattle.std.proofs.Common.{rules, refl, ◌≡◌, ℕ, ap, arith}
use Rattle.std.specs.Prelude.{Option}
use Rattle.std.specs.Option.{unwrap_or}
use Rattle.turn_book.proofs.Uses.{takes_at, told_took, took_at, has_own}
use Rattle.turn_book.proofs.calls.try_take.Goals as goal

pub compare_exchange-requires : goal.compare_exchange-requires
compare_exchange-requires g c =
    (search rules, search rules, takes_at _ _ _ _ _ _ _ _ _ _ _ c.args.role c.requires.picked (has_own c.args.role c.args.seat.now.me c.args.seat.now.me c.requires.idle refl) c.if-word-ne0.false refl)

pub returns-clause-taken : goal.returns-clause-taken
returns-clause-taken g c hit =
    let start = c.args.board.now.shared.key.state.value in
    let is : c.compare_exchange.result ≡ c.args.word = ap (λ (o : Option ℕ). unwrap_or o 0) hit in
    let told = told_took g.S.Serial.may g.S.Serial.step g.S.Serial.after start c.args.seat.now.me c.compare_exchange.new.seat.me g.J.Opened.start c.compare_exchange.result c.requires.picked (c.compare_exchange.ensures.2.0 is) in
    let t = took_at g.S.Serial.may g.S.Serial.step g.S.Serial.after start c.args.role c.args.seat.now.me c.compare_exchange.new.seat.me c.compare_exchange.result c.requires.idle told in
    record { busy = t.0; goes_on = t.1; own_calls = t.2; room = (let f = t.3 in let below = c.if-word-ge-END.false in omega arith) }
