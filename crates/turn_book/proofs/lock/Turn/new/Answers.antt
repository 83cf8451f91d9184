use Rattle.std.proofs.Common.{rules, ◌≡◌, List, [], ◌∷◌, ◌++◌, ◌∙◌, sym, ap, subst}
use Rattle.atomic_table.specs.Table.{opening}
use Rattle.turn_book.specs.Turns.{TurnState, all_fresh, AreAll}
use Rattle.turn_book.specs.Rule.{Kept, newcomer, origin_of}
use Rattle.turn_book.proofs.Views.{all_are}
use Rattle.turn_book.proofs.TurnSteps.{starts}
use Rattle.turn_book.proofs.lock.Turn.new.Goals as goal

pub new-requires : goal.new-requires
new-requires g c =
    let start = c.of.result.value in
    let items = c.in_default-push.ensures.items ∙ ap (λ l. l ++ c.args.state ∷ []) c.new-slots.ensures.items ∙ (λ i. sym c.of.ensures i ∷ []) in
    subst (λ (l : List g.row.S.Denot). Kept g.S.Serial.may g.S.Serial.step g.S.Serial.after start c.args.n (opening (0 ∷ []) l (newcomer c.args.n)))
    (sym items) (starts g.S.Serial.may g.S.Serial.step g.S.Serial.after start c.args.n)

pub returns-in-Ok-new-clause-all : goal.returns-in-Ok-new-clause-all
returns-in-Ok-new-clause-all g c =
    let shared = c.in-Ok-new.board.shared in
    let t : TurnState g.row.S.Denot = origin_of shared.table_id shared.key in
    let passes : c.with_room.result.passes ≡ all_fresh t = search rules in
    subst (AreAll t) (sym passes) (all_are t)
