use Rattle.std.proofs.Common.{◌∙◌, map, false, []}
use Rattle.turn_book.specs.Turns.{TurnState, AreAll}
use Rattle.turn_book.specs.Rule.{view, part_of, origin_of}
use Rattle.turn_book.proofs.Views.{ends}
use Rattle.turn_book.proofs.lock.Turn.close.Goals as goal

pub returns : goal.returns
returns g c =
    let shared = c.self.inside.board.shared in
    let t : TurnState g.row.S.Denot = origin_of shared.table_id shared.key in
    let ps = c.args.passes.passes in
    let listed = c.into_list.ensures in
    let all : AreAll t ps = rw c.self.view_is c.requires in
    rw (← c.self.view_is) (ends g.S.Serial.may g.S.Serial.step g.S.Serial.after t c.gather-all.result.id ps c.gather-all.result.me _ _ c.word-word.result c.take-state.result
    (c.gather-all.ensures.views ∙ (λ i. (view (map part_of (listed i)) false, []))) all c.close_with-closed.ensures.values.2 c.word-word.ensures c.take-state.ensures.value)
