use Rattle.std.proofs.Common.{rules, ◌≡◌, ◌∷◌, [], ◌++◌, ◌∙◌, sym, ap, length, arith, length-append}
use Rattle.std.proofs.lemmas.List.FromFn.{map-range_with_len_more}
use Rattle.turn_book.specs.Turns.{PassState, fresh}
use Rattle.turn_book.proofs.TurnSteps.{deals}
use Rattle.turn_book.proofs.Views.{dealt}
use Rattle.turn_book.proofs.seats.deal.Goals as goal

pub split_seat-given-requires : goal.split_seat-given-requires
split_seat-given-requires g c =
    (search rules, search rules, deals _ _ _ c.args.board.now.shared.key.state.value _ _ _ (dealt c.loop-role.role c.args.roles c.loop-role.seat.me (search rules) c.loop-role.invariant.rest).0)

pub new-requires : goal.new-requires
new-requires g c =
    let d = dealt c.loop-role.role c.args.roles c.loop-role.seat.me (search rules) c.loop-role.invariant.rest in
    c.split_seat-given.ensures.4 ∙ (λ i. (d.2 i, []))

pub loop-role-preserved : goal.loop-role-preserved
loop-role-preserved g c =
    let t = c.args.board.now.shared.table_id in
    let was = c.loop-role.invariant in
    let given = c.split_seat-given.ensures in
    let d = dealt c.loop-role.role c.args.roles c.loop-role.seat.me (search rules) was.rest in
    let p : PassState g.row.S-Call.Denot g.row.S-Reply.Denot = c.new.result in
    let same : p ≡ fresh t c.loop-role.role = c.new.ensures ∙ (λ i. fresh ((given.3 ∙ was.own) i) c.loop-role.role) in
    let pushed = c.push_reserved.ensures.items in
    let passes = pushed ∙ ((λ i. was.passes i ++ same i ∷ []) ∙ sym (map-range_with_len_more (fresh t) 0 c.loop-role.role c.loop-role.role (omega arith))) in
    record {
      own = given.0 ∙ was.own;
      rest = given.2 ∙ d.1;
      long = ap length pushed ∙ omega (arith, length-append c.loop-role.list.items (p ∷ []), was.long);
      passes = passes;
      room = search rules;
    }
