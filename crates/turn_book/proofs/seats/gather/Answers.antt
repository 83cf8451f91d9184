use Rattle.std.proofs.Common.{rules, ◌≡◌, ◌∷◌, [], ◌++◌, ◌∙◌, ap, Some, append_assoc}
use Rattle.std.proofs.lemmas.List.Elements.{All-pop}
use Rattle.turn_book.specs.Turns.{PassState}
use Rattle.turn_book.proofs.TurnSteps.{joins}
use Rattle.turn_book.proofs.Views.{gathered}
use Rattle.turn_book.proofs.seats.gather.Goals as goal

pub loop-pass-init : goal.loop-pass-init
loop-pass-init g c =
    let t = c.args.board.now.shared.table_id in
    let p = c.in-Some.last in
    let popped = c.in-Some.ensures.items in
    let own = All-pop (λ (p : PassState g.row.S-Call.Denot g.row.S-Reply.Denot). p.turn ≡ t) c.args.list.items c.pop.new.self.items (Some p) popped c.requires.own in
    (p ∷ [], popped, c.into_seat-all.ensures.view, c.into_seat-all.ensures.own ∙ own.1, own.0)

pub join_seat-requires : goal.join_seat-requires
join_seat-requires g c =
    let t = c.args.board.now.shared.table_id in
    let p = c.in-Some-pop.pass in
    let was = c.loop-pass.invariant in
    let seat = c.into_seat-seat.ensures in
    let own = All-pop (λ (p : PassState g.row.S-Call.Denot g.row.S-Reply.Denot). p.turn ≡ t) c.loop-pass.list.items c.pop-in-loop-pass.new.self.items (Some p) c.in-Some-pop.ensures.items was.4 in
    (seat.own ∙ own.1, was.3, ap (λ m. m.1) was.2, search rules, joins _ _ _ c.args.board.now.shared.key.state.value _ _ _ _ _ (ap (λ m. m.0.marked) seat.view) (ap (λ m. m.0.marked) was.2))

pub loop-pass-preserved : goal.loop-pass-preserved
loop-pass-preserved g c =
    let t = c.args.board.now.shared.table_id in
    let p = c.in-Some-pop.pass in
    let was = c.loop-pass.invariant in
    let seat = c.into_seat-seat.ensures in
    let popped = c.in-Some-pop.ensures.items in
    let own = All-pop (λ (p : PassState g.row.S-Call.Denot g.row.S-Reply.Denot). p.turn ≡ t) c.loop-pass.list.items c.pop-in-loop-pass.new.self.items (Some p) popped was.4 in
    (p ∷ was.0, was.1 ∙ (ap (λ l. l ++ was.0) popped ∙ append_assoc c.pop-in-loop-pass.new.self.items (p ∷ []) was.0), c.join_seat.ensures.2 ∙ gathered p was.0 _ c.loop-pass.all.me seat.view was.2, c.join_seat.ensures.0 ∙ (seat.own ∙ own.1), own.0)
