use Rattle.std.proofs.Common.{◌≡◌, List, [], ◌∷◌, ◌+◌, length, sym, ap, ◌∙◌, arith}
use Rattle.std.specs.Prelude.{map, reverse}
use Rattle.std.specs.List.{range_with_len}
use Rattle.std.proofs.lemmas.List.FromFn.{length-map-range_with_len}
use Rattle.turn_book.specs.Turns.{TurnState, PassState, fresh, all_fresh}
use Rattle.contact_table.specs.declared.calls.TableCall.{TableCall}
use Rattle.contact_table.specs.declared.calls.TableReply.{TableReply}
use Rattle.serve_crew.specs.Hands.{hands}
use Rattle.look_many.proofs.Seating.{row_next}
use Rattle.look_many.proofs.driver.seat.Goals as goal

pub stack_up-requires-clause-room : goal.stack_up-requires-clause-room
stack_up-requires-clause-room c =
    let l = ap length c.requires.fresh.table in
    let m = length-map-range_with_len (fresh {C = TableCall} {R = TableReply} c.args.desk.now.turns.now.table.id) 0 c.args.desk.now.turns.now.table.roles in
    let roles = c.requires.fresh.roles.table in
    let room = c.requires.stack_room in
    omega (arith, l, m, roles, room)

-- the only pass of a turn with one role
only : {C R S : Type 0} (turn : TurnState S) (row : List (PassState C R)) → row ≡ all_fresh turn → turn.roles ≡ 1 → row ≡ fresh turn.id 0 ∷ []
only turn row is one = is ∙ ap (λ n. map (fresh turn.id) (range_with_len 0 n)) one

pub only_pass-peers_pass-requires : goal.only_pass-peers_pass-requires
only_pass-peers_pass-requires c = record { one = only c.args.desk.now.turns.now.peers c.args.rows.now.peers.passes c.requires.fresh.peers c.requires.fresh.roles.peers }

pub only_pass-items_pass-requires : goal.only_pass-items_pass-requires
only_pass-items_pass-requires c = record { one = only c.args.desk.now.turns.now.items c.args.rows.now.items.passes c.requires.fresh.items c.requires.fresh.roles.items }

pub returns-clause-host : goal.returns-clause-host
returns-clause-host c =
    let T = c.args.desk.now.turns.now.table in
    let P = c.args.desk.now.turns.now.peers in
    let n = length c.args.wanted.now.jobs.now in
    let first = row_next (fresh T.id) (reverse c.next_pass-table_pass.new.stack.items) c.next_pass-table_pass.result 0 1 (n + 1) n (omega arith) (omega arith) (sym c.next_pass-table_pass.ensures.next ∙ c.stack_up.ensures.stack ∙ c.requires.fresh.table ∙ ap (λ m. map (fresh T.id) (range_with_len 0 m)) c.requires.fresh.roles.table) in
    c.new-host.ensures ∙ ap (λ x. hands x c.only_pass-peers_pass.result c.only_pass-items_pass.result) first.0 ∙ ap (λ x. hands (fresh T.id 0) x c.only_pass-items_pass.result) c.only_pass-peers_pass.ensures.pass ∙ ap (λ x. hands (fresh T.id 0) (fresh P.id 0) x) c.only_pass-items_pass.ensures.pass

pub seat_all-requires-clause-passes : goal.seat_all-requires-clause-passes
seat_all-requires-clause-passes c =
    let T = c.args.desk.now.turns.now.table in
    let n = length c.args.wanted.now.jobs.now in
    (row_next (fresh T.id) (reverse c.next_pass-table_pass.new.stack.items) c.next_pass-table_pass.result 0 1 (n + 1) n (omega arith) (omega arith) (sym c.next_pass-table_pass.ensures.next ∙ c.stack_up.ensures.stack ∙ c.requires.fresh.table ∙ ap (λ m. map (fresh T.id) (range_with_len 0 m)) c.requires.fresh.roles.table)).1
