use Rattle.std.proofs.Common.{◌≡◌, ℕ, ◌+◌, ◌-◌, ◌<◌, ◌≤◌, [], ◌∷◌, ◌++◌, map, length, ap, ◌∙◌, arith}
use Rattle.std.specs.Prelude.{reverse}
use Rattle.std.specs.List.{range_with_len}
use Rattle.std.proofs.lemmas.List.{map-append, length-append}
use Rattle.std.proofs.lemmas.List.Elements.{All-nil, All-same, All-push}
use Rattle.turn_book.specs.Turns.{fresh}
use Rattle.serve_crew.specs.Hands.{Hands, hands}
use Rattle.serve_batches.specs.Crew.{HasSlots}
use Rattle.serve_batches.specs.Passes.{new_hands, workers_of}
use Rattle.serve_batches.specs.declared.shift.Shift.{Shift}
use Rattle.serve_batches.proofs.Dealing.{dealt_one}
use Rattle.serve_batches.proofs.Taking.{taken_room, left_room}
use Rattle.serve_batches.proofs.passes.deal_last.Goals as goal

pub loop-left-init : goal.loop-left-init
loop-left-init c =
    let turns = c.args.turns.now in
    let fresh_are = c.requires.fresh in
    let slots = c.requires.slots in
    let n = c.args.workers in
    let empty = ap length c.requires.empty in
    let none : 0 ≡ c.args.workers - c.args.workers = omega arith in
    record {
      most = omega arith;
      tables = fresh_are.table ∙ ap (λ n. map (fresh turns.table.id) (range_with_len 0 n)) fresh_are.roles.table;
      peers = fresh_are.peers ∙ ap (λ n. map (fresh turns.peers.id) (range_with_len 0 n)) fresh_are.roles.peers;
      items = fresh_are.items ∙ ap (λ n. map (fresh turns.items.id) (range_with_len 0 n)) fresh_are.roles.items;
      table_room = fresh_are.room.table;
      peers_room = fresh_are.room.peers;
      items_room = fresh_are.room.items;
      crew = ap workers_of c.requires.empty ∙ ap (λ k. reverse (map (new_hands turns) (range_with_len n k))) none;
      roomy = All-same (HasSlots n) c.args.crew.now.items [] c.requires.empty (All-nil (HasSlots n));
      slots = slots;
      slot_room = c.requires.slot_room;
      count = omega (arith, empty);
      room = c.requires.room;
    }

pub loop-left-preserved : goal.loop-left-preserved
loop-left-preserved c =
    let turns = c.args.turns.now in
    let l = c.loop-left.left in
    let n = c.args.workers in
    let inv = c.loop-left.invariant in
    let some : 0 < c.loop-left.left = c.loop-left-test.true in
    let most : c.loop-left.left ≤ c.args.workers = inv.most in
    let up : c.loop-left.left ≡ (c.loop-left.left - 1) + 1 = omega (arith, some) in
    let shift : Shift = record { worker = c.new.result; slots = c.take_slots-taken.result; given = 0; at = 0 } in
    let items : c.push_reserved.new.self.items ≡ c.loop-left.crew.items ++ shift ∷ [] = c.push_reserved.ensures.items in
    let worker : c.new.result ≡ new_hands turns (l - 1) =
    c.new.ensures ∙ ap (λ p. hands p c.take_last-peers.result c.take_last-items.result) c.take_last-table.ensures.last
    ∙ ap (λ q. hands (fresh turns.table.id (l - 1)) q c.take_last-items.result) c.take_last-peers.ensures.last
    ∙ ap (λ q. hands (fresh turns.table.id (l - 1)) (fresh turns.peers.id (l - 1)) q) c.take_last-items.ensures.last in
    let f : ℕ → Hands = new_hands turns in
    let len = ap length items in
    let more = length-append c.loop-left.crew.items (shift ∷ []) in
    let left_are = ap length c.take_slots-taken.ensures.left in
    let left_more = length-append c.take_slots-taken.new.slots.items (c.take_slots-taken.result ∷ []) in
    let count = inv.count in
    let room = inv.room in
    let slots = inv.slots in
    let same = c.push_reserved.ensures.capacity in
    record {
      most = omega (arith, most);
      tables = c.take_last-table.ensures.left;
      peers = c.take_last-peers.ensures.left;
      items = c.take_last-items.ensures.left;
      table_room = c.take_last-table.ensures.room ∙ inv.table_room;
      peers_room = c.take_last-peers.ensures.room ∙ inv.peers_room;
      items_room = c.take_last-items.ensures.room ∙ inv.items_room;
      crew = ap workers_of items ∙ map-append (λ (s : Shift). s.worker) c.loop-left.crew.items (shift ∷ []) ∙ ap (λ k. k ++ c.new.result ∷ []) inv.crew
          ∙ ap (λ h. reverse (map f (range_with_len l (n - l))) ++ h ∷ []) worker ∙ dealt_one f (l - 1) l n up most;
      roomy = All-same (HasSlots n) c.push_reserved.new.self.items (c.loop-left.crew.items ++ shift ∷ []) items
          (All-push (HasSlots n) c.loop-left.crew.items shift inv.roomy (taken_room n c.loop-left.slots.items c.take_slots-taken.new.slots.items c.take_slots-taken.result c.take_slots-taken.ensures.left inv.slot_room));
      slots = omega (arith, left_are, left_more, slots, some);
      slot_room = left_room n c.loop-left.slots.items c.take_slots-taken.new.slots.items c.take_slots-taken.result c.take_slots-taken.ensures.left inv.slot_room;
      count = omega (arith, len, more, count, some, most);
      room = omega (arith, room, same);
    }
