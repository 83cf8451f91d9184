use Rattle.std.proofs.Common.{map, ap, ◌∙◌}
use Rattle.std.specs.Prelude.{reverse}
use Rattle.std.specs.List.{range_with_len}
use Rattle.std.proofs.lemmas.List.{reverse-reverse}
use Rattle.std.proofs.lemmas.List.Elements.{All-same}
use Rattle.serve_batches.specs.Crew.{HasSlots}
use Rattle.serve_batches.specs.Passes.{new_hands, workers_of}
use Rattle.serve_batches.specs.declared.shift.Shift.{Shift}
use Rattle.turn_book.proofs.Ended.{all_reverse}
use Rattle.serve_batches.proofs.Dealing.{map_reverse}
use Rattle.serve_batches.proofs.passes.deal_passes.Goals as goal

pub returns-clause-crew : goal.returns-clause-crew
returns-clause-crew c =
    ap workers_of c.turn_round.ensures ∙ map_reverse (λ (s : Shift). s.worker) c.deal_last.new.crew.items ∙ ap reverse c.deal_last.ensures.crew
    ∙ reverse-reverse (map (new_hands c.args.turns.now) (range_with_len 0 c.args.workers))

pub returns-clause-slots : goal.returns-clause-slots
returns-clause-slots c =
    All-same (HasSlots c.args.workers) c.turn_round.new.crew.items (reverse c.deal_last.new.crew.items) c.turn_round.ensures
    (all_reverse (HasSlots c.args.workers) c.deal_last.new.crew.items c.deal_last.ensures.slots)
