use Rattle.std.proofs.Common.{sym, ◌∙◌}
use Rattle.peer_store.specs.Peers.{fresh_of, held_of, point}
use Rattle.peer_store.proofs.Listing.{none_fresh}
use Rattle.peer_store.proofs.Around.{none_around}
use Rattle.peer_store.proofs.drawing.first_drawn.Goals as goal

pub returns-then-is_all_old : goal.returns-then-is_all_old
returns-then-is_all_old c =
    let held = c.args.adds.now.held in
    let none = none_fresh held c.args.key c.args.at (c.is_all_old.ensures c.if-is_all_old.true) in
    c.new.ensures ∙ sym (none_around (point (held_of held c.args.key) c.args.first) (fresh_of held c.args.key c.args.at) none)
