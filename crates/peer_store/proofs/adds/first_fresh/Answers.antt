use Rattle.std.proofs.Common.{List, ap, sym, ◌∙◌, take}
use Rattle.peer_store.specs.Peers.{Held, peers_of, max_listed}
use Rattle.peer_store.proofs.Listing.{none_fresh}
use Rattle.peer_store.proofs.adds.first_fresh.Goals as goal

pub returns-then-is_all_old : goal.returns-then-is_all_old
returns-then-is_all_old c =
    c.new.ensures ∙ sym (ap (λ (h : List Held). take max_listed (peers_of h)) (none_fresh c.args.adds.now.held c.args.key c.args.at (c.is_all_old.ensures c.if-is_all_old.true)))
