use Rattle.std.proofs.Common.{List, ◌++◌, ap, ap₂, ◌∙◌}
use Rattle.kad_base.specs.declared.types.Contact.{Contact}
use Rattle.kad_base.specs.Contacts.{without}
use Rattle.kad_distance.specs.KClosest.{k_closest}
use Rattle.claim_book.specs.Journal.{path}
use Rattle.lookup_commands.proofs.Spreading.{spread_more}
use Rattle.lookup_commands.proofs.spread.spread_over.Goals as goal

pub loop-path-preserved : goal.loop-path-preserved
loop-path-preserved c =
    let p = c.loop-path.path in
    let J = c.args.journal.now in
    let t = c.args.target.now in
    spread_more t c.args.k p J c.extend.new.self c.in_ok-alive.alive c.in_ok-closest.closest c.loop-path.found _
    (c.in_ok-extend.ensures.ok ∙ ap₂ (λ (xs ys : List Contact). xs ++ ys) c.in_ok-gone.ensures (c.as_slice.ensures ∙ c.in_ok-lost.ensures))
    (c.in_ok-alive.ensures ∙ ap (without (path p J)) c.as_slice-in-loop-path.ensures)
    (c.in_ok-closest.ensures ∙ ap (k_closest t c.args.k) c.as_slice-in-loop-path-2.ensures)
    c.loop-path.invariant
    (c.in_ok-extend-2.ensures.ok ∙ ap (λ l. c.loop-path.found ++ l) c.as_slice-in-loop-path-3.ensures)
