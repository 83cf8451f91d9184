use Rattle.std.proofs.Common.{◌≡◌, refl, ap, subst}
use Rattle.claim_book.specs.State.{BookState}
use Rattle.lookup_crowd.specs.inner.SettleSteps.{SettlesOn}
use Rattle.lookup_crowd.proofs.Settling.{on_none}
use Rattle.lookup_crowd.proofs.settle.settle_first.Goals as goal
use Rattle.lookup_crowd.proofs.settle.settle_first.Goals.{in-Alive+in-Ok, in-Alive+in-Err, in-Report, in_default}

pub returns-clause-ok : goal.returns-clause-ok
returns-clause-ok g c =
    let old = c.args.seeker.now in
    let after : c.apply.new.self ≡ old.lookup.book = c.apply.ensures.after in
    elim c.match-apply.branch [
      | in-Alive+in-Ok w ↦ rw (w.result-is, w.seeker-is) (subst (λ (b : BookState). SettlesOn c.args.path (record old { lookup = record old.lookup { book = b } }) w.note_seen.new.seeker) after w.in-Ok.ensures.ok)
      | in-Alive+in-Err w ↦ rw w.result-is tt
      | in-Report w ↦ rw (w.result-is, w.seeker-is) (subst (λ (b : BookState). SettlesOn c.args.path (record old { lookup = record old.lookup { book = b } }) w.settle_report.new.seeker) after w.settle_report.ensures)
      | in_default w ↦ rw (w.result-is, w.seeker-is) (on_none c.args.path old (record old { lookup = record old.lookup { book = c.apply.new.self } }) c.requires.can.holds refl refl (ap (λ (b : BookState). record old.lookup { book = b }) after) refl)
    ]
