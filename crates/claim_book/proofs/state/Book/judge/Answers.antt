use Rattle.std.proofs.Common.{◌≡◌, Some, ap, subst, ◌∙◌, rules}
use Rattle.kad_base.specs.declared.types.Report.{Report}
use Rattle.kad_base.specs.declared.types.Policy.{Policy}
use Rattle.kad_base.specs.Contacts.{IsUsable}
use Rattle.kad_base.specs.Puzzles.{Passes}
use Rattle.claim_book.specs.declared.types.Thing.TheVariants.{Told}
use Rattle.claim_book.specs.State.{BookState}
use Rattle.claim_book.specs.Journal.{first_unsettled}
use Rattle.claim_book.specs.Calls.{IsSound}
use Rattle.claim_book.proofs.state.Book.judge.Goals as goal

pub judge_sound-requires : goal.judge_sound-requires
judge_sound-requires c =
    let s = c.self.inside.setting in
    let J = c.self.inside.journal.items in
    let checked = c.args.checked.now in
    let r = c.report-report.ensures in
    let policy : checked.policy ≡ s.policy = search rules in
    let first : first_unsettled c.args.path J ≡ Some (Told checked.report) = ap (λ (b : BookState). first_unsettled c.args.path b.journal) c.self.view_is ∙ c.is_front.ensures.0 c.if-not-is_front.false ∙ ap (λ (x : Report). Some (Told x)) r in
    let usable = subst (λ (x : Report). IsUsable s.own x.contact) r (c.is_usable.ensures.0 c.if-not-is_usable.false) in
    let passes = subst (λ (q : Policy). Passes q checked.report) policy (c.passes.ensures.0 c.if-not-passes.false) in
    let sound : IsSound s J c.args.path checked = record { front = record { first = first; policy = policy }; usable = usable; passes = passes } in
    subst (λ (b : BookState). IsSound b.setting b.journal c.args.path checked) c.self.view_is sound
