use Rattle.std.proofs.Common.{◌≡◌, Bool, true, false, subst, inl, inr}
use Rattle.kad_base.specs.declared.types.Report.{Report}
use Rattle.claim_book.specs.Legal.{IsHeldBy, IsFree}
use Rattle.claim_book.specs.Crowded.{IsCrowded}
use Rattle.claim_book.proofs.state.Book.judge_sound.Goals as goal

clash : (b : Bool) → b ≡ false → b ≡ true → ⊥
clash b e f = absurd cc

pub returns-in-Some : goal.returns-in-Some
returns-in-Some c =
    let s = c.args.self.now.setting in
    let J = c.args.self.now.journal in
    (c.requires, subst (λ (x : Report). IsHeldBy s.claim J c.args.path x.contact c.in-Some.by) c.report-report.ensures c.in-Some.ensures)

pub returns-then-is_full : goal.returns-then-is_full
returns-then-is_full c =
    let s = c.args.self.now.setting in
    let J = c.args.self.now.journal in
    (c.requires, subst (λ (x : Report). IsFree s.claim J c.args.path x.contact) c.report-report.ensures c.in-None.ensures, inl (c.is_full.ensures.full c.if-is_full.true))

pub returns-then-is_crowded : goal.returns-then-is_crowded
returns-then-is_crowded c =
    let s = c.args.self.now.setting in
    let J = c.args.self.now.journal in
    let r = c.report-report.ensures in
    let crowded = subst (λ (x : Report). IsCrowded s J c.args.path x.contact) r (c.is_crowded.ensures.0 c.if-is_crowded.true) in
    (c.requires, subst (λ (x : Report). IsFree s.claim J c.args.path x.contact) r c.in-None.ensures, inr crowded)

pub returns-else-is_crowded : goal.returns-else-is_crowded
returns-else-is_crowded c =
    let s = c.args.self.now.setting in
    let J = c.args.self.now.journal in
    let r = c.report-report.ensures in
    let roomy = subst (λ (x : Report). ¬ IsCrowded s J c.args.path x.contact) r (λ x. clash _ c.if-is_crowded.false (c.is_crowded.ensures.1 x)) in
    (c.requires, subst (λ (x : Report). IsFree s.claim J c.args.path x.contact) r c.in-None.ensures, c.is_full.ensures.room c.if-is_full.false, roomy)
