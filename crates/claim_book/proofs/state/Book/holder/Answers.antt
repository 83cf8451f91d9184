use Rattle.std.proofs.Common.{rules, ◌≡◌, false, sym, subst, ap, ◌∙◌}
use Rattle.std.specs.Prelude.{MatchOption}
use Rattle.kad_base.specs.declared.types.ClaimRule.TheVariants.{Named, Asked}
use Rattle.claim_book.specs.declared.claim_map.Claim.{Claim}
use Rattle.claim_book.specs.State.{BookState}
use Rattle.claim_book.specs.Legal.{IsHeldBy, IsFree}
use Rattle.claim_book.specs.Claims.{shown_on}
use Rattle.claim_book.proofs.Reading.{held_by}
use Rattle.claim_book.proofs.state.Book.holder.Goals.{else-eq-via-then-eq+else-is_on, else-eq-via-else-eq}
use Rattle.claim_book.proofs.state.Book.holder.Goals as goal

pub returns : goal.returns
returns c =
    let s = c.self.inside.setting in
    let J = c.self.inside.journal.items in
    let p = c.args.path in
    let off : s.claim ≡ Asked → shown_on c.self.inside.claims p c.args.contact.now ≡ false = λ by_ask. elim c.else-eq.branch [
      | else-eq-via-then-eq+else-is_on w ↦ sym w.is_on.ensures ∙ w.if-is_on.false
      | else-eq-via-else-eq w ↦ (let named : s.claim ≡ Named = search rules in absurd cc)
    ] in
    subst (λ (b : BookState). MatchOption c.claim_at.result.by (IsFree b.setting.claim b.journal p c.args.contact.now) (λ q. IsHeldBy b.setting.claim b.journal p c.args.contact.now q)) c.self.view_is
    (held_by s J c.self.inside.claims p c.args.contact.now c.claim_at.result.by c.self.invariant.map off (ap (λ (k : Claim). k.by) c.claim_at.ensures))
