use Rattle.std.proofs.Common.{◌≡◌, Bool, true, false, not, refl, sym, subst, ap, ◌∙◌}
use Rattle.std.specs.Prelude.{MatchOption}
use Rattle.kad_base.specs.Contacts.{among}
use Rattle.claim_book.specs.declared.claim_map.Claim.{Claim}
use Rattle.std.proofs.lemmas.Bool.{not-true}
use Rattle.claim_book.specs.State.{BookState}
use Rattle.claim_book.specs.Journal.{open_any}
use Rattle.claim_book.specs.Calls.{asker}
use Rattle.claim_book.proofs.Reading.{ended_not_open, unasked_not_open, is_open}
use Rattle.claim_book.proofs.state.Book.open_path.Goals as goal

was : (b : Bool) → not b ≡ false → b ≡ true
was true e = refl
was false e = absurd cc

pub returns-then-claim : goal.returns-then-claim
returns-then-claim c =
    subst (λ (b : BookState). among (open_any b.journal) c.args.contact.now ≡ false) c.self.view_is
    (ended_not_open c.self.inside.setting c.self.inside.journal.items c.self.inside.claims c.args.contact.now c.self.invariant.map (ap (λ (k : Claim). k.ended) (sym c.claim_at-claim.ensures) ∙ c.if-claim.true))

pub returns-then-not-claim : goal.returns-then-not-claim
returns-then-not-claim c =
    subst (λ (b : BookState). among (open_any b.journal) c.args.contact.now ≡ false) c.self.view_is
    (unasked_not_open c.self.inside.setting c.self.inside.journal.items c.self.inside.claims c.args.contact.now c.self.invariant.map (ap (λ (k : Claim). k.asked) (sym c.claim_at-claim.ensures) ∙ not-true c.claim_at-claim.result.asked c.if-not-claim.true))

pub returns : goal.returns
returns c =
    subst (λ (b : BookState). MatchOption c.claim_at-claim.result.by (among (open_any b.journal) c.args.contact.now ≡ false) (λ p. (among (open_any b.journal) c.args.contact.now ≡ true) × (p ≡ asker c.args.contact.now b.journal))) c.self.view_is
    (is_open c.self.inside.setting c.self.inside.journal.items c.self.inside.claims c.args.contact.now c.claim_at-claim.result.by c.self.invariant.book.legal c.self.invariant.map
    (ap (λ (k : Claim). k.ended) (sym c.claim_at-claim.ensures) ∙ c.if-claim.false) (ap (λ (k : Claim). k.asked) (sym c.claim_at-claim.ensures) ∙ was c.claim_at-claim.result.asked c.if-not-claim.false) (ap (λ (k : Claim). k.by) c.claim_at-claim.ensures))
