use Rattle.std.proofs.Common.{◌≡◌, [], ◌∷◌, Bool, true, false, not, ◌||◌, refl, ap, ◌∙◌, rules}
use Rattle.std.proofs.lemmas.Fn.{filter_same}
use Rattle.std.proofs.lemmas.List.Elements.{filter_agree}
use Rattle.kad_base.specs.Contacts.{same, among}
use Rattle.claim_book.proofs.path.leave_out.Goals as goal

or_no : (b : Bool) → b ≡ (b || false)
or_no true = refl
or_no false = refl

pub returns-clause-items : goal.returns-clause-items
returns-clause-items c =
    filter_same _ (λ other. not (same other c.args.contact.now)) _ (λ x b f' k. search rules) _ _ c.retain.ensures.filtered
    ∙ filter_agree (λ other. not (same other c.args.contact.now)) (λ other. not (among (c.args.contact.now ∷ []) other)) (λ x. ap not (or_no (same x c.args.contact.now))) c.args.near.now.items
