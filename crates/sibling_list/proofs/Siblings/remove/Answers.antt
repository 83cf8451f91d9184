use Rattle.std.proofs.Common.{rules, not, ap, ◌∙◌}
use Rattle.std.proofs.lemmas.Fn.{filter_same}
use Rattle.kad_base.specs.Contacts.{same}
use Rattle.sibling_list.specs.Siblings.{without_one}
use Rattle.sibling_list.proofs.Listing.{stays}
use Rattle.sibling_list.proofs.Siblings.remove.Goals as goal

pub returns-clause-list : goal.returns-clause-list
returns-clause-list c =
    filter_same _ (λ other. not (same other c.args.contact.now)) _ (λ x b f' k. search rules) _ _ c.retain.ensures.filtered
    ∙ ap (λ s. without_one s c.args.contact.now) c.self.view_is

pub invariant_of-self : goal.invariant_of-self
invariant_of-self c =
    stays c.self.inside.own c.self.inside.contacts.items c.retain.new.self.items _ _ c.args.contact.now
    (filter_same _ (λ other. not (same other c.args.contact.now)) _ (λ x b f' k. search rules) _ _ c.retain.ensures.filtered)
    c.self.invariant c.retain.ensures.capacity
