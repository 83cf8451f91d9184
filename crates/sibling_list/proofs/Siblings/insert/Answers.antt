use Rattle.std.proofs.Common.{◌≡◌, true, ◌∷◌, [], ◌++◌, List, ◌∙◌, ap, sym}
use Rattle.kad_base.specs.Limits.{max_siblings}
use Rattle.kad_base.specs.declared.types.Contact.{Contact}
use Rattle.kad_base.specs.Contacts.{among}
use Rattle.kad_distance.specs.KClosest.{k_closest}
use Rattle.kad_distance.proofs.Stays.{closest_there}
use Rattle.sibling_list.specs.Siblings.{SiblingList, with_one}
use Rattle.sibling_list.proofs.Listing.{put_is, grows}
use Rattle.sibling_list.proofs.Siblings.insert.Goals as goal

pub invariant_of-self : goal.invariant_of-self
invariant_of-self c = grows c.self.inside.own c.self.inside.contacts.items c.put_closest.new.near.items _ c.args.contact c.if-is_own.ensures c.put_closest.ensures.items c.self.invariant.0 c.put_closest.ensures.room

pub returns-then-is_there-clause-list : goal.returns-then-is_there-clause-list
returns-then-is_there-clause-list c =
    let own = c.self.inside.own in
    let items = c.self.inside.contacts.items in
    let x = c.args.contact in
    let there : among items x ≡ true = ap (λ (l : List Contact). among l x) (sym c.as_slice.ensures.value) ∙ sym c.is_there.ensures ∙ c.if-is_there.true in
    let stays : items ≡ k_closest own max_siblings (items ++ x ∷ []) = closest_there own max_siblings items x c.self.invariant.0.sorted c.self.invariant.0.few there in
    sym (ap (λ (s : SiblingList). s.list) c.self.view_is)
    ∙ put_is (record { own = own; list = items }) items x c.if-is_own.ensures stays
    ∙ ap (λ s. with_one s x) c.self.view_is

pub returns-clause-list : goal.returns-clause-list
returns-clause-list c =
    put_is (record { own = c.self.inside.own; list = c.self.inside.contacts.items }) c.put_closest.new.near.items c.args.contact c.if-is_own.ensures c.put_closest.ensures.items
    ∙ ap (λ s. with_one s c.args.contact) c.self.view_is
