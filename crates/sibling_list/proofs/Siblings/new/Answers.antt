use Rattle.sibling_list.proofs.Listing.{none_yet}
use Rattle.sibling_list.proofs.Siblings.new.Goals as goal

pub invariant_of-result : goal.invariant_of-result
invariant_of-result c = (none_yet c.args.own c.in_ok-contacts.contacts.items c.in_ok-contacts.ensures.items, c.in_ok-contacts.ensures.capacity)
