use Rattle.std.proofs.Common.{◌≡◌, take}
use Rattle.sibling_list.specs.Siblings.{IsSiblings}
use Rattle.sibling_list.proofs.Siblings.of_list.Given as goal

abbrev pub invariant-loop-contact : goal.invariant-loop-contact
invariant-loop-contact l = record {
  own : l.siblings.own ≡ l.fn.own;
  list : IsSiblings (record { own = l.fn.own; list = l.list }) → l.siblings.list ≡ take l.contact-index l.list;
}
