use Rattle.std.proofs.Common.{◌≡◌, None, sym, subst}
use Rattle.std.specs.BTreeMap.{is_at}
use Rattle.std.specs.Map.{lookup}
use Rattle.aged_map.proofs.Marking.{marked_add, marked_back}
use Rattle.aged_map.proofs.map.AgedMap.add.Goals as goal

pub invariant_of-self-in-Ok-insert-2 : goal.invariant_of-self-in-Ok-insert-2
invariant_of-self-in-Ok-insert-2 g c = record {
  sorted = c.in-Ok-insert-2.ensures.ordered;
  marked =
      λ whole. marked_add g.met.K.Ord.total g.V.Aged.moment c.self.inside.held.entries c.insert-3.new.self.entries c.self.inside.ages.keys c.insert-2.new.self.keys c.args.key c.args.value c.moment-moment.result
      (c.self.invariant.marked whole) (subst (λ h. lookup (is_at (g.K.Ord.cmp c.args.key)) h ≡ None) (sym c.self.view_is) c.requires) c.moment-moment.ensures
      c.in-Ok-insert-2.ensures.updates.0 c.in-Ok-insert.ensures.updates.0;
}

pub invariant_of-self-in-Err-insert-2 : goal.invariant_of-self-in-Err-insert-2
invariant_of-self-in-Err-insert-2 g c = record {
  sorted = c.in-Err-insert-2.ensures.ordered;
  marked =
      λ whole. marked_back g.met.K.Ord.total g.V.Aged.moment c.self.inside.held.entries c.insert-3.new.self.entries c.self.inside.ages.keys c.insert-2.new.self.keys c.remove.new.self.keys c.args.key c.moment-moment.result
      (c.self.invariant.marked whole) c.in-Err-insert-2.ensures.absent c.in-Err-insert-2.ensures.err c.in-Ok-insert.ensures.updates.0 c.remove.ensures.updates.0;
}
