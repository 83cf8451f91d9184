use Rattle.std.proofs.Common.{◌≡◌, sym, subst}
use Rattle.std.specs.BTreeMap.{is_at}
use Rattle.std.specs.Map.{lookup}
use Rattle.std.specs.Option.{IsSomeAnd}
use Rattle.aged_map.proofs.Marking.{marked_renew}
use Rattle.aged_map.proofs.map.AgedMap.renew.Goals as goal

pub invariant_of-self-in-Ok-insert : goal.invariant_of-self-in-Ok-insert
invariant_of-self-in-Ok-insert g c = record {
  sorted = c.in-Ok.ensures.ordered;
  marked =
      λ whole. marked_renew g.met.K.Ord.total g.V.Aged.moment c.self.inside.held.entries c.insert.new.self.entries c.self.inside.ages.keys c.insert-2.new.self.keys c.remove.new.self.keys c.args.key c.args.value c.args.last c.moment-moment.result
      (c.self.invariant.marked whole)
      (subst (λ h. IsSomeAnd (lookup (is_at (g.K.Ord.cmp c.args.key)) h) (λ w. g.V.Aged.moment w ≡ c.args.last)) (sym c.self.view_is) c.requires)
      c.moment-moment.ensures (λ e. c.if-moment-last.false (sym e)) c.in-Ok.ensures.updates.0 c.in-Ok-insert.ensures.updates.0 c.remove.ensures.updates.0;
}
