use Rattle.std.proofs.Common.{ℕ, ◌<◌, ◌-◌, sym, ap, refl, subst}
use Rattle.aged_map.proofs.Marking.{nothing_held, all_young, purged_drop, marked_drop, none_of, first_is, not_young}
use Rattle.aged_map.proofs.map.drop_first.Goals as goal

pub returns-in-None-clause-all : goal.returns-in-None-clause-all
returns-in-None-clause-all g c _ =
    nothing_held g.met.K.Ord.total g.V.Aged.moment c.args.age c.args.at c.args.held.now.entries c.args.ages.now.keys c.requires.marked
    (none_of c.args.ages.now.keys c.in-None.ensures.variant.1)

pub returns-then-is_young-clause-all : goal.returns-then-is_young-clause-all
returns-then-is_young-clause-all g c _ =
    all_young g.met.K.Ord.total g.V.Aged.moment c.args.age c.args.at c.in-Some.mark.now.0 c.in-Some.mark.now.1 c.args.held.now c.args.ages.now.keys
    c.requires.sorted c.requires.marked c.in-Some.ensures.all_from (c.if-is_young.ensures.0 refl)

pub returns-in-Some-pop_first-clause-kept : goal.returns-in-Some-pop_first-clause-kept
returns-in-Some-pop_first-clause-kept g c =
    let popped = first_is c.args.ages.now.keys c.pop_first.new.self.keys c.in-Some.mark.now c.in-Some-pop_first.mark c.in-Some.ensures.first c.in-Some-pop_first.ensures.removal in
    purged_drop g.met.K.Ord.total g.V.Aged.moment c.args.age c.args.at c.args.held.now.entries c.remove.new.self.entries c.args.ages.now.keys
    c.in-Some-pop_first.mark.0 c.in-Some-pop_first.mark.1 c.requires.marked c.in-Some-pop_first.ensures.member (not_young c.args.age c.args.at c.in-Some-pop_first.mark.0 (λ lt. c.if-is_young.ensures.1 (subst (λ (m : ℕ). c.args.at - m < c.args.age) (sym (ap (λ (x : ℕ × g.row.K.Denot). x.0) popped)) lt))) c.remove.ensures.entries

pub returns-in-Some-pop_first-clause-marked : goal.returns-in-Some-pop_first-clause-marked
returns-in-Some-pop_first-clause-marked g c =
    marked_drop g.met.K.Ord.total g.V.Aged.moment c.args.held.now.entries c.remove.new.self.entries c.args.ages.now.keys c.pop_first.new.self.keys
    c.in-Some-pop_first.mark.0 c.in-Some-pop_first.mark.1 c.requires.marked c.in-Some-pop_first.ensures.member c.remove.ensures.updates.0 c.in-Some-pop_first.ensures.updates.0
