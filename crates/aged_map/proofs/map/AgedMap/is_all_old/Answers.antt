use Rattle.std.proofs.Common.{◌≡◌, [], not, sym, ap, subst, ◌∙◌}
use Rattle.std.proofs.lemmas.Bool.{false≢true}
use Rattle.aged_map.specs.Ages.{purged}
use Rattle.aged_map.proofs.Marking.{all_old}
use Rattle.aged_map.proofs.map.AgedMap.is_all_old.Goals as goal

pub returns-in-Some : goal.returns-in-Some
returns-in-Some g c all =
    subst (λ h. purged g.V.Aged.moment c.args.age c.args.at h ≡ []) c.self.view_is
    (all_old g.met.K.Ord.total g.V.Aged.moment c.args.age c.args.at c.in-Some.mark.now.0 c.in-Some.mark.now.1 c.self.inside.held c.self.inside.ages.keys
    c.self.invariant.sorted (c.self.invariant.marked c.if-not-self.false) c.in-Some.ensures.all_up_to
    (λ lt. false≢true (sym (ap not (c.is_young.ensures.1 lt)) ∙ all)))
