use Rattle.std.proofs.Common.{ap, sym, subst, ◌∙◌}
use Rattle.std.specs.Prelude.{List, Bool}
use Rattle.bucket_tree.specs.Rows.{BucketsState, same_id}
use Rattle.bucket_tree.specs.BucketSteps.{is_own}
use Rattle.bucket_tree.specs.Trees.{IsUnder}
use Rattle.bucket_tree.proofs.Ways.{path_none}
use Rattle.bucket_tree.proofs.Stays.{tree_after}
use Rattle.bucket_tree.proofs.buckets.Buckets.seen.Goals as goal

pub returns-then-is_same_id-clause-ok : goal.returns-then-is_same_id-clause-ok
returns-then-is_same_id-clause-ok c = is_own (ap (λ (t : BucketsState). same_id c.args.contact.id t.own) (sym c.self.view_is) ∙ sym c.is_same_id.ensures ∙ c.if-is_same_id.true)

pub see-requires-clause-under : goal.see-requires-clause-under
see-requires-clause-under c = subst (λ (p : List Bool). IsUnder p c.self.inside.root) (sym (path_none c.args.contact.id)) c.self.invariant.under

pub invariant_of-self : goal.invariant_of-self
invariant_of-self c =
    let s = c.self.inside.setting in
    tree_after s.own s.k s.b c.args.contact c.self.inside.root c.see.new.node c.see.result c.self.invariant c.is_whole.ensures c.see.ensures.ok (subst (λ (p : List Bool). IsUnder p c.see.new.node) (path_none c.args.contact.id) c.see.ensures.under) c.see.ensures.err
