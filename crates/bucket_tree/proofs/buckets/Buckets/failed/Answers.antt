use Rattle.std.proofs.Common.{sym, subst}
use Rattle.std.specs.Prelude.{List, Bool}
use Rattle.bucket_tree.specs.Rows.{BucketsState}
use Rattle.bucket_tree.specs.BucketSteps.{FailedStep}
use Rattle.bucket_tree.specs.Trees.{rows_of, IsUnder}
use Rattle.bucket_tree.proofs.Ways.{path_none}
use Rattle.bucket_tree.proofs.Shape.{tree_sound}
use Rattle.bucket_tree.proofs.FailedRows.{fails_there, failed_tree}
use Rattle.bucket_tree.proofs.buckets.Buckets.failed.Goals as goal

pub fail_in-requires-clause-under : goal.fail_in-requires-clause-under
fail_in-requires-clause-under c = subst (λ (p : List Bool). IsUnder p c.self.inside.root) (sym (path_none c.args.contact.now.id)) c.self.invariant.under

pub invariant_of-self : goal.invariant_of-self
invariant_of-self c =
    let s = c.self.inside.setting in
    failed_tree s.own s.k s.b c.args.contact.now c.fail_in.result c.self.inside.root c.fail_in.new.node c.self.invariant c.fail_in.ensures.step (subst (λ (p : List Bool). IsUnder p c.fail_in.new.node) (path_none c.args.contact.now.id) c.fail_in.ensures.under)

pub returns-clause-step : goal.returns-clause-step
returns-clause-step c =
    let s = c.self.inside.setting in
    subst (λ (t : BucketsState). FailedStep c.args.contact.now t.rows c.fail_in.result (rows_of c.fail_in.new.node)) c.self.view_is
    (fails_there s.own s.k s.b c.args.contact.now (rows_of c.self.inside.root) (rows_of c.fail_in.new.node) c.fail_in.result (tree_sound s.own s.k s.b c.self.inside.root c.self.invariant).rows c.fail_in.ensures.step)
