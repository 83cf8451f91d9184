use Rattle.std.proofs.Common.{sym, ap, subst, ◌∙◌}
use Rattle.std.specs.Prelude.{List, Bool}
use Rattle.std.specs.List.{flat_map}
use Rattle.kad_base.specs.Contacts.{among}
use Rattle.bucket_tree.specs.Rows.{BucketsState}
use Rattle.bucket_tree.specs.States.{kept_in}
use Rattle.bucket_tree.specs.Trees.{rows_of, IsUnder}
use Rattle.bucket_tree.proofs.Ways.{path_none}
use Rattle.bucket_tree.proofs.Shape.{tree_sound}
use Rattle.bucket_tree.proofs.Found.{kept_there}
use Rattle.bucket_tree.proofs.buckets.Buckets.keeps.Goals as goal

pub row_of-requires-clause-under : goal.row_of-requires-clause-under
row_of-requires-clause-under c = subst (λ (p : List Bool). IsUnder p c.self.inside.root) (sym (path_none c.args.contact.now.id)) c.self.invariant.under

pub returns : goal.returns
returns c =
    let s = c.self.inside.setting in
    let x = c.args.contact.now in
    c.keeps.ensures ∙ kept_there s.own s.k s.b x (rows_of c.self.inside.root) c.row_of.result.now (tree_sound s.own s.k s.b c.self.inside.root c.self.invariant).rows c.row_of.ensures
    ∙ ap (λ (t : BucketsState). among (flat_map kept_in t.rows) x) c.self.view_is
