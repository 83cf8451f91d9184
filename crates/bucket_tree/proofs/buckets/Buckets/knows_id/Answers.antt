use Rattle.std.proofs.Common.{sym, ap, subst, ◌∙◌}
use Rattle.std.specs.Prelude.{List, Bool}
use Rattle.std.specs.List.{list_any}
use Rattle.kad_base.specs.declared.types.Contact.{Contact}
use Rattle.bucket_tree.specs.Rows.{BucketsState, live_of, same_id}
use Rattle.bucket_tree.specs.Trees.{rows_of, IsUnder}
use Rattle.bucket_tree.proofs.Ways.{path_none}
use Rattle.bucket_tree.proofs.Shape.{tree_sound}
use Rattle.bucket_tree.proofs.Found.{known_there}
use Rattle.bucket_tree.proofs.buckets.Buckets.knows_id.Goals as goal

pub row_of-requires-clause-under : goal.row_of-requires-clause-under
row_of-requires-clause-under c = subst (λ (p : List Bool). IsUnder p c.self.inside.root) (sym (path_none c.args.id.now)) c.self.invariant.under

pub returns : goal.returns
returns c =
    let s = c.self.inside.setting in
    let id = c.args.id.now in
    c.knows_id.ensures ∙ known_there s.own s.k s.b id (rows_of c.self.inside.root) c.row_of.result.now (tree_sound s.own s.k s.b c.self.inside.root c.self.invariant).rows c.row_of.ensures
    ∙ ap (λ (t : BucketsState). list_any (λ (x : Contact). same_id x.id id) (live_of t.rows)) c.self.view_is
