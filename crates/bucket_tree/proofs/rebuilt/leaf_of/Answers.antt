use Rattle.std.proofs.Common.{◌≡◌, true, false}
use Rattle.bucket_tree.proofs.Grafting.{leaf-grown, front-first}
use Rattle.bucket_tree.proofs.rebuilt.leaf_of.Goals as goal

pub returns-then-not-is-clause-unsound : goal.returns-then-not-is-clause-unsound
returns-then-not-is-clause-unsound c =
    λ rest e f.
    let first = front-first _ _ _ _ _ rest f c.requires.short in
    let yes : c.is.result ≡ true = c.is.ensures.1 first.here in
    let no_ : c.is.result ≡ false = c.if-not-is.true in
    cc

pub returns-then-not-branch-clause-unsound : goal.returns-then-not-branch-clause-unsound
returns-then-not-branch-clause-unsound c =
    λ rest e f.
    let first = front-first _ _ _ _ _ rest f c.requires.short in
    let yes : c.in_ok-is_row.field-0 ≡ true = c.in_ok-is_row.ensures.row.1 first.sound in
    let no_ : c.in_ok-is_row.field-0 ≡ false = c.if-not-branch.true in
    cc

pub returns-clause-grown : goal.returns-clause-grown
returns-clause-grown c =
    let s = c.args.setting.now in
    leaf-grown s.own s.k s.b c.args.path.now _ _ c.in_ok-leaf.field-0 (c.is.ensures.0 c.if-not-is.false) c.in_ok-bucket.ensures c.in_ok-leaf.ensures.rows c.in_ok-leaf.ensures.under c.requires.within
    (c.in_ok-is_row.ensures.row.0 c.if-not-branch.false) (c.in_ok-is_row.ensures.whole c.if-not-branch.false)
