use Rattle.std.proofs.Common.{subst}
use Rattle.bucket_tree.specs.Rows.{BucketsState, Sound}
use Rattle.bucket_tree.proofs.Shape.{tree_sound}
use Rattle.bucket_tree.proofs.buckets.Buckets.sound.Goals as goal

pub returns : goal.returns
returns c = subst (λ (t : BucketsState). Sound t) c.self.view_is (tree_sound c.self.inside.setting.own _ _ c.self.inside.root c.self.invariant)
