use Rattle.std.proofs.Common.{◌-◌, length}
use Rattle.bucket_tree.proofs.rebuilt.+tree_of.Given as goal

abbrev pub decreases-tree_of : goal.decreases-tree_of
decreases-tree_of l = 160 - length l.path.now
