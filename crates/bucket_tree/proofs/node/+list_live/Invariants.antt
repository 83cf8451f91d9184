use Rattle.std.proofs.Common.{◌-◌}
use Rattle.bucket_tree.proofs.node.+list_live.Given as goal

abbrev pub decreases-list_live : goal.decreases-list_live
decreases-list_live l = 160 - l.at
