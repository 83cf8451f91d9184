use Rattle.std.proofs.Common.{◌-◌}
use Rattle.bucket_tree.proofs.node.+list_rows.Given as goal

abbrev pub decreases-list_rows : goal.decreases-list_rows
decreases-list_rows l = 160 - l.at
