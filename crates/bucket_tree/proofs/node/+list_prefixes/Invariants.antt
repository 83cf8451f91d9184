use Rattle.std.proofs.Common.{◌-◌}
use Rattle.bucket_tree.proofs.node.+list_prefixes.Given as goal

abbrev pub decreases-list_prefixes : goal.decreases-list_prefixes
decreases-list_prefixes l = 160 - l.at
