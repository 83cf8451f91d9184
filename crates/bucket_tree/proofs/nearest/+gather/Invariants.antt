use Rattle.std.proofs.Common.{◌-◌}
use Rattle.bucket_tree.proofs.nearest.+gather.Given as goal

abbrev pub decreases-gather : goal.decreases-gather
decreases-gather l = 160 - l.at
