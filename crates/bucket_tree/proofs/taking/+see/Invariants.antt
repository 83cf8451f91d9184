use Rattle.std.proofs.Common.{◌-◌}
use Rattle.bucket_tree.proofs.taking.+see.Given as goal

abbrev pub decreases-see : goal.decreases-see
decreases-see l = 160 - l.at
