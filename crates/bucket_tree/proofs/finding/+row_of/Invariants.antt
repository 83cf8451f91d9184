use Rattle.std.proofs.Common.{◌-◌}
use Rattle.bucket_tree.proofs.finding.+row_of.Given as goal

abbrev pub decreases-row_of : goal.decreases-row_of
decreases-row_of l = 160 - l.at
