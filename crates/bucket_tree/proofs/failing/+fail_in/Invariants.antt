use Rattle.std.proofs.Common.{◌-◌}
use Rattle.bucket_tree.proofs.failing.+fail_in.Given as goal

abbrev pub decreases-fail_in : goal.decreases-fail_in
decreases-fail_in l = 160 - l.at
