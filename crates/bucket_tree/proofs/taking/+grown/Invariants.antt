use Rattle.std.proofs.Common.{◌-◌, ◌*◌, ◌+◌, length}
use Rattle.bucket_tree.proofs.taking.+grown.Given as goal

abbrev pub decreases-grown : goal.decreases-grown
decreases-grown l = 2 * (160 - length l.row.prefix) + 1

abbrev pub decreases-forked : goal.decreases-forked
decreases-forked l = 2 * (160 - length l.row.now.prefix)
