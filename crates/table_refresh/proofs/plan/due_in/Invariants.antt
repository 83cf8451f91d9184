use Rattle.std.proofs.Common.{◌≡◌, take}
use Rattle.bucket_tree.specs.States.{states_of}
use Rattle.table_refresh.specs.Refreshed.{pinged_of}
use Rattle.table_refresh.proofs.plan.due_in.Given as goal

abbrev pub invariant-loop-row : goal.invariant-loop-row
invariant-loop-row l = l.due ≡ pinged_of l.all (states_of (take l.row-index l.rows))
