use Rattle.std.proofs.Common.{◌≡◌, ◌++◌, map, take}
use Rattle.bucket_tree.specs.Rows.{contact_of}
use Rattle.table_refresh.proofs.plan.put_live.Given as goal

abbrev pub invariant-loop-entry : goal.invariant-loop-entry
invariant-loop-entry l = l.due ≡ l.fn.due ++ map contact_of (take l.entry-index l.live)
