use Rattle.std.proofs.Common.{◌≡◌, ◌++◌, take, map}
use Rattle.bucket_tree.specs.Rows.{contact_of}
use Rattle.bucket_tree.proofs.bucket.Bucket.list_live.Given as goal

abbrev pub invariant-loop-entry : goal.invariant-loop-entry
invariant-loop-entry l = l.list ≡ l.initial.list ++ map contact_of (take l.entry-index l.entry-items)
