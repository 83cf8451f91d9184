use Rattle.std.proofs.Common.{◌≡◌, take, map}
use Rattle.bucket_tree.specs.Rows.{contact_of}
use Rattle.bucket_tree.proofs.sound.contacts_of.Given as goal

abbrev pub invariant-loop-entry : goal.invariant-loop-entry
invariant-loop-entry l = l.contacts.items ≡ map contact_of (take l.entry-index l.entry-items)
