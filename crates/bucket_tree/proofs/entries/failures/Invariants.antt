use Rattle.std.proofs.Common.{◌≡◌, drop}
use Rattle.std.specs.Prelude.{find}
use Rattle.kad_base.specs.Contacts.{same}
use Rattle.bucket_tree.proofs.entries.failures.Given as goal

abbrev pub invariant-loop-entry : goal.invariant-loop-entry
invariant-loop-entry l = find (λ e. same l.contact e.contact) (drop l.entry-index l.entries) ≡ find (λ e. same l.contact e.contact) l.entries
