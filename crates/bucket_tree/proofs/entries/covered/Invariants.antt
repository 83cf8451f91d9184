use Rattle.std.proofs.Common.{◌≡◌, ◌≤◌, take, length, vec_capacity}
use Rattle.std.specs.Prelude.{filter}
use Rattle.bucket_tree.specs.Partition.{id_bits, begins}
use Rattle.bucket_tree.proofs.entries.covered.Given as goal

abbrev pub invariant-loop-entry : goal.invariant-loop-entry
invariant-loop-entry l = record {
  items : l.kept.items ≡ filter (λ e. begins l.prefix (id_bits e.contact.id)) (take l.entry-index l.entries);
  room : length l.kept.items ≤ vec_capacity l.kept;
}
