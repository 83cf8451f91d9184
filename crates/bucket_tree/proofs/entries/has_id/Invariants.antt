use Rattle.std.proofs.Common.{◌≡◌, ◌≢◌, take, drop}
use Rattle.std.specs.List.{All, list_any}
use Rattle.bucket_tree.specs.Partition.{id_bits}
use Rattle.bucket_tree.specs.Rows.{same_id}
use Rattle.bucket_tree.proofs.entries.has_id.Given as goal

abbrev pub invariant-loop-entry : goal.invariant-loop-entry
invariant-loop-entry l = record {
  unknown : list_any (λ e. same_id e.contact.id l.id) (drop l.entry-index l.entries) ≡ list_any (λ e. same_id e.contact.id l.id) l.entries;
  apart : All (λ e. id_bits e.contact.id ≢ id_bits l.id) (take l.entry-index l.entries);
}
