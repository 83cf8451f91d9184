use Rattle.std.proofs.Common.{◌≡◌, ◌-◌, ◌*◌}
use Rattle.bucket_tree.specs.Partition.{bits_from, id_bits, begins}
use Rattle.bucket_tree.proofs.prefix.Prefix.begins.Given as goal

abbrev pub invariant-loop-byte : goal.invariant-loop-byte
invariant-loop-byte l = begins l.self (id_bits l.id) ≡ begins (bits_from (l.self-inside.len - 8 * l.byte) (8 * l.byte) l.self-inside.bits.0) (bits_from (160 - 8 * l.byte) (8 * l.byte) l.id.0)

abbrev pub invariant-loop-at : goal.invariant-loop-at
invariant-loop-at l = begins l.self (id_bits l.id) ≡ begins (bits_from (l.self-inside.len - l.at) l.at l.self-inside.bits.0) (bits_from (160 - l.at) l.at l.id.0)
