use Rattle.std.proofs.Common.{ℕ, ◌≤◌, List, Bool, length, sym, subst}
use Rattle.std.specs.List.{All}
use Rattle.bucket_tree.specs.Partition.{id_bits}
use Rattle.bucket_tree.proofs.OneBit.{id_bits-length}
use Rattle.bucket_tree.proofs.Shares.{one_begins}
use Rattle.bucket_tree.proofs.laws.one_prefix.Goals as goal

pub returns : goal.returns
returns c P id d a = one_begins P (id_bits id) d (subst (λ (n : ℕ). All (λ (p : List Bool). length p ≤ n) P) (sym (id_bits-length id)) a)
