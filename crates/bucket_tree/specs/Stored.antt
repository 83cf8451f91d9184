-- How a prefix is stored: as an identifier, of which the bits past its length are zero.
use Rattle.std.specs.Prelude.{◌≡◌, ℕ, ◌<◌, ◌≤◌, List, false}
use Rattle.bucket_tree.specs.Partition.{bit}

pub record IsPrefix (bytes : List ℕ) (len : ℕ) : Type 0 where
  pub short : len ≤ 160
  pub clear : (i : ℕ) → len ≤ i → i < 160 → bit bytes i ≡ false
