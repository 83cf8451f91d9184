-- What the types of a value keep.
use Rattle.std.specs.Prelude.{◌≡◌, true}
use Rattle.kad_bencode.specs.Spelling.{in_order, is_plain}
use Rattle.kad_bencode.specs.declared.value.Value.{Value}

-- each integer has 64 bits, and the keys of each dictionary ascend, so that none stands twice (BEP 3)
pub record IsWellBuilt (v : Value) : Type 0 where
  pub plain : is_plain v ≡ true
  pub ordered : in_order v ≡ v
