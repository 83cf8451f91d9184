-- Which bytes are written forms (BEP 3: the keys of each dictionary ascend).
use Rattle.std.specs.Prelude.{◌≡◌, ℕ, List}
use Rattle.kad_bencode.specs.Spelling.{Fits, text_of, in_order}
use Rattle.kad_bencode.specs.declared.value.Value.{Value}

-- the bytes are the written form of a value that may stand where that many lists and dictionaries are open around it
pub record IsWrittenForm (around : ℕ) (bytes : List ℕ) : Type 0 where
  pub value : Value
  pub text : bytes ≡ text_of value
  pub fits : Fits around value
  pub ordered : in_order value ≡ value
