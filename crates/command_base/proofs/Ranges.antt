-- The values of the words are within the limits.
use Rattle.std.proofs.Common.{ℕ, ◌≤◌, Option, Some, None, arith}
use Rattle.kad_base.specs.declared.types.Id.{Id}
use Rattle.kad_words.specs.Table.{Word, bits_option, k_option, Values, IsLookAt, NumberOf}
use Rattle.kad_text.specs.Text.{SpellsNumber}
use Rattle.kad_words.specs.declared.command.LookWords.{LookWords}
use Rattle.kad_words.specs.Values.{IsGivenOr}
use Rattle.command_base.specs.Started.{AreTableBounds, IsInRange}

pub record Within (least most n : ℕ) : Type 0 where
  pub above : least ≤ n
  pub below : n ≤ most

pub within : (least most default : ℕ) → least ≤ default → default ≤ most → (value : Option Word) (n : ℕ) → IsGivenOr default (SpellsNumber least most) value n → Within least most n
within least most default low high None n is = record { above = omega (arith, is, low); below = omega (arith, is, high) }
within least most default low high (Some value) n is = record { above = is.above; below = is.below }

-- the options of a lookup are, whatever names its target
pub look_in_range : (target : Id) (value : Values) (look : LookWords) → IsLookAt target value look → IsInRange look
look_in_range target value look h =
    let k = within 1 20 8 (omega arith) (omega arith) _ look.k h.k in
    let paths = within 1 8 4 (omega arith) (omega arith) _ look.paths h.paths in
    let alpha = within 1 4 3 (omega arith) (omega arith) _ look.alpha h.alpha in
    let bits = within 1 5 1 (omega arith) (omega arith) _ look.bits h.bits in
    record {
      some_live = k.above;
      few_live = k.below;
      some_path = paths.above;
      few_paths = paths.below;
      some_query = alpha.above;
      few_queries = alpha.below;
      some_bits = bits.above;
      few_bits = bits.below;
    }

pub table_in_range : (value : Values) (k bits : ℕ) → NumberOf k_option value k → NumberOf bits_option value bits → AreTableBounds k bits
table_in_range value k bits is_k is_bits =
    let live = within 1 20 8 (omega arith) (omega arith) _ k is_k in
    let split = within 1 5 1 (omega arith) (omega arith) _ bits is_bits in
    record { some_live = live.above; few_live = live.below; some_bits = split.above; few_bits = split.below }
