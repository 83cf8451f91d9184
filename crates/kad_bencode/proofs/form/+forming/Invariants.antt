use Rattle.std.proofs.Common.{◌≡◌, ℕ, ◌+◌, ◌*◌, ◌-◌, ◌<◌, ◌≤◌, List, ◌++◌, length}
use Rattle.std.specs.List.{AllByRecursion}
use Rattle.kad_bencode.specs.Forming.{dict_text}
use Rattle.kad_bencode.specs.Spelling.{Fits, values_of}
use Rattle.kad_bencode.specs.declared.entries.Pair.{Pair}
use Rattle.kad_bencode.specs.declared.value.Value.{Value}
use Rattle.kad_bencode.proofs.Forming.{FormedSoFar, ValuesSoFar, inside}
use Rattle.kad_bencode.proofs.form.+forming.Given as goal

-- what is inside is shorter
abbrev pub decreases-form_value : goal.decreases-form_value
decreases-form_value l = 2 * length l.text.now + 1

abbrev pub decreases-form_values : goal.decreases-form_values
decreases-form_values l = 2 * length l.text.now

abbrev pub decreases-form_pairs : goal.decreases-form_pairs
decreases-form_pairs l = 2 * length l.text.now

abbrev pub invariant-form_values-values : goal.invariant-form_values-values
invariant-form_values-values l = record {
  after : 0 < l.at;
  within : l.at ≤ length l.text;
  so_far : (b : ℕ) (ts : List Value) (rest : List ℕ) → l.fn.text ≡ inside b ts ++ rest → AllByRecursion (Fits 0) ts → ValuesSoFar l.text l.at b ts rest;
}

abbrev pub decreases-form_values-values : goal.decreases-form_values-values
decreases-form_values-values l = length l.text - l.at

abbrev pub invariant-form_pairs-pairs : goal.invariant-form_pairs-pairs
invariant-form_pairs-pairs l = record {
  after : 0 < l.at;
  within : l.at ≤ length l.text;
  so_far : (ps : List (Pair Value)) (rest : List ℕ) → l.fn.text ≡ dict_text ps ++ rest → AllByRecursion (Fits 0) (values_of ps) → FormedSoFar l.text l.at l.sizes.items ps rest;
}

abbrev pub decreases-form_pairs-pairs : goal.decreases-form_pairs-pairs
decreases-form_pairs-pairs l = length l.text - l.at
