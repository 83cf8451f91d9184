use Rattle.std.proofs.Common.{◌≡◌, suc, ◌+◌, ◌-◌, ◌*◌, ◌≤◌, List, [], ◌∷◌, length, take}
use Rattle.kad_bencode.specs.Faults.{Open, InList}
use Rattle.kad_bencode.specs.Machine.{Reached, Ready, Keyless, FitsOpen, FitsPairs}
use Rattle.kad_bencode.proofs.Nested.{ListSoFar, PairsSoFar}
use Rattle.kad_bencode.specs.declared.entries.Pair.{Pair}
use Rattle.kad_bencode.specs.declared.value.Value.{Value}
use Rattle.kad_bencode.specs.Keys.{keys_of}
use Rattle.kad_bencode.specs.Finding.{IsUpTo}
use Rattle.kad_bencode.specs.Filing.{own, Differ, Listed, AreKeys, Noted}
use Rattle.kad_bencode.proofs.verify.+checking.Given as goal

-- the lists and dictionaries that may still be opened
abbrev pub decreases-value_at : goal.decreases-value_at
decreases-value_at l = 7 * (16 - l.depth) + 1

abbrev pub decreases-item_at : goal.decreases-item_at
decreases-item_at l = 7 * (16 - l.depth) + 2

abbrev pub decreases-list_at : goal.decreases-list_at
decreases-list_at l = 7 * (16 - l.depth) + 3

abbrev pub decreases-dictionary_at : goal.decreases-dictionary_at
decreases-dictionary_at l = 7 * (16 - l.depth) + 6

abbrev pub invariant-list_at-values : goal.invariant-list_at-values
invariant-list_at-values l = record {
  after : l.from ≤ l.at;
  within : l.at ≤ length l.bytes;
  frame : take l.top l.places ≡ take l.top l.initial.places;
  so_far : (os : List Open) → suc (length os) ≡ l.depth → Reached l.bytes l.from (Ready (InList [] ∷ os)) → FitsOpen os → ListSoFar l.bytes l.at os;
}

abbrev pub decreases-list_at-values : goal.decreases-list_at-values
decreases-list_at-values l = length l.bytes - l.at

abbrev pub invariant-dictionary_at-pairs : goal.invariant-dictionary_at-pairs
invariant-dictionary_at-pairs l = record {
  after : l.from ≤ l.at;
  within : l.at ≤ length l.bytes;
  order : l.base ≤ l.top;
  frame : take l.base l.places ≡ take l.base l.initial.places;
  so_far : (os : List Open) → suc (length os) ≡ l.depth → Reached l.bytes l.from (Keyless os []) → FitsOpen os → (so : PairsSoFar l.bytes l.at os) × IsUpTo l.greatest (keys_of so.pairs) × (l.top ≤ length l.places → Noted l.bytes (own l.base l.top l.places) os (keys_of so.pairs));
}

abbrev pub decreases-dictionary_at-pairs : goal.decreases-dictionary_at-pairs
decreases-dictionary_at-pairs l = length l.bytes - l.at

abbrev pub decreases-searched_at : goal.decreases-searched_at
decreases-searched_at l = 7 * (16 - l.depth) + 3

abbrev pub invariant-searched_at-sought : goal.invariant-searched_at-sought
invariant-searched_at-sought l = record {
  after : l.start ≤ l.at;
  within : l.at ≤ length l.bytes;
  frame : take l.top l.places ≡ take l.top l.initial.places;
  so_far : (os : List Open) (pairs : List (Pair Value)) → suc (length os) ≡ l.depth → Reached l.bytes l.from (Keyless os []) → FitsOpen os → Reached l.bytes l.start (Keyless os pairs) → FitsPairs os pairs → PairsSoFar l.bytes l.at os;
}

abbrev pub decreases-searched_at-sought : goal.decreases-searched_at-sought
decreases-searched_at-sought l = length l.bytes - l.at

abbrev pub decreases-judged : goal.decreases-judged
decreases-judged l = 7 * (16 - l.depth) + 4

abbrev pub decreases-unsorted_at : goal.decreases-unsorted_at
decreases-unsorted_at l = 7 * (16 - l.depth) + 5

-- as far as the keys differ, they were read, and the places are theirs
abbrev pub invariant-unsorted_at-loose : goal.invariant-unsorted_at-loose
invariant-unsorted_at-loose l = record {
  after : l.start ≤ l.at;
  within : l.at ≤ length l.bytes;
  order : l.base ≤ l.top;
  frame : take l.base l.places ≡ take l.base l.initial.places;
  so_far : (os : List Open) (pairs : List (Pair Value)) → suc (length os) ≡ l.depth → Reached l.bytes l.from (Keyless os []) → FitsOpen os → Reached l.bytes l.start (Keyless os pairs) → FitsPairs os pairs → (l.noted ≤ length l.initial.places → Noted l.bytes (own l.base l.noted l.initial.places) os (keys_of pairs)) → l.top ≤ length l.places → (Differ l.bytes (own l.base l.top l.places) → (so : PairsSoFar l.bytes l.at os) × Listed l.bytes (own l.base l.top l.places) (keys_of so.pairs)) × AreKeys l.bytes (own l.base l.top l.places) os;
}

abbrev pub decreases-unsorted_at-loose : goal.decreases-unsorted_at-loose
decreases-unsorted_at-loose l = length l.bytes - l.at
