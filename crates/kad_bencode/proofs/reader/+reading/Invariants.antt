use Rattle.std.proofs.Common.{◌≡◌, ◌+◌, ◌*◌, ◌≤◌, List, [], ◌++◌, map, length}
use Rattle.kad_bencode.specs.Finding.{ArePairs}
use Rattle.kad_bencode.specs.Naming.{AreItems, pairs_named}
use Rattle.kad_bencode.specs.Spelling.{in_order, put_all}
use Rattle.kad_bencode.specs.declared.entries.Pair.{Pair}
use Rattle.kad_bencode.specs.declared.value.Value.{Value}
use Rattle.kad_bencode.proofs.reader.+reading.Given as goal

-- what is inside is shorter
abbrev pub decreases-value_in : goal.decreases-value_in
decreases-value_in l = 2 * length l.bytes.now

abbrev pub decreases-list_in : goal.decreases-list_in
decreases-list_in l = 2 * length l.items.now + 1

abbrev pub decreases-dictionary_in : goal.decreases-dictionary_in
decreases-dictionary_in l = 2 * length l.pairs.now + 1

-- the values so far, and those that are left
abbrev pub invariant-list_in-items : goal.invariant-list_in-items
invariant-list_in-items l = record {
  within : length l.rest ≤ length l.fn.items;
  so_far : (ts : List Value) → AreItems l.fn.items ts → (left : List Value) × AreItems l.rest left × (l.values ++ map in_order left ≡ map in_order ts);
}

abbrev pub decreases-list_in-items : goal.decreases-list_in-items
decreases-list_in-items l = length l.rest

-- the pairs so far, and those that are left
abbrev pub invariant-dictionary_in-pairs : goal.invariant-dictionary_in-pairs
invariant-dictionary_in-pairs l = record {
  within : length l.rest ≤ length l.fn.pairs;
  so_far : (ps : List (Pair Value)) → ArePairs l.fn.pairs ps → (left : List (Pair Value)) × ArePairs l.rest left × (put_all l.entries (pairs_named left) ≡ put_all [] (pairs_named ps));
}

abbrev pub decreases-dictionary_in-pairs : goal.decreases-dictionary_in-pairs
decreases-dictionary_in-pairs l = length l.rest
