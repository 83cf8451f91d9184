use Rattle.std.proofs.Common.{◌≤◌, ◌-◌, length}
use Rattle.kad_bencode.specs.declared.value.Value.{Value}
use Rattle.kad_bencode.specs.Scanning.{IsAmid, Begins}
use Rattle.kad_bencode.proofs.scan.past.Given as goal

abbrev pub invariant-loop-at : goal.invariant-loop-at
invariant-loop-at l = record {
  within : l.at ≤ length l.bytes;
  few : l.depth ≤ l.at;
  amid : (t : Value) → Begins l.bytes t → IsAmid l.bytes t l.at l.depth;
}

abbrev pub decreases-loop-at : goal.decreases-loop-at
decreases-loop-at l = length l.bytes - l.at
