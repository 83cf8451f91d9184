use Rattle.std.proofs.Common.{◌≡◌, ◌+◌, ◌-◌, ◌≤◌, length}
use Rattle.kad_base.specs.Limits.{max_input}
use Rattle.kad_base.specs.Outside.{Shrinks}
use Rattle.command_base.proofs.input.read_whole.Given as goal

abbrev pub invariant-reading : goal.invariant-reading
invariant-reading g l = record {
  left : Shrinks (g.S.Source.left l.fn.source) (g.S.Source.left l.source) l.bytes;
  few : length l.bytes ≤ max_input + 1;
  room : length l.buf ≡ 4096;
  faults : g.S.Source.faults l.fn.source ≤ g.S.Source.faults l.source;
  well : g.S.Source.faults l.source ≡ g.S.Source.faults l.fn.source;
}

abbrev pub decreases-reading : goal.decreases-reading
decreases-reading g l = (max_input + 1) - length l.bytes
