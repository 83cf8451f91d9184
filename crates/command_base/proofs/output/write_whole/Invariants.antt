use Rattle.std.proofs.Common.{◌≡◌, ◌-◌, ◌≤◌, length, take}
use Rattle.kad_base.specs.Outside.{Grows}
use Rattle.command_base.proofs.output.write_whole.Given as goal

abbrev pub invariant-writing : goal.invariant-writing
invariant-writing g l = record {
  within : l.at ≤ length l.bytes;
  written : Grows (g.K.Sink.written l.fn.sink) (g.K.Sink.written l.sink) (λ t. t ≡ take l.at l.bytes);
  faults : g.K.Sink.faults l.fn.sink ≤ g.K.Sink.faults l.sink;
  well : g.K.Sink.faults l.sink ≡ g.K.Sink.faults l.fn.sink;
}

abbrev pub decreases-writing : goal.decreases-writing
decreases-writing g l = length l.bytes - l.at
