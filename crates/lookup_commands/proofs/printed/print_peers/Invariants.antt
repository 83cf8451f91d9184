use Rattle.std.proofs.Common.{◌≡◌, take}
use Rattle.std.specs.Prelude.{flat_map}
use Rattle.kad_text.specs.Text.{addr_text}
use Rattle.command_base.specs.Printed.{line_of}
use Rattle.lookup_commands.proofs.printed.print_peers.Given as goal

abbrev pub invariant-loop-peer : goal.invariant-loop-peer
invariant-loop-peer l = l.output ≡ flat_map (λ peer. line_of (addr_text peer)) (take l.peer-index l.peers)
