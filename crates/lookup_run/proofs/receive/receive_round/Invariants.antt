use Rattle.std.proofs.Common.{◌≡◌, ◌≤◌, ◌+◌, length}
use Rattle.kad_base.specs.Limits.{max_datagram}
use Rattle.lookup_core.proofs.Waiting.{still_to}
use Rattle.lookup_run.proofs.WholeRound.{Rounding}
use Rattle.lookup_run.proofs.receive.receive_round.Given as goal

abbrev pub invariant-receiving : goal.invariant-receiving
invariant-receiving g l = record {
  so_far : Rounding l.look (g.G.SealCheck.accepted l.seal) l.fn.work l.work (g.L.Link.told l.fn.link) (g.L.Link.told l.link);
  room : length l.buf ≡ max_datagram + 1;
  moment : g.L.Link.moment l.link ≡ l.work.progress.moment;
  faults : g.L.Link.recv_faults l.fn.link ≤ g.L.Link.recv_faults l.link;
  well : g.L.Link.recv_faults l.link ≡ g.L.Link.recv_faults l.fn.link;
  sends : g.L.Link.send_faults l.link ≡ g.L.Link.send_faults l.fn.link;
  kept : g.L.Link.kept l.link ≡ g.L.Link.kept l.fn.link;
}

abbrev pub decreases-receiving : goal.decreases-receiving
decreases-receiving g l = still_to l.work.progress.receives
