use Rattle.std.proofs.Common.{◌≡◌, ◌≤◌, ◌+◌, length}
use Rattle.kad_base.specs.Limits.{max_datagram}
use Rattle.lookup_core.specs.SendFaults.{Refuses}
use Rattle.lookup_run.specs.inner.DriverInvariant.{weight_of}
use Rattle.lookup_run.proofs.Rounding.{Rounding}
use Rattle.lookup_run.proofs.round.go_rounds.Given as goal

abbrev pub invariant-rounds : goal.invariant-rounds
invariant-rounds g l = record {
  rounding : Rounding g.O.Schedule.scheduling l.look (g.G.SealCheck.accepted l.seal) l.fn.words l.words l.fn.work l.work (g.L.Link.told l.fn.link) (g.L.Link.told l.link);
  moment : g.L.Link.moment l.link ≡ l.work.progress.moment;
  room : length l.buf ≡ max_datagram + 1;
  refuses : Refuses l.fn.work.lookup.book.journal l.work.lookup.book.journal (g.L.Link.send_faults l.fn.link) (g.L.Link.send_faults l.link);
  faults : g.L.Link.recv_faults l.fn.link ≤ g.L.Link.recv_faults l.link;
  well : g.L.Link.recv_faults l.link ≡ g.L.Link.recv_faults l.fn.link;
  kept : g.L.Link.kept l.link ≡ g.L.Link.kept l.fn.link;
}

abbrev pub decreases-rounds : goal.decreases-rounds
decreases-rounds g l = weight_of l.work
