use Rattle.std.proofs.Common.{◌≡◌}
use Rattle.lookup_core.specs.SendFaults.{Refuses}
use Rattle.lookup_run.specs.inner.RoundSteps.{Asks}
use Rattle.lookup_run.specs.inner.DriverInvariant.{weight_of}
use Rattle.lookup_run.proofs.ask.ask_path.Given as goal

abbrev pub invariant-asking : goal.invariant-asking
invariant-asking g l = record {
  asks : Asks l.look l.path l.path l.fn.words l.words l.fn.work l.work (g.L.Link.told l.fn.link) (g.L.Link.told l.link);
  moment : g.L.Link.moment l.link ≡ g.L.Link.moment l.fn.link;
  refuses : Refuses l.fn.work.lookup.book.journal l.work.lookup.book.journal (g.L.Link.send_faults l.fn.link) (g.L.Link.send_faults l.link);
  faults : g.L.Link.recv_faults l.link ≡ g.L.Link.recv_faults l.fn.link;
  kept : g.L.Link.kept l.link ≡ g.L.Link.kept l.fn.link;
}

abbrev pub decreases-asking : goal.decreases-asking
decreases-asking g l = weight_of l.work
