use Rattle.std.proofs.Common.{◌≡◌, ◌≤◌}
use Rattle.serve_batches.specs.Crew.{SameCrew}
use Rattle.serve_batches.proofs.Arriving.{Arrived, AllInTime}
use Rattle.serve_batches.proofs.receiving.receive_into.Given as goal

abbrev pub invariant-loop-made : goal.invariant-loop-made
invariant-loop-made g l = record {
  same : SameCrew l.fn.crew l.crew;
  arrived : Arrived l.fn.end l.fn.moment l.crew l.made l.place l.until (g.L.Link.told l.fn.link) (g.L.Link.told l.link);
  in_time : AllInTime l.fn.end l.crew l.made;
  faults : g.L.Link.recv_faults l.fn.link ≤ g.L.Link.recv_faults l.link;
  well : g.L.Link.recv_faults l.link ≡ g.L.Link.recv_faults l.fn.link;
  kept : g.L.Link.kept l.link ≡ g.L.Link.kept l.fn.link;
}
