use Rattle.std.proofs.Common.{◌≡◌, ◌≤◌, length}
use Rattle.kad_base.specs.Outside.{Happens}
use Rattle.serve_batches.specs.Ring.{ring}
use Rattle.serve_batches.specs.Crew.{SendsAll, batch_slots}
use Rattle.serve_batches.proofs.replying.send_each.Given as goal

abbrev pub invariant-loop-j : goal.invariant-loop-j
invariant-loop-j g l = record {
  place : l.place ≡ ring (length l.crew) l.j;
  most : l.sent ≤ l.j;
  told : Happens (g.L.Link.told l.fn.link) (g.L.Link.told l.link) (SendsAll (batch_slots l.crew l.j) l.sent);
  faults : g.L.Link.recv_faults l.link ≡ g.L.Link.recv_faults l.fn.link;
  kept : g.L.Link.kept l.link ≡ g.L.Link.kept l.fn.link;
}
