use Rattle.std.proofs.Common.{◌≡◌, ◌+◌, ◌<◌, ◌≤◌, ◌^◌, length}
use Rattle.kad_base.specs.Outside.{Happens}
use Rattle.serve_batches.specs.Crew.{AreRoomy}
use Rattle.serve_batches.specs.Serving.{SameRoles, ServesBatches}
use Rattle.serve_batches.proofs.batch.serve_each.Given as goal

abbrev pub invariant-loop-progress : goal.invariant-loop-progress
invariant-loop-progress g l = record {
  setting : l.setting ≡ l.fn.setting;
  len : length l.crew.items ≡ length l.fn.crew.items;
  roomy : AreRoomy l.crew.items;
  roles : SameRoles l.fn.crew.items l.crew.items;
  few : l.progress.received + l.progress.left < 2 ^ 32;
  fewer : l.progress.replied ≤ l.progress.received;
  served : Happens (g.L.Link.told l.fn.link) (g.L.Link.told l.link) (ServesBatches (g.G.Seal.tag_of l.service.seal.now) l.fn.service.end l.fn.setting l.fn.progress l.progress l.fn.crew.items l.crew.items);
  faults : g.L.Link.recv_faults l.fn.link ≤ g.L.Link.recv_faults l.link;
  well : g.L.Link.recv_faults l.link ≡ g.L.Link.recv_faults l.fn.link;
  kept : g.L.Link.kept l.link ≡ g.L.Link.kept l.fn.link;
}

abbrev pub decreases-loop-progress : goal.decreases-loop-progress
decreases-loop-progress g l = l.progress.left
