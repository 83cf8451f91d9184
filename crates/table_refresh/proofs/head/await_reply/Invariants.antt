use Rattle.std.proofs.Common.{◌≡◌, ◌-◌, ◌<◌, ◌≤◌, ◌+◌, length}
use Rattle.kad_base.specs.Limits.{max_datagram, max_strays}
use Rattle.kad_base.specs.Outside.{Happens}
use Rattle.table_refresh.specs.declared.types.Tried.TheVariants.{Waits}
use Rattle.table_refresh.specs.inner.Steps.{Takes}
use Rattle.table_refresh.proofs.head.await_reply.Given as goal

abbrev pub invariant-waiting : goal.invariant-waiting
invariant-waiting g l = record {
  so_far : Happens (g.L.Link.told l.fn.link) (g.L.Link.told l.link) (Takes l.setting (g.G.SealCheck.accepted l.seal) l.query l.fn.work l.work Waits);
  room : length l.buf ≡ max_datagram + 1;
  few : l.work.strays < max_strays;
  faults : g.L.Link.recv_faults l.fn.link ≤ g.L.Link.recv_faults l.link;
  well : g.L.Link.recv_faults l.link ≡ g.L.Link.recv_faults l.fn.link;
  kept : g.L.Link.kept l.link ≡ g.L.Link.kept l.fn.link;
}

abbrev pub decreases-waiting : goal.decreases-waiting
decreases-waiting g l = max_strays - l.work.strays
