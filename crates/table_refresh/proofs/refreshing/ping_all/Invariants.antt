use Rattle.std.proofs.Common.{◌≡◌, ◌+◌, ◌*◌, ◌<◌, ◌≤◌, take}
use Rattle.kad_base.specs.Limits.{max_strays}
use Rattle.kad_base.specs.Outside.{Happens}
use Rattle.table_refresh.specs.inner.Steps.{PingsThese}
use Rattle.table_refresh.proofs.refreshing.ping_all.Given as goal

abbrev pub invariant-loop-head : goal.invariant-loop-head
invariant-loop-head g l = record {
  so_far : Happens (g.L.Link.told l.fn.link) (g.L.Link.told l.link) (PingsThese l.setting (g.G.SealCheck.accepted l.seal) (take l.head-index l.due) l.fn.words l.words l.fn.work l.work);
  few : l.work.strays < max_strays;
  seed : l.words.seed ≡ l.fn.words.seed;
  place : l.words.place ≤ l.fn.words.place + 2 * l.head-index;
  faults : g.L.Link.recv_faults l.fn.link ≤ g.L.Link.recv_faults l.link;
  well : g.L.Link.recv_faults l.link ≡ g.L.Link.recv_faults l.fn.link;
  kept : g.L.Link.kept l.link ≡ g.L.Link.kept l.fn.link;
}
