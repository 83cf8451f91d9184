use Rattle.std.proofs.Common.{◌≡◌, ◌≤◌}
use Rattle.kad_base.specs.Outside.{Grows}
use Rattle.node_serve.specs.Lasting.{end_of}
use Rattle.node_serve.specs.Responded.{ReceivesAll, server_at}
use Rattle.node_serve.proofs.service.serve_loop.Given as goal

abbrev pub invariant-loop-i : goal.invariant-loop-i
invariant-loop-i g l = record {
  all : Grows (g.L.Link.told l.fn.link) (g.L.Link.told l.link) (ReceivesAll (g.G.Seal.tag_of l.seal) (end_of l.fn.began l.fn.lasting.minutes) l.i (server_at l.fn.node l.fn.began) l.server);
  few : l.server.received ≤ l.i;
  fewer : l.server.replied ≤ l.server.received;
  faults : g.L.Link.recv_faults l.fn.link ≤ g.L.Link.recv_faults l.link;
  well : g.L.Link.recv_faults l.link ≡ g.L.Link.recv_faults l.fn.link;
  kept : g.L.Link.kept l.link ≡ g.L.Link.kept l.fn.link;
}
