use Rattle.std.proofs.Common.{◌≡◌, length}
use Rattle.lookup_core.specs.Sealed.{Accepts}
use Rattle.node_serve.specs.declared.setting.ServeSetting.{ServeSetting}
use Rattle.node_serve.specs.Sealing.{Tags}
use Rattle.serve_crew.specs.Hands.{Hands}
use Rattle.lookup_crowd.specs.inner.Crowd.{stand, LosesMore}
use Rattle.lookup_crowd.specs.inner.ManySteps.{MayAskAll, AsksAll, NoneBefore}
use Rattle.lookup_crowd.proofs.ask.ask_all.Given as goal

abbrev pub invariant-loop-i : goal.invariant-loop-i
invariant-loop-i g l = record {
  len : length l.seekers ≡ length l.fn.seekers;
  asks : (accepts : Accepts) (tags : Tags) (server : ServeSetting) (host : Hands) → AsksAll accepts tags server (stand l.fn.seekers l.progress l.fn.words host (g.L.Link.told l.fn.link)) (stand l.seekers l.progress l.words host (g.L.Link.told l.link)) l.fn.owners.items l.owners.items;
  may : MayAskAll l.seekers l.progress l.words;
  none_before : NoneBefore l.i 0 l.seekers;
  moment : g.L.Link.moment l.link ≡ g.L.Link.moment l.fn.link;
  faults : g.L.Link.recv_faults l.link ≡ g.L.Link.recv_faults l.fn.link;
  loses : LosesMore l.fn.seekers l.seekers (g.L.Link.send_faults l.fn.link) (g.L.Link.send_faults l.link);
  kept : g.L.Link.kept l.link ≡ g.L.Link.kept l.fn.link;
}
