use Rattle.std.proofs.Common.{◌≡◌, ◌≢◌, [], length, true, ◌≤◌}
use Rattle.id_puzzles.specs.Drawn.{WordsState}
use Rattle.serve_crew.specs.Hands.{SameHands}
use Rattle.lookup_crowd.specs.inner.Crowd.{Advances, stand}
use Rattle.lookup_crowd.specs.inner.ManySteps.{MayAwait, ReceivedAll}
use Rattle.lookup_core.proofs.Waiting.{still_to}
use Rattle.lookup_crowd.proofs.round.receive_round.Given as goal

abbrev pub invariant-receiving : goal.invariant-receiving
invariant-receiving g l = record {
  may : l.driver.progress.receives ≢ 0 → MayAwait l.seekers l.driver.progress;
  received : ReceivedAll l.fn.seekers l.seekers l.fn.driver.progress l.driver.progress;
  goes : (words : WordsState) → Advances true [] (g.G.SealCheck.accepted l.site.seal.now) (g.G.Seal.tag_of l.site.seal.now) l.site.desk.setting.now (stand l.fn.seekers l.fn.driver.progress words l.fn.driver.host (g.L.Link.told l.fn.link)) (stand l.seekers l.driver.progress words l.driver.host (g.L.Link.told l.link));
  same : SameHands l.fn.driver.host l.driver.host;
  moment : g.L.Link.moment l.link ≡ l.driver.progress.moment;
  len : length l.seekers ≡ length l.fn.seekers;
  faults : g.L.Link.recv_faults l.link ≡ g.L.Link.recv_faults l.fn.link;
  sends : g.L.Link.send_faults l.fn.link ≤ g.L.Link.send_faults l.link;
  kept : g.L.Link.kept l.link ≡ g.L.Link.kept l.fn.link;
}

abbrev pub decreases-receiving : goal.decreases-receiving
decreases-receiving g l = still_to l.driver.progress.receives
