use Rattle.std.proofs.Common.{◌≡◌, ◌+◌, ◌≤◌, length}
use Rattle.serve_crew.specs.Hands.{SameHands}
use Rattle.lookup_crowd.specs.inner.Crowd.{stand}
use Rattle.look_many.specs.inner.Following.{Says}
use Rattle.look_many.proofs.Following.{AreLeft}
use Rattle.look_many.proofs.follow.follow_all.Given as goal

abbrev pub invariant-following : goal.invariant-following
invariant-following g l = record {
  says : Says l.fn.plan (g.G.SealCheck.accepted l.site.seal.now) (g.G.Seal.tag_of l.site.seal.now) l.site.desk.setting.now (stand l.fn.seekers l.fn.driver.progress l.fn.words l.fn.driver.host (g.L.Link.told l.fn.link)) (stand l.seekers l.driver.progress l.words l.driver.host (g.L.Link.told l.link)) l.fn.log.owners.items l.log.owners.items l.fn.log.said.items l.log.said.items;
  left : AreLeft l.fn.plan l.left.items l.driver.progress.unsaid;
  place : l.words.place + l.driver.progress.unsaid ≡ l.fn.words.place + length l.fn.plan;
  same : SameHands l.fn.driver.host l.driver.host;
  moment : g.L.Link.moment l.link ≡ l.driver.progress.moment;
  len : length l.seekers ≡ length l.fn.seekers;
  faults : g.L.Link.recv_faults l.link ≡ g.L.Link.recv_faults l.fn.link;
  sends : g.L.Link.send_faults l.fn.link ≤ g.L.Link.send_faults l.link;
  kept : g.L.Link.kept l.link ≡ g.L.Link.kept l.fn.link;
}

abbrev pub decreases-following : goal.decreases-following
decreases-following g l = length l.left.items
