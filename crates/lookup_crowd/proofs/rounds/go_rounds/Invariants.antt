use Rattle.std.proofs.Common.{◌≡◌, length}
use Rattle.std.specs.List.{AllByRecursion}
use Rattle.serve_crew.specs.Hands.{SameHands}
use Rattle.lookup_crowd.specs.inner.Crowd.{stand, LosesMore}
use Rattle.lookup_crowd.specs.inner.ManySteps.{IsSeated}
use Rattle.lookup_crowd.specs.inner.Going.{HaveGone, Begins, SameSeats}
use Rattle.lookup_crowd.proofs.rounds.go_rounds.Given as goal

abbrev pub invariant-rounds : goal.invariant-rounds
invariant-rounds g l = record {
  gone : HaveGone (g.G.SealCheck.accepted l.site.seal.now) (g.G.Seal.tag_of l.site.seal.now) l.site.desk.setting.now (stand l.fn.seekers l.fn.driver.progress l.fn.words l.fn.driver.host (g.L.Link.told l.fn.link)) (stand l.seekers l.driver.progress l.words l.driver.host (g.L.Link.told l.link)) l.fn.owners.items l.owners.items;
  begins : Begins (stand l.seekers l.driver.progress l.words l.driver.host (g.L.Link.told l.link));
  same : SameHands l.fn.driver.host l.driver.host;
  len : length l.seekers ≡ length l.fn.seekers;
  seats : SameSeats l.fn.seekers l.seekers;
  seated : AllByRecursion (IsSeated l.site.desk.turns.now.table) l.seekers;
  moment : g.L.Link.moment l.link ≡ l.driver.progress.moment;
  recv_faults : g.L.Link.recv_faults l.link ≡ g.L.Link.recv_faults l.fn.link;
  loses : LosesMore l.fn.seekers l.seekers (g.L.Link.send_faults l.fn.link) (g.L.Link.send_faults l.link);
  kept : g.L.Link.kept l.link ≡ g.L.Link.kept l.fn.link;
}
