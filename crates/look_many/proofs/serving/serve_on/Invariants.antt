use Rattle.std.proofs.Common.{◌≡◌, [], length, map, false, ◌≤◌}
use Rattle.std.specs.List.{AllZip}
use Rattle.id_puzzles.specs.Drawn.{WordsState}
use Rattle.serve_crew.specs.Hands.{SameHands}
use Rattle.lookup_crowd.specs.inner.Crowd.{whose, SameSeat, Advances, stand}
use Rattle.look_many.specs.inner.Serving.{MayServe}
use Rattle.look_many.proofs.serving.serve_on.Given as goal

abbrev pub invariant-serving : goal.invariant-serving
invariant-serving g l = record {
  may : MayServe l.seekers l.driver.progress;
  said : l.driver.progress.unsaid ≡ 0;
  journals : map whose l.seekers ≡ map whose l.fn.seekers;
  gathered : map (λ k. k.gathered) l.seekers ≡ map (λ k. k.gathered) l.fn.seekers;
  goes : (words : WordsState) → Advances false [] (g.G.SealCheck.accepted l.site.seal.now) (g.G.Seal.tag_of l.site.seal.now) l.site.desk.setting.now (stand l.fn.seekers l.fn.driver.progress words l.fn.driver.host (g.L.Link.told l.fn.link)) (stand l.seekers l.driver.progress words l.driver.host (g.L.Link.told l.link));
  same : SameHands l.fn.driver.host l.driver.host;
  moment : g.L.Link.moment l.link ≡ l.driver.progress.moment;
  len : length l.seekers ≡ length l.fn.seekers;
  seats : AllZip SameSeat l.fn.seekers l.seekers;
  faults : g.L.Link.recv_faults l.link ≡ g.L.Link.recv_faults l.fn.link;
  sends : g.L.Link.send_faults l.fn.link ≤ g.L.Link.send_faults l.link;
  kept : g.L.Link.kept l.link ≡ g.L.Link.kept l.fn.link;
}

abbrev pub decreases-serving : goal.decreases-serving
decreases-serving g l = l.driver.progress.left
