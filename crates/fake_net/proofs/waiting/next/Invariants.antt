use Rattle.fake_net.specs.Counting.{FindsAmong}
use Rattle.fake_net.proofs.waiting.next.Given as goal

abbrev pub invariant-loop-place : goal.invariant-loop-place
invariant-loop-place l = FindsAmong l.waiting l.until l.place l.best
