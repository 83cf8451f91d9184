use Rattle.fake_net.specs.Searching.{FindsOf}
use Rattle.fake_net.proofs.script.next.Given as goal

abbrev pub invariant-loop-place : goal.invariant-loop-place
invariant-loop-place l = FindsOf l.queries l.until l.script l.place l.best
