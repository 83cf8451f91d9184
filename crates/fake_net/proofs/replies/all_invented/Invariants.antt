use Rattle.std.proofs.Common.{◌≡◌}
use Rattle.std.specs.Prelude.{map}
use Rattle.fake_net.specs.Network.{numbers}
use Rattle.fake_net.specs.Replies.{invented}
use Rattle.fake_net.proofs.replies.all_invented.Given as goal

abbrev pub invariant-loop-r : goal.invariant-loop-r
invariant-loop-r l = l.contacts ≡ map (invented l.target l.i) (numbers l.r)
