use Rattle.std.proofs.Common.{arith}
use Rattle.kad_text.proofs.GroupSpelling.{groups_more, groups_read, no_group}
use Rattle.kad_text.proofs.ipv6.groups_of.Goals as goal

pub returns-in_default : goal.returns-in_default
returns-in_default c = λ bytes rest s. no_group _ _ _ _ _ c.loop-i-test.true c.loop-i.invariant c.in_default.ensures bytes rest s

pub loop-i-preserved : goal.loop-i-preserved
loop-i-preserved c = groups_more _ _ _ _ _ _ _ _ c.loop-i-test.true c.loop-i.invariant c.in-Some.ensures

pub returns : goal.returns
returns c = groups_read _ _ _ _ c.loop-i.i (omega arith) c.loop-i.invariant
