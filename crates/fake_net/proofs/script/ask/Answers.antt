use Rattle.std.proofs.Common.{ap}
use Rattle.std.specs.Option.{option_copied}
use Rattle.fake_net.proofs.Asking.{asks_pushed, asks_none, unkept_only}
use Rattle.fake_net.proofs.script.ask.Goals as goal

pub returns-in-Some-clause-ok : goal.returns-in-Some-clause-ok
returns-in-Some-clause-ok c =
    asks_pushed _ _ _ _ c.in-Some.tx.now _ _ (ap option_copied c.in-Some.is) c.query_in.ensures.some c.query_in.ensures.only c.keep.ensures.ok

pub returns-in-Some-clause-only : goal.returns-in-Some-clause-only
returns-in-Some-clause-only c = unkept_only _ _ _ c.in-Some.ensures.some

pub returns-in-None-clause-ok : goal.returns-in-None-clause-ok
returns-in-None-clause-ok c = asks_none _ _ _ _ (ap option_copied c.in-None.is) c.query_in.ensures.only
