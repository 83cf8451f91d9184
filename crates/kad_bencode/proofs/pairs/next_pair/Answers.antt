use Rattle.std.proofs.Common.{arith}
use Rattle.kad_bencode.proofs.Paired.{none_left, no_pair, one_pair}
use Rattle.kad_bencode.proofs.pairs.next_pair.Goals as goal

pub returns-then-bytes-eq0-clause-first : goal.returns-then-bytes-eq0-clause-first
returns-then-bytes-eq0-clause-first c = none_left c.args.bytes.now (omega (arith, c.if-bytes-eq0.true))

pub returns-in-Some-clause-first : goal.returns-in-Some-clause-first
returns-in-Some-clause-first c = one_pair c.args.bytes.now c.in-Some.key.now c.in-Some.text.now c.in-Some.rest.now (omega (arith, c.if-bytes-eq0.false)) c.in-Some.ensures.reads

pub returns-in-None-clause-first : goal.returns-in-None-clause-first
returns-in-None-clause-first c = no_pair c.args.bytes.now c.in-None.ensures.reads
