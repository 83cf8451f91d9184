use Rattle.kad_bencode.proofs.Filing.{differ_all}
use Rattle.kad_bencode.proofs.distinct.first_in.Goals as goal

pub returns-then-differ-clause-differ : goal.returns-then-differ-clause-differ
returns-then-differ-clause-differ c = differ_all c.args.bytes.now c.args.places.now (c.differ.ensures c.if-differ.true)
