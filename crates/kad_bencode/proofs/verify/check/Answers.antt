use Rattle.kad_bencode.proofs.Verifying.{checked, refused}
use Rattle.kad_bencode.proofs.verify.check.Goals as goal

pub returns-clause-only : goal.returns-clause-only
returns-clause-only c = checked c.args.bytes.now c.whole.result c.whole.ensures

pub returns-clause-refused : goal.returns-clause-refused
returns-clause-refused c = refused c.args.bytes.now c.whole.result c.whole.ensures
