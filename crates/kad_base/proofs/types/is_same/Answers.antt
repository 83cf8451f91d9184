use Rattle.kad_base.proofs.Contacts.{differ_contact, same_equal}
use Rattle.kad_base.proofs.types.is_same.Goals as goal

pub returns-then-a-b : goal.returns-then-a-b
returns-then-a-b c = differ_contact c.args.a.now c.args.b.now 19 c.if-a-b.true

pub returns : goal.returns
returns c = same_equal c.are_equal.result c.args.a.now c.args.b.now c.are_equal.ensures
