use Rattle.contact_table.specs.Told.{held_by}
use Rattle.contact_table.proofs.Vouching.{has-none, has-one}
use Rattle.contact_table.proofs.vouchers.Vouchers.has.Goals as goal

pub returns-then-not-contains : goal.returns-then-not-contains
returns-then-not-contains c = has-none (held_by c.args.buckets.now.rows c.args.siblings.now.list) c.args.self.now c.args.contact.now c.contains.result c.contains.ensures c.if-not-contains.true

pub returns : goal.returns
returns c = has-one (held_by c.args.buckets.now.rows c.args.siblings.now.list) c.args.self.now c.args.contact.now c.contains.result c.holds.result c.contains.ensures c.if-not-contains.false c.holds.ensures
