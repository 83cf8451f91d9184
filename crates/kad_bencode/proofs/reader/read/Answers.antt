use Rattle.kad_bencode.proofs.Faults.{answers_value, answers_fault, outcome_value, outcome_fault, outcome_limits}
use Rattle.kad_bencode.proofs.reader.read.Goals as goal

pub returns-clause-spells : goal.returns-clause-spells
returns-clause-spells c = outcome_value c.args.bytes.now c.whole.result c.whole.ensures

pub returns-clause-fault : goal.returns-clause-fault
returns-clause-fault c bad e = outcome_fault c.args.bytes.now c.whole.result c.whole.ensures bad e

pub returns-clause-only : goal.returns-clause-only
returns-clause-only c v s = answers_value c.args.bytes.now c.whole.result v (outcome_value c.args.bytes.now c.whole.result c.whole.ensures) (outcome_fault c.args.bytes.now c.whole.result c.whole.ensures) s

pub returns-clause-refused : goal.returns-clause-refused
returns-clause-refused c bad f = answers_fault c.args.bytes.now c.whole.result bad (outcome_value c.args.bytes.now c.whole.result c.whole.ensures) (outcome_fault c.args.bytes.now c.whole.result c.whole.ensures) f

pub returns-clause-limits : goal.returns-clause-limits
returns-clause-limits c = outcome_limits c.args.bytes.now c.whole.result c.whole.ensures
