use Rattle.contact_table.specs.Told.{held_by}
use Rattle.contact_table.proofs.Sweeping.{sat-before, sweeps}
use Rattle.contact_table.proofs.seats.bound.Goals as goal

pub returns-clause-before : goal.returns-clause-before
returns-clause-before c = sat-before 0 (held_by c.args.buckets.now.rows c.args.siblings.now.list) c.args.seats.now c.sweep.new.seats c.sweep.ensures.ordered c.sweep.ensures.left

pub returns-clause-seats : goal.returns-clause-seats
returns-clause-seats c = λ n. sweeps n (held_by c.args.buckets.now.rows c.args.siblings.now.list) c.args.seats.now c.sweep.new.seats c.sweep.ensures.ordered c.sweep.ensures.left
