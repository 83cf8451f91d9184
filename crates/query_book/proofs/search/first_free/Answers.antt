use Rattle.std.proofs.Common.{◌+◌, ◌≤◌, length, arith, below_more}
use Rattle.query_book.proofs.Counting.{ahead, ahead_all, ahead_less}
use Rattle.query_book.proofs.search.first_free.Goals as goal

-- one step more, and one query less ahead
nearer : (c : goal.In-loop-steps) → c.loop-steps.steps + 1 + length (ahead c.args.word (c.loop-steps.steps + 1) c.args.queries.now) ≤ length c.args.queries.now
nearer c =
    let less = ahead_less c.args.word c.loop-steps.steps c.args.queries.now (omega (arith, c.ranges.word)) (omega (arith, c.loop-steps.auto.steps-fits)) (c.has_id.ensures.0 c.loop-steps-test.true) in
    omega (arith, c.loop-steps.invariant.few, less)

pub loop-steps-init : goal.loop-steps-init
loop-steps-init c = record { few = omega (arith, ahead_all c.args.word c.args.queries.now); taken_before = λ n lt. absurd (omega arith) }

pub overflow_add-steps : goal.overflow_add-steps
overflow_add-steps c = omega (arith, nearer c)

pub loop-steps-smaller : goal.loop-steps-smaller
loop-steps-smaller c = omega (arith, nearer c)

pub loop-steps-preserved : goal.loop-steps-preserved
loop-steps-preserved c = record { few = nearer c; taken_before = below_more _ _ c.loop-steps.invariant.taken_before (c.has_id.ensures.0 c.loop-steps-test.true) }
