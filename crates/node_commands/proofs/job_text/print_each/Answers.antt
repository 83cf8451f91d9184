use Rattle.std.proofs.Common.{arith, rules}
use Rattle.node_commands.proofs.JobTexting.{all_follow, none_yet, one_more}
use Rattle.node_commands.proofs.job_text.print_each.Goals as goal

pub loop-i-init : goal.loop-i-init
loop-i-init c = rw c.new-output.ensures (none_yet c.args.jobs.now c.args.ones.now)

pub loop-i-preserved : goal.loop-i-preserved
loop-i-preserved c =
    let text = c.in_ok-add_found.ensures in
    let lt = c.loop-i-test.true in
    let same = c.requires in
    one_more c.args.jobs.now c.args.ones.now c.loop-i.i c.loop-i.output _ text.0 c.index-jobs-i.result c.index-ones-i.result (search rules) (omega (arith, lt, same)) (search rules) (search rules) c.loop-i.invariant text.1 text.2

pub returns : goal.returns
returns c =
    let ge = c.loop-i-test.false in
    all_follow c.args.jobs.now c.args.ones.now c.loop-i.i c.loop-i.output (omega (arith, ge)) c.loop-i.invariant
