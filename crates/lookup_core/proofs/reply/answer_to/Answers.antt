use Rattle.std.proofs.Common.{rules, arith, ◌≡◌, ◌<◌}
use Rattle.kad_base.specs.Words.{word_bytes}
use Rattle.kad_krpc.specs.Views.{answer_seen}
use Rattle.lookup_core.proofs.Replying.{says_answer}
use Rattle.lookup_core.proofs.reply.answer_to.Goals as goal

pub returns-in-Some-clause-says : goal.returns-in-Some-clause-says
returns-in-Some-clause-says c =
    let small : c.in-Some.word < 4294967296 = omega arith in
    let e : c.args.tx.now ≡ word_bytes c.in-Some.word = search rules in
    says_answer c.args.tx.now (answer_seen c.args.answer) c.in-Some.word small e
