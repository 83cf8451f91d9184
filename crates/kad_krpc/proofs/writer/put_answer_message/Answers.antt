use Rattle.std.proofs.Common.{◌++◌}
use Rattle.std.specs.Prelude.{codes}
use Rattle.kad_bencode.specs.declared.value.Value.TheVariants.{Text, Dict}
use Rattle.kad_bencode.proofs.Putting.{puts_more, puts_first, puts_last}
use Rattle.kad_krpc.specs.Fields.{pair}
use Rattle.kad_krpc.specs.Answering.{answer_pairs}
use Rattle.kad_krpc.proofs.Put.{string_pair}
use Rattle.kad_krpc.proofs.writer.put_answer_message.Goals as goal

pub returns : goal.returns
returns c =
    let r = pair (codes "r") (Dict (answer_pairs c.args.answer.now)) in
    let t = pair (codes "t") (Text c.args.tx.now) in
    puts_last (r ++ t) (pair (codes "y") (Text (codes "r"))) (codes "1:y1:r") (string_pair (codes "y") (codes "r"))
    (puts_more r t (puts_first (codes "r") (Dict (answer_pairs c.args.answer.now)) c.put_part-at.ensures c.put_answer-at.ensures) c.put_text-at.ensures) c.put_part.ensures
