use Rattle.std.proofs.Common.{◌++◌, subst}
use Rattle.std.specs.Prelude.{codes}
use Rattle.kad_bencode.specs.declared.value.Value.TheVariants.{Text, Dict}
use Rattle.kad_bencode.specs.Written.{PutsPairs}
use Rattle.kad_bencode.proofs.Putting.{puts_more, puts_first, puts_last}
use Rattle.kad_krpc.specs.Fields.{pair}
use Rattle.kad_krpc.specs.Asking.{arguments_of, name_of, read_only_pair}
use Rattle.kad_krpc.proofs.Put.{string_pair}
use Rattle.kad_krpc.proofs.writer.put_query.Goals as goal

pub returns : goal.returns
returns c =
    let ask = c.args.ask.now in
    let a = pair (codes "a") (Dict (arguments_of c.args.proof.now ask)) in
    let q = pair (codes "q") (Text (name_of ask)) in
    let r = read_only_pair c.args.read_only in
    let t = pair (codes "t") (Text c.args.tx.now) in
    let named = subst (λ n. PutsPairs c.put_arguments-at.new.buf c.put_text-at.new.buf c.put_arguments-at.result (pair (codes "q") (Text n)) c.put_text-at.result) c.name.ensures c.put_text-at.ensures in
    puts_last (a ++ q ++ r ++ t) (pair (codes "y") (Text (codes "q"))) (codes "1:y1:q") (string_pair (codes "y") (codes "q"))
    (puts_more (a ++ q ++ r) t
    (puts_more (a ++ q) r
    (puts_more a q (puts_first (codes "a") (Dict (arguments_of c.args.proof.now ask)) c.put_part-at.ensures c.put_arguments-at.ensures) named)
    c.put_ro-at.ensures)
    c.put_text-at-2.ensures)
    c.put_part.ensures
