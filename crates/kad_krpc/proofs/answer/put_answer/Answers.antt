use Rattle.std.specs.Prelude.{codes}
use Rattle.kad_bencode.specs.Naming.{named}
use Rattle.kad_bencode.specs.declared.value.Value.TheVariants.{Text}
use Rattle.kad_bencode.proofs.Putting.{puts_more, puts_closed}
use Rattle.kad_krpc.specs.Fields.{maybe}
use Rattle.kad_krpc.specs.Answering.{nodes_value, snodes_value, answer_pairs}
use Rattle.kad_records.specs.Records.{peers_value}
use Rattle.kad_krpc.proofs.Answering.{one, two, three, four, five, six, seven}
use Rattle.kad_krpc.proofs.answer.put_answer.Goals as goal

pub returns : goal.returns
returns c =
    let a = c.args.answer.now in
    puts_closed (answer_pairs a)
    (puts_more (seven a) (maybe (codes "values") peers_value a.values)
    (puts_more (six a) (maybe (codes "v") named a.v)
    (puts_more (five a) (maybe (codes "token") Text a.token)
    (puts_more (four a) (maybe (codes "snodes6") snodes_value a.snodes6)
    (puts_more (three a) (maybe (codes "snodes") snodes_value a.snodes)
    (puts_more (two a) (maybe (codes "nodes6") nodes_value a.nodes6)
    (puts_more (one a) (maybe (codes "nodes") nodes_value a.nodes) c.put_id-at.ensures c.put_maybe_records-at.ensures)
    c.put_maybe_records-at-2.ensures)
    c.put_maybe_records-at-3.ensures)
    c.put_maybe_records-at-4.ensures)
    c.put_maybe_text-at.ensures)
    c.put_maybe_form-at.ensures)
    c.put_maybe_peers-at.ensures)
    c.put_part.ensures
