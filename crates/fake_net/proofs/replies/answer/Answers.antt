use Rattle.std.proofs.Common.{ap}
use Rattle.fake_net.specs.Replies.{lent_query}
use Rattle.fake_net.proofs.Answering.{brings_none, brings_answer}
use Rattle.fake_net.proofs.replies.answer.Goals as goal

pub returns-in-Some-find_node_in : goal.returns-in-Some-find_node_in
returns-in-Some-find_node_in c =
    brings_answer c.answer_of.result c.args.nodes.now c.args.moment c.args.to.now c.args.bytes.now c.in-Some.i _
    c.in-Some-find_node_in.tx.now c.in-Some-find_node_in.target c.in-Some.ensures.few c.in-Some.ensures.some.0 c.in-Some.ensures.some.1
    (ap lent_query c.in-Some-find_node_in.is) c.find_node_in.ensures.some c.find_node_in.ensures.only c.answer_of.ensures

pub returns-in-None : goal.returns-in-None
returns-in-None c = brings_none c.args.nodes.now c.args.moment c.args.to.now c.args.bytes.now _ (ap lent_query c.in-None.is) c.find_node_in.ensures.only
