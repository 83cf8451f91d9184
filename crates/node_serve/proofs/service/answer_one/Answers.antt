use Rattle.node_serve.proofs.Receiving.{replied_with, none_owed, early_table}
use Rattle.node_serve.proofs.service.answer_one.Goals as goal

pub returns-in-Reply-clause-ok : goal.returns-in-Reply-clause-ok
returns-in-Reply-clause-ok g c = replied_with (g.G.Seal.tag_of c.args.seal.now) c.args.node.now c.answer.new.self c.args.from c.args.bytes.now c.args.at _ c.send.result c.from.result _ _ c.in-Reply.ensures.reply c.from.ensures c.send.ensures.sent

pub returns-in-Silent-clause-ok : goal.returns-in-Silent-clause-ok
returns-in-Silent-clause-ok g c = none_owed (g.G.Seal.tag_of c.args.seal.now) c.args.node.now c.answer.new.self c.args.from c.args.bytes.now c.args.at _ (c.answer.ensures.silent.0 c.in-Silent.is) (c.answer.ensures.unchanged c.in-Silent.is)

pub returns-in-NoMemory-clause-table : goal.returns-in-NoMemory-clause-table
returns-in-NoMemory-clause-table g c = early_table c.args.node.now c.answer.new.self c.args.from c.args.bytes.now c.args.at (c.answer.ensures.no_memory c.in-NoMemory.is)
