use Rattle.std.proofs.Common.{take, subst}
use Rattle.node_serve.specs.Gathered.{AnswersAsked, EndsAsked}
use Rattle.node_serve.specs.NodeState.{NodeState}
use Rattle.kad_krpc.specs.declared.message.Message.TheVariants.{Query}
use Rattle.kad_krpc.specs.Asking.{proof_of}
use Rattle.kad_krpc.specs.Views.{ask_seen}
use Rattle.kad_krpc.proofs.Writable.{writable, writable_forms}
use Rattle.node_serve.proofs.Ending.{ends_of}
use Rattle.node_serve.proofs.Answering.{answers}
use Rattle.node_serve.proofs.node.Node.answer.Goals as goal

pub answer_query-requires-clause-said : goal.answer_query-requires-clause-said
answer_query-requires-clause-said g c immutable =
    let query = c.in-Some.ensures.query.query in
    let asked = c.in-Some.asked in
    let message = Query asked.tx.now asked.read_only (proof_of asked.arguments) (ask_seen asked.ask) in
    writable_forms message (writable c.args.bytes.now message query.says immutable)

pub returns-in-Ok-clause-silent : goal.returns-in-Ok-clause-silent
returns-in-Ok-clause-silent g c = (λ e. absurd cc, λ h. let n = c.in-Some.ensures.silent h in absurd cc)

pub returns-in-Err-clause-silent : goal.returns-in-Err-clause-silent
returns-in-Err-clause-silent g c = (λ e. absurd cc, λ h. let n = c.in-Some.ensures.silent h in absurd cc)

pub returns-in-Ok-clause-reply : goal.returns-in-Ok-clause-reply
returns-in-Ok-clause-reply g c = answers (g.G.Seal.tag_of c.args.seal.now) c.args.self.now c.args.from c.args.bytes.now c.args.at c.in-Some.asked (take c.in-Ok.length c.answer_query.new.out) c.answer_query.new.self c.in-Some.ensures.query (subst (λ (s : NodeState). AnswersAsked (g.G.Seal.tag_of c.args.seal.now) s c.in-Some.asked c.args.at (take c.in-Ok.length c.answer_query.new.out) c.answer_query.new.self) c.renew_tokens.ensures c.in-Ok.ensures.ok)

pub returns-in-Err-clause-no_memory : goal.returns-in-Err-clause-no_memory
returns-in-Err-clause-no_memory g c e = ends_of c.args.self.now c.args.from c.args.bytes.now c.in-Some.asked c.args.at c.answer_query.new.self c.in-Some.ensures.query (subst (λ (s : NodeState). EndsAsked s c.in-Some.asked c.args.at c.answer_query.new.self) c.renew_tokens.ensures c.in-Err.ensures.err)
