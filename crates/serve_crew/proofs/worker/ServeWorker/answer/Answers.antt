use Rattle.kad_krpc.specs.declared.message.Message.TheVariants.{Query}
use Rattle.kad_krpc.specs.Asking.{proof_of}
use Rattle.kad_krpc.specs.Views.{ask_seen}
use Rattle.kad_krpc.proofs.Writable.{writable, writable_forms}
use Rattle.serve_crew.proofs.Growing.{runs_grew}
use Rattle.serve_crew.proofs.Responding.{answers_reply, answers_stop, answers_none}
use Rattle.serve_crew.proofs.worker.ServeWorker.answer.Goals as goal

pub answer_query-requires-clause-said : goal.answer_query-requires-clause-said
answer_query-requires-clause-said g c immutable =
    let query = c.in-Some.ensures.query.query in
    let asked = c.in-Some.asked in
    let message = Query asked.tx.now asked.read_only (proof_of asked.arguments) (ask_seen asked.ask) in
    writable_forms message (writable c.args.datagram.now.bytes.now message query.says immutable)

pub returns-in-None-clause-answers : goal.returns-in-None-clause-answers
returns-in-None-clause-answers g c = answers_none (g.G.Seal.tag_of c.args.seal.now) c.args.desk.now.setting.now c.args.datagram.now.from c.args.datagram.now.bytes.now c.args.datagram.now.at c.args.out.now c.args.self.now c.in-None.ensures.query

pub returns-in-Ok-clause-silent : goal.returns-in-Ok-clause-silent
returns-in-Ok-clause-silent g c = (λ e. absurd cc, λ h. let n = c.in-Some.ensures.silent h in absurd cc)

pub returns-in-Err-clause-silent : goal.returns-in-Err-clause-silent
returns-in-Err-clause-silent g c = (λ e. absurd cc, λ h. let n = c.in-Some.ensures.silent h in absurd cc)

pub returns-in-Ok-clause-same : goal.returns-in-Ok-clause-same
returns-in-Ok-clause-same g c = let ok = c.in-Ok.ensures.ok in (runs_grew c.args.self.now c.answer_query.new.self ok.did ok.run).0

pub returns-in-Err-clause-same : goal.returns-in-Err-clause-same
returns-in-Err-clause-same g c = let err = c.in-Err.ensures.err in (runs_grew c.args.self.now c.answer_query.new.self err.did err.run).0

pub returns-in-Ok-clause-answers : goal.returns-in-Ok-clause-answers
returns-in-Ok-clause-answers g c =
    answers_reply (g.G.Seal.tag_of c.args.seal.now) c.args.desk.now.setting.now c.args.datagram.now.from c.args.datagram.now.bytes.now c.args.datagram.now.at c.answer_query.new.out c.args.self.now c.answer_query.new.self c.in-Some.asked c.in-Ok.length c.in-Some.ensures.query c.in-Ok.ensures.room c.in-Ok.ensures.ok

pub returns-in-Err-clause-answers : goal.returns-in-Err-clause-answers
returns-in-Err-clause-answers g c =
    answers_stop (g.G.Seal.tag_of c.args.seal.now) c.args.desk.now.setting.now c.args.datagram.now.from c.args.datagram.now.bytes.now c.args.datagram.now.at c.answer_query.new.out c.args.self.now c.answer_query.new.self c.in-Some.asked c.in-Some.ensures.query c.in-Err.ensures.err
