use Rattle.std.proofs.Common.{arith}
use Rattle.kad_krpc.specs.Form.{proof_text}
use Rattle.kad_krpc.proofs.Queries.{proof_long}
use Rattle.kad_krpc.proofs.query.put_sender.Goals as goal

pub returns-clause-place : goal.returns-clause-place
unfolding proof_text
returns-clause-place c =
    let long = proof_long c.args.proof.now c.law_proof.ensures in
    let place = c.put_proof.ensures.place in
    omega (arith, long, place)

pub returns-clause-text : goal.returns-clause-text
unfolding proof_text
returns-clause-text c =
    let long = proof_long c.args.proof.now c.law_proof.ensures in
    let place = c.put_proof.ensures.place in
    c.put_proof.ensures.text_is (omega (arith, long, place))
