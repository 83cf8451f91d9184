use Rattle.std.proofs.Common.{Some, None}
use Rattle.kad_words.proofs.ProofWord.{proof_cut}
use Rattle.kad_words.proofs.choice.read_proof.Goals as goal

pub returns-in_err-key : goal.returns-in_err-key
returns-in_err-key c = rw c.from_residual.ensures (λ proof s. proof_cut _ None proof c.in_err-key.ensures.cases s)

pub returns-in_err-key-2 : goal.returns-in_err-key-2
returns-in_err-key-2 c = rw c.from_residual-in_err-key-2.ensures (λ proof s.
    c.in_err-key-2.ensures proof.key (proof_cut _ (Some (c.in_ok-key.key, c.in_ok-key.x)) proof c.in_ok-key.ensures.cases s).0)

pub returns-in_err-x : goal.returns-in_err-x
returns-in_err-x c = rw c.from_residual-in_err-x.ensures (λ proof s.
    c.in_err-x.ensures proof.x (proof_cut _ (Some (c.in_ok-key.key, c.in_ok-key.x)) proof c.in_ok-key.ensures.cases s).1)
