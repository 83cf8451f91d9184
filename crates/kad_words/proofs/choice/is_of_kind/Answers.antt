use Rattle.kad_words.proofs.ProofWord.{some_spells}
use Rattle.kad_words.proofs.choice.is_of_kind.Goals as goal

pub returns-in-KeyAndX : goal.returns-in-KeyAndX
returns-in-KeyAndX c = rw c.in-KeyAndX.is (some_spells _ c.read_proof.result _ c.read_proof.ensures c.is_some-in-KeyAndX.ensures)
