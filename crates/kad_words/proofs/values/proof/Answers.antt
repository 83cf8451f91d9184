use Rattle.kad_words.proofs.ProofWord.{read_given}
use Rattle.kad_words.proofs.values.proof.Goals as goal

pub returns : goal.returns
returns c = read_given _ _ c.read_proof.result c.get_str.result c.in_ok-get_str.field-0 c.requires.kind c.requires.fits.1 c.get_str.ensures c.in_ok-get_str.was c.read_proof.ensures
