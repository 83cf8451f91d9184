use Rattle.kad_bencode.proofs.laws.written_form_spells.Goals as goal
use Rattle.kad_bencode.proofs.Ordered.{text_spells}

pub returns : goal.returns
returns c = text_spells
