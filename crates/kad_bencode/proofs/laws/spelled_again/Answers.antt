use Rattle.kad_bencode.proofs.laws.spelled_again.Goals as goal
use Rattle.kad_bencode.proofs.Ordered.{text_spells, spelled_fits, spelled_in_order}

pub returns : goal.returns
returns c bytes v s = text_spells v (spelled_fits bytes v s) (spelled_in_order bytes v s)
