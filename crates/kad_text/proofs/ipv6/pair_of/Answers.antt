use Rattle.kad_text.proofs.HexSpelling.{hex_cases}
use Rattle.kad_text.proofs.ipv6.pair_of.Goals as goal

pub returns : goal.returns
returns c = rw c.ok.ensures.value (hex_cases _ _ _ c.from_hex.ensures)
