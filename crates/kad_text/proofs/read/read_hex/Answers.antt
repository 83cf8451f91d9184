use Rattle.kad_text.proofs.HexSpelling.{hex_cases}
use Rattle.kad_text.proofs.read.read_hex.Goals as goal

pub returns : goal.returns
returns g c = rw c.ok.ensures.value (hex_cases _ _ _ c.from_hex.ensures)
