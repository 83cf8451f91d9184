use Rattle.kad_bencode.proofs.laws.no_text_begins_another.Goals as goal
use Rattle.std.proofs.Common.{ap, ◌∙◌, ◌++◌, sym}
use Rattle.kad_bencode.proofs.Said.{ends_once}

pub returns : goal.returns
returns c text rest t u = ends_once t.0 u.0 rest (ap (λ l. l ++ rest) (sym t.1) ∙ u.1)
