use Rattle.node_top.proofs.OneText.{plain_once, seeded_once, told_once}
use Rattle.node_top.proofs.laws.one_text.Goals as goal

pub returns-clause-plain : goal.returns-clause-plain
returns-clause-plain c = plain_once

pub returns-clause-seeded : goal.returns-clause-seeded
returns-clause-seeded c = seeded_once

pub returns-clause-told : goal.returns-clause-told
returns-clause-told c = told_once
