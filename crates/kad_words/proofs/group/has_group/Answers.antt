use Rattle.kad_words.proofs.GroupWords.{group_by_kind, no_group}
use Rattle.kad_words.proofs.group.has_group.Goals as goal

pub returns-in-Some : goal.returns-in-Some
returns-in-Some c = group_by_kind c.in-Some.kind _ _ _ c.in-Some.ensures c.options.ensures c.is_among.ensures

pub returns-in-None : goal.returns-in-None
returns-in-None c = (λ t. cc t, λ h. absurd (no_group _ c.in-None.ensures h))
