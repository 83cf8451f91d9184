use Rattle.id_puzzles.proofs.Seeds.{next_value, next_drawn}
use Rattle.id_puzzles.proofs.words.Words.next.Goals as goal

pub returns-clause-value : goal.returns-clause-value
returns-clause-value c = next_value _ _ _ _ c.next_word.ensures c.self.invariant c.self.view_is

pub returns-clause-place : goal.returns-clause-place
returns-clause-place c = next_drawn _ _ _ _ c.next_word.ensures c.self.view_is c.requires
