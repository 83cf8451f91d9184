use Rattle.std.proofs.Common.{◌≡◌, drop}
use Rattle.kad_words.specs.Listed.{entries_of}
use Rattle.kad_words.specs.Table.{kind_named}
use Rattle.kad_words.proofs.grammar.kind_named.Given as goal

abbrev pub invariant-loop-choice : goal.invariant-loop-choice
invariant-loop-choice l = kind_named (entries_of (drop l.choice-index l.choices)) l.word ≡ kind_named (entries_of l.choices) l.word
