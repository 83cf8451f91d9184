use Rattle.std.proofs.Common.{map, string_bytes, drop}
use Rattle.std.specs.Prelude.{◌↔◌}
use Rattle.kad_words.specs.Listed.{entries_of}
use Rattle.kad_words.specs.Plain.{AreThere, pairs_of}
use Rattle.kad_words.proofs.grammar.are_there.Given as goal

abbrev pub invariant-loop-choice : goal.invariant-loop-choice
invariant-loop-choice l = AreThere (entries_of (drop l.choice-index l.choices)) (pairs_of (map (λ w. string_bytes w) l.words)) ↔ AreThere (entries_of l.choices) (pairs_of (map (λ w. string_bytes w) l.words))
