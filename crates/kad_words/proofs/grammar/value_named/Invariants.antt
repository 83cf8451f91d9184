use Rattle.std.proofs.Common.{◌≡◌, length, map, string_bytes}
use Rattle.kad_words.specs.Plain.{pairs_of, value_of}
use Rattle.kad_words.specs.Table.{option_word}
use Rattle.kad_words.proofs.grammar.value_named.Given as goal

abbrev pub decreases-loop-rest : goal.decreases-loop-rest
decreases-loop-rest l = length l.rest

abbrev pub invariant-loop-rest : goal.invariant-loop-rest
invariant-loop-rest l = value_of (option_word l.name) (pairs_of (map (λ w. string_bytes w) l.rest)) ≡ value_of (option_word l.name) (pairs_of (map (λ w. string_bytes w) l.words))
