use Rattle.std.proofs.Common.{length, map, string_bytes}
use Rattle.std.specs.Prelude.{◌↔◌}
use Rattle.kad_words.specs.Listed.{entries_of}
use Rattle.kad_words.specs.Plain.{pairs_of, InPairs}
use Rattle.kad_words.proofs.grammar.are_pairs.Given as goal

abbrev pub decreases-loop-rest : goal.decreases-loop-rest
decreases-loop-rest l = length l.rest

abbrev pub invariant-loop-rest : goal.invariant-loop-rest
invariant-loop-rest l =
    InPairs (entries_of l.choices) (map (λ w. string_bytes w) l.rest) (pairs_of (map (λ w. string_bytes w) l.rest))
    ↔ InPairs (entries_of l.choices) (map (λ w. string_bytes w) l.words) (pairs_of (map (λ w. string_bytes w) l.words))
