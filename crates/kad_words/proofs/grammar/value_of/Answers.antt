use Rattle.std.proofs.Common.{map, string_bytes, sym, ap, ◌∙◌}
use Rattle.std.proofs.lemmas.List.{length-map}
use Rattle.kad_words.specs.Plain.{value_of}
use Rattle.kad_words.proofs.WordForm.{no_pairs}
use Rattle.kad_words.proofs.grammar.value_of.Goals as goal

pub returns : goal.returns
returns c =
    let rest = map (λ w. string_bytes w) c.loop-rest.rest.now in
    ap (value_of c.args.option.now) (sym (no_pairs rest (rw length-map c.in_default.len_below))) ∙ c.loop-rest.invariant
