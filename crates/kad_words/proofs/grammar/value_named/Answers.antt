use Rattle.std.proofs.Common.{map, string_bytes, sym, ap, refl, ◌∙◌}
use Rattle.std.proofs.lemmas.List.{length-map}
use Rattle.kad_words.specs.Plain.{value_of}
use Rattle.kad_words.specs.Table.{option_word}
use Rattle.kad_words.proofs.WordForm.{no_pairs, two_words}
use Rattle.kad_words.proofs.Listing.{value_passed}
use Rattle.kad_words.proofs.grammar.value_named.Goals as goal

pub returns : goal.returns
returns c =
    let rest = map (λ w. string_bytes w) c.loop-rest.rest.now in
    ap (value_of (option_word c.args.name.now)) (sym (no_pairs rest (rw length-map c.in_default.len_below))) ∙ c.loop-rest.invariant

pub loop-rest-preserved : goal.loop-rest-preserved
loop-rest-preserved c =
    let cut = two_words c.loop-rest.rest.now c.option-item.result c.value-item.result _ refl c.in-len2-up.len_at_least c.option-item.is c.value-item.is in
    value_passed _ _ _ _ _ cut (λ e. cc (c.is_option.ensures.1 (c.as_str.ensures.value ∙ e))) ∙ c.loop-rest.invariant
