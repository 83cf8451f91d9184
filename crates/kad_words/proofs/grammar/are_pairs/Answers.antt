use Rattle.std.proofs.Common.{sym, ◌∙◌, refl, inl, inr, map, string_bytes}
use Rattle.std.proofs.lemmas.List.{length-map}
use Rattle.kad_words.proofs.WordForm.{two_words, answered, not_plain, goes_on, ends_in_pairs}
use Rattle.kad_words.proofs.grammar.are_pairs.Goals as goal
use Rattle.kad_words.proofs.grammar.are_pairs.Goals.{then-not-belongs-via-then-not-belongs, then-not-belongs-via-else-not-belongs+then-is_some}

pub returns-then-not-belongs : goal.returns-then-not-belongs
returns-then-not-belongs c = (
  λ t. cc t,
  λ h.
      let cut = two_words c.loop-rest.rest.now c.option-item.result c.value-item.result _ refl c.in-len2-up.len_at_least c.option-item.is c.value-item.is in
      let plain = c.loop-rest.invariant.1 h in
      elim c.then-not-belongs.branch [
        | then-not-belongs-via-then-not-belongs w ↦
            absurd (not_plain _ _ _ _ _ c.as_str-option.result.now c.as_str.result.now cut c.as_str-option.ensures.value c.as_str.ensures.value (inl (λ k. cc (w.if-not-belongs.ensures.1 k))) plain)
        | then-not-belongs-via-else-not-belongs+then-is_some w ↦
            absurd (not_plain _ _ _ _ _ c.as_str-option.result.now c.as_str.result.now cut c.as_str-option.ensures.value c.as_str.ensures.value (inr (sym (answered _ _ w.value_of.ensures) ∙ sym w.is_some.ensures ∙ w.if-is_some.true)) plain)
      ],
)

pub loop-rest-preserved : goal.loop-rest-preserved
loop-rest-preserved c =
    let cut = two_words c.loop-rest.rest.now c.option-item.result c.value-item.result _ refl c.in-len2-up.len_at_least c.option-item.is c.value-item.is in
    goes_on _ _ _ _ _ _ c.as_str-option.result.now c.as_str.result.now cut c.as_str-option.ensures.value c.as_str.ensures.value (c.belongs.ensures.0 c.if-not-belongs.false)
    (sym (answered _ _ c.value_of.ensures) ∙ sym c.is_some.ensures ∙ c.if-is_some.false) c.loop-rest.invariant

pub returns : goal.returns
returns c =
    let rest = map (λ w. string_bytes w) c.loop-rest.rest.now in
    let e = length-map c.loop-rest.rest.now (λ w. string_bytes w) in
    let end = ends_in_pairs _ rest c.are_none.result (rw e c.in_default.len_below) (rw e c.are_none.ensures) in
    (λ t. c.loop-rest.invariant.0 (end.0 t), λ h. end.1 (c.loop-rest.invariant.1 h))
