use Rattle.std.proofs.Common.{◌≡◌, [], ◌∷◌, ◌+◌, ◌-◌, ◌≤◌, ◌++◌, length, take, drop, sym, ap, ◌∙◌, subst, arith, length-append}
use Rattle.std.proofs.lemmas.List.{length-drop, length-take-le}
use Rattle.kad_bencode.specs.Spelling.{text_of}
use borrow.Rule.Slice.PartMut.{put_mid}
use Rattle.kad_bencode.proofs.Forming.{carried, of_list, of_dict, of_neither, list_inside, dict_inside, tail_of, none_formed, never_past, all_formed, next_value, values_more, whole_mid, put_end, FormedSoFar, next_pair, no_pairs, pairs_formed, pairs_more, pairs_never_past, pairs_ordered, pairs_tail, value_there}
use Rattle.kad_bencode.proofs.form.+forming.Goals as goal

pub form_value-returns-then-has_byte-clause-forms : goal.form_value-returns-then-has_byte-clause-forms
form_value-returns-then-has_byte-clause-forms t c v rest e f =
    let l = of_list c.args.text.now v rest e c.if-has_byte.ensures in
    let i = list_inside v l.0 l.1 f in
    carried c.form_values.result (λ n h. (h.0 ∙ ap length (sym i.0), h.1 ∙ ap (λ x. x ++ rest) (sym i.2))) (c.form_values.ensures.forms 108 l.0 rest (e ∙ ap (λ x. x ++ rest) i.0) i.1)

pub form_value-returns-then-has_byte-2-clause-forms : goal.form_value-returns-then-has_byte-2-clause-forms
form_value-returns-then-has_byte-2-clause-forms t c v rest e f =
    let d = of_dict c.args.text.now v rest e c.if-has_byte-2.ensures in
    let i = dict_inside v d.0 d.1 f in
    carried c.form_pairs.result (λ n h. (h.0 ∙ ap length (sym i.0), h.1 ∙ ap (λ x. x ++ rest) (sym i.3))) (c.form_pairs.ensures.forms d.0 rest (e ∙ ap (λ x. x ++ rest) i.0) i.1 i.2)

pub form_value-returns-clause-moves : goal.form_value-returns-clause-moves
form_value-returns-clause-moves t c = c.past.ensures.moves

pub form_value-returns-clause-forms : goal.form_value-returns-clause-forms
form_value-returns-clause-forms t c v rest e f = (
  c.past.ensures.ends v (record { rest = rest; text = e; fits = f }),
  e ∙ ap (λ x. x ++ rest) (ap text_of (sym (of_neither c.args.text.now v rest e c.if-has_byte.ensures c.if-has_byte-2.ensures))),
)

pub form_values-values-init : goal.form_values-values-init
form_values-values-init t c = record { after = omega arith; within = omega (arith, c.requires); so_far = λ b ts rest e f. none_formed c.args.text.now b ts rest e f }

pub form_values-returns-then-has_byte-clause-forms : goal.form_values-returns-then-has_byte-clause-forms
form_values-returns-then-has_byte-clause-forms t c b ts rest e f = all_formed c.values.text c.values.at b ts rest (c.values.invariant.so_far b ts rest e f) c.if-has_byte.ensures

pub form_values-values-preserved : goal.form_values-values-preserved
form_values-values-preserved t c =
    let at = c.values.at in
    let text = c.values.text in
    let part = c.form_value.new.text in
    let long : length part ≡ length (drop at text) = c.form_value.auto.text ∙ ap length (whole_mid at text) in
    let kept = ap length (put_end at text part) in
    let within : at + c.in_ok-size.size ≤ length (put_mid at (length text - at) text part) =
    (let w = c.in_ok-size.ensures.within in let w2 = ap length (whole_mid at text) in let l = length-append (take at text) part in let l2 = length-drop at text in let l3 = length-take-le at text c.values.invariant.within in let i = c.values.invariant.within in
    omega (arith, kept, w, w2, l, l2, l3, i, long)) in
    record {
      after = omega (arith, c.values.invariant.after);
      within = within;
      so_far = λ b ts rest e f.
          let s = c.values.invariant.so_far b ts rest e f in
          let x = next_value text at b ts rest s c.values-test.true c.if-has_byte.ensures in
          let r = c.in_ok-size.ensures.forms x.0 (tail_of x.1 rest) (whole_mid at text ∙ x.3) x.4 in
          values_more text at b ts rest s x.0 x.1 x.2 c.in_ok-size.size part (put_mid at (length text - at) text part) x.3 long r.0 r.1 (put_end at text part);
    }

pub form_values-returns-clause-forms : goal.form_values-returns-clause-forms
form_values-returns-clause-forms t c b ts rest e f = absurd (never_past c.values.text c.values.at b ts rest (c.values.invariant.so_far b ts rest e f) c.values-test.false)

-- ---- dictionaries

pub form_pairs-pairs-init : goal.form_pairs-pairs-init
form_pairs-pairs-init t c = record {
  after = omega arith;
  within = omega (arith, c.requires);
  so_far = λ ps rest e f. subst (λ l. FormedSoFar c.args.text.now 1 l ps rest) (sym c.new-sizes.ensures.items) (no_pairs c.args.text.now ps rest e f);
}

pub form_pairs-returns-then-has_byte-clause-forms : goal.form_pairs-returns-then-has_byte-clause-forms
form_pairs-returns-then-has_byte-clause-forms t c ps rest e f h =
    let x = pairs_formed c.pairs.text c.pairs.at c.pairs.sizes.items ps rest (c.pairs.invariant.so_far ps rest e f) c.if-has_byte.ensures in (
      x.0,
      pairs_ordered c.pairs.text c.order_pairs.new.pairs rest c.as_slice.result.now ps c.pairs.at x.1 x.2 (c.as_slice.ensures.value ∙ x.3) f h c.in_ok-order_pairs.ensures,
    )

pub form_pairs-pairs-preserved : goal.form_pairs-pairs-preserved
form_pairs-pairs-preserved t c =
    let at = c.pairs.at in
    let text = c.pairs.text in
    let behind = c.key_end-behind.result in
    let part = c.form_value.new.text in
    let long : length part ≡ length (drop behind text) = c.form_value.auto.text ∙ ap length (whole_mid behind text) in
    let kept = ap length (put_end behind text part) in
    let within : behind + c.in_ok-size.size ≤ length (put_mid behind (length text - behind) text part) =
    (let w = c.in_ok-size.ensures.within in let w2 = ap length (whole_mid behind text) in let l = length-append (take behind text) part in let l2 = length-drop behind text in let l3 = length-take-le behind text c.key_end-behind.ensures.within in let i = c.key_end-behind.ensures.within in
    omega (arith, kept, w, w2, l, l2, l3, i, long)) in
    record {
      after = omega (arith, c.pairs.invariant.after, c.key_end-behind.ensures.moves c.pairs-test.true);
      within = within;
      so_far = λ ps rest e f.
          let s = c.pairs.invariant.so_far ps rest e f in
          let x = next_pair text at c.pairs.sizes.items ps rest s c.pairs-test.true c.if-has_byte.ensures in
          let b = c.key_end-behind.ensures.ends x.0.key (text_of x.0.value ++ pairs_tail x.1 rest) x.3 in
          let there = value_there text at c.pairs.sizes.items ps rest s x.0 x.1 x.2 behind b in
          let r = c.in_ok-size.ensures.forms x.0.value (pairs_tail x.1 rest) (whole_mid behind text ∙ there) x.4 in
          subst (λ l. FormedSoFar (put_mid behind (length text - behind) text part) (behind + c.in_ok-size.size) l ps rest) (sym {b = c.pairs.sizes.items ++ c.in_ok-size.size ∷ []} c.in_ok-push.ensures.items)
          (pairs_more text at c.pairs.sizes.items ps rest s x.0 x.1 x.2 behind b c.in_ok-size.size part (put_mid behind (length text - behind) text part) long r.0 r.1 (put_end behind text part));
    }

pub form_pairs-returns-clause-forms : goal.form_pairs-returns-clause-forms
form_pairs-returns-clause-forms t c ps rest e f h = absurd (pairs_never_past c.pairs.text c.pairs.at c.pairs.sizes.items ps rest (c.pairs.invariant.so_far ps rest e f) c.pairs-test.false)
