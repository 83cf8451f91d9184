use Rattle.std.proofs.Common.{◌≡◌, [], ◌∷◌, ◌++◌, map, IfOk, sym, ap, ◌∙◌, subst, append_assoc, arith}
use Rattle.kad_bencode.specs.Keys.{put}
use Rattle.kad_bencode.specs.Naming.{pairs_named}
use Rattle.kad_bencode.specs.Spelling.{in_order, put_all}
use Rattle.kad_bencode.specs.declared.value.Value.TheVariants as value
use Rattle.kad_bencode.proofs.Formed.{its_dict, its_list}
use Rattle.kad_bencode.proofs.reader.+reading.Goals as goal

pub value_in-returns-in-Some-items_in : goal.value_in-returns-in-Some-items_in
value_in-returns-in-Some-items_in t c v s =
    let l = c.in-Some-items_in.ensures.list v s in
    subst (λ x. IfOk c.list_in.result (λ y. y ≡ x)) (sym (its_list v (map in_order l.trees) l.list)) (c.list_in.ensures l.trees l.items)

pub value_in-returns-in-Some-pairs_in : goal.value_in-returns-in-Some-pairs_in
value_in-returns-in-Some-pairs_in t c v s =
    let d = c.in-Some-pairs_in.ensures.pairs v s in
    subst (λ x. IfOk c.dictionary_in.result (λ y. y ≡ x)) (sym (its_dict v d.whole.dict d.whole.dict_is ∙ ap value.Dict d.whole.filed)) (c.dictionary_in.ensures d.pairs d.texts)

pub list_in-items-preserved : goal.list_in-items-preserved
list_in-items-preserved t c = record {
  within = (let s = c.in-Some.ensures.shorter in let w = c.items.invariant.within in omega (arith, s, w));
  so_far = λ ts a.
      let s = c.items.invariant.so_far ts a in
      let k = c.in-Some.ensures.cuts s.0 s.1 in
      let v : c.in_ok-value.value ≡ in_order k.tree = c.in_ok-value.ensures (in_order k.tree) k.spells in (
        k.others,
        k.left,
        ap (λ l. l ++ map in_order k.others) (c.in_ok-push.ensures.ok ∙ ap (λ x. c.items.values ++ x ∷ []) v)
            ∙ append_assoc c.items.values (in_order k.tree ∷ []) (map in_order k.others) ∙ ap (λ l. c.items.values ++ map in_order l) (sym k.cut) ∙ s.2,
      );
}

pub dictionary_in-pairs-preserved : goal.dictionary_in-pairs-preserved
dictionary_in-pairs-preserved t c = record {
  within = (let s = c.in-Some.ensures.shorter in let w = c.pairs.invariant.within in omega (arith, s, w));
  so_far = λ ps a.
      let s = c.pairs.invariant.so_far ps a in
      let f = c.in-Some.ensures.first s.0 s.1 in
      let k : c.in_ok-key.key ≡ f.pair.key = c.in_ok-key.ensures ∙ f.key_is in
      let v : c.in_ok-value.value ≡ in_order f.pair.value = c.in_ok-value.ensures (in_order f.pair.value) f.spells in (
        f.others,
        f.left,
        ap (λ l. put_all l (pairs_named f.others)) (c.in_ok-set.ensures.ok ∙ (λ i. put c.pairs.entries (k i) (v i)))
            ∙ ap (λ l. put_all c.pairs.entries (pairs_named l)) (sym f.cut) ∙ s.2,
      );
}
