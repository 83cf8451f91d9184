use Rattle.std.proofs.Common.{ℕ, List, ◌≤◌, length, get_or, nat_eq, sym, subst, [], ◌∷◌, refl, ◌∙◌, arith, inl, inr}
use Rattle.std.proofs.lemmas.Result.{err_from_is_err_and}
use Rattle.kad_bencode.specs.Faults.{InList, InPair}
use Rattle.kad_bencode.specs.Machine.{AsKey, AsValue}
use Rattle.kad_bencode.proofs.Nested.{awaits_integer, integer_value, begun, too_deep, list_opened, dictionary_opened, opened_value, awaits_text, text_value, list_awaits, list_more, list_ends, pairs_await, key_twice, key_new, pairs_more, pairs_end}
use Rattle.kad_bencode.proofs.Verifying.{handed, widened, are_pairs, up_to_more, next_key}
use Rattle.kad_bencode.proofs.Said.{is_equal}
use Rattle.std.proofs.lemmas.List.{take_all}
use Rattle.kad_bencode.proofs.Filing.{differ_front, keys_more, own_none, own_kept, front_kept}
use Rattle.kad_bencode.proofs.Judging.{before_key, key_stands, twice_there, as_key, is_new, lists_it, none_noted, noted_more}
use Rattle.kad_bencode.specs.Filing.{own, Differ, AreKeys}
use Rattle.kad_bencode.proofs.verify.+checking.Goals as goal

pub value_at-returns-then-has_byte-clause-reads : goal.value_at-returns-then-has_byte-clause-reads
value_at-returns-then-has_byte-clause-reads t c os d a =
    integer_value c.args.bytes.now c.args.at os c.in_ok-next.field-0-0 c.in_ok-next.next a (c.in_ok-next.ensures.reads os (awaits_integer c.args.bytes.now c.args.at os a))

pub value_at-returns-then-depth-eq-MAX_DEPTH-clause-reads : goal.value_at-returns-then-depth-eq-MAX_DEPTH-clause-reads
value_at-returns-then-depth-eq-MAX_DEPTH-clause-reads t c os d a = too_deep c.args.bytes.now c.args.at os a (d ∙ c.if-depth-eq-MAX_DEPTH.true) (inl (begun c.args.bytes.now c.args.at 108 c.if-has_byte-2.ensures))

pub value_at-returns-then-has_byte-2-clause-reads : goal.value_at-returns-then-has_byte-2-clause-reads
value_at-returns-then-has_byte-2-clause-reads t c os d a =
    widened c.args.bytes.now c.list_at.result _ _ (opened_value c.args.bytes.now c.args.at os)
    (c.list_at.ensures.reads os (omega (arith, d)) (list_opened c.args.bytes.now c.args.at os a c.if-has_byte-2.ensures) a.fits)

pub value_at-returns-then-depth-eq-MAX_DEPTH-2-clause-reads : goal.value_at-returns-then-depth-eq-MAX_DEPTH-2-clause-reads
value_at-returns-then-depth-eq-MAX_DEPTH-2-clause-reads t c os d a = too_deep c.args.bytes.now c.args.at os a (d ∙ c.if-depth-eq-MAX_DEPTH-2.true) (inr (begun c.args.bytes.now c.args.at 100 c.if-has_byte-3.ensures))

pub value_at-returns-then-has_byte-3-clause-reads : goal.value_at-returns-then-has_byte-3-clause-reads
value_at-returns-then-has_byte-3-clause-reads t c os d a =
    widened c.args.bytes.now c.dictionary_at.result _ _ (opened_value c.args.bytes.now c.args.at os)
    (c.dictionary_at.ensures.reads os (omega (arith, d)) (dictionary_opened c.args.bytes.now c.args.at os a c.if-has_byte-3.ensures) a.fits)

pub value_at-returns-in_err-next-2-clause-reads : goal.value_at-returns-in_err-next-2-clause-reads
value_at-returns-in_err-next-2-clause-reads t c os d a =
    let p = err_from_is_err_and c.from_residual-in_err-next-2.result c.from_residual-in_err-next-2.ensures.1 in
    handed c.args.bytes.now c.from_residual-in_err-next-2.result _ p.0 _ p.1 p.2 (c.in_err-next-2.ensures.reads (AsValue os) (awaits_text c.args.bytes.now c.args.at os a c.if-has_byte.ensures c.if-has_byte-2.ensures c.if-has_byte-3.ensures))

pub value_at-returns-clause-reads : goal.value_at-returns-clause-reads
value_at-returns-clause-reads t c os d a =
    text_value c.args.bytes.now c.args.at os _ _ a (c.in_ok-next-2.ensures.reads (AsValue os) (awaits_text c.args.bytes.now c.args.at os a c.if-has_byte.ensures c.if-has_byte-2.ensures c.if-has_byte-3.ensures))

-- ---- lists

pub list_at-returns-in_err-at-clause-reads : goal.list_at-returns-in_err-at-clause-reads
list_at-returns-in_err-at-clause-reads t c os d r f =
    let e = c.values.invariant.so_far os d r f in
    let p = err_from_is_err_and c.from_residual.result c.from_residual.ensures.1 in
    handed c.args.bytes.now c.from_residual.result _ p.0 _ p.1 p.2 (c.in_err-at.ensures.reads (InList e.trees ∷ os) d (list_awaits c.args.bytes.now c.values.at os e (let few = c.requires.depth in omega (arith, d, few)) f c.values.invariant.within c.values-test.ensures))

pub list_at-values-preserved : goal.list_at-values-preserved
list_at-values-preserved t c = record {
  after = omega (arith, c.in_ok-at.ensures.moves, c.values.invariant.after);
  within = omega (arith, c.in_ok-at.ensures.moves);
  frame = c.in_ok-at.ensures.frame ∙ c.values.invariant.frame;
  so_far = λ os d r f.
      let e = c.values.invariant.so_far os d r f in
      let v = c.in_ok-at.ensures.reads (InList e.trees ∷ os) d (list_awaits c.args.bytes.now c.values.at os e (let few = c.requires.depth in omega (arith, d, few)) f c.values.invariant.within c.values-test.ensures) in
      list_more c.args.bytes.now c.values.at os c.in_ok-at.at e v;
}

pub list_at-returns-clause-reads : goal.list_at-returns-clause-reads
list_at-returns-clause-reads t c os d r f =
    let e = c.values.invariant.so_far os d r f in
    list_ends c.args.bytes.now c.args.from c.values.at os e (let few = c.requires.depth in omega (arith, d, few)) c.values.invariant.after c.values-test.ensures

-- ---- dictionaries

pub dictionary_at-returns-in_err-key-clause-reads : goal.dictionary_at-returns-in_err-key-clause-reads
dictionary_at-returns-in_err-key-clause-reads t c os d r f =
    let e = c.pairs.invariant.so_far os d r f in
    let p = err_from_is_err_and c.from_residual.result c.from_residual.ensures.1 in
    handed c.args.bytes.now c.from_residual.result _ p.0 _ p.1 p.2 (c.in_err-key.ensures.reads (AsKey os e.0.pairs) (pairs_await c.args.bytes.now c.pairs.at os e.0 f c.pairs.invariant.within c.pairs-test.ensures))

pub dictionary_at-returns-then-not-is_next-clause-reads : goal.dictionary_at-returns-then-not-is_next-clause-reads
dictionary_at-returns-then-not-is_next-clause-reads t c os d r f =
    let e = c.pairs.invariant.so_far os d r f in
    c.unsorted_at.ensures.reads os e.0.pairs d r f e.0.reached e.0.fits e.2

pub dictionary_at-returns-in_err-at-clause-frame : goal.dictionary_at-returns-in_err-at-clause-frame
dictionary_at-returns-in_err-at-clause-frame t c =
    front_kept c.args.base c.note-top.result _ _ (let o = c.note-top.ensures.order in let i = c.pairs.invariant.order in omega (arith, o, i)) c.in_err-at.ensures.frame
    ∙ front_kept c.args.base c.pairs.top _ _ c.pairs.invariant.order c.note-top.ensures.frame
    ∙ c.pairs.invariant.frame

pub dictionary_at-returns-in_err-at-clause-reads : goal.dictionary_at-returns-in_err-at-clause-reads
dictionary_at-returns-in_err-at-clause-reads t c os d r f =
    let e = c.pairs.invariant.so_far os d r f in
    let s = c.in_ok-key.ensures.reads (AsKey os e.0.pairs) (pairs_await c.args.bytes.now c.pairs.at os e.0 f c.pairs.invariant.within c.pairs-test.ensures) in
    let n = next_key c.args.bytes.now c.args.from c.pairs.at os e.0.pairs r e.0.reached (nat_eq c.pairs.at c.args.from) (is_equal c.pairs.at c.args.from) c.pairs.greatest.now c.in_ok-key.key.now c.is_next.result (let t = c.if-not-is_next.false in cc) c.is_next.ensures e.1 in
    let p = err_from_is_err_and c.from_residual-in_err-at.result c.from_residual-in_err-at.ensures.1 in
    handed c.args.bytes.now c.from_residual-in_err-at.result _ p.0 _ p.1 p.2 (c.in_err-at.ensures.reads (InPair e.0.pairs c.in_ok-key.key.now ∷ os) d (key_new c.args.bytes.now c.pairs.at os c.in_ok-key.key.now c.in_ok-key.behind e.0 f s n.new))

pub dictionary_at-pairs-preserved : goal.dictionary_at-pairs-preserved
dictionary_at-pairs-preserved t c =
    let order : c.args.base ≤ c.note-top.result = (let o = c.note-top.ensures.order in let i = c.pairs.invariant.order in omega (arith, o, i)) in
    record {
      after = omega (arith, c.in_ok-key.ensures.moves, c.in_ok-at.ensures.moves, c.pairs.invariant.after);
      within = omega (arith, c.in_ok-at.ensures.moves);
      order = order;
      frame = front_kept c.args.base c.note-top.result _ _ order c.in_ok-at.ensures.frame
          ∙ front_kept c.args.base c.pairs.top _ _ c.pairs.invariant.order c.note-top.ensures.frame
          ∙ c.pairs.invariant.frame;
      so_far = λ os d r f.
          let e = c.pairs.invariant.so_far os d r f in
          let s = c.in_ok-key.ensures.reads (AsKey os e.0.pairs) (pairs_await c.args.bytes.now c.pairs.at os e.0 f c.pairs.invariant.within c.pairs-test.ensures) in
          let n = next_key c.args.bytes.now c.args.from c.pairs.at os e.0.pairs r e.0.reached (nat_eq c.pairs.at c.args.from) (is_equal c.pairs.at c.args.from) c.pairs.greatest.now c.in_ok-key.key.now c.is_next.result (let t = c.if-not-is_next.false in cc) c.is_next.ensures e.1 in
          let v = c.in_ok-at.ensures.reads (InPair e.0.pairs c.in_ok-key.key.now ∷ os) d (key_new c.args.bytes.now c.pairs.at os c.in_ok-key.key.now c.in_ok-key.behind e.0 f s n.new) in (
            pairs_more c.args.bytes.now c.pairs.at os c.in_ok-key.key.now c.in_ok-key.behind c.in_ok-at.at e.0 n.new v,
            up_to_more c.in_ok-key.key.now e.0.pairs c.in_ok-key.key.now v.tree n,
            λ few. noted_more c.args.bytes.now (own c.args.base c.pairs.top c.pairs.places) c.pairs.at os e.0
                (e.2 (let o = c.note-top.ensures.order in omega (arith, few, o))) c.in_ok-key.key.now c.in_ok-key.behind c.pairs.invariant.within s v.tree _
                (own_kept c.args.base c.note-top.result _ _ order c.in_ok-at.ensures.frame ∙ c.note-top.ensures.noted (omega (arith, few)) c.args.base c.pairs.invariant.order),
          );
    }

pub dictionary_at-returns-clause-reads : goal.dictionary_at-returns-clause-reads
dictionary_at-returns-clause-reads t c os d r f =
    let e = c.pairs.invariant.so_far os d r f in
    pairs_end c.args.bytes.now c.args.from c.pairs.at os e.0 c.pairs.invariant.after c.pairs-test.ensures

pub dictionary_at-pairs-init : goal.dictionary_at-pairs-init
dictionary_at-pairs-init t c = record {
  after = omega arith;
  within = c.requires.within;
  order = omega arith;
  frame = refl;
  so_far = λ os d r f. (
    record { pairs = []; reached = r; fits = (let few = c.requires.depth in omega (arith, d, few), tt, refl) },
    tt,
    λ few. none_noted c.args.bytes.now _ os (own_none c.args.base c.args.places.now),
  );
}

-- ---- any dictionary, its keys sought

pub searched_at-sought-init : goal.searched_at-sought-init
searched_at-sought-init t c = record {
  after = omega arith;
  within = c.requires.within;
  frame = refl;
  so_far = λ os ps d r f g h. record { pairs = ps; reached = g; fits = h };
}

pub searched_at-returns-in_err-key-clause-reads : goal.searched_at-returns-in_err-key-clause-reads
searched_at-returns-in_err-key-clause-reads t c os ps d r f g h =
    let e = c.sought.invariant.so_far os ps d r f g h in
    let p = err_from_is_err_and c.from_residual.result c.from_residual.ensures.1 in
    handed c.args.bytes.now c.from_residual.result _ p.0 _ p.1 p.2 (c.in_err-key.ensures.reads (AsKey os e.pairs) (pairs_await c.args.bytes.now c.sought.at os e f c.sought.invariant.within c.sought-test.ensures))

pub searched_at-returns-then-has_key-clause-reads : goal.searched_at-returns-then-has_key-clause-reads
searched_at-returns-then-has_key-clause-reads t c os ps d r f g h =
    let e = c.sought.invariant.so_far os ps d r f g h in
    let after : c.args.from ≤ c.sought.at = omega (arith, c.requires.order, c.sought.invariant.after) in
    let told = c.has_key.ensures e.pairs (are_pairs c.args.bytes.now c.args.from c.sought.at os e after c.sought.invariant.within r) in
    key_twice c.args.bytes.now c.sought.at os c.in_ok-key.key.now c.in_ok-key.behind e c.sought.invariant.within
    (c.in_ok-key.ensures.reads (AsKey os e.pairs) (pairs_await c.args.bytes.now c.sought.at os e f c.sought.invariant.within c.sought-test.ensures))
    (sym told ∙ c.if-has_key.true)

pub searched_at-returns-in_err-at-clause-reads : goal.searched_at-returns-in_err-at-clause-reads
searched_at-returns-in_err-at-clause-reads t c os ps d r f g h =
    let e = c.sought.invariant.so_far os ps d r f g h in
    let after : c.args.from ≤ c.sought.at = omega (arith, c.requires.order, c.sought.invariant.after) in
    let s = c.in_ok-key.ensures.reads (AsKey os e.pairs) (pairs_await c.args.bytes.now c.sought.at os e f c.sought.invariant.within c.sought-test.ensures) in
    let told = c.has_key.ensures e.pairs (are_pairs c.args.bytes.now c.args.from c.sought.at os e after c.sought.invariant.within r) in
    let p = err_from_is_err_and c.from_residual-in_err-at.result c.from_residual-in_err-at.ensures.1 in
    handed c.args.bytes.now c.from_residual-in_err-at.result _ p.0 _ p.1 p.2 (c.in_err-at.ensures.reads (InPair e.pairs c.in_ok-key.key.now ∷ os) d (key_new c.args.bytes.now c.sought.at os c.in_ok-key.key.now c.in_ok-key.behind e f s (sym told ∙ c.if-has_key.false)))

pub searched_at-sought-preserved : goal.searched_at-sought-preserved
searched_at-sought-preserved t c = record {
  after = omega (arith, c.in_ok-key.ensures.moves, c.in_ok-at.ensures.moves, c.sought.invariant.after);
  within = omega (arith, c.in_ok-at.ensures.moves);
  frame = c.in_ok-at.ensures.frame ∙ c.sought.invariant.frame;
  so_far = λ os ps d r f g h.
      let e = c.sought.invariant.so_far os ps d r f g h in
      let after : c.args.from ≤ c.sought.at = omega (arith, c.requires.order, c.sought.invariant.after) in
      let s = c.in_ok-key.ensures.reads (AsKey os e.pairs) (pairs_await c.args.bytes.now c.sought.at os e f c.sought.invariant.within c.sought-test.ensures) in
      let told = c.has_key.ensures e.pairs (are_pairs c.args.bytes.now c.args.from c.sought.at os e after c.sought.invariant.within r) in
      let new = sym told ∙ c.if-has_key.false in
      let v = c.in_ok-at.ensures.reads (InPair e.pairs c.in_ok-key.key.now ∷ os) d (key_new c.args.bytes.now c.sought.at os c.in_ok-key.key.now c.in_ok-key.behind e f s new) in
      pairs_more c.args.bytes.now c.sought.at os c.in_ok-key.key.now c.in_ok-key.behind c.in_ok-at.at e new v;
}

pub searched_at-returns-clause-reads : goal.searched_at-returns-clause-reads
searched_at-returns-clause-reads t c os ps d r f g h =
    let e = c.sought.invariant.so_far os ps d r f g h in
    pairs_end c.args.bytes.now c.args.from c.sought.at os e (omega (arith, c.requires.order, c.sought.invariant.after)) c.sought-test.ensures

-- ---- what the order of the keys shows

pub judged-returns-then-i-keys-clause-reads : goal.judged-returns-then-i-keys-clause-reads
judged-returns-then-i-keys-clause-reads t c os ps d r f g h a e =
    let few = c.if-top-places.true in
    e few (subst (Differ c.args.bytes.now) (take_all c.in-Some.i _ (let m = c.if-i-keys.true in omega (arith, m))) c.in-Some.ensures.differ)

pub judged-returns-then-is_twice-clause-reads : goal.judged-returns-then-is_twice-clause-reads
judged-returns-then-is_twice-clause-reads t c os ps d r f g h a e =
    let few = c.if-top-places.true in
    let keys : List ℕ = own c.args.base c.args.top c.args.places.now in
    let w = c.is_twice.ensures.within c.if-is_twice.true in
    let k = a few c.in-Some.i (let m = c.if-i-keys.false in omega (arith, m)) c.in-Some.ensures.differ in
    twice_there c.args.bytes.now (get_or keys c.in-Some.i 0) os k
    (c.is_twice.ensures.twice c.if-is_twice.true k.pairs k.key
    (are_pairs c.args.bytes.now c.args.from (get_or keys c.in-Some.i 0) os (before_key c.args.bytes.now (get_or keys c.in-Some.i 0) os k) w.0 w.1 r)
    (key_stands c.args.bytes.now (get_or keys c.in-Some.i 0) os k))

pub judged-returns-clause-reads : goal.judged-returns-clause-reads
judged-returns-clause-reads t c os ps d r f g h a e = c.searched_at.ensures.reads os ps d r f g h

pub judged-returns-clause-frame : goal.judged-returns-clause-frame
judged-returns-clause-frame t c = front_kept c.args.base c.args.top _ _ c.requires.above c.searched_at.ensures.frame

-- ---- dictionaries whose keys are out of order

pub unsorted_at-loose-init : goal.unsorted_at-loose-init
unsorted_at-loose-init t c = record {
  after = omega arith;
  within = c.requires.within;
  order = c.requires.above;
  frame = refl;
  so_far = λ os ps d r f g h n few. (λ df. (record { pairs = ps; reached = g; fits = h }, (n few).listed), (n few).read);
}

pub unsorted_at-returns-in-Err-clause-reads : goal.unsorted_at-returns-in-Err-clause-reads
unsorted_at-returns-in-Err-clause-reads t c os ps d r f g h n =
    let e = c.loose.invariant.so_far os ps d r f g h n in
    c.judged.ensures.reads os ps d r f g h (λ few. (e few).1)
    (λ few df. let s = (e few).0 df in c.in-Err.ensures.reads (AsKey os s.0.pairs) (pairs_await c.args.bytes.now c.loose.at os s.0 f c.loose.invariant.within c.loose-test.ensures))

pub unsorted_at-loose-preserved : goal.unsorted_at-loose-preserved
unsorted_at-loose-preserved t c =
    let order : c.args.base ≤ c.note-top.result = (let o = c.note-top.ensures.order in let i = c.loose.invariant.order in omega (arith, o, i)) in
    record {
      after = omega (arith, c.in-Ok.ensures.moves, c.in-Ok-item_at.ensures.moves, c.loose.invariant.after);
      within = omega (arith, c.in-Ok-item_at.ensures.moves);
      order = order;
      frame = front_kept c.args.base c.note-top.result _ _ order c.in-Ok-item_at.ensures.frame
          ∙ front_kept c.args.base c.loose.top _ _ c.loose.invariant.order c.note-top.ensures.frame
          ∙ c.loose.invariant.frame;
      so_far = λ os ps d r f g h n few.
          let e = c.loose.invariant.so_far os ps d r f g h n (let o = c.note-top.ensures.order in omega (arith, few, o)) in
          let front : List ℕ = own c.args.base c.loose.top c.loose.places in
          let all = own_kept c.args.base c.note-top.result _ _ order c.in-Ok-item_at.ensures.frame ∙ c.note-top.ensures.noted (omega (arith, few)) c.args.base c.loose.invariant.order in (
            (λ df.
                let dd = subst (Differ c.args.bytes.now) all df in
                let s = e.0 (differ_front c.args.bytes.now front c.loose.at dd) in
                let k = c.in-Ok.ensures.reads (AsKey os s.0.pairs) (pairs_await c.args.bytes.now c.loose.at os s.0 f c.loose.invariant.within c.loose-test.ensures) in
                let new = is_new c.args.bytes.now front c.loose.at os s.0 s.1 c.in-Ok.field-0-0.now c.in-Ok.behind c.loose.invariant.within k dd in
                let v = c.in-Ok-item_at.ensures.reads (InPair s.0.pairs c.in-Ok.field-0-0.now ∷ os) d (key_new c.args.bytes.now c.loose.at os c.in-Ok.field-0-0.now c.in-Ok.behind s.0 f k new) in (
                  pairs_more c.args.bytes.now c.loose.at os c.in-Ok.field-0-0.now c.in-Ok.behind c.in-Ok-item_at.next s.0 new v,
                  lists_it c.args.bytes.now front c.loose.at os s.0 s.1 c.in-Ok.field-0-0.now c.in-Ok.behind c.loose.invariant.within k v.tree _ all,
                )),
            subst (λ q. AreKeys c.args.bytes.now q os) (sym all)
                (keys_more c.args.bytes.now front c.loose.at os e.1
                (λ dp. let s = e.0 dp in as_key c.args.bytes.now c.loose.at os s.0 c.in-Ok.field-0-0.now c.in-Ok.behind c.loose.invariant.within
                (c.in-Ok.ensures.reads (AsKey os s.0.pairs) (pairs_await c.args.bytes.now c.loose.at os s.0 f c.loose.invariant.within c.loose-test.ensures)))),
          );
    }

pub unsorted_at-returns-in-Err-item_at-clause-frame : goal.unsorted_at-returns-in-Err-item_at-clause-frame
unsorted_at-returns-in-Err-item_at-clause-frame t c =
    let order : c.args.base ≤ c.note-top.result = (let o = c.note-top.ensures.order in let i = c.loose.invariant.order in omega (arith, o, i)) in
    c.judged-in-Err-item_at.ensures.frame
    ∙ front_kept c.args.base c.note-top.result _ _ order c.in-Err-item_at.ensures.frame
    ∙ front_kept c.args.base c.loose.top _ _ c.loose.invariant.order c.note-top.ensures.frame
    ∙ c.loose.invariant.frame

pub unsorted_at-returns-in-Err-item_at-clause-reads : goal.unsorted_at-returns-in-Err-item_at-clause-reads
unsorted_at-returns-in-Err-item_at-clause-reads t c os ps d r f g h n =
    let order : c.args.base ≤ c.note-top.result = (let o = c.note-top.ensures.order in let i = c.loose.invariant.order in omega (arith, o, i)) in
    let few : c.note-top.result ≤ length c.loose.places = (let m = c.if-top-places.false in omega (arith, m)) in
    let e = c.loose.invariant.so_far os ps d r f g h n (let o = c.note-top.ensures.order in omega (arith, few, o)) in
    let front : List ℕ = own c.args.base c.loose.top c.loose.places in
    let all = own_kept c.args.base c.note-top.result _ _ order c.in-Err-item_at.ensures.frame ∙ c.note-top.ensures.noted few c.args.base c.loose.invariant.order in
    c.judged-in-Err-item_at.ensures.reads os ps d r f g h
    (λ _. subst (λ q. AreKeys c.args.bytes.now q os) (sym all)
    (keys_more c.args.bytes.now front c.loose.at os e.1
    (λ dp. let s = e.0 dp in as_key c.args.bytes.now c.loose.at os s.0 c.in-Ok.field-0-0.now c.in-Ok.behind c.loose.invariant.within
    (c.in-Ok.ensures.reads (AsKey os s.0.pairs) (pairs_await c.args.bytes.now c.loose.at os s.0 f c.loose.invariant.within c.loose-test.ensures)))))
    (λ _ df.
    let dd = subst (Differ c.args.bytes.now) all df in
    let s = e.0 (differ_front c.args.bytes.now front c.loose.at dd) in
    let k = c.in-Ok.ensures.reads (AsKey os s.0.pairs) (pairs_await c.args.bytes.now c.loose.at os s.0 f c.loose.invariant.within c.loose-test.ensures) in
    let new = is_new c.args.bytes.now front c.loose.at os s.0 s.1 c.in-Ok.field-0-0.now c.in-Ok.behind c.loose.invariant.within k dd in
    c.in-Err-item_at.ensures.reads (InPair s.0.pairs c.in-Ok.field-0-0.now ∷ os) d (key_new c.args.bytes.now c.loose.at os c.in-Ok.field-0-0.now c.in-Ok.behind s.0 f k new))

pub unsorted_at-returns-clause-reads : goal.unsorted_at-returns-clause-reads
unsorted_at-returns-clause-reads t c os ps d r f g h n =
    let e = c.loose.invariant.so_far os ps d r f g h n in
    c.judged-2.ensures.reads os ps d r f g h (λ few. (e few).1)
    (λ few df. let s = (e few).0 df in pairs_end c.args.bytes.now c.args.from c.loose.at os s.0 (omega (arith, c.requires.order, c.loose.invariant.after)) c.loose-test.ensures)
