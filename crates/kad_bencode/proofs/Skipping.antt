-- Over the parts of a value that stands at the front.
use Rattle.std.proofs.Common.{subst, ◌≡◌, ℕ, suc, ◌+◌, ◌-◌, ◌<◌, ◌≤◌, true, false, List, [], ◌∷◌, ◌++◌, length, take, drop, get_or, Some, None, sym, ap, ◌∙◌, arith, inl, inr, ⊎_elim, append_assoc, length-append, length-drop, append-nil}
use Rattle.std.proofs.lemmas.Bool.{cases_lt}
use Rattle.std.proofs.lemmas.List.{length-take-le, take_more}
use Rattle.std.proofs.Math.Seq.{take-append_seam}
use Rattle.kad_bencode.specs.Spelling.{text_of, integer_text, string_text, pairs_text}
use Rattle.kad_bencode.specs.Faults.{Open, InList, InPair, pairs_of, BeginsText, IsAt, IsFirstFault, IsTooBig, IsTwice}
use Rattle.kad_bencode.specs.Machine.{Place, AsValue, AsKey, State, Ready, Keyless, Whole, filled, stored, before, step, run, start, Reached, FitsState, HasByte, AwaitsString, AwaitsInteger}
use Rattle.kad_bencode.specs.declared.entries.Pair.{Pair}
use Rattle.kad_bencode.specs.declared.value.Value.{Value}
use Rattle.kad_bencode.specs.declared.value.Value.TheVariants as value
use Rattle.kad_bencode.specs.declared.value.Bad.{Bad}
use Rattle.kad_bencode.specs.declared.value.Bad.TheVariants.{NotBencode, Deep, NumberTooBig, KeyTwice, Trailing}
use Rattle.kad_bencode.proofs.Takes.{text_run, fronts_run, pairs_taken, integer_run, string_run}
use Rattle.kad_bencode.proofs.Said.{ends_once, no_text, same_some}
use Rattle.kad_bencode.proofs.First.{first, ended, standing, reached_text, reached_more, reached_back, front_then, front_begins, front_reached, integer_long, string_long}
use Rattle.kad_bencode.proofs.Nested.{awaits_text, pairs_await}
use Rattle.kad_bencode.specs.Scanning.{IsInside, opens, IsAmid, IsBehind, Begins}

module _ (bytes : List ℕ) (t : Value) (b : Begins bytes t) where
  pub whole : Reached bytes (length (text_of t)) (Whole t)
  whole = ap (run start) (ap (take (length (text_of t))) b.text ∙ take-append_seam (text_of t) b.rest) ∙ text_run t

  pub inside : length (text_of t) ≤ length bytes
  inside = omega (arith, ap length b.text, length-append (text_of t) b.rest)

  pub not_past : (j : ℕ) (st : State) → j ≤ length bytes → Reached bytes j st → j ≤ length (text_of t)
  not_past j st h r =
      elim (cases_lt (length (text_of t)) j) as (λ _. j ≤ length (text_of t)) [
        | inl lt ↦ absurd (ended bytes (length (text_of t)) j t st lt (omega arith) whole r)
        | inr le ↦ le
      ]

  late : (bad : Bad) → (f : IsFirstFault bytes bad) → length (text_of t) ≤ f.seen
  late bad f = first bytes (length (text_of t)) (Whole t) whole b.fits inside bad f.seen f.here

  not_front : (at : ℕ) → length (text_of t) < at → at ≤ length bytes → BeginsText (take at bytes) → ⊥
  not_front at h k g =
      let n : ℕ = length (text_of t) in
      let e : take at bytes ≡ text_of t ++ drop n (take at bytes) = front_then bytes n at (omega arith) ∙ ap (λ l. l ++ drop n (take at bytes)) (ap (take n) b.text ∙ take-append_seam (text_of t) b.rest) in
      let none : drop n (take at bytes) ++ g.0 ≡ [] = ends_once t g.1.0 (drop n (take at bytes) ++ g.0) (sym (append_assoc (text_of t) (drop n (take at bytes)) g.0) ∙ ap (λ l. l ++ g.0) (sym e) ∙ g.1.1) in
      let l = ap length none in
      let m = length-append (drop n (take at bytes)) g.0 in
      let d = length-drop n (take at bytes) in
      let k2 = length-take-le at bytes k in
      omega (arith, l, m, d, k2)

  not_ready : (at : ℕ) (os : List Open) → at ≤ length bytes → length (text_of t) ≤ at → Reached bytes at (Ready os) → ⊥
  not_ready at os k h r =
      let e : at ≡ length (text_of t) = let l = not_past at (Ready os) k r in omega (arith, l) in
      let s : Whole t ≡ Ready os = same_some (sym whole ∙ ap (λ j. run start (take j bytes)) (sym e) ∙ r) in cc

  stands_in : (at : ℕ) (text : List ℕ) → 0 < length text → IsAt bytes at text → at + length text ≤ length bytes
  stands_in at text h s = omega (arith, length-drop at bytes, ap length s.1, length-append text s.0)

  -- a first fault in bytes that begin so is that more bytes follow
  pub no_inside : (bad : Bad) → IsFirstFault bytes bad → IsInside bad → ⊥
  no_inside (NotBencode at) f i =
      let l = late (NotBencode at) f in
      let same : f.seen ≡ at = f.here.1 in
      elim (cases_lt (length (text_of t)) at) as (λ _. ⊥) [
        | inl lt ↦ not_front at lt f.here.0.within f.here.0.begins
        | inr le ↦ let e : at ≡ length (text_of t) = omega (arith, l, same) in
            f.here.0.unfinished (t, ap (λ j. take j bytes) e ∙ ap (take (length (text_of t))) b.text ∙ take-append_seam (text_of t) b.rest)
      ]
  no_inside (Deep at) f i =
      let l = late (Deep at) f in
      let same : f.seen ≡ at = f.here.1 in
      let k : at < length bytes = ⊎_elim (λ (s : IsAt bytes at (108 ∷ [])). (standing bytes at (108 ∷ []) (omega arith) s).0) (λ (s : IsAt bytes at (100 ∷ [])). (standing bytes at (100 ∷ []) (omega arith) s).0) f.here.0.begins in
      not_ready at f.here.0.opens (omega arith) (omega (arith, l, same)) (front_reached bytes at f.here.0.opens f.here.0.front)
  no_inside (NumberTooBig at) f i =
      let l = late (NumberTooBig at) f in
      let d : IsTooBig bytes at f.seen = f.here in
      let last : at + length (integer_text d.number) ≡ f.seen + 1 = d.last in
      let s = standing bytes at (integer_text d.number) (integer_long d.number) d.stands in
      let q : Reached bytes (at + length (integer_text d.number)) (filled d.opens (value.Int d.number)) =
      reached_text bytes at (at + length (integer_text d.number)) (integer_text d.number) (Ready d.opens) (Some (filled d.opens (value.Int d.number))) (front_reached bytes at d.opens d.front) s.1
      (ap (run (Some (Ready d.opens))) (sym (append-nil (integer_text d.number))) ∙ integer_run d.opens d.number []) in
      let w : at + length (integer_text d.number) ≤ length bytes = stands_in at (integer_text d.number) (integer_long d.number) d.stands in
      let p = not_past (at + length (integer_text d.number)) (filled d.opens (value.Int d.number)) w q in
      omega (arith, l, p, last)
  no_inside (KeyTwice at) f i =
      let l = late (KeyTwice at) f in
      let d : IsTwice bytes at f.seen = f.here in
      let last : at + length (string_text d.key) ≡ f.seen + 1 = d.last in
      let s = standing bytes at (string_text d.key) (string_long d.key) d.stands in
      let r : Reached bytes at (Keyless d.opens d.pairs) = ap (run start) d.front ∙ fronts_run d.opens (100 ∷ pairs_text (pairs_of d.pairs)) ∙ ap (run (Some (Keyless d.opens []))) (sym (append-nil (pairs_text (pairs_of d.pairs)))) ∙ pairs_taken d.pairs d.opens [] in
      let q : Reached bytes (at + length (string_text d.key)) (Ready (InPair d.pairs d.key ∷ d.opens)) =
      reached_text bytes at (at + length (string_text d.key)) (string_text d.key) (Keyless d.opens d.pairs) (Some (Ready (InPair d.pairs d.key ∷ d.opens))) r s.1
      (ap (run (Some (Keyless d.opens d.pairs))) (sym (append-nil (string_text d.key))) ∙ string_run (AsKey d.opens d.pairs) d.key []) in
      let w : at + length (string_text d.key) ≤ length bytes = stands_in at (string_text d.key) (string_long d.key) d.stands in
      let p = not_past (at + length (string_text d.key)) (Ready (InPair d.pairs d.key ∷ d.opens)) w q in
      omega (arith, l, p, last)
  no_inside (Trailing at) f i = i

  -- ---- parts

  -- where a value was filled in
  pub behind_filled : (os : List Open) (v : Value) (next depth : ℕ) → length os ≡ depth → next ≤ length bytes → Reached bytes next (filled os v) → IsBehind bytes t next depth
  behind_filled [] v next depth d k r = record {
    ends = λ z. elim (cases_lt next (length (text_of t))) as (λ _. next ≡ length (text_of t)) [
      | inl lt ↦ absurd (let i = inside in ended bytes next (length (text_of t)) v (Whole t) lt (omega (arith, i)) r whole)
      | inr le ↦ let p = not_past next (Whole v) k r in omega (arith, p)
    ];
    goes_on = λ z. absurd (omega (arith, d, z));
  }
  behind_filled (InList vs ∷ os) v next depth d k r = record {
    ends = λ z. absurd (omega (arith, d, z));
    goes_on = λ z. record { place = AsValue (InList (vs ++ v ∷ []) ∷ os); reached = r; open_ones = d; within = not_past next (Ready (InList (vs ++ v ∷ []) ∷ os)) k r };
  }
  behind_filled (InPair ps key ∷ os) v next depth d k r = record {
    ends = λ z. absurd (omega (arith, d, z));
    goes_on = λ z. let qs : List (Pair Value) = ps ++ record { key = key; value = v } ∷ [] in record { place = AsKey os qs; reached = r; open_ones = d; within = not_past next (Keyless os qs) k r };
  }

  -- where a list or a dictionary was opened, or a key was read
  pub behind_open : (p : Place) (next depth : ℕ) → opens p ≡ depth → 0 < depth → next ≤ length bytes → Reached bytes next (before p) → IsBehind bytes t next depth
  behind_open p next depth d h k r = record {
    ends = λ z. absurd (omega (arith, h, z));
    goes_on = λ z. record { place = p; reached = r; open_ones = d; within = not_past next (before p) k r };
  }

  -- the text goes on there
  goes : (at : ℕ) (st : State) → at < length (text_of t) → Reached bytes at st → step st (get_or bytes at 0) ≡ None → ⊥
  goes at st h r n =
      let i = inside in
      let k : at < length bytes = omega (arith, i, h) in
      no_text (take (at + 1) bytes) (reached_text bytes at (at + 1) (get_or bytes at 0 ∷ []) st None r (taken at k) n)
      (front_begins bytes (at + 1) (length (text_of t)) (Whole t) (omega arith) whole)
    where
      taken : (at : ℕ) → at < length bytes → take (at + 1) bytes ≡ take at bytes ++ get_or bytes at 0 ∷ []
      taken at k = take_more bytes at 0 k

  not_ended : (at : ℕ) (p : Place) → at ≤ length (text_of t) → Reached bytes at (before p) → at < length (text_of t)
  not_ended at p h r =
      elim (cases_lt at (length (text_of t))) as (λ _. at < length (text_of t)) [
        | inl lt ↦ lt
        | inr le ↦ let e : at ≡ length (text_of t) = omega arith in absurd (never p (same_some (sym whole ∙ ap (λ j. run start (take j bytes)) (sym e) ∙ r)))
      ]
    where
      never : (p : Place) → Whole t ≡ before p → ⊥
      never (AsValue os) e = cc
      never (AsKey os ps) e = cc

  module _ (at depth : ℕ) (a : IsAmid bytes t at depth) where
    goes_there : step (before a.place) (get_or bytes at 0) ≡ None → ⊥
    goes_there = goes at (before a.place) (not_ended at a.place a.within a.reached) a.reached

    fits_there : FitsState (before a.place)
    fits_there = reached_back bytes at (length (text_of t)) (before a.place) (Whole t) a.within whole b.fits a.reached

    there : at < length bytes
    there = let i = inside in let h = not_ended at a.place a.within a.reached in omega (arith, i, h)

    pub opens_list : HasByte bytes at 108 true → IsBehind bytes t (at + 1) (depth + 1)
    opens_list h =
        elim a.place as (λ p. opens p ≡ depth → Reached bytes at (before p) → (step (before p) (get_or bytes at 0) ≡ None → ⊥) → IsBehind bytes t (at + 1) (depth + 1)) [
          | AsValue os ↦ λ d r g. behind_open (AsValue (InList [] ∷ os)) (at + 1) (depth + 1) (let e : suc (length os) ≡ depth + 1 = omega (arith, d) in e) (omega arith) (let k = h.0 in omega (arith, k)) (reached_more bytes at (Ready os) (Ready (InList [] ∷ os)) r h.0 (ap (step (Ready os)) h.1))
          | AsKey os ps ↦ λ d r g. absurd (g (ap (step (Keyless os ps)) h.1))
        ] a.open_ones a.reached goes_there

    pub opens_dictionary : HasByte bytes at 100 true → IsBehind bytes t (at + 1) (depth + 1)
    opens_dictionary h =
        elim a.place as (λ p. opens p ≡ depth → Reached bytes at (before p) → (step (before p) (get_or bytes at 0) ≡ None → ⊥) → IsBehind bytes t (at + 1) (depth + 1)) [
          | AsValue os ↦ λ d r g. behind_open (AsKey os []) (at + 1) (depth + 1) (let e : suc (length os) ≡ depth + 1 = omega (arith, d) in e) (omega arith) (let k = h.0 in omega (arith, k)) (reached_more bytes at (Ready os) (Keyless os []) r h.0 (ap (step (Ready os)) h.1))
          | AsKey os ps ↦ λ d r g. absurd (g (ap (step (Keyless os ps)) h.1))
        ] a.open_ones a.reached goes_there

    closes_value : (os : List Open) → HasByte bytes at 101 true → length os ≡ depth → Reached bytes at (Ready os) → (step (Ready os) (get_or bytes at 0) ≡ None → ⊥) → (0 < depth) × IsBehind bytes t (at + 1) (depth - 1)
    closes_value [] h d r g = absurd (g (ap (step (Ready [])) h.1))
    closes_value (InList vs ∷ os) h d r g = (omega (arith, d), behind_filled os (value.List vs) (at + 1) (depth - 1) (omega (arith, d)) (let k = h.0 in omega (arith, k)) (reached_more bytes at (Ready (InList vs ∷ os)) (filled os (value.List vs)) r h.0 (ap (step (Ready (InList vs ∷ os))) h.1)))
    closes_value (InPair ps key ∷ os) h d r g = absurd (g (ap (step (Ready (InPair ps key ∷ os))) h.1))

    pub closes : HasByte bytes at 101 true → (0 < depth) × IsBehind bytes t (at + 1) (depth - 1)
    closes h =
        elim a.place as (λ p. opens p ≡ depth → Reached bytes at (before p) → (step (before p) (get_or bytes at 0) ≡ None → ⊥) → (0 < depth) × IsBehind bytes t (at + 1) (depth - 1)) [
          | AsValue os ↦ λ d r g. closes_value os h d r g
          | AsKey os ps ↦ λ d r g. (omega (arith, d), behind_filled os (value.Dict ps) (at + 1) (depth - 1) (omega (arith, d)) (let k = h.0 in omega (arith, k)) (reached_more bytes at (Keyless os ps) (filled os (value.Dict ps)) r h.0 (ap (step (Keyless os ps)) h.1)))
        ] a.open_ones a.reached goes_there

    -- ---- an integer

    pub awaits_number : HasByte bytes at 105 true → (os : List Open) × (length os ≡ depth) × AwaitsInteger bytes at os
    awaits_number h =
        elim a.place as (λ p. opens p ≡ depth → Reached bytes at (before p) → FitsState (before p) → (step (before p) (get_or bytes at 0) ≡ None → ⊥) → (os : List Open) × (length os ≡ depth) × AwaitsInteger bytes at os) [
          | AsValue os ↦ λ d r f g. (os, d, record { begins = r; fits = f })
          | AsKey os ps ↦ λ d r f g. absurd (g (ap (step (Keyless os ps)) h.1))
        ] a.open_ones a.reached fits_there goes_there

    -- ---- a string

    awaits_there : (p : Place) → Reached bytes at (before p) → FitsState (before p) → HasByte bytes at 105 false → HasByte bytes at 108 false → HasByte bytes at 100 false → HasByte bytes at 101 false → AwaitsString bytes at p
    awaits_there (AsValue os) r f i l d e = awaits_text bytes at os (record { reached = r; fits = f; within = let k = there in omega (arith, k); goes = λ h x. absurd (e h x) }) i l d
    awaits_there (AsKey os ps) r f i l d e =
        pairs_await bytes at os (record { pairs = ps; reached = r; fits = f.0 }) f.1 (let k = there in omega (arith, k)) e

    pub awaits_string : HasByte bytes at 105 false → HasByte bytes at 108 false → HasByte bytes at 100 false → HasByte bytes at 101 false → AwaitsString bytes at a.place
    awaits_string = awaits_there a.place a.reached fits_there

    pub string_behind : (p : Place) (s : List ℕ) (next : ℕ) → opens p ≡ depth → next ≤ length bytes → Reached bytes next (stored p s) → IsBehind bytes t next depth
    string_behind (AsValue os) s next d k r = behind_filled os (value.Text s) next depth d k r
    string_behind (AsKey os ps) s next d k r = behind_open (AsValue (InPair ps s ∷ os)) next depth d (omega (arith, d)) k r

  -- a list or a dictionary that closes where it opens
  pub empty_closes : (at depth : ℕ) → IsBehind bytes t (at + 1) (depth + 1) → HasByte bytes (at + 1) 101 true → IsBehind bytes t (at + 2) depth
  empty_closes at depth o h =
      let next : (at + 1) + 1 ≡ at + 2 = omega arith in
      let left : (depth + 1) - 1 ≡ depth = omega arith in
      subst (λ n. IsBehind bytes t n depth) next (subst (IsBehind bytes t ((at + 1) + 1)) left (closes (at + 1) (depth + 1) (o.goes_on (omega arith)) h).1)
