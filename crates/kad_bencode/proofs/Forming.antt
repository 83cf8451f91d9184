-- Texts that are turned into written forms where they stand.
use Rattle.std.proofs.Common.{◌≡◌, ℕ, suc, ◌+◌, ◌-◌, ◌<◌, ◌≤◌, true, false, List, [], ◌∷◌, ◌++◌, map, length, take, drop, get_or, Result, Ok, Err, refl, sym, ap, ◌∙◌, subst, arith, inl, inr, ⊎_elim, append_assoc, append-nil, length-append}
use Rattle.std.specs.Prelude.{IfOk}
use Rattle.std.specs.List.{AllByRecursion, concat, flat_map}
use Rattle.std.specs.List.Sorted.{IsPermutation, IsSortedBy}
use Rattle.std.specs.Ordering.{match_ordering}
use Rattle.std.specs.declared.cmp.Ordering.TheVariants.{Less, Equal, Greater}
use Rattle.std.proofs.lemmas.Bool.{cases_lt}
use Rattle.std.proofs.lemmas.List.{drop_all, get_or-drop, length-drop, length-map, length-take-le, map-append, take_all}
use Rattle.std.proofs.lemmas.List.Folds.{flat_map-map}
use Rattle.std.proofs.Math.Seq.{take-append_seam, drop-append_seam}
use borrow.Rule.Slice.PartMut.{mid_of, put_mid}
use Rattle.kad_bencode.specs.Keys.{key_cmp, keys_of, put}
use Rattle.kad_bencode.specs.Spelling.{Fits, each_once, in_order, pairs_text, put_all, string_text, text_of, values_of}
use Rattle.kad_bencode.specs.Faults.{pairs_of}
use Rattle.kad_bencode.specs.Finding.{ArePairs}
use Rattle.kad_bencode.specs.Forming.{comes_before, dict_text, pair_of, row_text, value_size, AreRows, AreSizes}
use Rattle.kad_bencode.specs.Machine.{HasByte, is_digit}
use Rattle.kad_bencode.specs.Written.{Puts}
use Rattle.kad_bencode.specs.declared.entries.Pair.{Pair}
use Rattle.kad_bencode.specs.declared.form.Row.{Row}
use Rattle.kad_bencode.specs.declared.value.Value.{Value}
use Rattle.kad_bencode.specs.declared.value.Value.TheVariants as value
use Rattle.kad_bencode.proofs.Folds.{in_order-dict, in_order-int, in_order-list, in_order-text, keys_mapped, ordered_pairs, text_of-dict, text_of-list, text_of-text}
use Rattle.kad_bencode.proofs.Limits.{dict_fits, list_fits}
use Rattle.kad_bencode.proofs.Looking.{pairs_left, value_text}
use Rattle.kad_bencode.proofs.Ordered.{spelled_fits}
use Rattle.kad_bencode.proofs.Pieces.{Starts, first_byte, starts, text_long}
use Rattle.kad_bencode.proofs.Sorting.{as_long, sorted_is}
use Rattle.kad_bencode.proofs.Said.{pairs_push, texts_push}
use Rattle.kad_bencode.proofs.Verifying.{fewer}

pub carried : {A E : Type 0} {P Q : A → Type 0} (r : Result A E) → ((x : A) → P x → Q x) → IfOk r P → IfOk r Q
carried (Ok x) f h = f x h
carried (Err e) f h = tt

-- ---- the sizes of values

at_seam : (done : List (Pair Value)) (p : Pair Value) (ps : List (Pair Value)) → get_or (map value_size (done ++ p ∷ ps)) (length done) 0 ≡ value_size p
at_seam [] p ps = refl
at_seam (q ∷ qs) p ps = at_seam qs p ps

module _ (sizes : List ℕ) (pairs done : List (Pair Value)) (i : ℕ) (z : AreSizes sizes pairs) (n : i ≡ length done) where
  all_long : (left : List (Pair Value)) → pairs ≡ done ++ left → length sizes ≡ length done + length left
  all_long left e = ap length z ∙ length-map pairs value_size ∙ ap length e ∙ length-append done left

  -- the size that stands at a place is that of the first pair that is left
  pub size_there : (left : List (Pair Value)) → pairs ≡ done ++ left → i < length sizes
      → (p : Pair Value) × (ps : List (Pair Value)) × (left ≡ p ∷ ps) × (get_or sizes i 0 ≡ length (text_of p.value))
  size_there [] e h = absurd (let l = all_long [] e in omega (arith, l, n, h))
  size_there (p ∷ ps) e h = (p, ps, refl, (λ j. get_or (z j) (n j) 0) ∙ ap (λ l. get_or (map value_size l) (length done) 0) e ∙ at_seam done p ps)

  -- behind the last size no pair is left
  pub none_beyond : (left : List (Pair Value)) → pairs ≡ done ++ left → length sizes ≤ i → left ≡ []
  none_beyond [] e h = refl
  none_beyond (p ∷ ps) e h = absurd (let l = all_long (p ∷ ps) e in omega (arith, l, n, h))

-- the first pair is cut off where the text of its value ends
module _ (bytes behind : List ℕ) (p : Pair Value) (ps : List (Pair Value)) (a : ArePairs bytes (p ∷ ps)) (from size : ℕ)
    (k : from ≡ length (string_text p.key)) (z : size ≡ length (text_of p.value)) (b : behind ≡ drop from bytes) where
  pub cut_within : length behind < size → ⊥
  cut_within h =
      let l = ap length (value_text bytes p ps a from size k z) in
      let c = ap length b in
      let s : length (take size (drop from bytes)) ≤ length (drop from bytes) = shorter (drop from bytes) in
      omega (arith, h, l, c, z, s)
    where
      shorter : (l : List ℕ) → length (take size l) ≤ length l
      shorter l = ⊎_elim (λ (x : length l < size). let e = ap length (take_all size l (omega (arith, x))) in omega (arith, e)) (λ (x : size ≤ length l). let e = length-take-le size l x in omega (arith, e, x)) (cases_lt (length l) size)

  pub cut_there : (take size behind ≡ text_of p.value) × ArePairs (drop size behind) ps
  cut_there = (ap (take size) b ∙ value_text bytes p ps a from size k z, subst (λ l. ArePairs (drop size l) ps) (sym b) (pairs_left bytes p ps a from size k z))

-- ---- rows

-- the pairs whose rows were taken, and those that are left
pub record RowsSoFar (rest : List ℕ) (rows : List Row) (i : ℕ) (pairs : List (Pair Value)) : Type 0 where
  pub done : List (Pair Value)
  pub left : List (Pair Value)
  pub all : pairs ≡ done ++ left
  pub count : i ≡ length done
  pub rows_are : AreRows rows done
  pub texts : ArePairs rest left

pub no_rows : (bytes : List ℕ) (ps : List (Pair Value)) → ArePairs bytes ps → RowsSoFar bytes [] 0 ps
no_rows bytes ps a = record { done = []; left = ps; all = refl; count = refl; rows_are = refl; texts = a }

module _ (rest : List ℕ) (rows : List Row) (i : ℕ) (sizes : List ℕ) (pairs : List (Pair Value)) (z : AreSizes sizes pairs) (s : RowsSoFar rest rows i pairs) where
  pub rows_last : length sizes ≤ i → AreRows rows pairs
  rows_last h = s.rows_are ∙ ap pairs_of (sym (s.all ∙ ap (λ l. s.done ++ l) (none_beyond sizes pairs s.done i z s.count s.left s.all h) ∙ append-nil s.done))

  -- the first pair that is left, with its size
  pub row_next : i < length sizes → (p : Pair Value) × (ps : List (Pair Value)) × (s.left ≡ p ∷ ps) × ArePairs rest (p ∷ ps) × (get_or sizes i 0 ≡ length (text_of p.value))
  row_next h =
      let x = size_there sizes pairs s.done i z s.count s.left s.all h in
      (x.0, x.1, x.2, subst (ArePairs rest) x.2 s.texts, x.3)

  pub rows_more : (others : List ℕ) (row : Row) → i < length sizes
      → ((p : Pair Value) (ps : List (Pair Value)) → ArePairs rest (p ∷ ps) → get_or sizes i 0 ≡ length (text_of p.value) → (row.key.now ≡ p.key) × (row.text.now ≡ text_of p.value) × ArePairs others ps)
      → RowsSoFar others (rows ++ row ∷ []) (i + 1) pairs
  rows_more others row h reads =
      let x = row_next h in
      let r = reads x.0 x.1 x.3 x.4 in
      let n = s.count in
      let l = length-append s.done (x.0 ∷ []) in
      record {
        done = s.done ++ x.0 ∷ [];
        left = x.1;
        all = s.all ∙ ap (λ l. s.done ++ l) x.2 ∙ sym (append_assoc s.done (x.0 ∷ []) x.1);
        count = omega (arith, n, l);
        rows_are = map-append pair_of rows (row ∷ [])
            ∙ (λ j. s.rows_are j ++ record { key = r.0 j; value = r.1 j } ∷ [])
            ∙ sym (map-append (λ (p : Pair Value). record { key = p.key; value = text_of p.value }) s.done (x.0 ∷ []));
        texts = r.2;
      }

-- ---- sorted pairs

put_pairs : (ps : List (Pair Value)) (key : List ℕ) (v : Value) → pairs_of (put ps key v) ≡ put (pairs_of ps) key (text_of v)
put_pairs [] key v = refl
put_pairs (p ∷ ps) key v =
    elim (key_cmp key p.key) as (λ o. pairs_of (match_ordering o (record { key = key; value = v } ∷ p ∷ ps) (record { key = key; value = v } ∷ ps) (p ∷ put ps key v))
    ≡ match_ordering o (record { key = key; value = text_of v } ∷ pairs_of (p ∷ ps)) (record { key = key; value = text_of v } ∷ pairs_of ps) (record { key = p.key; value = text_of p.value } ∷ put (pairs_of ps) key (text_of v)))
    [ Less ↦ refl | Equal ↦ refl | Greater ↦ ap (λ l. record { key = p.key; value = text_of p.value } ∷ l) (put_pairs ps key v) ]

put_all_pairs : (filed ps : List (Pair Value)) → pairs_of (put_all filed ps) ≡ put_all (pairs_of filed) (pairs_of ps)
put_all_pairs filed [] = refl
put_all_pairs filed (p ∷ ps) = put_all_pairs (put filed p.key p.value) ps ∙ ap (λ l. put_all l (pairs_of ps)) (put_pairs filed p.key p.value)

-- as many bytes were put as there were
replaced : {old new text : List ℕ} {end : ℕ} → length text ≡ length old → Puts old new 0 text end → new ≡ text
replaced {old} {new} {text} {end} e p =
    let place = p.place in
    let room = p.room in
    let put : take end new ≡ text = p.text_is (omega (arith, place, e)) in
    ⊎_elim
    (λ (small : end < length new). absurd (let l = ap length put in let k = length-take-le end new (omega (arith, small)) in omega (arith, l, k, e, room, small)))
    (λ (large : length new ≤ end). sym (take_all end new large) ∙ put)
    (cases_lt end (length new))

pub in_place : {old new : List ℕ} {end : ℕ} (rows sorted : List Row) (ps : List (Pair Value)) → ArePairs old ps → each_once (keys_of ps) ≡ true → AreRows rows ps
    → IsPermutation rows sorted → IsSortedBy comes_before sorted → Puts old new 0 (flat_map row_text sorted) end → new ≡ pairs_text (pairs_of (put_all [] ps))
in_place {old} {new} {end} rows sorted ps a h r m s p =
    let once : each_once (keys_of (pairs_of ps)) ≡ true = ap each_once (keys_mapped text_of ps) ∙ h in
    let text : flat_map row_text sorted ≡ pairs_text (map pair_of sorted) = sym (flat_map-map (λ (p : Pair (List ℕ)). string_text p.key ++ p.value) pair_of sorted) in
    let long = as_long pair_of (λ (p : Pair (List ℕ)). string_text p.key ++ p.value) (pairs_of ps) rows sorted r m in
    replaced (ap length text ∙ long ∙ sym (ap length a.text)) p
    ∙ text ∙ ap pairs_text (sorted_is pair_of (pairs_of ps) rows sorted once r m s ∙ sym (put_all_pairs [] ps))

-- ---- the kind of a value at the front

module _ (text : List ℕ) (t : Value) (rest : List ℕ) (e : text ≡ text_of t ++ rest) where
  starts_so : get_or text 0 0 ≡ first_byte t
  starts_so = ap (λ l. get_or l 0 0) e ∙ front (text_of t) (text_long t)
    where
      front : (l : List ℕ) → 0 < length l → get_or (l ++ rest) 0 0 ≡ get_or l 0 0
      front [] h = absurd (omega (arith, h))
      front (x ∷ xs) h = refl

  begins_there : 0 < length text
  begins_there = let l = ap length e in let m = length-append (text_of t) rest in let n = text_long t in omega (arith, l, m, n)

  pub of_list : HasByte text 0 108 true → (vs : List Value) × (t ≡ value.List vs)
  of_list h = by_kind (starts t)
    where
      by_kind : Starts t → (vs : List Value) × (t ≡ value.List vs)
      by_kind (inl x) = absurd (let f : 105 ≡ 108 = sym x.2 ∙ sym starts_so ∙ h.1 in omega (arith, f))
      by_kind (inr (inl x)) = absurd (let f : true ≡ false = sym x.2 ∙ ap is_digit (sym starts_so ∙ h.1) in cc)
      by_kind (inr (inr (inl x))) = (x.0, x.1)
      by_kind (inr (inr (inr x))) = absurd (let f : 100 ≡ 108 = sym x.2 ∙ sym starts_so ∙ h.1 in omega (arith, f))

  pub of_dict : HasByte text 0 100 true → (ps : List (Pair Value)) × (t ≡ value.Dict ps)
  of_dict h = by_kind (starts t)
    where
      by_kind : Starts t → (ps : List (Pair Value)) × (t ≡ value.Dict ps)
      by_kind (inl x) = absurd (let f : 105 ≡ 100 = sym x.2 ∙ sym starts_so ∙ h.1 in omega (arith, f))
      by_kind (inr (inl x)) = absurd (let f : true ≡ false = sym x.2 ∙ ap is_digit (sym starts_so ∙ h.1) in cc)
      by_kind (inr (inr (inl x))) = absurd (let f : 108 ≡ 100 = sym x.2 ∙ sym starts_so ∙ h.1 in omega (arith, f))
      by_kind (inr (inr (inr x))) = (x.0, x.1)

  -- a string or an integer is its own written form
  pub of_neither : HasByte text 0 108 false → HasByte text 0 100 false → in_order t ≡ t
  of_neither h k = by_kind (starts t)
    where
      by_kind : Starts t → in_order t ≡ t
      by_kind (inl x) = ap in_order x.1 ∙ in_order-int x.0 ∙ sym x.1
      by_kind (inr (inl x)) = ap in_order x.1 ∙ in_order-text x.0 ∙ sym x.1
      by_kind (inr (inr (inl x))) = absurd (h begins_there (starts_so ∙ x.2))
      by_kind (inr (inr (inr x))) = absurd (k begins_there (starts_so ∙ x.2))

-- ---- a list, and a dictionary

abbrev pub inside : ℕ → List Value → List ℕ
inside b ts = b ∷ concat (map text_of ts) ++ 101 ∷ []

pub list_inside : (t : Value) (vs : List Value) → t ≡ value.List vs → Fits 0 t → (text_of t ≡ inside 108 vs) × AllByRecursion (Fits 0) vs × (text_of (in_order t) ≡ inside 108 (map in_order vs))
list_inside t vs e f = (
  ap text_of e ∙ text_of-list vs,
  fewer 1 vs (list_fits 0 vs (subst (Fits 0) e f)).1,
  ap (λ v. text_of (in_order v)) e ∙ ap text_of (in_order-list vs) ∙ text_of-list (map in_order vs),
)

pub dict_inside : (t : Value) (ps : List (Pair Value)) → t ≡ value.Dict ps → Fits 0 t
    → (text_of t ≡ dict_text ps) × AllByRecursion (Fits 0) (values_of ps) × (each_once (keys_of ps) ≡ true) × (text_of (in_order t) ≡ dict_text (put_all [] (ordered_pairs ps)))
dict_inside t ps e f =
    let d = dict_fits [] ps (subst (Fits 0) e f) in (
      ap text_of e ∙ text_of-dict ps,
      fewer 1 (values_of ps) d.1,
      d.2,
      ap (λ v. text_of (in_order v)) e ∙ ap text_of (in_order-dict ps) ∙ text_of-dict (put_all [] (ordered_pairs ps)),
    )

ordered_fit : (ps : List (Pair Value)) → AllByRecursion (Fits 0) (values_of ps) → AllByRecursion (Fits 0) (values_of (ordered_pairs ps))
ordered_fit [] a = tt
ordered_fit (p ∷ ps) a = (spelled_fits (text_of p.value) (in_order p.value) (record { tree = p.value; text = refl; fits = a.0; names = refl }), ordered_fit ps a.1)

-- the part from a place on
pub whole_mid : (at : ℕ) (xs : List ℕ) → mid_of at (length xs - at) xs ≡ drop at xs
whole_mid at xs = take_all (length xs - at) (drop at xs) (let l = length-drop at xs in omega (arith, l))

pub put_end : (at : ℕ) (xs ys : List ℕ) → put_mid at (length xs - at) xs ys ≡ take at xs ++ ys
put_end at xs ys = ap (λ l. take at xs ++ l) (ap (λ l. ys ++ l) (drop_all (length xs - at) (drop at xs) (let l = length-drop at xs in omega (arith, l))) ∙ append-nil ys)

-- the values that are in order, and those that are left
pub record ValuesSoFar (text : List ℕ) (at b : ℕ) (ts : List Value) (rest : List ℕ) : Type 0 where
  pub done : List Value
  pub left : List Value
  pub all : ts ≡ done ++ left
  pub was : at ≡ length (b ∷ concat (map text_of done))
  pub at_is : at ≡ length (b ∷ concat (map text_of (map in_order done)))
  pub text_is : text ≡ (b ∷ concat (map text_of (map in_order done))) ++ ((concat (map text_of left) ++ 101 ∷ []) ++ rest)
  pub fits : AllByRecursion (Fits 0) left

pub none_formed : (text : List ℕ) (b : ℕ) (ts : List Value) (rest : List ℕ) → text ≡ inside b ts ++ rest → AllByRecursion (Fits 0) ts → ValuesSoFar text 1 b ts rest
none_formed text b ts rest e f = record { done = []; left = ts; all = refl; was = refl; at_is = refl; text_is = e; fits = f }

-- no value begins as a list ends
no_end : (v : Value) → first_byte v ≡ 101 → ⊥
no_end v e = by_kind (starts v)
  where
    by_kind : Starts v → ⊥
    by_kind (inl x) = let f : 105 ≡ 101 = sym x.2 ∙ e in omega (arith, f)
    by_kind (inr (inl x)) = let f : true ≡ false = sym x.2 ∙ ap is_digit e in cc
    by_kind (inr (inr (inl x))) = let f : 108 ≡ 101 = sym x.2 ∙ e in omega (arith, f)
    by_kind (inr (inr (inr x))) = let f : 100 ≡ 101 = sym x.2 ∙ e in omega (arith, f)

-- what stands behind values that are left, to the end of what they are in and past it
abbrev pub tail_of : List Value → List ℕ → List ℕ
tail_of vs rest = (concat (map text_of vs) ++ 101 ∷ []) ++ rest

grouped : (v : Value) (vs : List Value) (rest : List ℕ) → tail_of (v ∷ vs) rest ≡ text_of v ++ tail_of vs rest
grouped v vs rest = ap (λ l. l ++ rest) (append_assoc (text_of v) (concat (map text_of vs)) (101 ∷ [])) ∙ append_assoc (text_of v) (concat (map text_of vs) ++ 101 ∷ []) rest

pushed : (f : Value → Value) (vs : List Value) (v : Value) → concat (map text_of (map f (vs ++ v ∷ []))) ≡ concat (map text_of (map f vs)) ++ text_of (f v)
pushed f vs v = ap (λ l. concat (map text_of l)) (map-append f vs (v ∷ [])) ∙ texts_push (map f vs) (f v)

module _ (text : List ℕ) (at b : ℕ) (ts : List Value) (rest : List ℕ) (s : ValuesSoFar text at b ts rest) where
  abbrev front : List ℕ
  front = b ∷ concat (map text_of (map in_order s.done))

  behind_front : drop at text ≡ tail_of s.left rest
  behind_front = ap (λ n. drop n text) s.at_is ∙ ap (drop (length front)) s.text_is ∙ drop-append_seam front (tail_of s.left rest)

  pub in_front : take at text ≡ front
  in_front = ap (λ n. take n text) s.at_is ∙ ap (take (length front)) s.text_is ∙ take-append_seam front (tail_of s.left rest)

  at_byte : (d : ℕ) → get_or text at d ≡ get_or (drop at text) 0 d
  at_byte d = sym (get_or-drop at text 0 d ∙ (let e : at + 0 ≡ at = omega arith in ap (λ n. get_or text n d) e))

  -- an end stands there where nothing is left, and there alone
  pub never_past : length text ≤ at → ⊥
  never_past h =
      let l = ap length s.text_is in
      let m = length-append front (tail_of s.left rest) in
      let n = length-append (concat (map text_of s.left) ++ 101 ∷ []) rest in
      let o = length-append (concat (map text_of s.left)) (101 ∷ []) in
      let a = s.at_is in
      omega (arith, h, l, m, n, o, a)

  pub all_formed : HasByte text at 101 true → (at + 1 ≡ length (inside b ts)) × (text ≡ inside b (map in_order ts) ++ rest)
  all_formed h = by_cases s.left s.all s.text_is (sym (at_byte 0) ∙ h.1)
    where
      by_cases : (left : List Value) → ts ≡ s.done ++ left → text ≡ front ++ tail_of left rest → get_or (drop at text) 0 0 ≡ 101
          → (at + 1 ≡ length (inside b ts)) × (text ≡ inside b (map in_order ts) ++ rest)
      by_cases [] e t g =
          let d : ts ≡ s.done = e ∙ append-nil s.done in (
            (let w = s.was in let m = length-append (concat (map text_of s.done)) (101 ∷ []) in let k : at + 1 ≡ length (inside b s.done) = omega (arith, w, m) in k)
                ∙ ap (λ vs. length (inside b vs)) (sym d),
            t ∙ sym (append_assoc front (101 ∷ []) rest) ∙ ap (λ vs. inside b (map in_order vs) ++ rest) (sym d),
          )
      by_cases (v ∷ vs) e t g =
          let there : drop at text ≡ tail_of (v ∷ vs) rest =
          ap (λ n. drop n text) s.at_is ∙ ap (drop (length front)) t ∙ drop-append_seam front (tail_of (v ∷ vs) rest) in
          absurd (no_end v (sym (starts_so (drop at text) v (tail_of vs rest) (there ∙ grouped v vs rest)) ∙ g))

  -- one value more
  pub next_value : at < length text → HasByte text at 101 false → (v : Value) × (vs : List Value) × (s.left ≡ v ∷ vs) × (drop at text ≡ text_of v ++ tail_of vs rest) × Fits 0 v
  next_value h n = by_cases s.left refl s.fits
    where
      by_cases : (left : List Value) → s.left ≡ left → AllByRecursion (Fits 0) left
          → (v : Value) × (vs : List Value) × (s.left ≡ v ∷ vs) × (drop at text ≡ text_of v ++ tail_of vs rest) × Fits 0 v
      by_cases [] e f = absurd (n h (at_byte 0 ∙ ap (λ l. get_or l 0 0) (behind_front ∙ ap (λ vs. tail_of vs rest) e)))
      by_cases (v ∷ vs) e f = (v, vs, e, behind_front ∙ ap (λ l. tail_of l rest) e ∙ grouped v vs rest, f.0)

  pub values_more : (v : Value) (vs : List Value) → s.left ≡ v ∷ vs → (size : ℕ) (part new : List ℕ) → drop at text ≡ text_of v ++ tail_of vs rest
      → length part ≡ length (drop at text) → size ≡ length (text_of v) → part ≡ text_of (in_order v) ++ tail_of vs rest → new ≡ take at text ++ part
      → ValuesSoFar new (at + size) b ts rest
  values_more v vs e size part new d l n p q =
      let was : List ℕ = concat (map text_of s.done) in
      let now : List ℕ = concat (map text_of (map in_order s.done)) in
      let k = ap length d in
      let k2 = length-append (text_of v) (tail_of vs rest) in
      let j = ap length p in
      let j2 = length-append (text_of (in_order v)) (tail_of vs rest) in
      let same : length (text_of (in_order v)) ≡ length (text_of v) = omega (arith, k, k2, j, j2, l) in
      let w = s.was in
      let a = s.at_is in
      let w2 = length-append was (text_of v) in
      let a2 = length-append now (text_of (in_order v)) in
      let size_was : at + size ≡ suc (length (was ++ text_of v)) = omega (arith, w, w2, n) in
      let size_now : at + size ≡ suc (length (now ++ text_of (in_order v))) = omega (arith, a, a2, n, same) in
      let left_fit : AllByRecursion (Fits 0) (v ∷ vs) = subst (AllByRecursion (Fits 0)) e s.fits in
      record {
        done = s.done ++ v ∷ [];
        left = vs;
        all = s.all ∙ ap (λ l. s.done ++ l) e ∙ sym (append_assoc s.done (v ∷ []) vs);
        was = size_was ∙ ap (λ l. suc (length l)) (sym (texts_push s.done v));
        at_is = size_now ∙ ap (λ l. suc (length l)) (sym (pushed in_order s.done v));
        text_is = q ∙ (λ i. in_front i ++ p i) ∙ sym (append_assoc front (text_of (in_order v)) (tail_of vs rest)) ∙ ap (λ l. (b ∷ l) ++ tail_of vs rest) (sym (pushed in_order s.done v));
        fits = left_fit.1;
      }

-- ---- the pairs of a dictionary

abbrev pairs_spelled : List (Pair Value) → List ℕ
pairs_spelled ps = pairs_text (pairs_of ps)

-- what stands behind pairs whose values are in order, to the end of the dictionary and past it
abbrev pub pairs_tail : List (Pair Value) → List ℕ → List ℕ
pairs_tail ps rest = (pairs_spelled ps ++ 101 ∷ []) ++ rest

-- the pairs whose values are in order, with the sizes of these, and those that are left
pub record FormedSoFar (text : List ℕ) (at : ℕ) (sizes : List ℕ) (ps : List (Pair Value)) (rest : List ℕ) : Type 0 where
  pub done : List (Pair Value)
  pub left : List (Pair Value)
  pub all : ps ≡ done ++ left
  pub was : at ≡ length (100 ∷ pairs_spelled done)
  pub at_is : at ≡ length (100 ∷ pairs_spelled (ordered_pairs done))
  pub text_is : text ≡ (100 ∷ pairs_spelled (ordered_pairs done)) ++ pairs_tail left rest
  pub sizes_are : AreSizes sizes (ordered_pairs done)
  pub fits : AllByRecursion (Fits 0) (values_of left)

pub no_pairs : (text : List ℕ) (ps : List (Pair Value)) (rest : List ℕ) → text ≡ dict_text ps ++ rest → AllByRecursion (Fits 0) (values_of ps) → FormedSoFar text 1 [] ps rest
no_pairs text ps rest e f = record { done = []; left = ps; all = refl; was = refl; at_is = refl; text_is = e; sizes_are = refl; fits = f }

apart : (a b c d e : List ℕ) → (((a ++ b) ++ c) ++ d) ++ e ≡ a ++ (b ++ ((c ++ d) ++ e))
apart a b c d e =
    ap (λ l. l ++ e) (append_assoc (a ++ b) c d ∙ append_assoc a b (c ++ d))
    ∙ append_assoc a (b ++ (c ++ d)) e
    ∙ ap (λ l. a ++ l) (append_assoc b (c ++ d) e)

together : (a b c d : List ℕ) → (a ++ b) ++ (c ++ d) ≡ (a ++ (b ++ c)) ++ d
together a b c d = sym (append_assoc (a ++ b) c d) ∙ ap (λ l. l ++ d) (append_assoc a b c)

ordered_push : (ps : List (Pair Value)) (p : Pair Value) → pairs_spelled (ordered_pairs (ps ++ p ∷ [])) ≡ pairs_spelled (ordered_pairs ps) ++ (string_text p.key ++ text_of (in_order p.value))
ordered_push ps p = ap pairs_spelled (map-append (λ (q : Pair Value). let r : Pair Value = record { key = q.key; value = in_order q.value } in r) ps (p ∷ [])) ∙ pairs_push (ordered_pairs ps) p.key (in_order p.value)

module _ (text : List ℕ) (at : ℕ) (sizes : List ℕ) (ps : List (Pair Value)) (rest : List ℕ) (s : FormedSoFar text at sizes ps rest) where
  abbrev before : List ℕ
  before = 100 ∷ pairs_spelled (ordered_pairs s.done)

  left_there : (left : List (Pair Value)) → s.left ≡ left → drop at text ≡ pairs_tail left rest
  left_there left e = (λ i. drop (s.at_is i) (s.text_is i)) ∙ drop-append_seam before (pairs_tail s.left rest) ∙ ap (λ l. pairs_tail l rest) e

  first_there : (p : Pair Value) (qs : List (Pair Value)) → s.left ≡ p ∷ qs → drop at text ≡ string_text p.key ++ (text_of p.value ++ pairs_tail qs rest)
  first_there p qs e = left_there (p ∷ qs) e ∙ apart (string_text p.key) (text_of p.value) (pairs_spelled qs) (101 ∷ []) rest

  byte_there : (d : ℕ) → get_or text at d ≡ get_or (drop at text) 0 d
  byte_there d = sym (get_or-drop at text 0 d ∙ (let e : at + 0 ≡ at = omega arith in ap (λ n. get_or text n d) e))

  pub pairs_never_past : length text ≤ at → ⊥
  pairs_never_past h =
      let l = ap length s.text_is in
      let m = length-append before (pairs_tail s.left rest) in
      let n = length-append (pairs_spelled s.left ++ 101 ∷ []) rest in
      let o = length-append (pairs_spelled s.left) (101 ∷ []) in
      let a = s.at_is in
      omega (arith, h, l, m, n, o, a)

  -- an end stands there where no pair is left
  ends_pairs : HasByte text at 101 true → s.left ≡ []
  ends_pairs h = by_cases s.left refl
    where
      by_cases : (left : List (Pair Value)) → s.left ≡ left → left ≡ []
      by_cases [] e = refl
      by_cases (q ∷ qs) e =
          let there = first_there q qs e ∙ ap (λ l. l ++ (text_of q.value ++ pairs_tail qs rest)) (sym (text_of-text q.key)) in
          absurd (no_end (value.Text q.key) (sym (starts_so (drop at text) (value.Text q.key) (text_of q.value ++ pairs_tail qs rest) there) ∙ sym (byte_there 0) ∙ h.1))

  pub pairs_formed : HasByte text at 101 true
      → (at + 1 ≡ length (dict_text ps)) × (at ≡ length (100 ∷ pairs_spelled (ordered_pairs ps))) × (text ≡ (100 ∷ pairs_spelled (ordered_pairs ps)) ++ (101 ∷ rest)) × AreSizes sizes (ordered_pairs ps)
  pairs_formed h =
      let none = ends_pairs h in
      let d : s.done ≡ ps = sym (s.all ∙ ap (λ l. s.done ++ l) none ∙ append-nil s.done) in
      let w = s.was in
      let m = length-append (pairs_spelled s.done) (101 ∷ []) in
      let k : at + 1 ≡ length (dict_text s.done) = omega (arith, w, m) in (
        k ∙ ap (λ l. length (dict_text l)) d,
        s.at_is ∙ ap (λ l. length (100 ∷ pairs_spelled (ordered_pairs l))) d,
        s.text_is ∙ (λ i. (100 ∷ pairs_spelled (ordered_pairs (d i))) ++ pairs_tail (none i) rest),
        s.sizes_are ∙ ap (λ l. map value_size (ordered_pairs l)) d,
      )

  -- the next pair, whose key stands there
  pub next_pair : at < length text → HasByte text at 101 false
      → (p : Pair Value) × (qs : List (Pair Value)) × (s.left ≡ p ∷ qs) × (drop at text ≡ string_text p.key ++ (text_of p.value ++ pairs_tail qs rest)) × Fits 0 p.value
  next_pair h n = by_cases s.left refl s.fits
    where
      by_cases : (left : List (Pair Value)) → s.left ≡ left → AllByRecursion (Fits 0) (values_of left)
          → (p : Pair Value) × (qs : List (Pair Value)) × (s.left ≡ p ∷ qs) × (drop at text ≡ string_text p.key ++ (text_of p.value ++ pairs_tail qs rest)) × Fits 0 p.value
      by_cases [] e f = absurd (n h (byte_there 0 ∙ ap (λ l. get_or l 0 0) (left_there [] e)))
      by_cases (p ∷ qs) e f = (p, qs, e, first_there p qs e, f.0)

  module _ (p : Pair Value) (qs : List (Pair Value)) (e : s.left ≡ p ∷ qs) (behind : ℕ) (b : behind ≡ at + length (string_text p.key)) where
    abbrev key_ahead : List ℕ
    key_ahead = before ++ string_text p.key

    key_text : text ≡ key_ahead ++ (text_of p.value ++ pairs_tail qs rest)
    key_text =
        s.text_is ∙ ap (λ l. before ++ pairs_tail l rest) e
        ∙ ap (λ l. before ++ l) (apart (string_text p.key) (text_of p.value) (pairs_spelled qs) (101 ∷ []) rest)
        ∙ sym (append_assoc before (string_text p.key) (text_of p.value ++ pairs_tail qs rest))

    key_long : behind ≡ length key_ahead
    key_long = let a = s.at_is in let l = length-append before (string_text p.key) in omega (arith, a, b, l)

    pub value_there : drop behind text ≡ text_of p.value ++ pairs_tail qs rest
    value_there = (λ i. drop (key_long i) (key_text i)) ∙ drop-append_seam key_ahead (text_of p.value ++ pairs_tail qs rest)

    pub pairs_more : (size : ℕ) (part new : List ℕ) → length part ≡ length (drop behind text) → size ≡ length (text_of p.value)
        → part ≡ text_of (in_order p.value) ++ pairs_tail qs rest → new ≡ take behind text ++ part
        → FormedSoFar new (behind + size) (sizes ++ size ∷ []) ps rest
    pairs_more size part new l n t q =
        let tail : List ℕ = pairs_tail qs rest in
        let key : List ℕ = string_text p.key in
        let ahead : take behind text ≡ key_ahead = (λ i. take (key_long i) (key_text i)) ∙ take-append_seam key_ahead (text_of p.value ++ tail) in
        let k = ap length value_there in
        let k2 = length-append (text_of p.value) tail in
        let j = ap length t in
        let j2 = length-append (text_of (in_order p.value)) tail in
        let same : length (text_of (in_order p.value)) ≡ length (text_of p.value) = omega (arith, k, k2, j, j2, l) in
        let w = s.was in
        let w1 = length-append key (text_of p.value) in
        let w2 = length-append (pairs_spelled s.done) (key ++ text_of p.value) in
        let was : behind + size ≡ suc (length (pairs_spelled s.done ++ (key ++ text_of p.value))) = omega (arith, b, w, w1, w2, n) in
        let a = s.at_is in
        let a1 = length-append key (text_of (in_order p.value)) in
        let a2 = length-append (pairs_spelled (ordered_pairs s.done)) (key ++ text_of (in_order p.value)) in
        let at_is : behind + size ≡ suc (length (pairs_spelled (ordered_pairs s.done) ++ (key ++ text_of (in_order p.value)))) = omega (arith, b, a, a1, a2, n, same) in
        let left_fit : AllByRecursion (Fits 0) (values_of (p ∷ qs)) = subst (λ x. AllByRecursion (Fits 0) (values_of x)) e s.fits in
        let size_now : size ≡ length (text_of (in_order p.value)) = n ∙ sym same in
        record {
          done = s.done ++ p ∷ [];
          left = qs;
          all = s.all ∙ ap (λ x. s.done ++ x) e ∙ sym (append_assoc s.done (p ∷ []) qs);
          was = was ∙ ap (λ x. suc (length x)) (sym (pairs_push s.done p.key p.value));
          at_is = at_is ∙ ap (λ x. suc (length x)) (sym (ordered_push s.done p));
          text_is = q ∙ (λ i. ahead i ++ t i) ∙ together before key (text_of (in_order p.value)) tail ∙ ap (λ x. (100 ∷ x) ++ tail) (sym (ordered_push s.done p));
          sizes_are = (λ i. s.sizes_are i ++ size_now i ∷ [])
              ∙ sym (ap (map value_size) (map-append (λ (r : Pair Value). let o : Pair Value = record { key = r.key; value = in_order r.value } in o) s.done (p ∷ [])) ∙ map-append value_size (ordered_pairs s.done) (record { key = p.key; value = in_order p.value } ∷ []));
          fits = left_fit.1;
        }

-- a dictionary, its values in order, whose pairs were put in order
pub pairs_ordered : (text part rest sizes : List ℕ) (ps : List (Pair Value)) (at : ℕ)
    → at ≡ length (100 ∷ pairs_spelled (ordered_pairs ps)) → text ≡ (100 ∷ pairs_spelled (ordered_pairs ps)) ++ (101 ∷ rest) → AreSizes sizes (ordered_pairs ps)
    → AllByRecursion (Fits 0) (values_of ps) → each_once (keys_of ps) ≡ true
    → ((qs : List (Pair Value)) → ArePairs (mid_of 1 (at - 1) text) qs → AreSizes sizes qs → each_once (keys_of qs) ≡ true → part ≡ pairs_spelled (put_all [] qs))
    → put_mid 1 (at - 1) text part ≡ dict_text (put_all [] (ordered_pairs ps)) ++ rest
pairs_ordered text part rest sizes ps at a e z f h put =
    let body : List ℕ = pairs_spelled (ordered_pairs ps) in
    let inner : at - 1 ≡ length body = omega (arith, a) in
    let there : take (at - 1) (drop 1 text) ≡ body = (λ i. take (inner i) (drop 1 (e i))) ∙ take-append_seam body (101 ∷ rest) in
    let behind : drop (at - 1) (drop 1 text) ≡ 101 ∷ rest = (λ i. drop (inner i) (drop 1 (e i))) ∙ drop-append_seam body (101 ∷ rest) in
    let is_part : part ≡ pairs_spelled (put_all [] (ordered_pairs ps)) =
    put (ordered_pairs ps) (record { text = there; fits = ordered_fit ps f }) z (ap each_once (keys_mapped in_order ps) ∙ h) in
    (λ i. take 1 (e i) ++ (is_part i ++ behind i))
    ∙ ap (λ x. 100 ∷ x) (sym (append_assoc (pairs_spelled (put_all [] (ordered_pairs ps))) (101 ∷ []) rest))
