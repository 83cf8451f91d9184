-- The steps of the writer.
use Rattle.std.proofs.Common.{◌≡◌, ℕ, zero, suc, ◌+◌, ◌%◌, ◌^◌, ◌<◌, ◌≤◌, List, [], ◌∷◌, ◌++◌, map, length, take, get_or, ℤ, pos, negsuc, refl, sym, ap, ◌∙◌, arith, decimal, w64}
use Rattle.std.specs.List.{concat}
use Rattle.std.specs.Fmt.{signed_decimal}
use Rattle.std.proofs.lemmas.Fmt.{decimal_by_steps}
use Rattle.std.proofs.lemmas.Int.{to_z-of_z}
use mir.Val.{SFits, of_z, to_z}
use Rattle.std.proofs.lemmas.List.{take_more, take_all}
use Rattle.kad_bencode.specs.Spelling.{numeral, integer_text, string_text, pairs_text, text_of, depth_of, greatest}
use Rattle.kad_bencode.specs.Faults.{pairs_of}
use Rattle.kad_bencode.specs.declared.entries.Pair.{Pair}
use Rattle.kad_bencode.specs.declared.value.Value.{Value}
use Rattle.kad_bencode.specs.declared.value.Value.TheVariants as value
use Rattle.kad_bencode.proofs.Folds.{text_of-list, text_of-dict, depth_of-list, depth_of-dict}
use Rattle.kad_bencode.proofs.Numerals.{numeral_digit, numeral_step}
use Rattle.kad_bencode.proofs.Said.{texts_push, pairs_push}

pub one_digit : (n : ℕ) → n < 10 → (48 + n) ∷ [] ≡ numeral n
one_digit zero h = refl
one_digit (suc n) h = sym (numeral_digit (suc n) (omega arith) h)

pub decimal_numeral : (n : ℕ) → n < 2 ^ 64 → decimal n ≡ numeral n
decimal_numeral = decimal_by_steps (λ n ds. ds ≡ numeral n) one_digit (λ n ds h e. ap (λ l. l ++ (48 + n % 10) ∷ []) e ∙ sym (numeral_step n h))

integer_as : (z w : ℤ) (mid : List ℕ) → w ≡ z → SFits w64 z → mid ≡ signed_decimal w → integer_text z ≡ (105 ∷ mid) ++ 101 ∷ []
integer_as (pos n) w mid e f h =
    let small : n < 2 ^ 63 = f.sfits in
    ap (λ l. 105 ∷ l ++ 101 ∷ []) (sym (decimal_numeral n (omega arith)) ∙ sym (h ∙ ap signed_decimal e))
integer_as (negsuc n) w mid e f h =
    let small : n < 2 ^ 63 = f.sfits in
    ap (λ l. 105 ∷ 45 ∷ l ++ 101 ∷ []) (sym (decimal_numeral (suc n) (omega arith))) ∙ ap (λ l. 105 ∷ l ++ 101 ∷ []) (sym (h ∙ ap signed_decimal e))

pub integer_written : (z : ℤ) (mid : List ℕ) → SFits w64 z → mid ≡ signed_decimal (to_z w64 (of_z w64 z)) → integer_text z ≡ (105 ∷ mid) ++ 101 ∷ []
integer_written z mid f h = integer_as z (to_z w64 (of_z w64 z)) mid (to_z-of_z w64 z f) f h

-- ---- children

greatest_at : (vs : List Value) (i : ℕ) (d : Value) → i < length vs → depth_of (get_or vs i d) ≤ greatest (map depth_of vs)
greatest_at [] i d h = absurd (omega arith)
greatest_at (v ∷ vs) zero d h = omega arith
greatest_at (v ∷ vs) (suc i) d h = let k : depth_of (get_or vs i d) ≤ greatest (map depth_of vs) = greatest_at vs i d (omega arith) in omega arith

greatest_pair : (ps : List (Pair Value)) (i : ℕ) (d : Pair Value) → i < length ps → depth_of (get_or ps i d).value ≤ greatest (map (λ p. depth_of p.value) ps)
greatest_pair [] i d h = absurd (omega arith)
greatest_pair (p ∷ ps) zero d h = omega arith
greatest_pair (p ∷ ps) (suc i) d h = let k : depth_of (get_or ps i d).value ≤ greatest (map (λ p. depth_of p.value) ps) = greatest_pair ps i d (omega arith) in omega arith

pub item_depth : (v : Value) (vs xs : List Value) (i : ℕ) (q : Value) → v ≡ value.List vs → xs ≡ vs → i < length xs → q ≡ get_or xs i q → depth_of q < depth_of v
item_depth v vs xs i q e x k is =
    let g : depth_of (get_or xs i q) ≤ greatest (map depth_of xs) = greatest_at xs i q k in
    let f : depth_of v ≡ suc (greatest (map depth_of xs)) = ap depth_of e ∙ ap (λ l. depth_of (value.List l)) (sym x) ∙ depth_of-list xs in
    let h : depth_of q ≡ depth_of (get_or xs i q) = ap depth_of is in omega arith

pub pair_depth : (v : Value) (ps xs : List (Pair Value)) (i : ℕ) (q : Pair Value) → v ≡ value.Dict ps → xs ≡ ps → i < length xs → q ≡ get_or xs i q → depth_of q.value < depth_of v
pair_depth v ps xs i q e x k is =
    let g : depth_of (get_or xs i q).value ≤ greatest (map (λ p. depth_of p.value) xs) = greatest_pair xs i q k in
    let f : depth_of v ≡ suc (greatest (map (λ p. depth_of p.value) xs)) = ap depth_of e ∙ ap (λ l. depth_of (value.Dict l)) (sym x) ∙ depth_of-dict xs in
    let h : depth_of q.value ≡ depth_of (get_or xs i q).value = ap (λ (p : Pair Value). depth_of p.value) is in omega arith

pub texts_more : (vs : List Value) (i : ℕ) (v : Value) → i < length vs → v ≡ get_or vs i v → concat (map text_of (take (i + 1) vs)) ≡ concat (map text_of (take i vs)) ++ text_of v
texts_more vs i v h e = ap (λ l. concat (map text_of l)) (take_more vs i v h ∙ ap (λ x. take i vs ++ x ∷ []) (sym e)) ∙ texts_push (take i vs) v

pub pairs_text_more : (ps : List (Pair Value)) (i : ℕ) (p : Pair Value) → i < length ps → p ≡ get_or ps i p → pairs_text (pairs_of (take (i + 1) ps)) ≡ pairs_text (pairs_of (take i ps)) ++ (string_text p.key ++ text_of p.value)
pairs_text_more ps i p h e = ap (λ l. pairs_text (pairs_of l)) (take_more ps i p h ∙ ap (λ x. take i ps ++ x ∷ []) (sym e)) ∙ pairs_push (take i ps) p.key p.value

-- ---- the whole

pub list_text : (v : Value) (vs xs : List Value) (i : ℕ) → v ≡ value.List vs → xs ≡ vs → length xs ≤ i
    → text_of v ≡ (108 ∷ concat (map text_of (take i xs))) ++ 101 ∷ []
list_text v vs xs i e x h = ap text_of e ∙ text_of-list vs ∙ ap (λ l. 108 ∷ concat (map text_of l) ++ 101 ∷ []) (sym (take_all i xs h ∙ x))

pub dictionary_text : (v : Value) (ps xs : List (Pair Value)) (i : ℕ) → v ≡ value.Dict ps → xs ≡ ps → length xs ≤ i
    → text_of v ≡ (100 ∷ pairs_text (pairs_of (take i xs))) ++ 101 ∷ []
dictionary_text v ps xs i e x h = ap text_of e ∙ text_of-dict ps ∙ ap (λ l. 100 ∷ pairs_text (pairs_of l) ++ 101 ∷ []) (sym (take_all i xs h ∙ x))
