-- The written form of a dictionary without one of its pairs.
use Rattle.std.proofs.Common.{◌≡◌, ℕ, ◌-◌, cond, List, [], ◌∷◌, ◌++◌, length, take, drop, Some, None, refl, sym, ap, ◌∙◌, subst, arith, append_assoc, length-append}
use Rattle.std.specs.List.{AllByRecursion}
use Rattle.std.specs.List.Sorted.{IsStrictlySortedBy}
use Rattle.std.specs.Ordering.{is_eq}
use Rattle.std.specs.declared.cmp.Ordering.TheVariants.{Less, Equal, Greater}
use Rattle.std.proofs.Math.Seq.{take-append_seam, drop-append_seam}
use Rattle.kad_bencode.specs.Keys.{key_cmp, keys_of, IsAscending, value_of, without}
use Rattle.kad_bencode.specs.Spelling.{string_text, pairs_text, text_of, Fits, values_of}
use Rattle.kad_bencode.specs.Faults.{pairs_of}
use Rattle.kad_bencode.specs.Finding.{ArePairs}
use Rattle.kad_bencode.specs.Placing.{BeginsAbove, IsParted}
use Rattle.kad_bencode.specs.declared.entries.Pair.{Pair}
use Rattle.kad_bencode.specs.declared.value.Value.{Value}
use Rattle.kad_bencode.specs.declared.value.Value.TheVariants.{Dict}
use Rattle.kad_bencode.proofs.Folds.{text_of-dict}
use Rattle.kad_bencode.proofs.Limits.{dict_fits}
use Rattle.kad_bencode.proofs.Looking.{all_less}
use Rattle.kad_bencode.proofs.Parting.{halves, seam, value_front}
use Rattle.kad_bencode.proofs.Putting.{pairs_behind}
use Rattle.kad_bencode.proofs.Places.{all_above, without_front}
use Rattle.kad_bencode.proofs.Sorting.{none_there}

ascending_behind : (below others : List (Pair Value)) → IsAscending (below ++ others) → IsAscending others
unfolding IsStrictlySortedBy
ascending_behind [] others a = a
ascending_behind (p ∷ ps) others a = ascending_behind ps others a.1

-- the first of the pairs that aren't below the key has it
its_pair : (key : List ℕ) (v : Value) (others : List (Pair Value)) → IsAscending others → BeginsAbove key others → value_of others key ≡ Some v
    → (p : Pair Value) × (rest : List (Pair Value)) × (others ≡ p ∷ rest) × (key_cmp key p.key ≡ Equal)
unfolding IsStrictlySortedBy
its_pair key v [] a b e = absurd (let f : None ≡ Some v = e in cc)
its_pair key v (p ∷ ps) a b e = (
  p,
  ps,
  refl,
  elim (key_cmp key p.key) as (λ o. key_cmp key p.key ≡ o → o ≡ Equal) [
    | Less ↦ λ l. absurd (let f : None ≡ Some v = sym (none_there key (p ∷ ps) (l, all_above Value key p.key (keys_of ps) l a.0)) ∙ e in cc)
    | Equal ↦ λ l. refl
    | Greater ↦ λ l. absurd (b l)
  ] refl,
)

fit_behind : (below others : List (Pair Value)) → AllByRecursion (Fits 0) (values_of (below ++ others)) → AllByRecursion (Fits 0) (values_of others)
fit_behind [] others a = a
fit_behind (p ∷ ps) others a = fit_behind ps others a.1

module _ (bytes key : List ℕ) (ps : List (Pair Value)) (v : Value) (text_is : bytes ≡ text_of (Dict ps)) (fits : Fits 0 (Dict ps)) (ascends : IsAscending ps) (has : value_of ps key ≡ Some v)
    (size : ℕ) (parted : IsParted ps key size) where
  pub found : (p : Pair Value) × (rest : List (Pair Value)) × (parted.others ≡ p ∷ rest) × (key_cmp key p.key ≡ Equal)
  found = its_pair key v parted.others (ascending_behind parted.below parted.others (subst IsAscending parted.all ascends)) parted.above
      (sym (value_front parted.below parted.others key parted.are_below) ∙ ap (λ l. value_of l key) (sym parted.all) ∙ has)

  left : without ps key ≡ parted.below ++ found.1
  left = ap (λ l. without l key) (parted.all ∙ ap (λ l. parted.below ++ l) found.2) ∙ without_front Value parted.below (found.0 ∷ found.1) key parted.are_below
      ∙ ap (λ o. parted.below ++ cond (is_eq o) found.1 (found.0 ∷ without found.1 key)) found.3

  abbrev before : List ℕ
  before = 100 ∷ pairs_text (pairs_of parted.below)

  behind : (from : ℕ) → from ≡ length bytes - 1 - size → drop from bytes ≡ pairs_text (pairs_of parted.others) ++ 101 ∷ []
  behind from e =
      ap (λ n. drop n bytes) (seam bytes key ps text_is size parted from e) ∙ ap (drop (length before)) (halves bytes key ps text_is size parted)
      ∙ drop-append_seam before (pairs_text (pairs_of parted.others) ++ 101 ∷ [])

  pub size_fits : length bytes - 1 - (length bytes - 1 - size) ≡ size
  size_fits =
      let text : List ℕ = pairs_text (pairs_of parted.others) in
      let l = ap length (halves bytes key ps text_is size parted) in
      let l2 = length-append before (text ++ 101 ∷ []) in
      let l3 = length-append text (101 ∷ []) in
      let k = parted.size_is in
      omega (arith, l, l2, l3, k)

  pub pairs_there : (from n : ℕ) → from ≡ length bytes - 1 - size → n ≡ size → ArePairs (take n (drop from bytes)) (found.0 ∷ found.1)
  pairs_there from n e k =
      let text : List ℕ = pairs_text (pairs_of parted.others) in
      let long : n ≡ length text = k ∙ parted.size_is in
      record {
        text = ap (λ x. take n x) (behind from e) ∙ ap (λ m. take m (text ++ 101 ∷ [])) long ∙ take-append_seam text (101 ∷ []) ∙ ap (λ l. pairs_text (pairs_of l)) found.2;
        fits = subst (λ l. AllByRecursion (Fits 0) (values_of l)) found.2 (fit_behind parted.below parted.others (subst (λ l. AllByRecursion (Fits 0) (values_of l)) parted.all (all_less (values_of ps) (dict_fits [] ps fits).1)));
      }

  pub cut_out : (from to : ℕ) (others : List ℕ) → from ≡ length bytes - 1 - size → ArePairs others found.1 → to ≡ length bytes - 1 - length others
      → text_of (Dict (without ps key)) ≡ take from bytes ++ drop to bytes
  cut_out from to others e a f =
      let rest : List ℕ = pairs_text (pairs_of found.1) in
      let pair : List ℕ = string_text found.0.key ++ text_of found.0.value in
      let text : List ℕ = pairs_text (pairs_of parted.others) in
      let split : text ≡ pair ++ rest = ap (λ l. pairs_text (pairs_of l)) found.2 in
      let whole : bytes ≡ (before ++ pair) ++ (rest ++ 101 ∷ []) =
      halves bytes key ps text_is size parted ∙ ap (λ l. before ++ (l ++ 101 ∷ [])) split ∙ ap (λ l. before ++ l) (append_assoc pair rest (101 ∷ [])) ∙ sym (append_assoc before pair (rest ++ 101 ∷ [])) in
      let l = ap length whole in
      let l2 = length-append (before ++ pair) (rest ++ 101 ∷ []) in
      let l3 = length-append rest (101 ∷ []) in
      let l4 = ap length a.text in
      let at : to ≡ length (before ++ pair) = omega (arith, f, l, l2, l3, l4) in
      let there : drop to bytes ≡ rest ++ 101 ∷ [] = ap (λ n. drop n bytes) at ∙ ap (drop (length (before ++ pair))) whole ∙ drop-append_seam (before ++ pair) (rest ++ 101 ∷ []) in
      let front : take from bytes ≡ before =
      ap (λ n. take n bytes) (seam bytes key ps text_is size parted from e) ∙ ap (take (length before)) (halves bytes key ps text_is size parted) ∙ take-append_seam before (text ++ 101 ∷ []) in
      text_of-dict (without ps key) ∙ ap (λ l. 100 ∷ pairs_text (pairs_of l) ++ 101 ∷ []) left ∙ ap (λ l. 100 ∷ l ++ 101 ∷ []) (pairs_behind parted.below found.1)
      ∙ append_assoc before rest (101 ∷ []) ∙ (λ i. sym front i ++ sym there i)
