-- The pairs below a key, the others, and the pair that goes between them.
use Rattle.std.proofs.Common.{◌≡◌, ◌≢◌, ℕ, ◌-◌, ◌<◌, ◌≤◌, cond, List, [], ◌∷◌, ◌++◌, length, take, drop, Some, None, refl, sym, ap, ◌∙◌, arith, append_assoc, length-append}
use Rattle.std.specs.List.{AllByRecursion}
use Rattle.std.specs.Ordering.{is_eq, match_ordering}
use Rattle.std.specs.declared.cmp.Ordering.TheVariants.{Less, Equal, Greater}
use Rattle.std.proofs.Math.Seq.{take-append_seam, drop-append_seam}
use Rattle.kad_bencode.specs.Keys.{key_cmp, put, value_of}
use Rattle.kad_bencode.specs.Spelling.{string_text, pairs_text, text_of, Fits, values_of}
use Rattle.kad_bencode.specs.Faults.{pairs_of}
use Rattle.kad_bencode.specs.Finding.{ArePairs}
use Rattle.kad_bencode.specs.Placing.{BeginsAbove, IsParted}
use Rattle.kad_bencode.specs.declared.entries.Pair.{Pair}
use Rattle.kad_bencode.specs.declared.value.Value.{Value}
use Rattle.kad_bencode.specs.declared.value.Value.TheVariants.{Dict}
use Rattle.kad_bencode.proofs.Putting.{pairs_behind}
use Rattle.kad_bencode.proofs.Folds.{text_of-dict}
use Rattle.kad_bencode.proofs.Limits.{all_push, dict_fits}
use Rattle.kad_bencode.proofs.Looking.{all_less}
use Rattle.kad_bencode.proofs.Paired.{none_left}
use Rattle.kad_bencode.proofs.Places.{put_front}

-- ---- the search

-- the pairs that were passed over, which are below the key, and those that are left
pub record PartedSoFar (key rest : List ℕ) (pairs : List (Pair Value)) : Type 0 where
  pub below : List (Pair Value)
  pub others : List (Pair Value)
  pub all : pairs ≡ below ++ others
  pub are_below : AllByRecursion (λ p. key_cmp key p.key ≡ Greater) below
  pub texts : ArePairs rest others

pub none_parted : (key rest : List ℕ) (pairs : List (Pair Value)) → ArePairs rest pairs → PartedSoFar key rest pairs
none_parted key rest pairs a = record { below = []; others = pairs; all = refl; are_below = tt; texts = a }

module _ (key rest name text behind : List ℕ) (long : 0 < length rest)
    (reads : (p : Pair Value) (ps : List (Pair Value)) → ArePairs rest (p ∷ ps) → (name ≡ p.key) × (text ≡ text_of p.value) × ArePairs behind ps) where
  passed : (pairs below others : List (Pair Value)) → pairs ≡ below ++ others → AllByRecursion (λ p. key_cmp key p.key ≡ Greater) below
      → ArePairs rest others → key_cmp key name ≡ Greater → PartedSoFar key behind pairs
  passed pairs below [] e b a g = absurd (let l = ap length a.text in omega (arith, long, l))
  passed pairs below (q ∷ qs) e b a g =
      let r = reads q qs a in
      record {
        below = below ++ q ∷ [];
        others = qs;
        all = e ∙ sym (append_assoc below (q ∷ []) qs);
        are_below = all_push (λ p. key_cmp key p.key ≡ Greater) below q b (ap (key_cmp key) (sym r.0) ∙ g);
        texts = r.2;
      }

  pub passed_on : (pairs : List (Pair Value)) → PartedSoFar key rest pairs → key_cmp key name ≡ Greater → PartedSoFar key behind pairs
  passed_on pairs s g = passed pairs s.below s.others s.all s.are_below s.texts g

  begins : (others : List (Pair Value)) → ArePairs rest others → key_cmp key name ≢ Greater → BeginsAbove key others
  begins [] a n = tt
  begins (q ∷ qs) a n = let r = reads q qs a in λ e. n (ap (key_cmp key) r.0 ∙ e)

  pub parted_here : (pairs : List (Pair Value)) → PartedSoFar key rest pairs → key_cmp key name ≢ Greater → IsParted pairs key (length rest)
  parted_here pairs s n = record {
    below = s.below;
    others = s.others;
    all = s.all;
    are_below = s.are_below;
    above = begins s.others s.texts n;
    size_is = ap length s.texts.text;
  }

pub parted_last : (key rest : List ℕ) (pairs : List (Pair Value)) → PartedSoFar key rest pairs → length rest ≤ 0 → IsParted pairs key 0
parted_last key rest pairs s h =
    let e : s.others ≡ [] = none_left rest h s.others s.texts in
    record {
      below = s.below;
      others = [];
      all = s.all ∙ ap (λ l. s.below ++ l) e;
      are_below = s.are_below;
      above = tt;
      size_is = refl;
    }

-- ---- the text with the pair

pub value_front : (below others : List (Pair Value)) (key : List ℕ) → AllByRecursion (λ p. key_cmp key p.key ≡ Greater) below → value_of (below ++ others) key ≡ value_of others key
value_front [] others key h = refl
value_front (p ∷ ps) others key h = ap (λ o. cond (is_eq o) (Some p.value) (value_of (ps ++ others) key)) h.0 ∙ value_front ps others key h.1

put_above : (others : List (Pair Value)) (key : List ℕ) (v : Value) → BeginsAbove key others → value_of others key ≡ None → put others key v ≡ record { key = key; value = v } ∷ others
put_above [] key v n h = refl
put_above (q ∷ qs) key v n h =
    elim (key_cmp key q.key) as (λ o. (o ≡ Greater → ⊥) → cond (is_eq o) (Some q.value) (value_of qs key) ≡ None
    → match_ordering o (record { key = key; value = v } ∷ q ∷ qs) (record { key = key; value = v } ∷ qs) (q ∷ put qs key v) ≡ record { key = key; value = v } ∷ q ∷ qs) [
      | Less ↦ λ m e. refl
      | Equal ↦ λ m e. absurd (let f : Some q.value ≡ None = e in cc)
      | Greater ↦ λ m e. absurd (m refl)
    ] n h

module _ (bytes key : List ℕ) (pairs : List (Pair Value)) (text_is : bytes ≡ text_of (Dict pairs)) where
  -- the texts of the pairs stand between the first byte and the last one
  pub inner_pairs : (n : ℕ) → n ≡ length bytes - 2 → Fits 0 (Dict pairs) → ArePairs (take n (drop 1 bytes)) pairs
  inner_pairs n e f =
      let text : List ℕ = pairs_text (pairs_of pairs) in
      let whole : bytes ≡ 100 ∷ text ++ 101 ∷ [] = text_is ∙ text_of-dict pairs in
      let l = ap length whole in
      let m = length-append text (101 ∷ []) in
      let k : n ≡ length text = omega (arith, e, l, m) in
      record {
        text = ap (λ x. take n (drop 1 x)) whole ∙ ap (λ i. take i (text ++ 101 ∷ [])) k ∙ take-append_seam text (101 ∷ []);
        fits = all_less (values_of pairs) (dict_fits [] pairs f).1;
      }

  pub inner_long : 2 ≤ length bytes
  inner_long =
      let l = ap length (text_is ∙ text_of-dict pairs) in
      let m = length-append (pairs_text (pairs_of pairs)) (101 ∷ []) in
      omega (arith, l, m)

  module _ (size : ℕ) (parted : IsParted pairs key size) where
    abbrev front : List ℕ
    front = 100 ∷ pairs_text (pairs_of parted.below)

    abbrev back : List ℕ
    back = pairs_text (pairs_of parted.others) ++ 101 ∷ []

    pub halves : bytes ≡ front ++ back
    halves =
        text_is ∙ text_of-dict pairs
        ∙ ap (λ l. 100 ∷ pairs_text (pairs_of l) ++ 101 ∷ []) parted.all
        ∙ ap (λ l. 100 ∷ l ++ 101 ∷ []) (pairs_behind parted.below parted.others)
        ∙ append_assoc front (pairs_text (pairs_of parted.others)) (101 ∷ [])

    pub seam : (at : ℕ) → at ≡ length bytes - 1 - size → at ≡ length front
    seam at e =
        let l = ap length halves in
        let m = length-append front back in
        let n = length-append (pairs_text (pairs_of parted.others)) (101 ∷ []) in
        let s = parted.size_is in
        omega (arith, e, l, m, n, s)

    between : (value : Value) → value_of pairs key ≡ None → put pairs key value ≡ parted.below ++ record { key = key; value = value } ∷ parted.others
    between value h =
        ap (λ l. put l key value) parted.all
        ∙ put_front Value parted.below parted.others key value parted.are_below
        ∙ ap (λ l. parted.below ++ l) (put_above parted.others key value parted.above (sym (value_front parted.below parted.others key parted.are_below) ∙ ap (λ l. value_of l key) (sym parted.all) ∙ h))

    joined : (value : Value) → value_of pairs key ≡ None → text_of (Dict (put pairs key value)) ≡ front ++ ((string_text key ++ text_of value) ++ back)
    joined value h =
        let pair : List ℕ = string_text key ++ text_of value in
        let others : List ℕ = pairs_text (pairs_of parted.others) in
        text_of-dict (put pairs key value)
        ∙ ap (λ l. 100 ∷ pairs_text (pairs_of l) ++ 101 ∷ []) (between value h)
        ∙ ap (λ l. 100 ∷ l ++ 101 ∷ []) (pairs_behind parted.below (record { key = key; value = value } ∷ parted.others))
        ∙ append_assoc front (pair ++ others) (101 ∷ [])
        ∙ ap (λ l. front ++ l) (append_assoc pair others (101 ∷ []))

    pub placed : (at : ℕ) → at ≡ length bytes - 1 - size → value_of pairs key ≡ None → (value : Value)
        → text_of (Dict (put pairs key value)) ≡ take at bytes ++ ((string_text key ++ text_of value) ++ drop at bytes)
    placed at e h value =
        let s = seam at e in
        let t : take at bytes ≡ front = ap (λ n. take n bytes) s ∙ ap (take (length front)) halves ∙ take-append_seam front back in
        let d : drop at bytes ≡ back = ap (λ n. drop n bytes) s ∙ ap (drop (length front)) halves ∙ drop-append_seam front back in
        joined value h ∙ (λ i. sym t i ++ ((string_text key ++ text_of value) ++ sym d i))
