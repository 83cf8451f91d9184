-- Pairs that were sorted by their keys are those that are put in one after another.
use Rattle.std.proofs.Common.{◌≡◌, ℕ, ◌+◌, ◌<◌, Bool, true, false, cond, not, List, [], ◌∷◌, map, length, get_or, Option, Some, None, Ordering, refl, sym, ap, ◌∙◌, subst, arith}
use Rattle.std.specs.List.{AllByRecursion, IsDistinct, flat_map}
use Rattle.std.specs.List.Sorted.{IsPermutation, IsSortedBy, IsStrictlySortedBy}
use Rattle.std.specs.Ordering.{eq_by_cmp, is_eq, is_lt, ordering_reverse}
use Rattle.std.specs.declared.cmp.Ordering.TheVariants.{Less, Equal, Greater}
use Rattle.std.proofs.lemmas.Cmp.{eq_by_cmp_equiv, nat_list_cmp_total}
use Rattle.std.proofs.lemmas.List.{get_or-map, length-map}
use Rattle.std.proofs.lemmas.List.Concat.{length-flat_map}
use Rattle.std.proofs.lemmas.List.Elements.{All-from_recursion, recursion_from_All}
use Rattle.std.proofs.lemmas.List.Sorted.{All-permutation, IsPermutation-map, IsPermutation-sym, sum_by-IsPermutation}
use Rattle.std.proofs.lemmas.Map.Keys.{IsDistinct-IsPermutation, apart_from_distinct, sorted_from_all_adjacent}
use Rattle.std.proofs.lemmas.Map.Lookups.{exact_bytes}
use Rattle.kad_bencode.specs.Keys.{key_cmp, keys_of, IsAscending, value_of}
use Rattle.kad_bencode.specs.Spelling.{each_once, has_key, put_all}
use Rattle.kad_bencode.specs.declared.entries.Pair.{Pair}
use Rattle.kad_bencode.proofs.Limits.{and_left, and_right, not_true, or_left, or_right}
use Rattle.kad_bencode.proofs.Looking.{equal_keys, no_value, same_key, value_filed}
use Rattle.kad_bencode.proofs.Ordered.{ascending_put_all, none_ascending, none_below, once_ascending}
use Rattle.kad_bencode.proofs.Places.{all_above, turned_back}

pub none_some : {A : Type 0} {x : A} → ◌≡◌ {A = Option A} None (Some x) → ⊥
none_some e = cc

alike : {A : Type 0} (a b : Option A) → ((v : A) → a ≡ Some v → b ≡ Some v) → ((v : A) → b ≡ Some v → a ≡ Some v) → a ≡ b
alike None None f g = refl
alike None (Some w) f g = g w refl
alike (Some v) b f g = sym (f v refl)

-- ---- keys that differ

either_way : (a b : List ℕ) → eq_by_cmp key_cmp a b ≡ eq_by_cmp key_cmp b a
either_way a b = (eq_by_cmp_equiv nat_list_cmp_total).symm a b

apart : (ks : List (List ℕ)) (k : List ℕ) → has_key ks k ≡ false → AllByRecursion (λ j. eq_by_cmp key_cmp k j ≡ false) ks
apart [] k h = tt
apart (j ∷ ks) k h = (or_left (is_eq (key_cmp k j)) (has_key ks k) h, apart ks k (or_right (is_eq (key_cmp k j)) (has_key ks k) h))

distinct : (ks : List (List ℕ)) → each_once ks ≡ true → IsDistinct (eq_by_cmp key_cmp) ks
unfolding IsDistinct
distinct [] h = tt
distinct (k ∷ ks) h = (apart ks k (not_true (has_key ks k) (and_left (not (has_key ks k)) (each_once ks) h)), distinct ks (and_right (not (has_key ks k)) (each_once ks) h))

lower : (a b : List ℕ) → is_lt (key_cmp b a) ≡ false → is_eq (key_cmp a b) ≡ false → key_cmp a b ≡ Less
lower a b h n = by_order (key_cmp a b) (sym (ap is_lt (nat_list_cmp_total.antisymm b a)) ∙ h) n
  where
    by_order : (o : Ordering) → is_lt (ordering_reverse o) ≡ false → is_eq o ≡ false → o ≡ Less
    by_order Less h n = refl
    by_order Equal h n = absurd (let f : true ≡ false = n in cc)
    by_order Greater h n = absurd (let f : true ≡ false = h in cc)

module _ {V : Type 0} where
  -- ---- a pair is found by its key

  here : (p : Pair V) (ps : List (Pair V)) → value_of (p ∷ ps) p.key ≡ Some p.value
  here p ps = ap (λ b. cond b (Some p.value) (value_of ps p.key)) (same_key p.key)

  behind_another : (p : Pair V) (all ps : List (Pair V)) → has_key (keys_of ps) p.key ≡ false
      → AllByRecursion (λ q. value_of all q.key ≡ Some q.value) ps → AllByRecursion (λ q. value_of (p ∷ all) q.key ≡ Some q.value) ps
  behind_another p all [] n a = tt
  behind_another p all (q ∷ qs) n a = (
    ap (λ b. cond b (Some p.value) (value_of all q.key)) (either_way q.key p.key ∙ or_left (is_eq (key_cmp p.key q.key)) (has_key (keys_of qs) p.key) n) ∙ a.0,
    behind_another p all qs (or_right (is_eq (key_cmp p.key q.key)) (has_key (keys_of qs) p.key) n) a.1,
  )

  found : (ps : List (Pair V)) → each_once (keys_of ps) ≡ true → AllByRecursion (λ q. value_of ps q.key ≡ Some q.value) ps
  found [] h = tt
  found (p ∷ ps) h = (
    here p ps,
    behind_another p ps ps (not_true (has_key (keys_of ps) p.key) (and_left (not (has_key (keys_of ps) p.key)) (each_once (keys_of ps)) h)) (found ps (and_right (not (has_key (keys_of ps) p.key)) (each_once (keys_of ps)) h)),
  )

  picked : (all ps : List (Pair V)) (key : List ℕ) (v : V) → AllByRecursion (λ q. value_of all q.key ≡ Some q.value) ps → value_of ps key ≡ Some v → value_of all key ≡ Some v
  picked all [] key v a e = absurd (none_some e)
  picked all (p ∷ ps) key v a e = by_test (is_eq (key_cmp key p.key)) (equal_keys key p.key) (picked all ps key v a.1) e
    where
      by_test : (b : Bool) → (b ≡ true → key ≡ p.key) → (value_of ps key ≡ Some v → value_of all key ≡ Some v) → cond b (Some p.value) (value_of ps key) ≡ Some v → value_of all key ≡ Some v
      by_test true k rest f = ap (value_of all) (k refl) ∙ a.0 ∙ f
      by_test false k rest f = rest f

  moved : (all xs ys : List (Pair V)) → IsPermutation xs ys → AllByRecursion (λ q. value_of all q.key ≡ Some q.value) xs → AllByRecursion (λ q. value_of all q.key ≡ Some q.value) ys
  moved all xs ys m a =
      recursion_from_All (λ q. value_of all q.key ≡ Some q.value) ys (All-permutation (λ q. value_of all q.key ≡ Some q.value) xs ys m (All-from_recursion (λ q. value_of all q.key ≡ Some q.value) xs a))

  same_values : (xs ys : List (Pair V)) → IsPermutation xs ys → each_once (keys_of xs) ≡ true → each_once (keys_of ys) ≡ true → (key : List ℕ) → value_of ys key ≡ value_of xs key
  same_values xs ys m f g key =
      alike (value_of ys key) (value_of xs key)
      (λ v e. picked xs ys key v (moved xs xs ys m (found xs f)) e)
      (λ v e. picked ys xs key v (moved ys ys xs (IsPermutation-sym xs ys m) (found ys g)) e)

  -- ---- ascending pairs are known by their values

  pub none_there : (key : List ℕ) (ps : List (Pair V)) → AllByRecursion (λ k. key_cmp key k ≡ Less) (keys_of ps) → value_of ps key ≡ None
  none_there key ps a = no_value ps key (none_below key (keys_of ps) a)

  first_key : (p q : Pair V) (ps qs : List (Pair V)) → IsAscending (p ∷ ps) → IsAscending (q ∷ qs)
      → ((key : List ℕ) → value_of (p ∷ ps) key ≡ value_of (q ∷ qs) key) → p.key ≡ q.key
  unfolding IsStrictlySortedBy
  first_key p q ps qs a b h =
      elim (key_cmp p.key q.key) as (λ o. key_cmp p.key q.key ≡ o → p.key ≡ q.key) [
        | Less ↦ λ e. absurd (none_some (sym (none_there p.key (q ∷ qs) (e, all_above V p.key q.key (keys_of qs) e b.0)) ∙ sym (h p.key) ∙ here p ps))
        | Equal ↦ λ e. exact_bytes p.key q.key e
        | Greater ↦ λ e. let l = turned_back p.key q.key e in absurd (none_some (sym (none_there q.key (p ∷ ps) (l, all_above V q.key p.key (keys_of ps) l a.0)) ∙ h q.key ∙ here q qs))
      ] refl

  behind_first : (p q : Pair V) (ps qs : List (Pair V)) (key : List ℕ) → p.key ≡ q.key → value_of ps p.key ≡ None → value_of qs q.key ≡ None
      → value_of (p ∷ ps) key ≡ value_of (q ∷ qs) key → value_of ps key ≡ value_of qs key
  behind_first p q ps qs key k m n h =
      by_test (is_eq (key_cmp key p.key)) (equal_keys key p.key) (h ∙ ap (λ x. cond (is_eq (key_cmp key x)) (Some q.value) (value_of qs key)) (sym k))
    where
      by_test : (b : Bool) → (b ≡ true → key ≡ p.key) → cond b (Some p.value) (value_of ps key) ≡ cond b (Some q.value) (value_of qs key) → value_of ps key ≡ value_of qs key
      by_test true e f = ap (value_of ps) (e refl) ∙ m ∙ sym (ap (value_of qs) (e refl ∙ k) ∙ n)
      by_test false e f = f

  same_pairs : (xs ys : List (Pair V)) → IsAscending xs → IsAscending ys → ((key : List ℕ) → value_of xs key ≡ value_of ys key) → xs ≡ ys
  unfolding IsStrictlySortedBy
  same_pairs [] [] a b h = refl
  same_pairs [] (q ∷ qs) a b h = absurd (none_some (h q.key ∙ here q qs))
  same_pairs (p ∷ ps) [] a b h = absurd (none_some (sym (h p.key) ∙ here p ps))
  same_pairs (p ∷ ps) (q ∷ qs) a b h =
      let k : p.key ≡ q.key = first_key p q ps qs a b h in
      let v : Some p.value ≡ Some q.value = sym (here p ps) ∙ h p.key ∙ ap (value_of (q ∷ qs)) k ∙ here q qs in
      let w : p.value ≡ q.value = cc in
      let rest : ps ≡ qs = same_pairs ps qs a.1 b.1 (λ key. behind_first p q ps qs key k (none_there p.key ps a.0) (none_there q.key qs b.0) (h key)) in
      (λ i. record { key = k i; value = w i } ∷ rest i)

  -- ---- what a sort gives

  module _ {X : Type 0} (f : X → Pair V) where
    sorted_ascends : (xs : List X) → IsDistinct (eq_by_cmp key_cmp) (keys_of (map f xs)) → IsSortedBy (λ a b. is_lt (key_cmp (f a).key (f b).key)) xs → IsAscending (map f xs)
    sorted_ascends [] n s = none_ascending V
    sorted_ascends (x ∷ xs) n s =
        sorted_from_all_adjacent nat_list_cmp_total (keys_of (map f (x ∷ xs))) [] (λ k h.
        let short : k + 1 < length (x ∷ xs) = let m = length-map (x ∷ xs) f in let m2 = length-map (map f (x ∷ xs)) (λ (p : Pair V). p.key) in omega (arith, h, m, m2) in
        let at : (j : ℕ) → j < length (x ∷ xs) → get_or (keys_of (map f (x ∷ xs))) j [] ≡ (f (get_or (x ∷ xs) j x)).key = (λ j l. key_at j l) in
        let low = at k (omega (arith, short)) in
        let high = at (k + 1) short in
        lower (get_or (keys_of (map f (x ∷ xs))) k []) (get_or (keys_of (map f (x ∷ xs))) (k + 1) [])
        ((λ i. is_lt (key_cmp (high i) (low i))) ∙ s k x (omega arith) short)
        (apart_from_distinct (eq_by_cmp key_cmp) (keys_of (map f (x ∷ xs))) k (k + 1) [] n (omega arith) h))
      where
        key_at : (j : ℕ) → j < length (x ∷ xs) → get_or (keys_of (map f (x ∷ xs))) j [] ≡ (f (get_or (x ∷ xs) j x)).key
        key_at j l = get_or-map (λ (p : Pair V). p.key) (map f (x ∷ xs)) j (f x) [] (let m = length-map (x ∷ xs) f in omega (arith, l, m)) ∙ ap (λ p. p.key) (get_or-map f (x ∷ xs) j x (f x) l)

    -- pairs with no key twice, sorted by their keys, are those that are put in one after another
    pub sorted_is : (ps : List (Pair V)) (xs ys : List X) → each_once (keys_of ps) ≡ true → map f xs ≡ ps → IsPermutation xs ys
        → IsSortedBy (λ a b. is_lt (key_cmp (f a).key (f b).key)) ys → map f ys ≡ put_all [] ps
    sorted_is ps xs ys h e m s =
        let n : IsPermutation ps (map f ys) = subst (λ l. IsPermutation l (map f ys)) e (IsPermutation-map f xs ys m) in
        let d = IsDistinct-IsPermutation (eq_by_cmp key_cmp) either_way (keys_of ps) (keys_of (map f ys)) (IsPermutation-map (λ (p : Pair V). p.key) ps (map f ys) n) (distinct (keys_of ps) h) in
        let a = sorted_ascends ys d s in
        same_pairs (map f ys) (put_all [] ps) a (ascending_put_all V [] ps (none_ascending V))
        (λ key. same_values ps (map f ys) n h (once_ascending (keys_of (map f ys)) a) key ∙ sym (value_filed ps key h))

    -- and their texts are as long
    pub as_long : (g : Pair V → List ℕ) (ps : List (Pair V)) (xs ys : List X) → map f xs ≡ ps → IsPermutation xs ys → length (flat_map g (map f ys)) ≡ length (flat_map g ps)
    as_long g ps xs ys e m =
        let n : IsPermutation ps (map f ys) = subst (λ l. IsPermutation l (map f ys)) e (IsPermutation-map f xs ys m) in
        length-flat_map g (map f ys) ∙ sum_by-IsPermutation (λ p. length (g p)) ps (map f ys) n ∙ sym (length-flat_map g ps)
