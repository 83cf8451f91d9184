-- A value whose pairs were put in order stays within the limits, and putting it in order again changes nothing.
use Rattle.std.proofs.Common.{◌≡◌, ℕ, ◌+◌, ◌≤◌, true, false, not, ◌&&◌, ◌||◌, List, [], ◌∷◌, ◌++◌, map, refl, sym, ap, ◌∙◌, subst, arith, append_assoc, append-nil}
use Rattle.std.specs.List.{AllByRecursion}
use Rattle.std.specs.List.Sorted.{IsStrictlySortedBy}
use Rattle.std.specs.Ordering.{is_eq, match_ordering}
use Rattle.std.specs.declared.cmp.Ordering.TheVariants.{Less, Equal, Greater}
use Rattle.kad_bencode.specs.Keys.{key_cmp, keys_of, IsAscending, put}
use Rattle.kad_bencode.specs.Spelling.{text_of, depth_of, is_plain, greatest, all_true, has_key, each_once, values_of, put_all, in_order, Fits, Spells}
use Rattle.kad_bencode.specs.declared.entries.Pair.{Pair}
use Rattle.kad_bencode.specs.declared.value.Value.{Value}
use Rattle.kad_bencode.specs.declared.value.Value.TheVariants as value
use Rattle.kad_bencode.proofs.Folds.{by_value, Each, EachValue, in_order-int, in_order-text, in_order-list, in_order-dict, ordered_pairs, is_plain-list, depth_of-list}
use Rattle.kad_bencode.proofs.Limits.{and_both, and_left, and_right, depth_of-pairs, is_plain-pairs}
use Rattle.kad_bencode.proofs.Places.{put_ascending, put_front, turned}

-- ---- what holds of the values

module _ {V : Type 0} (P : V → Type 0) where
  pub values_put : (ps : List (Pair V)) (key : List ℕ) (v : V) → P v → AllByRecursion P (values_of ps) → AllByRecursion P (values_of (put ps key v))
  values_put [] key v h a = (h, tt)
  values_put (p ∷ ps) key v h a =
      elim (key_cmp key p.key) as (λ o. AllByRecursion P (values_of (match_ordering o (record { key = key; value = v } ∷ p ∷ ps) (record { key = key; value = v } ∷ ps) (p ∷ put ps key v))))
      [ Less ↦ (h, a) | Equal ↦ (h, a.1) | Greater ↦ (a.0, values_put ps key v h a.1) ]

  pub values_put_all : (filed ps : List (Pair V)) → AllByRecursion P (values_of filed) → AllByRecursion P (values_of ps) → AllByRecursion P (values_of (put_all filed ps))
  values_put_all filed [] f a = f
  values_put_all filed (p ∷ ps) f a = values_put_all (put filed p.key p.value) ps (values_put filed p.key p.value a.0 f) a.1

module _ (V : Type 0) where
  pub ascending_put_all : (filed ps : List (Pair V)) → IsAscending filed → IsAscending (put_all filed ps)
  ascending_put_all filed [] h = h
  ascending_put_all filed (p ∷ ps) h = ascending_put_all (put filed p.key p.value) ps (put_ascending V filed p.key p.value h)

  pub none_ascending : IsAscending {V = V} []
  unfolding IsStrictlySortedBy
  none_ascending = tt

pub ordered_ascending : (ps : List (Pair Value)) → IsAscending (put_all [] (ordered_pairs ps))
ordered_ascending ps = ascending_put_all Value [] (ordered_pairs ps) (none_ascending Value)

-- ---- ascending pairs

last_above : (filed : List (Pair Value)) (p : Pair Value) (ps : List (Pair Value)) → IsAscending (filed ++ p ∷ ps) → AllByRecursion (λ q. key_cmp p.key q.key ≡ Greater) filed
unfolding IsStrictlySortedBy
last_above [] p ps h = tt
last_above (q ∷ qs) p ps h = (turned q.key p.key (among (λ k. key_cmp q.key k ≡ Less) qs p ps h.0), last_above qs p ps h.1)
  where
    among : (P : List ℕ → Type 0) (qs : List (Pair Value)) (p : Pair Value) (ps : List (Pair Value)) → AllByRecursion P (keys_of (qs ++ p ∷ ps)) → P p.key
    among P [] p ps a = a.0
    among P (q ∷ qs) p ps a = among P qs p ps a.1

put_last : (filed : List (Pair Value)) (p : Pair Value) (ps : List (Pair Value)) → IsAscending (filed ++ p ∷ ps) → put filed p.key p.value ≡ filed ++ p ∷ []
put_last filed p ps h = ap (λ l. put l p.key p.value) (sym (append-nil filed)) ∙ put_front Value filed [] p.key p.value (last_above filed p ps h)

pub put_all_ascending : (filed ps : List (Pair Value)) → IsAscending (filed ++ ps) → put_all filed ps ≡ filed ++ ps
put_all_ascending filed [] h = sym (append-nil filed)
put_all_ascending filed (p ∷ ps) h =
    ap (λ l. put_all l ps) (put_last filed p ps h)
    ∙ put_all_ascending (filed ++ p ∷ []) ps (subst IsAscending (sym (append_assoc filed (p ∷ []) ps)) h)
    ∙ append_assoc filed (p ∷ []) ps

less_not_equal : (a b : List ℕ) → key_cmp a b ≡ Less → is_eq (key_cmp a b) ≡ false
less_not_equal a b h = ap is_eq h

pub none_below : (k : List ℕ) (ks : List (List ℕ)) → AllByRecursion (λ j. key_cmp k j ≡ Less) ks → has_key ks k ≡ false
none_below k [] h = refl
none_below k (j ∷ ks) h = (λ i. less_not_equal k j h.0 i || none_below k ks h.1 i)

pub once_ascending : (ks : List (List ℕ)) → IsStrictlySortedBy key_cmp ks → each_once ks ≡ true
unfolding IsStrictlySortedBy
once_ascending [] h = refl
once_ascending (k ∷ ks) h = (λ i. not (none_below k ks h.0 i) && once_ascending ks h.1 i)

-- ---- depth

all_to_greatest : (m : ℕ) (vs : List Value) → AllByRecursion (λ v. depth_of v ≤ m) vs → greatest (map depth_of vs) ≤ m
all_to_greatest m [] h = omega arith
all_to_greatest m (v ∷ vs) h = let a : depth_of v ≤ m = h.0 in let b : greatest (map depth_of vs) ≤ m = all_to_greatest m vs h.1 in omega arith

-- ---- the facts of a value that was put in order

pub record InOrder (t : Value) : Type 0 where
  pub depth : depth_of (in_order t) ≤ depth_of t
  pub plain : is_plain t ≡ true → is_plain (in_order t) ≡ true
  pub again : in_order (in_order t) ≡ in_order t

list_depth : (m : ℕ) (vs : List Value) → Each InOrder vs → greatest (map depth_of vs) ≤ m → greatest (map depth_of (map in_order vs)) ≤ m
list_depth m [] e h = omega arith
list_depth m (v ∷ vs) e h =
    let a : depth_of (in_order v) ≤ depth_of v = e.0.depth in
    let b : greatest (map depth_of (map in_order vs)) ≤ m = list_depth m vs e.1 (omega arith) in omega arith

list_plain : (vs : List Value) → Each InOrder vs → all_true (map is_plain vs) ≡ true → all_true (map is_plain (map in_order vs)) ≡ true
list_plain [] e h = refl
list_plain (v ∷ vs) e h = and_both (is_plain (in_order v)) (all_true (map is_plain (map in_order vs))) (e.0.plain (and_left (is_plain v) (all_true (map is_plain vs)) h)) (list_plain vs e.1 (and_right (is_plain v) (all_true (map is_plain vs)) h))

list_again : (vs : List Value) → Each InOrder vs → map in_order (map in_order vs) ≡ map in_order vs
list_again [] e = refl
list_again (v ∷ vs) e = (λ i. e.0.again i ∷ list_again vs e.1 i)

pairs_depth : (m : ℕ) (ps : List (Pair Value)) → EachValue InOrder ps → greatest (map depth_of (values_of ps)) ≤ m → AllByRecursion (λ v. depth_of v ≤ m) (values_of (ordered_pairs ps))
pairs_depth m [] e h = tt
pairs_depth m (p ∷ ps) e h =
    let a : depth_of (in_order p.value) ≤ depth_of p.value = e.0.depth in (omega arith, pairs_depth m ps e.1 (omega arith))

pairs_plain : (ps : List (Pair Value)) → EachValue InOrder ps → all_true (map is_plain (values_of ps)) ≡ true → AllByRecursion (λ v. is_plain v ≡ true) (values_of (ordered_pairs ps))
pairs_plain [] e h = tt
pairs_plain (p ∷ ps) e h = (e.0.plain (and_left (is_plain p.value) (all_true (map is_plain (values_of ps))) h), pairs_plain ps e.1 (and_right (is_plain p.value) (all_true (map is_plain (values_of ps))) h))

pairs_again : (ps : List (Pair Value)) → EachValue InOrder ps → AllByRecursion (λ v. in_order v ≡ v) (values_of (ordered_pairs ps))
pairs_again [] e = tt
pairs_again (p ∷ ps) e = (e.0.again, pairs_again ps e.1)

all_to_true : (vs : List Value) → AllByRecursion (λ v. is_plain v ≡ true) vs → all_true (map is_plain vs) ≡ true
all_to_true [] h = refl
all_to_true (v ∷ vs) h = and_both (is_plain v) (all_true (map is_plain vs)) h.0 (all_to_true vs h.1)

pub ordered_same : (ps : List (Pair Value)) → AllByRecursion (λ v. in_order v ≡ v) (values_of ps) → ordered_pairs ps ≡ ps
ordered_same [] h = refl
ordered_same (p ∷ ps) h = (λ i. record { key = p.key; value = h.0 i } ∷ ordered_same ps h.1 i)

ordered_list : (vs : List Value) → Each InOrder vs → InOrder (value.List vs)
ordered_list vs e = record {
  depth = let a : greatest (map depth_of (map in_order vs)) ≤ greatest (map depth_of vs) = list_depth (greatest (map depth_of vs)) vs e (omega arith) in
      omega (arith, ap depth_of (in_order-list vs), depth_of-list (map in_order vs), depth_of-list vs);
  plain = λ h. ap is_plain (in_order-list vs) ∙ is_plain-list (map in_order vs) ∙ list_plain vs e (sym (is_plain-list vs) ∙ h);
  again = ap in_order (in_order-list vs) ∙ in_order-list (map in_order vs) ∙ ap value.List (list_again vs e) ∙ sym (in_order-list vs);
}

ordered_dictionary : (ps : List (Pair Value)) → EachValue InOrder ps → InOrder (value.Dict ps)
ordered_dictionary ps e =
    let filed : List (Pair Value) = put_all [] (ordered_pairs ps) in
    record {
      depth = let a : greatest (map depth_of (values_of (put_all [] (ordered_pairs ps)))) ≤ greatest (map depth_of (values_of ps)) =
          all_to_greatest (greatest (map depth_of (values_of ps))) (values_of (put_all [] (ordered_pairs ps))) (values_put_all (λ v. depth_of v ≤ greatest (map depth_of (values_of ps))) [] (ordered_pairs ps) tt (pairs_depth (greatest (map depth_of (values_of ps))) ps e (omega arith))) in
          omega (arith, ap depth_of (in_order-dict ps), depth_of-pairs (put_all [] (ordered_pairs ps)), depth_of-pairs ps);
      plain = λ h. ap is_plain (in_order-dict ps) ∙ is_plain-pairs (put_all [] (ordered_pairs ps))
          ∙ and_both (each_once (keys_of (put_all [] (ordered_pairs ps)))) (all_true (map is_plain (values_of (put_all [] (ordered_pairs ps))))) (once_ascending (keys_of (put_all [] (ordered_pairs ps))) (ordered_ascending ps))
          (all_to_true (values_of (put_all [] (ordered_pairs ps))) (values_put_all (λ v. is_plain v ≡ true) [] (ordered_pairs ps) tt (pairs_plain ps e (and_right (each_once (keys_of ps)) (all_true (map is_plain (values_of ps))) (sym (is_plain-pairs ps) ∙ h)))));
      again = ap in_order (in_order-dict ps) ∙ in_order-dict (put_all [] (ordered_pairs ps))
          ∙ ap (λ l. value.Dict (put_all [] l)) (ordered_same (put_all [] (ordered_pairs ps)) (values_put_all (λ v. in_order v ≡ v) [] (ordered_pairs ps) tt (pairs_again ps e)))
          ∙ ap value.Dict (put_all_ascending [] (put_all [] (ordered_pairs ps)) (ordered_ascending ps))
          ∙ sym (in_order-dict ps);
    }

pub ordered : (t : Value) → InOrder t
ordered = by_value InOrder
    (λ n. record { depth = omega (arith, ap depth_of (in_order-int n)); plain = λ h. ap is_plain (in_order-int n) ∙ h; again = ap in_order (in_order-int n) })
    (λ s. record { depth = omega (arith, ap depth_of (in_order-text s)); plain = λ h. ap is_plain (in_order-text s) ∙ h; again = ap in_order (in_order-text s) })
    ordered_list ordered_dictionary

pub spelled_fits : (bytes : List ℕ) (v : Value) → Spells bytes v → Fits 0 v
spelled_fits bytes v s =
    let o : InOrder s.tree = ordered s.tree in
    let d : 0 + depth_of s.tree ≤ 16 = s.fits.depth in
    let l : depth_of (in_order s.tree) ≤ depth_of s.tree = o.depth in
    let e : depth_of v ≡ depth_of (in_order s.tree) = ap depth_of s.names in
    record { depth = omega arith; plain = ap is_plain s.names ∙ o.plain s.fits.plain }

pub spelled_in_order : (bytes : List ℕ) (v : Value) → Spells bytes v → in_order v ≡ v
spelled_in_order bytes v s = ap in_order s.names ∙ (ordered s.tree).again ∙ sym s.names

pub text_spells : (v : Value) → Fits 0 v → in_order v ≡ v → Spells (text_of v) v
text_spells v f e = record { tree = v; text = refl; fits = f; names = sym e }
