-- Pairs that are written one behind another with ascending keys: their dictionary is a value that bencode reads back, it is
-- shallow, and each key is found.
use Rattle.std.proofs.Common.{◌≡◌, ℕ, suc, ◌<◌, ◌≤◌, ◌^◌, Bool, true, false, cond, not, ◌&&◌, ◌||◌, List, [], ◌∷◌, ◌++◌, map, ℤ, pos, Option, Some, None, refl, sym, ap, ◌∙◌, append-nil, arith}
use Rattle.std.specs.Prelude.{option_map, IfSome}
use Rattle.std.specs.List.{AllByRecursion}
use Rattle.std.specs.Ordering.{is_eq, match_ordering}
use Rattle.std.specs.declared.cmp.Ordering.TheVariants.{Greater}
use Rattle.std.proofs.lemmas.Bool.{lt-ltb}
use Rattle.kad_bencode.specs.Keys.{key_cmp, keys_of, put, value_of}
use Rattle.kad_bencode.specs.Naming.{named}
use Rattle.kad_bencode.specs.Spelling.{is_plain, is_i64, all_true, has_key, each_once, put_all, in_order, depth_of, greatest}
use Rattle.kad_bencode.specs.declared.entries.Pair.{Pair}
use Rattle.kad_bencode.specs.declared.value.Value.{Value}
use Rattle.kad_bencode.specs.declared.value.Value.TheVariants.{Int, Text, List as Values, Dict}
use Rattle.kad_bencode.proofs.Folds.{is_plain-int, is_plain-text, is_plain-list, is_plain-dict, ordered_pairs, in_order-int, in_order-text, in_order-list, in_order-dict, depth_of-int, depth_of-text, depth_of-dict}
use Rattle.kad_bencode.proofs.Formed.{named_deep, named_plain, named_ordered}
use Rattle.kad_bencode.proofs.Limits.{and_both, once_push, keys_push}
use Rattle.kad_krpc.specs.Fields.{IsCarried, pair, maybe}

-- ---- ascending keys

-- each key is below this one
abbrev pub Below : List ℕ → List (Pair Value) → Type 0
Below key ps = AllByRecursion (λ p. key_cmp key p.key ≡ Greater) ps

pub put_last : (ps : List (Pair Value)) (key : List ℕ) (v : Value) → Below key ps → put ps key v ≡ ps ++ pair key v
put_last [] key v b = refl
put_last (p ∷ ps) key v b =
    ap (λ o. match_ordering o (record { key = key; value = v } ∷ p ∷ ps) (record { key = key; value = v } ∷ ps) (p ∷ put ps key v)) b.0
    ∙ ap (λ l. p ∷ l) (put_last ps key v b.1)

pub below_more : (key : List ℕ) (ps qs : List (Pair Value)) → Below key ps → Below key qs → Below key (ps ++ qs)
below_more key [] qs b c = c
below_more key (p ∷ ps) qs b c = (b.0, below_more key ps qs b.1 c)

pub below_maybe : {A : Type 0} (key other : List ℕ) (form : A → Value) (o : Option A) → key_cmp key other ≡ Greater → Below key (maybe other form o)
below_maybe key other form None e = tt
below_maybe key other form (Some x) e = (e, tt)

-- ---- values that are read back

-- the value is plain, and in order
pub record Good (v : Value) : Type 0 where
  pub plain : is_plain v ≡ true
  pub ordered : in_order v ≡ v

pub good_text : (s : List ℕ) → Good (Text s)
good_text s = record { plain = is_plain-text s; ordered = in_order-text s }

pub good_int : (z : ℤ) → is_i64 z ≡ true → Good (Int z)
good_int z h = record { plain = is_plain-int z ∙ h; ordered = in_order-int z }

pub all_plain : (vs : List Value) → AllByRecursion Good vs → all_true (map is_plain vs) ≡ true
all_plain [] h = refl
all_plain (v ∷ vs) h = and_both (is_plain v) (all_true (map is_plain vs)) h.0.plain (all_plain vs h.1)

pub all_ordered : (vs : List Value) → AllByRecursion Good vs → map in_order vs ≡ vs
all_ordered [] h = refl
all_ordered (v ∷ vs) h = (λ i. h.0.ordered i ∷ all_ordered vs h.1 i)

pub good_list : (vs : List Value) → AllByRecursion Good vs → Good (Values vs)
good_list vs h = record { plain = is_plain-list vs ∙ all_plain vs h; ordered = in_order-list vs ∙ ap Values (all_ordered vs h) }

pub good_carried : (v : List ℕ) → IsCarried v → Good (named v)
good_carried v f = record { plain = named_plain 2 v f; ordered = named_ordered 2 v f }

-- the values of pairs
abbrev pub GoodPairs : List (Pair Value) → Type 0
GoodPairs ps = AllByRecursion (λ p. Good p.value) ps

pub pairs_plain : (ps : List (Pair Value)) → GoodPairs ps → all_true (map (λ p. is_plain p.value) ps) ≡ true
pairs_plain [] h = refl
pairs_plain (p ∷ ps) h = and_both (is_plain p.value) (all_true (map (λ p. is_plain p.value) ps)) h.0.plain (pairs_plain ps h.1)

pub pairs_ordered : (ps : List (Pair Value)) → GoodPairs ps → ordered_pairs ps ≡ ps
pairs_ordered [] h = refl
pairs_ordered (p ∷ ps) h = (λ i. record { key = p.key; value = h.0.ordered i } ∷ pairs_ordered ps h.1 i)

pub good_dict : (ps : List (Pair Value)) → GoodPairs ps → each_once (keys_of ps) ≡ true → put_all [] ps ≡ ps → Good (Dict ps)
good_dict ps h once filed = record {
  plain = is_plain-dict ps ∙ and_both (each_once (keys_of ps)) (all_true (map (λ p. is_plain p.value) ps)) once (pairs_plain ps h);
  ordered = in_order-dict ps ∙ ap (λ l. Dict (put_all [] l)) (pairs_ordered ps h) ∙ ap Dict filed;
}

-- a value that may be missing, by its written form
pub good_form : (key : List ℕ) (v : Option (List ℕ)) → IfSome v IsCarried → GoodPairs (maybe key named v)
good_form key None f = tt
good_form key (Some v) f = (good_carried v f, tt)

pub good_more : (ps qs : List (Pair Value)) → GoodPairs ps → GoodPairs qs → GoodPairs (ps ++ qs)
good_more [] qs p q = q
good_more (x ∷ ps) qs p q = (p.0, good_more ps qs p.1 q)

pub good_maybe : {A : Type 0} (key : List ℕ) (f : A → Value) (o : Option A) → ((x : A) → Good (f x)) → GoodPairs (maybe key f o)
good_maybe key f None g = tt
good_maybe key f (Some x) g = (g x, tt)

pub none_below : (key : List ℕ) (ps : List (Pair Value)) → Below key ps → has_key (keys_of ps) key ≡ false
none_below key [] b = refl
none_below key (p ∷ ps) b = (λ i. is_eq (b.0 i) || none_below key ps b.1 i)

pub once_maybe : {A : Type 0} (ps : List (Pair Value)) (key : List ℕ) (f : A → Value) (o : Option A) → each_once (keys_of ps) ≡ true → Below key ps → each_once (keys_of (ps ++ maybe key f o)) ≡ true
once_maybe ps key f None h b = ap (λ l. each_once (keys_of l)) (append-nil ps) ∙ h
once_maybe ps key f (Some x) h b =
    ap each_once (keys_push ps key (f x)) ∙ once_push (keys_of ps) key ∙ (λ i. h i && not (none_below key ps b i))

pub put_all_more : (filed ps qs : List (Pair Value)) → put_all filed (ps ++ qs) ≡ put_all (put_all filed ps) qs
put_all_more filed [] qs = refl
put_all_more filed (p ∷ ps) qs = put_all_more (put filed p.key p.value) ps qs

pub filed_maybe : {A : Type 0} (filed : List (Pair Value)) (key : List ℕ) (f : A → Value) (o : Option A) → Below key filed → put_all filed (maybe key f o) ≡ filed ++ maybe key f o
filed_maybe filed key f None b = sym (append-nil filed)
filed_maybe filed key f (Some x) b = put_last filed key (f x) b

pub next_filed : {A : Type 0} (ps : List (Pair Value)) (key : List ℕ) (f : A → Value) (o : Option A) → put_all [] ps ≡ ps → Below key ps → put_all [] (ps ++ maybe key f o) ≡ ps ++ maybe key f o
next_filed ps key f o h b = put_all_more [] ps (maybe key f o) ∙ ap (λ l. put_all l (maybe key f o)) h ∙ filed_maybe ps key f o b

pub small : (p : ℕ) → p < 65536 → is_i64 (pos p) ≡ true
small p h = let lt : p < 2 ^ 63 = grind (arith, h) in lt-ltb p (2 ^ 63) lt

-- ---- how deep

-- no value is deeper
abbrev pub Within : ℕ → List (Pair Value) → Type 0
Within n [] = Unit {0}
Within n (p ∷ ps) = (depth_of p.value ≤ n) × Within n ps

pub deepest : (n : ℕ) (ps : List (Pair Value)) → Within n ps → greatest (map (λ p. depth_of p.value) ps) ≤ n
deepest n [] w = grind arith
deepest n (p ∷ ps) w = let a = w.0 in let b = deepest n ps w.1 in omega arith

pub dict_within : (n : ℕ) (ps : List (Pair Value)) → Within n ps → depth_of (Dict ps) ≤ suc n
dict_within n ps w = let a = deepest n ps w in let e = depth_of-dict ps in omega arith

pub more : (n : ℕ) (ps qs : List (Pair Value)) → Within n ps → Within n qs → Within n (ps ++ qs)
more n [] qs p q = q
more n (x ∷ ps) qs p q = (p.0, more n ps qs p.1 q)

pub text_within : (n : ℕ) (s : List ℕ) → depth_of (Text s) ≤ n
text_within n s = let e = depth_of-text s in omega arith

pub carried_within : (v : List ℕ) → IsCarried v → depth_of (named v) ≤ 14
carried_within v f = let d = named_deep 2 v f in omega (arith, d)

pub maybe_within : {A : Type 0} (n : ℕ) (key : List ℕ) (form : A → Value) (o : Option A) → ((x : A) → depth_of (form x) ≤ n) → Within n (maybe key form o)
maybe_within n key form None f = tt
maybe_within n key form (Some x) f = (f x, tt)

pub int_within : (n : ℕ) (z : ℤ) → depth_of (Int z) ≤ n
int_within n z = let e = depth_of-int z in omega arith

pub form_within : (key : List ℕ) (v : Option (List ℕ)) → IfSome v IsCarried → Within 14 (maybe key named v)
form_within key None f = tt
form_within key (Some v) f = (carried_within v f, tt)

-- ---- the value of a key

-- the value of a key, in pairs that stand one behind another
abbrev pub or_else : Option Value → Option Value → Option Value
or_else None b = b
or_else (Some v) b = Some v

pub looked : (ps qs : List (Pair Value)) (k : List ℕ) → value_of (ps ++ qs) k ≡ or_else (value_of ps k) (value_of qs k)
looked [] qs k = refl
looked (p ∷ ps) qs k = by_test (is_eq (key_cmp k p.key)) (looked ps qs k)
  where
    by_test : (b : Bool) → value_of (ps ++ qs) k ≡ or_else (value_of ps k) (value_of qs k) → cond b (Some p.value) (value_of (ps ++ qs) k) ≡ or_else (cond b (Some p.value) (value_of ps k)) (value_of qs k)
    by_test true e = refl
    by_test false e = e

pub missed : {A : Type 0} (other : List ℕ) (f : A → Value) (o : Option A) (k : List ℕ) → is_eq (key_cmp k other) ≡ false → value_of (maybe other f o) k ≡ None
missed other f None k e = refl
missed other f (Some x) k e = ap (λ b. cond b (Some (f x)) None) e

pub hit : {A : Type 0} (f : A → Value) (o : Option A) (k : List ℕ) → is_eq (key_cmp k k) ≡ true → value_of (maybe k f o) k ≡ option_map f o
hit f None k e = refl
hit f (Some x) k e = ap (λ b. cond b (Some (f x)) None) e

pub or_none : (o : Option Value) → or_else o None ≡ o
or_none None = refl
or_none (Some v) = refl
