-- What is within the limits stays so while less is read.
use Rattle.std.proofs.Common.{◌≡◌, ℕ, suc, ◌+◌, ◌-◌, ◌*◌, ◌≤◌, Bool, true, false, not, ◌&&◌, ◌||◌, List, [], ◌∷◌, ◌++◌, map, length, Some, None, ℤ, pos, nat_eq, refl, sym, ap, ◌∙◌, subst, arith}
use Rattle.std.specs.List.{AllByRecursion}
use Rattle.std.specs.Ordering.{is_eq}
use Rattle.std.proofs.lemmas.Cmp.{nat_list_cmp_total, eq_by_cmp_equiv}
use Rattle.std.proofs.lemmas.List.{map-append}
use Rattle.kad_bencode.specs.Keys.{key_cmp, keys_of}
use Rattle.kad_bencode.specs.Spelling.{depth_of, is_plain, is_i64, greatest, all_true, has_key, each_once, values_of, Fits}
use Rattle.kad_bencode.specs.Faults.{Open, InList, InPair}
use Rattle.kad_bencode.specs.Machine.{Place, AsValue, AsKey, State, Ready, Keyless, Whole, Sign, Minus, Zero, Digits, NoLength, Length, Body, filled, stored, signed, closed, is_digit, is_nonzero, length_begins, step, run, FitsPairs, FitsOpen, FitsPlace, FitsState}
use Rattle.kad_bencode.specs.declared.entries.Pair.{Pair}
use Rattle.kad_bencode.specs.declared.value.Value.{Value}
use Rattle.kad_bencode.specs.declared.value.Value.TheVariants as value
use Rattle.kad_bencode.proofs.Folds.{depth_of-list, depth_of-dict, depth_of-int, depth_of-text, is_plain-list, is_plain-dict, is_plain-int, is_plain-text}
use Rattle.kad_bencode.proofs.Said.{split, nothing, same_some}
use Rattle.kad_bencode.proofs.Takes.{run_none}

pub and_left : (a b : Bool) → (a && b) ≡ true → a ≡ true
and_left true b h = refl
and_left false b h = cc

pub and_right : (a b : Bool) → (a && b) ≡ true → b ≡ true
and_right true b h = h
and_right false b h = cc

pub and_both : (a b : Bool) → a ≡ true → b ≡ true → (a && b) ≡ true
and_both a b e f = (λ i. e i && f i)

pub or_left : (a b : Bool) → (a || b) ≡ false → a ≡ false
or_left true b h = cc
or_left false b h = refl

pub or_right : (a b : Bool) → (a || b) ≡ false → b ≡ false
or_right true b h = cc
or_right false b h = h

pub not_true : (a : Bool) → not a ≡ true → a ≡ false
not_true true h = cc
not_true false h = refl

-- ---- one item more

pub all_push : {X : Type 0} (P : X → Type 0) (xs : List X) (x : X) → AllByRecursion P xs → P x → AllByRecursion P (xs ++ x ∷ [])
all_push P [] x a p = (p, tt)
all_push P (y ∷ ys) x a p = (a.0, all_push P ys x a.1 p)

pub all_front : {X : Type 0} (P : X → Type 0) (xs : List X) (x : X) → AllByRecursion P (xs ++ x ∷ []) → AllByRecursion P xs × P x
all_front P [] x a = (tt, a.0)
all_front P (y ∷ ys) x a = let r : AllByRecursion P ys × P x = all_front P ys x a.1 in ((a.0, r.0), r.1)

pub values_push : {V : Type 0} (ps : List (Pair V)) (key : List ℕ) (v : V) → values_of (ps ++ record { key = key; value = v } ∷ []) ≡ values_of ps ++ v ∷ []
values_push ps key v = map-append (λ p. p.value) ps (record { key = key; value = v } ∷ [])

pub keys_push : {V : Type 0} (ps : List (Pair V)) (key : List ℕ) (v : V) → keys_of (ps ++ record { key = key; value = v } ∷ []) ≡ keys_of ps ++ key ∷ []
keys_push ps key v = map-append (λ p. p.key) ps (record { key = key; value = v } ∷ [])

same_key : (a b : List ℕ) → is_eq (key_cmp a b) ≡ is_eq (key_cmp b a)
same_key a b = (eq_by_cmp_equiv nat_list_cmp_total).symm a b

has_push : (ks : List (List ℕ)) (k key : List ℕ) → has_key (ks ++ k ∷ []) key ≡ (has_key ks key || is_eq (key_cmp key k))
has_push [] k key = or_false (is_eq (key_cmp key k))
  where
    or_false : (b : Bool) → (b || false) ≡ (false || b)
    or_false true = refl
    or_false false = refl
has_push (j ∷ ks) k key = ap (λ b. is_eq (key_cmp key j) || b) (has_push ks k key) ∙ or_assoc (is_eq (key_cmp key j)) (has_key ks key) (is_eq (key_cmp key k))
  where
    or_assoc : (a b c : Bool) → (a || (b || c)) ≡ ((a || b) || c)
    or_assoc true b c = refl
    or_assoc false b c = refl

-- no key twice, and the new one isn't there
pub once_push : (ks : List (List ℕ)) (k : List ℕ) → each_once (ks ++ k ∷ []) ≡ (each_once ks && not (has_key ks k))
once_push [] k = refl
once_push (j ∷ ks) k =
    (λ i. not (has_push ks k j i) && once_push ks k i)
    ∙ ap (λ b. not (has_key ks j || b) && (each_once ks && not (has_key ks k))) (same_key j k)
    ∙ turned (has_key ks j) (is_eq (key_cmp k j)) (each_once ks) (has_key ks k)
  where
    turned : (a b c d : Bool) → (not (a || b) && (c && not d)) ≡ ((not a && c) && not (b || d))
    turned true b c d = refl
    turned false true true d = refl
    turned false true false d = refl
    turned false false c d = refl

-- ---- lists of values

pub fits_each : (n : ℕ) (vs : List Value) → n ≤ 16 → AllByRecursion (Fits n) vs → (n + greatest (map depth_of vs) ≤ 16) × (all_true (map is_plain vs) ≡ true)
fits_each n [] h a = (omega arith, refl)
fits_each n (v ∷ vs) h a =
    let r : (n + greatest (map depth_of vs) ≤ 16) × (all_true (map is_plain vs) ≡ true) = fits_each n vs h a.1 in
    let d : n + depth_of v ≤ 16 = a.0.depth in
    let e : n + greatest (map depth_of vs) ≤ 16 = r.0 in
    (omega arith, and_both (is_plain v) (all_true (map is_plain vs)) a.0.plain r.1)

pub each_fits : (n : ℕ) (vs : List Value) → n + greatest (map depth_of vs) ≤ 16 → all_true (map is_plain vs) ≡ true → AllByRecursion (Fits n) vs
each_fits n [] h a = tt
each_fits n (v ∷ vs) h a = (
  record { depth = omega arith; plain = and_left (is_plain v) (all_true (map is_plain vs)) a },
  each_fits n vs (omega arith) (and_right (is_plain v) (all_true (map is_plain vs)) a),
)

pub fits_list : (n : ℕ) (vs : List Value) → suc n ≤ 16 → AllByRecursion (Fits (suc n)) vs → Fits n (value.List vs)
fits_list n vs h a =
    let r : (suc n + greatest (map depth_of vs) ≤ 16) × (all_true (map is_plain vs) ≡ true) = fits_each (suc n) vs h a in
    let d : suc n + greatest (map depth_of vs) ≤ 16 = r.0 in
    record { depth = omega (arith, depth_of-list vs); plain = is_plain-list vs ∙ r.1 }

pub list_fits : (n : ℕ) (vs : List Value) → Fits n (value.List vs) → (suc n ≤ 16) × AllByRecursion (Fits (suc n)) vs
list_fits n vs f =
    let d : n + depth_of (value.List vs) ≤ 16 = f.depth in
    (omega (arith, depth_of-list vs), each_fits (suc n) vs (omega (arith, depth_of-list vs)) (sym (is_plain-list vs) ∙ f.plain))

mapped_values : {W : Type 0} (f : Value → W) (ps : List (Pair Value)) → map (λ p. f p.value) ps ≡ map f (values_of ps)
mapped_values f [] = refl
mapped_values f (p ∷ ps) = ap (λ l. f p.value ∷ l) (mapped_values f ps)

pub depth_of-pairs : (ps : List (Pair Value)) → depth_of (value.Dict ps) ≡ suc (greatest (map depth_of (values_of ps)))
depth_of-pairs ps = depth_of-dict ps ∙ ap (λ l. suc (greatest l)) (mapped_values depth_of ps)

pub is_plain-pairs : (ps : List (Pair Value)) → is_plain (value.Dict ps) ≡ (each_once (keys_of ps) && all_true (map is_plain (values_of ps)))
is_plain-pairs ps = is_plain-dict ps ∙ ap (λ l. each_once (keys_of ps) && all_true l) (mapped_values is_plain ps)

pub fits_dict : (os : List Open) (ps : List (Pair Value)) → FitsPairs os ps → Fits (length os) (value.Dict ps)
fits_dict os ps a =
    let r : (suc (length os) + greatest (map depth_of (values_of ps)) ≤ 16) × (all_true (map is_plain (values_of ps)) ≡ true) = fits_each (suc (length os)) (values_of ps) a.0 a.1 in
    let d : suc (length os) + greatest (map depth_of (values_of ps)) ≤ 16 = r.0 in
    record { depth = omega (arith, depth_of-pairs ps); plain = is_plain-pairs ps ∙ and_both (each_once (keys_of ps)) (all_true (map is_plain (values_of ps))) a.2 r.1 }

pub dict_fits : (os : List Open) (ps : List (Pair Value)) → Fits (length os) (value.Dict ps) → FitsPairs os ps
dict_fits os ps f =
    let d : length os + depth_of (value.Dict ps) ≤ 16 = f.depth in
    let b : (each_once (keys_of ps) && all_true (map is_plain (values_of ps))) ≡ true = sym (is_plain-pairs ps) ∙ f.plain in
    (omega (arith, depth_of-pairs ps), each_fits (suc (length os)) (values_of ps) (omega (arith, depth_of-pairs ps)) (and_right (each_once (keys_of ps)) (all_true (map is_plain (values_of ps))) b), and_left (each_once (keys_of ps)) (all_true (map is_plain (values_of ps))) b)

pub fits_text : (n : ℕ) (s : List ℕ) → n ≤ 16 → Fits n (value.Text s)
fits_text n s h = record { depth = omega (arith, depth_of-text s); plain = is_plain-text s }

pub fits_int : (n : ℕ) (z : ℤ) → n ≤ 16 → is_i64 z ≡ true → Fits n (value.Int z)
fits_int n z h b = record { depth = omega (arith, depth_of-int z); plain = is_plain-int z ∙ b }

pub at_most_16 : (os : List Open) → FitsOpen os → length os ≤ 16
at_most_16 [] f = omega arith
at_most_16 (InList vs ∷ os) f = f.0
at_most_16 (InPair ps key ∷ os) f = f.0.0

-- ---- a value is filled in

pub fits_pairs_push : (os : List Open) (ps : List (Pair Value)) (key : List ℕ) (v : Value) → FitsPairs os ps → has_key (keys_of ps) key ≡ false → Fits (suc (length os)) v → FitsPairs os (ps ++ record { key = key; value = v } ∷ [])
fits_pairs_push os ps key v f h g = (
  f.0,
  subst (AllByRecursion (Fits (suc (length os)))) (sym (values_push ps key v)) (all_push (Fits (suc (length os))) (values_of ps) v f.1 g),
  ap each_once (keys_push ps key v) ∙ once_push (keys_of ps) key ∙ (λ i. f.2 i && not (h i)),
)

pub filled_fits : (os : List Open) (v : Value) → FitsState (filled os v) → FitsOpen os × Fits (length os) v
filled_fits [] v f = (tt, f)
filled_fits (InList vs ∷ os) v f = let r : AllByRecursion (Fits (suc (length os))) vs × Fits (suc (length os)) v = all_front (Fits (suc (length os))) vs v f.1 in ((f.0, r.0, f.2), r.1)
filled_fits (InPair ps key ∷ os) v f =
    let r : AllByRecursion (Fits (suc (length os))) (values_of ps) × Fits (suc (length os)) v = all_front (Fits (suc (length os))) (values_of ps) v (subst (AllByRecursion (Fits (suc (length os)))) (values_push ps key v) f.0.1) in
    let b : (each_once (keys_of ps) && not (has_key (keys_of ps) key)) ≡ true = sym (once_push (keys_of ps) key) ∙ sym (ap each_once (keys_push ps key v)) ∙ f.0.2 in
    (((f.0.0, r.0, and_left (each_once (keys_of ps)) (not (has_key (keys_of ps) key)) b), not_true (has_key (keys_of ps) key) (and_right (each_once (keys_of ps)) (not (has_key (keys_of ps) key)) b), f.1), r.1)

pub stored_fits : (p : Place) (s : List ℕ) → FitsState (stored p s) → FitsPlace p
stored_fits (AsValue os) s f = (filled_fits os (value.Text s) f).0
stored_fits (AsKey os ps) s f = (f.0, f.2)

-- ---- a step back

back : {s : State} (t : State) {P : Type 0} → (FitsState t → P) → Some t ≡ Some s → FitsState s → P
back t f h g = f (subst FitsState (sym (same_some h)) g)

closed_back : (os : List Open) (s : State) → closed os ≡ Some s → FitsState s → FitsOpen os
closed_back [] s h = nothing h
closed_back (InPair ps key ∷ os) s h = nothing h
closed_back (InList vs ∷ os) s h = back (filled os (value.List vs)) (λ f. let r : FitsOpen os × Fits (length os) (value.List vs) = filled_fits os (value.List vs) f in let q : (suc (length os) ≤ 16) × AllByRecursion (Fits (suc (length os))) vs = list_fits (length os) vs r.1 in (q.0, q.1, r.0)) h

length_back : (p : Place) (b : ℕ) (s : State) → length_begins p b ≡ Some s → FitsState s → FitsPlace p
length_back p b s = split (nat_eq b 48) (Some (NoLength p)) _ (λ _. back (NoLength p) (λ f. f))
    (λ _. split (is_nonzero b) (Some (Length p (b - 48))) None (λ _. back (Length p (b - 48)) (λ f. f)) (λ _. nothing))

pub step_back : (st : State) (b : ℕ) (s : State) → step st b ≡ Some s → FitsState s → FitsState st
step_back (Ready os) b s =
    split (nat_eq b 105) (Some (Sign os)) _ (λ _. back (Sign os) (λ f. f))
    (λ _. split (nat_eq b 108) (Some (Ready (InList [] ∷ os))) _ (λ _. back (Ready (InList [] ∷ os)) (λ f. f.2))
    (λ _. split (nat_eq b 100) (Some (Keyless os [])) _ (λ _. back (Keyless os []) (λ f. f.1))
    (λ _. split (nat_eq b 101) (closed os) _ (λ _. closed_back os s)
    (λ _. length_back (AsValue os) b s))))
step_back (Keyless os ps) b s =
    split (nat_eq b 101) (Some (filled os (value.Dict ps))) _
    (λ _. back (filled os (value.Dict ps)) (λ f. let r : FitsOpen os × Fits (length os) (value.Dict ps) = filled_fits os (value.Dict ps) f in (dict_fits os ps r.1, r.0)))
    (λ _. length_back (AsKey os ps) b s)
step_back (Whole v) b s = nothing
step_back (Sign os) b s =
    split (nat_eq b 45) (Some (Minus os)) _ (λ _. back (Minus os) (λ f. f))
    (λ _. split (nat_eq b 48) (Some (Zero os)) _ (λ _. back (Zero os) (λ f. f))
    (λ _. split (is_nonzero b) (Some (Digits os false (b - 48))) None (λ _. back (Digits os false (b - 48)) (λ f. f)) (λ _. nothing)))
step_back (Minus os) b s = split (is_nonzero b) (Some (Digits os true (b - 48))) None (λ _. back (Digits os true (b - 48)) (λ f. f)) (λ _. nothing)
step_back (Zero os) b s = split (nat_eq b 101) (Some (filled os (value.Int (pos 0)))) None (λ _. back (filled os (value.Int (pos 0))) (λ f. (filled_fits os (value.Int (pos 0)) f).0)) (λ _. nothing)
step_back (Digits os t n) b s =
    split (nat_eq b 101) (Some (filled os (value.Int (signed t n)))) _ (λ _. back (filled os (value.Int (signed t n))) (λ f. (filled_fits os (value.Int (signed t n)) f).0))
    (λ _. split (is_digit b) (Some (Digits os t (n * 10 + (b - 48)))) None (λ _. back (Digits os t (n * 10 + (b - 48))) (λ f. f)) (λ _. nothing))
step_back (NoLength p) b s = split (nat_eq b 58) (Some (stored p [])) None (λ _. back (stored p []) (stored_fits p [])) (λ _. nothing)
step_back (Length p n) b s =
    split (nat_eq b 58) (Some (Body p n [])) _ (λ _. back (Body p n []) (λ f. f))
    (λ _. split (is_digit b) (Some (Length p (n * 10 + (b - 48)))) None (λ _. back (Length p (n * 10 + (b - 48))) (λ f. f)) (λ _. nothing))
step_back (Body p n t) b s =
    split (nat_eq n 1) (Some (stored p (t ++ b ∷ []))) (Some (Body p (n - 1) (t ++ b ∷ []))) (λ _. back (stored p (t ++ b ∷ [])) (stored_fits p (t ++ b ∷ [])))
    (λ _. back (Body p (n - 1) (t ++ b ∷ [])) (λ f. f))

pub run_back : (bs : List ℕ) (st s : State) → FitsState s → run (Some st) bs ≡ Some s → FitsState st
run_back [] st s f = λ h. subst FitsState (sym (same_some h)) f
run_back (b ∷ bs) st s f =
    elim (step st b) as (λ o. step st b ≡ o → run o bs ≡ Some s → FitsState st) [
      | None ↦ λ e h. nothing (sym (run_none bs) ∙ h)
      | Some t ↦ λ e h. step_back st b t e (run_back bs t s f h)
    ] refl
