-- A written form is as long as any text of its value: only the order of pairs differs.
use Rattle.std.proofs.Common.{◌≡◌, ℕ, ◌+◌, true, false, not, List, [], ◌∷◌, ◌++◌, map, length, refl, sym, ap, ◌∙◌, arith, length-append}
use Rattle.std.specs.List.{AllByRecursion, concat}
use Rattle.std.specs.Ordering.{is_eq, match_ordering}
use Rattle.std.specs.declared.cmp.Ordering.{Ordering}
use Rattle.std.specs.declared.cmp.Ordering.TheVariants.{Less, Equal, Greater}
use Rattle.std.proofs.lemmas.Bool.{false≢true, or_parts, or_from, not-true}
use Rattle.std.proofs.lemmas.Cmp.{eq_by_cmp_equiv, nat_list_cmp_total}
use Rattle.kad_bencode.specs.Keys.{key_cmp, keys_of, put}
use Rattle.kad_bencode.specs.Spelling.{text_of, is_plain, all_true, has_key, each_once, put_all, pairs_text, string_text, in_order, Spells}
use Rattle.kad_bencode.specs.Faults.{pairs_of}
use Rattle.kad_bencode.specs.declared.entries.Pair.{Pair}
use Rattle.kad_bencode.specs.declared.value.Value.{Value}
use Rattle.kad_bencode.specs.declared.value.Value.TheVariants as value
use Rattle.kad_bencode.proofs.Folds.{by_value, Each, EachValue, in_order-int, in_order-text, in_order-list, in_order-dict, ordered_pairs, keys_mapped, is_plain-list, is_plain-dict, text_of-list, text_of-dict}
use Rattle.kad_bencode.proofs.Limits.{and_left, and_right}

-- how long the texts of pairs are
size : List (Pair Value) → ℕ
size ps = length (pairs_text (pairs_of ps))

one : Pair Value → ℕ
one p = length (string_text p.key ++ text_of p.value)

size-is : (ps : List (Pair Value)) → size ps ≡ length (pairs_text (pairs_of ps))
unfolding size
size-is ps = refl

size-cons : (p : Pair Value) (ps : List (Pair Value)) → size (p ∷ ps) ≡ one p + size ps
unfolding size one
size-cons p ps = length-append (string_text p.key ++ text_of p.value) (pairs_text (pairs_of ps))

size-put : (filed : List (Pair Value)) (p : Pair Value) → has_key (keys_of filed) p.key ≡ false → size (put filed p.key p.value) ≡ one p + size filed
size-put [] p absent = size-cons p []
size-put (q ∷ filed) p absent =
    let parts = or_parts (is_eq (key_cmp p.key q.key)) (has_key (keys_of filed) p.key) absent in
    by (key_cmp p.key q.key) parts.0 (size-put filed p parts.1)
  where
    by : (o : Ordering) → is_eq o ≡ false → size (put filed p.key p.value) ≡ one p + size filed
        → size (match_ordering o (p ∷ q ∷ filed) (p ∷ filed) (q ∷ put filed p.key p.value)) ≡ one p + size (q ∷ filed)
    by Less e c = size-cons p (q ∷ filed)
    by Equal e c = absurd (false≢true (sym e))
    by Greater e c =
        let a = size-cons q (put filed p.key p.value) in
        let b = size-cons q filed in
        omega (arith, a, b, c)

-- a key that isn't there, nor is put, isn't there afterwards
absent-put : (filed : List (Pair Value)) (p : Pair Value) (k : List ℕ) → is_eq (key_cmp k p.key) ≡ false → has_key (keys_of filed) k ≡ false → has_key (keys_of (put filed p.key p.value)) k ≡ false
absent-put [] p k other absent = or_from (is_eq (key_cmp k p.key)) false other refl
absent-put (q ∷ filed) p k other absent =
    let parts = or_parts (is_eq (key_cmp k q.key)) (has_key (keys_of filed) k) absent in
    by (key_cmp p.key q.key) parts (absent-put filed p k other parts.1)
  where
    by : (o : Ordering) → (is_eq (key_cmp k q.key) ≡ false) × (has_key (keys_of filed) k ≡ false) → has_key (keys_of (put filed p.key p.value)) k ≡ false
        → has_key (keys_of (match_ordering o (p ∷ q ∷ filed) (p ∷ filed) (q ∷ put filed p.key p.value))) k ≡ false
    by Less parts rest = or_from (is_eq (key_cmp k p.key)) (has_key (keys_of (q ∷ filed)) k) other absent
    by Equal parts rest = or_from (is_eq (key_cmp k p.key)) (has_key (keys_of filed) k) other parts.1
    by Greater parts rest = or_from (is_eq (key_cmp k q.key)) (has_key (keys_of (put filed p.key p.value)) k) parts.0 rest

-- the keys aren't among these
abbrev Absent : List (Pair Value) → List (List ℕ) → Type 0
Absent filed ks = AllByRecursion (λ k. has_key (keys_of filed) k ≡ false) ks

absent_all : (filed : List (Pair Value)) (p : Pair Value) (ks : List (List ℕ)) → has_key ks p.key ≡ false → Absent filed ks → Absent (put filed p.key p.value) ks
absent_all filed p [] once all = tt
absent_all filed p (k ∷ ks) once all =
    let parts = or_parts (is_eq (key_cmp p.key k)) (has_key ks p.key) once in
    (absent-put filed p k ((eq_by_cmp_equiv nat_list_cmp_total).symm k p.key ∙ parts.0) all.0, absent_all filed p ks parts.1 all.1)

size-put_all : (filed ps : List (Pair Value)) → each_once (keys_of ps) ≡ true → Absent filed (keys_of ps) → size (put_all filed ps) ≡ size filed + size ps
size-put_all filed [] once all = let none : size [] ≡ 0 = size-is [] in omega (arith, none)
size-put_all filed (p ∷ ps) once all =
    let first = not-true (has_key (keys_of ps) p.key) (and_left (not (has_key (keys_of ps) p.key)) (each_once (keys_of ps)) once) in
    let a = size-put_all (put filed p.key p.value) ps (and_right (not (has_key (keys_of ps) p.key)) (each_once (keys_of ps)) once) (absent_all filed p (keys_of ps) first all.1) in
    let b = size-put filed p all.0 in
    let c = size-cons p ps in
    omega (arith, a, b, c)

none_there : (ks : List (List ℕ)) → Absent [] ks
none_there [] = tt
none_there (k ∷ ks) = (refl, none_there ks)

-- ---- a value whose pairs were put in order

abbrev SameLength : Value → Type 0
SameLength t = is_plain t ≡ true → length (text_of (in_order t)) ≡ length (text_of t)

list_long : (vs : List Value) → Each SameLength vs → all_true (map is_plain vs) ≡ true → length (concat (map text_of (map in_order vs))) ≡ length (concat (map text_of vs))
list_long [] e h = refl
list_long (v ∷ vs) e h =
    let a = e.0 (and_left (is_plain v) (all_true (map is_plain vs)) h) in
    let b = list_long vs e.1 (and_right (is_plain v) (all_true (map is_plain vs)) h) in
    let c = length-append (text_of (in_order v)) (concat (map text_of (map in_order vs))) in
    let d = length-append (text_of v) (concat (map text_of vs)) in
    omega (arith, a, b, c, d)

same_one : (p : Pair Value) → length (text_of (in_order p.value)) ≡ length (text_of p.value) → one (record { key = p.key; value = in_order p.value }) ≡ one p
unfolding one
same_one p e = let a = length-append (string_text p.key) (text_of (in_order p.value)) in let b = length-append (string_text p.key) (text_of p.value) in omega (arith, a, b, e)

pairs_long : (ps : List (Pair Value)) → EachValue SameLength ps → all_true (map (λ p. is_plain p.value) ps) ≡ true → size (ordered_pairs ps) ≡ size ps
pairs_long [] e h = refl
pairs_long (p ∷ ps) e h =
    let q : Pair Value = record { key = p.key; value = in_order p.value } in
    let a = same_one p (e.0 (and_left (is_plain p.value) (all_true (map (λ (r : Pair Value). is_plain r.value) ps)) h)) in
    let b = pairs_long ps e.1 (and_right (is_plain p.value) (all_true (map (λ (r : Pair Value). is_plain r.value) ps)) h) in
    let c = size-cons q (ordered_pairs ps) in
    let d = size-cons p ps in
    omega (arith, a, b, c, d)

dict_long : (ps : List (Pair Value)) → EachValue SameLength ps → is_plain (value.Dict ps) ≡ true → length (text_of (in_order (value.Dict ps))) ≡ length (text_of (value.Dict ps))
dict_long ps e h =
    let plain = sym (is_plain-dict ps) ∙ h in
    let once = and_left (each_once (keys_of ps)) (all_true (map (λ (p : Pair Value). is_plain p.value) ps)) plain in
    let each = and_right (each_once (keys_of ps)) (all_true (map (λ (p : Pair Value). is_plain p.value) ps)) plain in
    let filed = put_all [] (ordered_pairs ps) in
    let a = size-put_all [] (ordered_pairs ps) (ap each_once (keys_mapped in_order ps) ∙ once) (none_there (keys_of (ordered_pairs ps))) in
    let b = pairs_long ps e each in
    let c = ap (λ v. length (text_of v)) (in_order-dict ps) ∙ ap length (text_of-dict filed) in
    let d = ap length (text_of-dict ps) in
    let f = length-append (pairs_text (pairs_of filed)) (101 ∷ []) in
    let g = length-append (pairs_text (pairs_of ps)) (101 ∷ []) in
    let i = size-is filed in
    let j = size-is ps in
    let k : size [] ≡ 0 = size-is [] in
    omega (arith, a, b, c, d, f, g, i, j, k)

in_order_long : (t : Value) → SameLength t
in_order_long = by_value SameLength
    (λ n h. ap (λ v. length (text_of v)) (in_order-int n))
    (λ s h. ap (λ v. length (text_of v)) (in_order-text s))
    (λ vs e h.
    let a = list_long vs e (sym (is_plain-list vs) ∙ h) in
    let b = ap (λ v. length (text_of v)) (in_order-list vs) ∙ ap length (text_of-list (map in_order vs)) in
    let c = ap length (text_of-list vs) in
    let d = length-append (concat (map text_of (map in_order vs))) (101 ∷ []) in
    let f = length-append (concat (map text_of vs)) (101 ∷ []) in
    omega (arith, a, b, c, d, f))
    (λ ps e h. dict_long ps e h)

pub same_length : (bytes : List ℕ) (v : Value) → Spells bytes v → length bytes ≡ length (text_of v)
same_length bytes v s = ap length s.text ∙ sym (in_order_long s.tree s.fits.plain) ∙ ap (λ (x : Value). length (text_of x)) (sym s.names)
