-- The value that stands behind a key in the text is the key's value in the dictionary.
use Rattle.std.proofs.Common.{◌≡◌, ℕ, zero, suc, ◌+◌, ◌-◌, ◌/◌, ◌%◌, ◌<◌, ◌≤◌, Bool, true, false, cond, not, List, [], ◌∷◌, ◌++◌, length, take, drop, get_or, map, Option, Some, None, option_map, Ordering, refl, sym, ap, ◌∙◌, subst, arith, inl, inr, append_assoc, length-append}
use Rattle.std.specs.List.{AllByRecursion}
use Rattle.std.specs.Ordering.{is_eq, match_ordering, ordering_reverse}
use Rattle.std.specs.declared.cmp.Ordering.TheVariants.{Less, Equal, Greater}
use Rattle.std.proofs.lemmas.Bool.{cases_lt}
use Rattle.std.proofs.lemmas.Bool.Decides.{nat_tests}
use Rattle.std.proofs.lemmas.Cmp.{nat_list_cmp_total}
use Rattle.std.proofs.lemmas.Map.Lookups.{exact_bytes}
use Rattle.std.proofs.Math.Seq.{take-append_seam, drop-append_seam}
use Rattle.kad_bencode.specs.Keys.{key_cmp, keys_of, put, value_of}
use Rattle.kad_bencode.specs.Spelling.{numeral, string_text, pairs_text, text_of, Fits, Spells, values_of, has_key, each_once, put_all, in_order}
use Rattle.kad_bencode.specs.Faults.{pairs_of}
use Rattle.kad_bencode.specs.Machine.{AsValue, AwaitsString, ReadsString, is_digit}
use Rattle.kad_bencode.specs.declared.entries.Pair.{Pair}
use Rattle.kad_bencode.specs.declared.value.Value.{Value}
use Rattle.kad_bencode.specs.declared.value.Value.TheVariants as value
use Rattle.kad_bencode.proofs.Folds.{by_value, text_of-text, text_of-dict, in_order-int, in_order-text, in_order-list, in_order-dict, ordered_pairs, keys_mapped}
use Rattle.kad_bencode.proofs.Limits.{fits_text, dict_fits, and_left, and_right, not_true, or_left, or_right}
use Rattle.kad_bencode.proofs.Numerals.{numeral_0, numeral_digit, numeral_step}
use Rattle.kad_bencode.proofs.Said.{one_tree}
use Rattle.kad_bencode.specs.Scanning.{Begins}
use Rattle.kad_bencode.specs.Finding.{ArePairs, Shows}
use Rattle.kad_bencode.proofs.Skipping.{behind_filled}
use Rattle.kad_bencode.proofs.Layers.{same_text, same_dict, int_no_dict, text_no_dict, list_no_dict}

-- ---- a string at the front

pub digit_first : (f n : ℕ) → n ≤ f → (x : List ℕ) → is_digit (get_or (numeral n ++ x) 0 0) ≡ true
digit_first zero n h x = let z : n ≡ 0 = omega arith in ap (λ m. is_digit (get_or (numeral m ++ x) 0 0)) z ∙ ap (λ l. is_digit (get_or (l ++ x) 0 0)) numeral_0
digit_first (suc f) zero h x = ap (λ l. is_digit (get_or (l ++ x) 0 0)) numeral_0
digit_first (suc f) (suc n) h x =
    elim (cases_lt (suc n) 10) as (λ _. is_digit (get_or (numeral (suc n) ++ x) 0 0) ≡ true) [
      | inl small ↦ ap (λ l. is_digit (get_or (l ++ x) 0 0)) (numeral_digit (suc n) (omega arith) small) ∙ low (suc n) small
      | inr big ↦
          ap (λ l. is_digit (get_or (l ++ x) 0 0)) (numeral_step (suc n) big)
          ∙ ap (λ l. is_digit (get_or l 0 0)) (append_assoc (numeral (suc n / 10)) ((48 + suc n % 10) ∷ []) x)
          ∙ digit_first f (suc n / 10) (omega arith) ((48 + suc n % 10) ∷ x)
    ]
  where
    low : (m : ℕ) → m < 10 → is_digit (48 + m) ≡ true
    low m h = grind (arith, nat_tests)

pub begins_string : (bytes s rest : List ℕ) → bytes ≡ string_text s ++ rest → Begins bytes (value.Text s)
begins_string bytes s rest e = record { rest = rest; text = e ∙ ap (λ l. l ++ rest) (sym (text_of-text s)); fits = fits_text 0 s (omega arith) }

pub awaits_front : (bytes s rest : List ℕ) → bytes ≡ string_text s ++ rest → AwaitsString bytes 0 (AsValue [])
awaits_front bytes s rest e = record {
  reached = refl;
  fits = tt;
  within = omega arith;
  goes = λ h n.
      let d : is_digit (get_or bytes 0 0) ≡ true = ap (λ l. is_digit (get_or l 0 0)) (e ∙ append_assoc (numeral (length s)) (58 ∷ s) rest) ∙ digit_first (length s) (length s) (omega arith) (58 ∷ s ++ rest) in
      let f : true ≡ false = sym d ∙ n in absurd cc;
}

pub string_front : (bytes s rest : List ℕ) → bytes ≡ string_text s ++ rest → (x : List ℕ) (next : ℕ) → ReadsString bytes 0 (AsValue []) x next → (x ≡ s) × (next ≡ length (string_text s))
unfolding begins_string
string_front bytes s rest e x next r =
    let b = begins_string bytes s rest e in
    let n : next ≡ length (text_of (value.Text s)) = (behind_filled bytes (value.Text s) b [] (value.Text x) next 0 refl r.within r.reached).ends refl in
    let t : string_text x ≡ text_of (value.Text s) = sym r.text ∙ ap (λ m. take m bytes) n ∙ ap (take (length (text_of (value.Text s)))) b.text ∙ take-append_seam (text_of (value.Text s)) rest in
    (same_text x s (one_tree (value.Text x) (value.Text s) (text_of-text x ∙ t)), n ∙ ap length (text_of-text s))

-- ---- the first pair

module _ (bytes : List ℕ) (p : Pair Value) (ps : List (Pair Value)) (a : ArePairs bytes (p ∷ ps)) where
  pub pair_text : bytes ≡ string_text p.key ++ (text_of p.value ++ pairs_text (pairs_of ps))
  pair_text = a.text ∙ append_assoc (string_text p.key) (text_of p.value) (pairs_text (pairs_of ps))

  behind : (from : ℕ) → from ≡ length (string_text p.key) → drop from bytes ≡ text_of p.value ++ pairs_text (pairs_of ps)
  behind from e = ap (λ n. drop n bytes) e ∙ ap (drop (length (string_text p.key))) pair_text ∙ drop-append_seam (string_text p.key) (text_of p.value ++ pairs_text (pairs_of ps))

  pub begins_value : (from : ℕ) → from ≡ length (string_text p.key) → Begins (drop from bytes) p.value
  begins_value from e = record { rest = pairs_text (pairs_of ps); text = behind from e; fits = a.fits.0 }

  pub value_text : (from to : ℕ) → from ≡ length (string_text p.key) → to ≡ length (text_of p.value) → take to (drop from bytes) ≡ text_of p.value
  value_text from to e f = ap (λ n. take n (drop from bytes)) f ∙ ap (take (length (text_of p.value))) (behind from e) ∙ take-append_seam (text_of p.value) (pairs_text (pairs_of ps))

  pub pairs_left : (from to : ℕ) → from ≡ length (string_text p.key) → to ≡ length (text_of p.value) → ArePairs (drop to (drop from bytes)) ps
  pairs_left from to e f = record {
    text = ap (λ n. drop n (drop from bytes)) f ∙ ap (drop (length (text_of p.value))) (behind from e) ∙ drop-append_seam (text_of p.value) (pairs_text (pairs_of ps));
    fits = a.fits.1;
  }

-- ---- keys

pub same_key : (k : List ℕ) → is_eq (key_cmp k k) ≡ true
same_key k = turned (key_cmp k k) (nat_list_cmp_total.antisymm k k)
  where
    turned : (o : Ordering) → o ≡ ordering_reverse o → is_eq o ≡ true
    turned Less e = absurd cc
    turned Equal e = refl
    turned Greater e = absurd cc

pub other_key : (a b : List ℕ) → (a ≡ b → ⊥) → is_eq (key_cmp a b) ≡ false
other_key a b n =
    elim (key_cmp a b) as (λ o. key_cmp a b ≡ o → is_eq o ≡ false) [
      | Less ↦ λ e. refl
      | Equal ↦ λ e. absurd (n (exact_bytes a b e))
      | Greater ↦ λ e. refl
    ] refl

pub equal_keys : (a b : List ℕ) → is_eq (key_cmp a b) ≡ true → a ≡ b
equal_keys a b =
    elim (key_cmp a b) as (λ o. key_cmp a b ≡ o → is_eq o ≡ true → a ≡ b) [
      | Less ↦ λ e h. absurd (let f : false ≡ true = h in cc)
      | Equal ↦ λ e h. exact_bytes a b e
      | Greater ↦ λ e h. absurd (let f : false ≡ true = h in cc)
    ] refl

-- ---- one turn of the search

module _ (rest : List ℕ) (key name text others : List ℕ) (long : 0 < length rest)
    (reads : (p : Pair Value) (ps : List (Pair Value)) → ArePairs rest (p ∷ ps) → (name ≡ p.key) × (text ≡ text_of p.value) × ArePairs others ps) where
  pub found_here : (qs : List (Pair Value)) → ArePairs rest qs → name ≡ key → Some text ≡ option_map text_of (value_of qs key)
  found_here [] a e = absurd (let l = ap length a.text in omega (arith, l, long))
  found_here (q ∷ qs) a e =
      let r = reads q qs a in
      ap Some r.1 ∙ sym (ap (λ b. option_map text_of (cond b (Some q.value) (value_of qs key))) (ap (λ k. is_eq (key_cmp key k)) (sym r.0 ∙ e) ∙ same_key key))

  pub found_later : (qs : List (Pair Value)) → ArePairs rest qs → (name ≡ key → ⊥) → (rs : List (Pair Value)) × ArePairs others rs × (value_of rs key ≡ value_of qs key)
  found_later [] a n = absurd (let l = ap length a.text in omega (arith, l, long))
  found_later (q ∷ qs) a n =
      let r = reads q qs a in
      (qs, r.2, sym (ap (λ b. cond b (Some q.value) (value_of qs key)) (other_key key q.key (λ e. n (r.0 ∙ sym e)))))

pub never_short : (rest : List ℕ) → 0 < length rest → ((p : Pair Value) (ps : List (Pair Value)) → ArePairs rest (p ∷ ps) → ⊥) → (qs : List (Pair Value)) → ArePairs rest qs → ⊥
never_short rest long none [] a = let l = ap length a.text in omega (arith, l, long)
never_short rest long none (q ∷ qs) a = none q qs a

pub nothing_left : (rest : List ℕ) (key : List ℕ) → length rest ≤ 0 → (qs : List (Pair Value)) → ArePairs rest qs → None ≡ option_map text_of (value_of qs key)
nothing_left rest key h [] a = refl
nothing_left rest key h (q ∷ qs) a =
    let l = ap length a.text in
    let m = length-append (string_text q.key ++ text_of q.value) (pairs_text (pairs_of qs)) in
    let n = length-append (string_text q.key) (text_of q.value) in
    let k = length-append (numeral (length q.key)) (58 ∷ q.key) in
    absurd (omega (arith, l, m, n, k, h))

-- ---- the dictionary that a text names

abbrev either : {V : Type 0} → Option V → Option V → Option V
either (Some x) y = Some x
either None y = y

module _ {V : Type 0} where
  replaced : (b : Bool) (v w : V) (o : Option V) → cond b (Some v) o ≡ cond b (Some v) (cond b (Some w) o)
  replaced true v w o = refl
  replaced false v w o = refl

  swapped : (a b : Bool) (v w : V) (o : Option V) → (a ≡ true → b ≡ true → ⊥) → cond a (Some v) (cond b (Some w) o) ≡ cond b (Some w) (cond a (Some v) o)
  swapped true true v w o h = absurd (h refl refl)
  swapped true false v w o h = refl
  swapped false b v w o h = refl

  value_put : (ps : List (Pair V)) (k : List ℕ) (v : V) (key : List ℕ) → value_of (put ps k v) key ≡ cond (is_eq (key_cmp key k)) (Some v) (value_of ps key)
  value_put [] k v key = refl
  value_put (p ∷ ps) k v key =
      elim (key_cmp k p.key) as (λ o. key_cmp k p.key ≡ o → value_of (match_ordering o (record { key = k; value = v } ∷ p ∷ ps) (record { key = k; value = v } ∷ ps) (p ∷ put ps k v)) key ≡ cond (is_eq (key_cmp key k)) (Some v) (value_of (p ∷ ps) key)) [
        | Less ↦ λ e. refl
        | Equal ↦ λ e. replaced (is_eq (key_cmp key k)) v p.value (value_of ps key) ∙ ap (λ x. cond (is_eq (key_cmp key k)) (Some v) (cond (is_eq (key_cmp key x)) (Some p.value) (value_of ps key))) (exact_bytes k p.key e)
        | Greater ↦ λ e. ap (cond (is_eq (key_cmp key p.key)) (Some p.value)) (value_put ps k v key)
            ∙ swapped (is_eq (key_cmp key p.key)) (is_eq (key_cmp key k)) p.value v (value_of ps key) (λ a b. let f : Equal ≡ Greater = sym (equal_is k p.key (sym (equal_keys key k b) ∙ equal_keys key p.key a)) ∙ e in cc)
      ] refl
    where
      equal_is : (a b : List ℕ) → a ≡ b → key_cmp a b ≡ Equal
      equal_is a b e = ap (key_cmp a) (sym e) ∙ only_equal (key_cmp a a) (same_key a)
        where
          only_equal : (o : Ordering) → is_eq o ≡ true → o ≡ Equal
          only_equal Less h = absurd cc
          only_equal Equal h = refl
          only_equal Greater h = absurd cc

  pub no_value : (ps : List (Pair V)) (key : List ℕ) → has_key (keys_of ps) key ≡ false → value_of ps key ≡ None
  no_value [] key h = refl
  no_value (p ∷ ps) key h = ap (λ b. cond b (Some p.value) (value_of ps key)) (or_left (is_eq (key_cmp key p.key)) (has_key (keys_of ps) key) h) ∙ no_value ps key (or_right (is_eq (key_cmp key p.key)) (has_key (keys_of ps) key) h)

  value_put_all : (filed ps : List (Pair V)) (key : List ℕ) → each_once (keys_of ps) ≡ true → value_of (put_all filed ps) key ≡ either (value_of ps key) (value_of filed key)
  value_put_all filed [] key h = refl
  value_put_all filed (p ∷ ps) key h =
      value_put_all (put filed p.key p.value) ps key (and_right (not (has_key (keys_of ps) p.key)) (each_once (keys_of ps)) h)
      ∙ ap (either (value_of ps key)) (value_put filed p.key p.value key)
      ∙ joined (is_eq (key_cmp key p.key)) p.value (value_of ps key) (value_of filed key)
      (λ e. no_value ps key (ap (has_key (keys_of ps)) (equal_keys key p.key e) ∙ not_true (has_key (keys_of ps) p.key) (and_left (not (has_key (keys_of ps) p.key)) (each_once (keys_of ps)) h)))
    where
      joined : (b : Bool) (v : V) (o f : Option V) → (b ≡ true → o ≡ None) → either o (cond b (Some v) f) ≡ either (cond b (Some v) o) f
      joined true v o f h = ap (λ x. either x (Some v)) (h refl)
      joined false v o f h = refl

  -- of pairs that were put in one after another, where no key is there twice
  pub value_filed : (ps : List (Pair V)) (key : List ℕ) → each_once (keys_of ps) ≡ true → value_of (put_all [] ps) key ≡ value_of ps key
  value_filed ps key h = value_put_all [] ps key h ∙ alone (value_of ps key)
    where
      alone : (o : Option V) → either o None ≡ o
      alone (Some v) = refl
      alone None = refl

pub value_ordered : (ps : List (Pair Value)) (key : List ℕ) → value_of (ordered_pairs ps) key ≡ option_map in_order (value_of ps key)
value_ordered [] key = refl
value_ordered (p ∷ ps) key = ap (cond (is_eq (key_cmp key p.key)) (Some (in_order p.value))) (value_ordered ps key) ∙ inside (is_eq (key_cmp key p.key)) p.value (value_of ps key)
  where
    inside : (b : Bool) (v : Value) (o : Option Value) → cond b (Some (in_order v)) (option_map in_order o) ≡ option_map in_order (cond b (Some v) o)
    inside true v o = refl
    inside false v o = refl

-- whatever the order of the pairs, where no key is there twice
pub value_named : (ps : List (Pair Value)) (key : List ℕ) → each_once (keys_of ps) ≡ true → value_of (put_all [] (ordered_pairs ps)) key ≡ option_map in_order (value_of ps key)
value_named ps key h = value_filed (ordered_pairs ps) key (ap each_once (keys_mapped in_order ps) ∙ h) ∙ value_ordered ps key

-- the tree of a text that names a dictionary
abbrev IsTreeOf : Value → Type 0
IsTreeOf t = (pairs : List (Pair Value)) → value.Dict pairs ≡ in_order t → (ps : List (Pair Value)) × (t ≡ value.Dict ps) × (pairs ≡ put_all [] (ordered_pairs ps))

pub tree_pairs : (t : Value) → IsTreeOf t
tree_pairs = by_value IsTreeOf
    (λ n pairs e. absurd (int_no_dict n pairs (sym (e ∙ in_order-int n))))
    (λ s pairs e. absurd (text_no_dict s pairs (sym (e ∙ in_order-text s))))
    (λ vs _ pairs e. absurd (list_no_dict (map in_order vs) pairs (sym (e ∙ in_order-list vs))))
    (λ ps _ pairs e. (ps, refl, same_dict pairs (put_all [] (ordered_pairs ps)) (e ∙ in_order-dict ps)))

fits_less : (v : Value) → Fits 1 v → Fits 0 v
fits_less v f = record { depth = let d = f.depth in omega (arith, d); plain = f.plain }

pub all_less : (vs : List Value) → AllByRecursion (Fits 1) vs → AllByRecursion (Fits 0) vs
all_less [] a = tt
all_less (v ∷ vs) a = (fits_less v a.0, all_less vs a.1)

shown : (ps : List (Pair Value)) (key : List ℕ) → AllByRecursion (Fits 0) (values_of ps) → Shows (option_map text_of (value_of ps key)) (option_map in_order (value_of ps key))
shown [] key a = tt
shown (p ∷ ps) key a =
    elim (is_eq (key_cmp key p.key)) as (λ b. Shows (option_map text_of (cond b (Some p.value) (value_of ps key))) (option_map in_order (cond b (Some p.value) (value_of ps key)))) [
      | true ↦ record { tree = p.value; text = refl; fits = a.0; names = refl }
      | false ↦ shown ps key a.1
    ]

module _ (bytes : List ℕ) (pairs : List (Pair Value)) (s : Spells bytes (value.Dict pairs)) where
  abbrev pub of_tree : (ps : List (Pair Value)) × (s.tree ≡ value.Dict ps) × (pairs ≡ put_all [] (ordered_pairs ps))
  of_tree = tree_pairs s.tree pairs s.names

  dict_text : bytes ≡ 100 ∷ pairs_text (pairs_of of_tree.0) ++ 101 ∷ []
  dict_text = s.text ∙ ap text_of of_tree.1 ∙ text_of-dict of_tree.0

  pub are_pairs : (n : ℕ) → n ≡ length bytes - 2 → ArePairs (take n (drop 1 bytes)) of_tree.0
  are_pairs n e =
      let text : List ℕ = pairs_text (pairs_of of_tree.0) in
      let l = ap length dict_text in
      let m = length-append text (101 ∷ []) in
      let k : n ≡ length text = omega (arith, e, l, m) in
      record {
        text = ap (λ x. take n (drop 1 x)) dict_text ∙ ap (λ i. take i (text ++ 101 ∷ [])) k ∙ take-append_seam text (101 ∷ []);
        fits = all_less (values_of of_tree.0) (dict_fits [] of_tree.0 (subst (Fits 0) of_tree.1 s.fits)).1;
      }

  pub long : 2 ≤ length bytes
  long = let l = ap length dict_text in let m = length-append (pairs_text (pairs_of of_tree.0)) (101 ∷ []) in omega (arith, l, m)

  pub shows : (key : List ℕ) (o : Option (List ℕ)) → o ≡ option_map text_of (value_of of_tree.0 key) → Shows o (value_of pairs key)
  shows key o e =
      let f = dict_fits [] of_tree.0 (subst (Fits 0) of_tree.1 s.fits) in
      subst (λ x. Shows x (value_of pairs key)) (sym e) (subst (Shows (option_map text_of (value_of of_tree.0 key))) (sym (ap (λ l. value_of l key) of_tree.2 ∙ value_named of_tree.0 key f.2)) (shown of_tree.0 key (all_less (values_of of_tree.0) f.1)))
