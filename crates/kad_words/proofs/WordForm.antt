-- Words in pairs, seen from the front.
use Rattle.std.proofs.Common.{◌≡◌, ℕ, ◌-◌, ◌<◌, ◌≤◌, ◌⊎◌, inl, inr, Bool, true, false, cond, List, [], ◌∷◌, length, map, take, drop, get_or, Option, Some, None, is_some, refl, ap, ◌∙◌, arith, string_bytes, Bor}
use Rattle.std.specs.Prelude.{◌↔◌, IsTrue, String, bytes_eq, find, option_map, ◌==◌}
use Rattle.std.specs.List.{AllByRecursion, IsDistinct}
use Rattle.std.proofs.lemmas.List.Elements.{All-cons, All-head, All-nil, All-tail}
use Rattle.std.proofs.lemmas.Map.Keys.{IsDistinct-cons, IsDistinct-head, IsDistinct-tail}
use Rattle.std.proofs.lemmas.List.{take_all}
use Rattle.std.proofs.lemmas.Cmp.{nat_list_eq_equiv}
use Rattle.kad_words.specs.Table.{Entry, Word}
use Rattle.kad_words.specs.Plain.{Belongs, InPairs, pairs_of, value_of}

-- ---- a slice of words, cut after its first two

pub two_words : {Z : Type 0} (rest : List (String Z)) (name value : String Z) (n : ℕ) → n ≡ length rest → 2 ≤ n → name ≡ get_or rest 0 name → value ≡ get_or rest 1 value
    → map (λ w. string_bytes w) rest ≡ string_bytes name ∷ string_bytes value ∷ map (λ w. string_bytes w) (take (n - 2) (drop 2 rest))
two_words [] name value n e le is told = absurd (omega arith)
two_words (x ∷ []) name value n e le is told = absurd (omega arith)
two_words (x ∷ y ∷ zs) name value n e le is told =
    let all : n - 2 ≡ length zs = omega arith in
    rw (all, take_all (length zs) zs (omega arith), is, told) refl

-- ---- options that stand once

found : (b : Bool) (p : Word × Word) (rest : Option (Word × Word)) → option_map (λ (q : Word × Word). q.1) (cond b (Some p) rest) ≡ None
    → (b ≡ false) × (option_map (λ (q : Word × Word). q.1) rest ≡ None)
found true p rest h = cc h
found false p rest h = (refl, h)

passed : (b : Bool) (p : Word × Word) (rest : Option (Word × Word)) → b ≡ false → option_map (λ (q : Word × Word). q.1) rest ≡ None
    → option_map (λ (q : Word × Word). q.1) (cond b (Some p) rest) ≡ None
passed b p rest e h = rw e h

others_from_none : (o : Word) (pairs : List (Word × Word)) → value_of o pairs ≡ None → AllByRecursion (λ y. bytes_eq o y ≡ false) (map (λ (p : Word × Word). p.0) pairs)
others_from_none o [] h = tt
others_from_none o (p ∷ pairs) h =
    let f = found (bytes_eq p.0 o) p (find (λ (q : Word × Word). bytes_eq q.0 o) pairs) h in
    (nat_list_eq_equiv.symm o p.0 ∙ f.0, others_from_none o pairs f.1)

none_from_others : (o : Word) (pairs : List (Word × Word)) → AllByRecursion (λ y. bytes_eq o y ≡ false) (map (λ (p : Word × Word). p.0) pairs) → value_of o pairs ≡ None
none_from_others o [] h = refl
none_from_others o (p ∷ pairs) h =
    passed (bytes_eq p.0 o) p (find (λ (q : Word × Word). bytes_eq q.0 o) pairs) (nat_list_eq_equiv.symm p.0 o ∙ h.0) (none_from_others o pairs h.1)

-- ---- one pair more in front

pub pair_in_front : (options : List Entry) (more : List Word) (o v : Word) → Belongs options (o, v) → value_of o (pairs_of more) ≡ None
    → InPairs options more (pairs_of more) ↔ InPairs options (o ∷ v ∷ more) (pairs_of (o ∷ v ∷ more))
pair_in_front options more o v known once = (
  λ h. record {
    joined = ap (λ (l : List Word). o ∷ v ∷ l) h.joined;
    belong = All-cons (λ (p : Word × Word). Belongs options p) (o, v) (pairs_of more) known h.belong;
    once = IsDistinct-cons bytes_eq o (map (λ (p : Word × Word). p.0) (pairs_of more)) (others_from_none o (pairs_of more) once) h.once;
  },
  λ h. record {
    joined = (let e = h.joined in cc);
    belong = All-tail (λ (p : Word × Word). Belongs options p) (o, v) (pairs_of more) h.belong;
    once = IsDistinct-tail bytes_eq o (map (λ (p : Word × Word). p.0) (pairs_of more)) h.once;
  },
)

pub unknown : (options : List Entry) (more : List Word) (o v : Word) → (Belongs options (o, v) → ⊥) → InPairs options (o ∷ v ∷ more) (pairs_of (o ∷ v ∷ more)) → ⊥
unknown options more o v other h = other (All-head (λ (p : Word × Word). Belongs options p) (o, v) (pairs_of more) h.belong)

pub twice : (options : List Entry) (more : List Word) (o v : Word) → is_some (value_of o (pairs_of more)) ≡ true → InPairs options (o ∷ v ∷ more) (pairs_of (o ∷ v ∷ more)) → ⊥
twice options more o v again h =
    let n = none_from_others o (pairs_of more) (IsDistinct-head bytes_eq o (map (λ (p : Word × Word). p.0) (pairs_of more)) h.once) in
    cc (ap is_some n, again)

-- ---- fewer than two words

pub no_pairs : (words : List Word) → length words < 2 → pairs_of words ≡ []
no_pairs [] lt = refl
no_pairs (w ∷ []) lt = refl
no_pairs (w ∷ x ∷ rest) lt = absurd (omega arith)

none_twice : IsDistinct bytes_eq []
unfolding IsDistinct
none_twice = tt

pub none_in_pairs : (options : List Entry) → InPairs options [] []
none_in_pairs options = record { joined = refl; belong = All-nil (λ (p : Word × Word). Belongs options p); once = none_twice }

pub ends_in_pairs : (options : List Entry) (words : List Word) (b : Bool) → length words < 2 → b ≡ (length words == 0) → IsTrue b ↔ InPairs options words (pairs_of words)
ends_in_pairs options [] b lt e = (λ t. none_in_pairs options, λ h. e)
ends_in_pairs options (w ∷ []) b lt e = (λ t. cc (t, e), λ h. (let j = h.joined in cc))
ends_in_pairs options (w ∷ x ∷ rest) b lt e = absurd (omega arith)

-- ---- the two ways of a turn

-- what `value_of` answered
pub answered : (r : Option (Bor (List ℕ))) (x : Option Word) → option_map (λ v. v.now) r ≡ x → is_some r ≡ is_some x
answered None x e = ap is_some e
answered (Some v) x e = ap is_some e

pub not_plain : (options : List Entry) (rest more : List Word) (o v shown told : Word) → rest ≡ o ∷ v ∷ more → shown ≡ o → told ≡ v
    → (Belongs options (shown, told) → ⊥) ⊎ (is_some (value_of shown (pairs_of more)) ≡ true) → InPairs options rest (pairs_of rest) → ⊥
not_plain options rest more o v shown told e s t (inl other) h = unknown options more o v (rw (s, t) at other) (rw e at h)
not_plain options rest more o v shown told e s t (inr again) h = twice options more o v (rw s at again) (rw e at h)

none_from_test : (x : Option Word) → is_some x ≡ false → x ≡ None
none_from_test None e = refl
none_from_test (Some v) e = cc e

pub goes_on : (P : Type 0) (options : List Entry) (rest more : List Word) (o v shown told : Word) → rest ≡ o ∷ v ∷ more → shown ≡ o → told ≡ v → Belongs options (shown, told)
    → is_some (value_of shown (pairs_of more)) ≡ false → InPairs options rest (pairs_of rest) ↔ P → InPairs options more (pairs_of more) ↔ P
goes_on P options rest more o v shown told e s t known once whole =
    let all = rw e at whole in
    let front = pair_in_front options more o v (rw (s, t) at known) (none_from_test (value_of o (pairs_of more)) (rw s at once)) in
    (λ h. all.0 (front.0 h), λ p. front.1 (all.1 p))
