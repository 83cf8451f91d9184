-- What is kept while bytes are checked.
use Rattle.std.proofs.Common.{◌≡◌, ◌≢◌, ℕ, suc, ◌+◌, ◌-◌, ◌≤◌, Bool, true, false, cond, ◌||◌, List, [], ◌∷◌, ◌++◌, length, take, drop, Option, Some, option_map, is_some, Result, Ok, Err, IsOk, refl, sym, ap, ◌∙◌, subst, arith, append_assoc}
use Rattle.std.specs.List.{AllByRecursion}
use Rattle.std.specs.Ordering.{is_eq}
use Rattle.std.proofs.lemmas.List.{length-take-le, drop-take}
use Rattle.std.proofs.Math.Seq.{drop-append_seam}
use Rattle.kad_bencode.specs.Keys.{key_cmp, keys_of, value_of}
use Rattle.kad_bencode.specs.Spelling.{pairs_text, text_of, Fits, Spells, values_of, has_key}
use Rattle.kad_bencode.specs.Faults.{Open, fronts, pairs_of, IsFirstFault}
use Rattle.kad_bencode.specs.Machine.{Keyless, Reached}
use Rattle.kad_bencode.specs.declared.entries.Pair.{Pair}
use Rattle.kad_bencode.specs.declared.value.Value.{Value}
use Rattle.kad_bencode.specs.declared.value.Bad.{Bad}
use Rattle.kad_bencode.proofs.Said.{run_front, same_some}
use Rattle.kad_bencode.proofs.Nested.{PairsSoFar}
use Rattle.kad_bencode.proofs.Faults.{no_fault, one_fault}
use Rattle.kad_bencode.specs.Scanning.{Scans}
use Rattle.std.specs.declared.cmp.Ordering.TheVariants.{Less, Equal, Greater}
use Rattle.std.proofs.lemmas.Cmp.{nat_list_cmp_total}
use Rattle.std.proofs.lemmas.Map.Lookups.{exact_bytes}
use Rattle.kad_bencode.proofs.Limits.{keys_push, all_push}
use Rattle.kad_bencode.proofs.Places.{turned, turned_back}
use Rattle.kad_bencode.proofs.Looking.{same_key}
use Rattle.kad_bencode.specs.Finding.{ArePairs, IsUpTo, IsNew, IsAbove, IsNext}

-- a fault that is handed on
pub handed : {B : Type 0} (bytes : List ℕ) (r : Result B Bad) (e y : Bad) (Q : B → Type 0) → r ≡ Err y → y ≡ e → IsFirstFault bytes e → Scans bytes r Q
handed {B} bytes r e y Q same is h = subst (λ (x : Result B Bad). Scans bytes x Q) (sym (same ∙ ap Err is)) h

pub widened : {A : Type 0} (bytes : List ℕ) (r : Result A Bad) (P Q : A → Type 0) → ((x : A) → P x → Q x) → Scans bytes r P → Scans bytes r Q
widened bytes (Ok x) P Q f h = f x h
widened bytes (Err bad) P Q f h = h

pub key_there : (ps : List (Pair Value)) (key : List ℕ) → is_some (option_map text_of (value_of ps key)) ≡ has_key (keys_of ps) key
key_there [] key = refl
key_there (p ∷ ps) key = first (is_eq (key_cmp key p.key)) p.value (value_of ps key) ∙ ap (λ b. is_eq (key_cmp key p.key) || b) (key_there ps key)
  where
    first : (b : Bool) (v : Value) (o : Option Value) → is_some (option_map text_of (cond b (Some v) o)) ≡ (b || is_some (option_map text_of o))
    first true v o = refl
    first false v o = refl

pub fewer : (n : ℕ) (vs : List Value) → AllByRecursion (Fits n) vs → AllByRecursion (Fits 0) vs
fewer n [] a = tt
fewer n (v ∷ vs) a = (record { depth = let d = a.0.depth in omega (arith, d); plain = a.0.plain }, fewer n vs a.1)

module _ (bytes : List ℕ) (from at : ℕ) (os : List Open) (l : PairsSoFar bytes at os) (after : from ≤ at) (within : at ≤ length bytes) (begins : Reached bytes from (Keyless os [])) where
  pairs_between : take (at - from) (drop from bytes) ≡ pairs_text (pairs_of l.pairs)
  pairs_between =
      let e : from + (at - from) ≡ at = omega (arith, after) in
      let front : take from bytes ≡ fronts os ++ 100 ∷ [] = run_front (take from bytes) (Keyless os []) begins in
      let all : take at bytes ≡ (fronts os ++ 100 ∷ []) ++ pairs_text (pairs_of l.pairs) = run_front (take at bytes) (Keyless os l.pairs) l.reached ∙ sym (append_assoc (fronts os) (100 ∷ []) (pairs_text (pairs_of l.pairs))) in
      let n : from ≡ length (fronts os ++ 100 ∷ []) = sym (length-take-le from bytes (omega (arith, after, within))) ∙ ap length front in
      sym (drop-take from (at - from) bytes)
      ∙ ap (λ m. drop from (take m bytes)) e
      ∙ ap (drop from) all
      ∙ ap (λ m. drop m ((fronts os ++ 100 ∷ []) ++ pairs_text (pairs_of l.pairs))) n
      ∙ drop-append_seam (fronts os ++ 100 ∷ []) (pairs_text (pairs_of l.pairs))

  pub are_pairs : ArePairs (take (at - from) (drop from bytes)) l.pairs
  are_pairs = record { text = pairs_between; fits = fewer (suc (length os)) (values_of l.pairs) l.fits.1 }

-- ---- the greatest key

above_all : (keys : List (List ℕ)) (greatest key : List ℕ) → key_cmp key greatest ≡ Greater → IsUpTo greatest keys → (has_key keys key ≡ false) × IsUpTo key keys
above_all [] greatest key h u = (refl, tt)
above_all (k ∷ ks) greatest key h u =
    let a : key_cmp key k ≡ Greater = above k u.0 in
    let r = above_all ks greatest key h u.1 in
    ((λ i. is_eq (a i) || r.0 i), ((λ e. let f : Greater ≡ Less = sym a ∙ e in cc), r.1))
  where
    above : (k : List ℕ) → key_cmp greatest k ≢ Less → key_cmp key k ≡ Greater
    above k n =
        elim (key_cmp greatest k) as (λ o. key_cmp greatest k ≡ o → key_cmp key k ≡ Greater) [
          | Less ↦ λ e. absurd (n e)
          | Equal ↦ λ e. ap (key_cmp key) (sym (exact_bytes greatest k e)) ∙ h
          | Greater ↦ λ e. turned k key (nat_list_cmp_total.trans k greatest key (turned_back greatest k e) (turned_back key greatest h))
        ] refl

pub new_greatest : (keys : List (List ℕ)) (greatest key : List ℕ) → key_cmp key greatest ≡ Greater → IsUpTo greatest keys → IsNew key keys key
new_greatest keys greatest key h u =
    let r = above_all keys greatest key h u in
    record { new = r.0; others = r.1; itself = λ e. let f : false ≡ true = sym (ap is_eq e) ∙ same_key key in cc }

pub same_pairs : (bytes : List ℕ) (at : ℕ) (os : List Open) (ps qs : List (Pair Value)) → Reached bytes at (Keyless os ps) → Reached bytes at (Keyless os qs) → ps ≡ qs
same_pairs bytes at os ps qs a b = let e : Keyless os ps ≡ Keyless os qs = same_some (sym a ∙ b) in cc

pub up_to_more : (greatest : List ℕ) (ps : List (Pair Value)) (key : List ℕ) (v : Value) → IsNew greatest (keys_of ps) key → IsUpTo greatest (keys_of (ps ++ record { key = key; value = v } ∷ []))
up_to_more greatest ps key v n =
    subst (IsUpTo greatest) (sym (keys_push ps key v)) (all_push (λ k. key_cmp greatest k ≢ Less) (keys_of ps) key n.others n.itself)

-- the first key, or one above the greatest
pub next_key : (bytes : List ℕ) (from at : ℕ) (os : List Open) (ps : List (Pair Value)) → Reached bytes from (Keyless os []) → Reached bytes at (Keyless os ps) → (first : Bool) → (first ≡ true → at ≡ from) → (greatest key : List ℕ) (told : Bool) → told ≡ true → IsNext first (key_cmp key greatest) told → IsUpTo greatest (keys_of ps) → IsNew key (keys_of ps) key
next_key bytes from at os ps r g true e greatest key told t h u =
    let empty : ps ≡ [] = same_pairs bytes from os ps [] (subst (λ n. Reached bytes n (Keyless os ps)) (e refl) g) r in
    subst (λ l. IsNew key (keys_of l) key) (sym empty) (record { new = refl; others = tt; itself = λ f. let z : false ≡ true = sym (ap is_eq f) ∙ same_key key in cc })
next_key bytes from at os ps r g false e greatest key told t h u = new_greatest (keys_of ps) greatest key (subst (IsAbove (key_cmp key greatest)) t h) u

-- ---- the answer is the only one

pub checked : (bytes : List ℕ) (r : Result (Unit {0}) Bad) → Scans bytes r (λ _. (v : Value) × Spells bytes v) → (v : Value) → Spells bytes v → IsOk r
checked bytes (Ok u) h v s = refl
checked bytes (Err bad) h v s = absurd (no_fault bytes v bad h.seen s h.here)

pub refused : (bytes : List ℕ) (r : Result (Unit {0}) Bad) → Scans bytes r (λ _. (v : Value) × Spells bytes v) → (bad : Bad) → IsFirstFault bytes bad → r ≡ Err bad
refused bytes (Ok u) h bad f = absurd (no_fault bytes h.0 bad f.seen h.1 f.here)
refused bytes (Err other) h bad f = ap Err (one_fault bytes other bad h f)
