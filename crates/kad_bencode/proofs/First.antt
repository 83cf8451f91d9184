-- What the machine has taken, within the limits, has no fault that is seen before.
use Rattle.std.proofs.Common.{◌≡◌, ℕ, suc, ◌+◌, ◌-◌, ◌<◌, ◌≤◌, true, false, List, [], ◌∷◌, ◌++◌, length, take, drop, get_or, Option, Some, None, ℤ, pos, negsuc, refl, sym, ap, ◌∙◌, arith, append_assoc, append-nil, inl, inr, ⊎_elim, length-append, length-drop}
use Rattle.std.proofs.lemmas.Bool.{cases_lt}
use Rattle.std.proofs.lemmas.List.{take_more, take-append-drop, length-take-le, take_all, take-append-le}
use Rattle.std.proofs.Math.Seq.{take-append-add}
use Rattle.kad_bencode.specs.Spelling.{integer_text, string_text, pairs_text, numeral, Fits}
use Rattle.kad_bencode.specs.Faults.{Open, InList, InPair, fronts, pairs_of, BeginsText, IsAt, IsDeep, IsTooBig, IsTwice, SeenAt, IsFirstFault}
use Rattle.kad_bencode.specs.Machine.{AsKey, State, Ready, Keyless, Whole, filled, step, run, start, Reached, FitsPairs, FitsOpen, FitsState}
use Rattle.kad_bencode.specs.declared.value.Value.{Value}
use Rattle.kad_bencode.specs.declared.value.Value.TheVariants as value
use Rattle.kad_bencode.specs.declared.value.Bad.{Bad}
use Rattle.kad_bencode.specs.declared.value.Bad.TheVariants.{NotBencode, Deep, NumberTooBig, KeyTwice, Trailing}
use Rattle.kad_bencode.proofs.Folds.{is_plain-int}
use Rattle.kad_bencode.proofs.Takes.{run_append, fronts_run, pairs_taken, integer_run, string_run}
use Rattle.kad_bencode.proofs.Said.{same_some, begins, no_text, whole_text}
use Rattle.kad_bencode.proofs.Limits.{run_back, filled_fits}

pub reached_more : (bytes : List ℕ) (i : ℕ) (st s : State) → Reached bytes i st → i < length bytes → step st (get_or bytes i 0) ≡ Some s → Reached bytes (i + 1) s
reached_more bytes i st s r h e = ap (run start) (take_more bytes i 0 h) ∙ run_append start (take i bytes) (get_or bytes i 0 ∷ []) ∙ ap (λ o. run o (get_or bytes i 0 ∷ [])) r ∙ e

pub reached_text : (bytes : List ℕ) (i j : ℕ) (mid : List ℕ) (st : State) (o : Option State) → Reached bytes i st → take j bytes ≡ take i bytes ++ mid → run (Some st) mid ≡ o → run start (take j bytes) ≡ o
reached_text bytes i j mid st o r t e = ap (run start) t ∙ run_append start (take i bytes) mid ∙ ap (λ o. run o mid) r ∙ e

-- the front of a front
pub front_then : (bytes : List ℕ) (i j : ℕ) → i ≤ j → take j bytes ≡ take i bytes ++ drop i (take j bytes)
front_then bytes i j h =
    let e : i + (j - i) ≡ j = omega arith in
    sym (take-append-drop i (take j bytes)) ∙ ap (λ l. l ++ drop i (take j bytes)) (shorter bytes i j h)
  where
    shorter : (bytes : List ℕ) (i j : ℕ) → i ≤ j → take i (take j bytes) ≡ take i bytes
    shorter bytes i j h =
        elim (cases_lt (length bytes) j) as (λ _. take i (take j bytes) ≡ take i bytes) [
          | inl out ↦ ap (take i) (take_all j bytes (omega arith))
          | inr within ↦ sym (take-append-le i (take j bytes) (drop j bytes) (omega (arith, length-take-le j bytes within))) ∙ ap (take i) (take-append-drop j bytes)
        ]

pub reached_back : (bytes : List ℕ) (i j : ℕ) (st s : State) → i ≤ j → Reached bytes j s → FitsState s → Reached bytes i st → FitsState st
reached_back bytes i j st s h r f q =
    run_back (drop i (take j bytes)) st s f (sym (reached_text bytes i j (drop i (take j bytes)) st (run (Some st) (drop i (take j bytes))) q (front_then bytes i j h) refl) ∙ r)

pub front_begins : (bytes : List ℕ) (i j : ℕ) (s : State) → i ≤ j → Reached bytes j s → BeginsText (take i bytes)
front_begins bytes i j s h r =
    let b : BeginsText (take j bytes) = begins (take j bytes) s r in
    (drop i (take j bytes) ++ b.0, (b.1.0, sym (append_assoc (take i bytes) (drop i (take j bytes)) b.0) ∙ ap (λ l. l ++ b.0) (sym (front_then bytes i j h)) ∙ b.1.1))

-- nothing follows a whole value
pub ended : (bytes : List ℕ) (i j : ℕ) (v : Value) (s : State) → i < j → i < length bytes → Reached bytes i (Whole v) → Reached bytes j s → ⊥
ended bytes i j v s h k r q =
    let e : run start (take (i + 1) bytes) ≡ None = ap (run start) (take_more bytes i 0 k) ∙ run_append start (take i bytes) (get_or bytes i 0 ∷ []) ∙ ap (λ o. run o (get_or bytes i 0 ∷ [])) r in
    no_text (take (i + 1) bytes) e (front_begins bytes (i + 1) j s (omega arith) q)

-- bytes that stand at a place are the next ones
pub standing : (bytes : List ℕ) (at : ℕ) (text : List ℕ) → 0 < length text → IsAt bytes at text → (at < length bytes) × (take (at + length text) bytes ≡ take at bytes ++ text)
standing bytes at text h t =
    let n : length (drop at bytes) ≡ length text + length t.0 = ap length t.1 ∙ length-append text t.0 in
    let k : at < length bytes = omega (arith, length-drop at bytes) in
    let l : length (take at bytes) ≡ at = length-take-le at bytes (omega arith) in (
      k,
      ap (λ m. take (m + length text) bytes) (sym l) ∙ ap (take (length (take at bytes) + length text)) (sym (take-append-drop at bytes)) ∙ take-append-add (take at bytes) (drop at bytes) (length text)
          ∙ ap (λ x. take at bytes ++ x) (ap (take (length text)) t.1 ∙ take-append-le (length text) text t.0 (omega arith) ∙ take_all (length text) text (omega arith)),
    )

pub integer_long : (n : ℤ) → 0 < length (integer_text n)
integer_long (pos n) = omega arith
integer_long (negsuc n) = omega arith

pub string_long : (s : List ℕ) → 0 < length (string_text s)
string_long s = omega (arith, length-append (numeral (length s)) (58 ∷ s))

pub front_reached : (bytes : List ℕ) (at : ℕ) (os : List Open) → take at bytes ≡ fronts os → Reached bytes at (Ready os)
front_reached bytes at os e = ap (run start) (e ∙ sym (append-nil (fronts os))) ∙ fronts_run os []

module _ (bytes : List ℕ) (s : ℕ) (st : State) (reached : Reached bytes s st) (fits : FitsState st) (within : s ≤ length bytes) where
  no_deep : (at : ℕ) → at < s → IsDeep bytes at → ⊥
  no_deep at h d =
      let r : Reached bytes at (Ready d.opens) = front_reached bytes at d.opens d.front in
      let many : length d.opens ≡ 16 = d.many in
      ⊎_elim
      (λ (t : IsAt bytes at (108 ∷ [])).
      let q : Reached bytes (at + 1) (Ready (InList [] ∷ d.opens)) = reached_text bytes at (at + 1) (108 ∷ []) (Ready d.opens) (Some (Ready (InList [] ∷ d.opens))) r (standing bytes at (108 ∷ []) (omega arith) t).1 refl in
      let f : FitsOpen (InList [] ∷ d.opens) = reached_back bytes (at + 1) s (Ready (InList [] ∷ d.opens)) st (omega arith) reached fits q in
      let o : suc (length d.opens) ≤ 16 = f.0 in omega arith)
      (λ (t : IsAt bytes at (100 ∷ [])).
      let q : Reached bytes (at + 1) (Keyless d.opens []) = reached_text bytes at (at + 1) (100 ∷ []) (Ready d.opens) (Some (Keyless d.opens [])) r (standing bytes at (100 ∷ []) (omega arith) t).1 refl in
      let f : FitsPairs d.opens [] × FitsOpen d.opens = reached_back bytes (at + 1) s (Keyless d.opens []) st (omega arith) reached fits q in
      let o : suc (length d.opens) ≤ 16 = f.0.0 in omega arith)
      d.begins

  no_big : (at seen : ℕ) → seen < s → IsTooBig bytes at seen → ⊥
  no_big at seen h d =
      let r : Reached bytes at (Ready d.opens) = front_reached bytes at d.opens d.front in
      let last : at + length (integer_text d.number) ≡ seen + 1 = d.last in
      let q : Reached bytes (at + length (integer_text d.number)) (filled d.opens (value.Int d.number)) =
      reached_text bytes at (at + length (integer_text d.number)) (integer_text d.number) (Ready d.opens) (Some (filled d.opens (value.Int d.number))) r (standing bytes at (integer_text d.number) (integer_long d.number) d.stands).1
      (ap (run (Some (Ready d.opens))) (sym (append-nil (integer_text d.number))) ∙ integer_run d.opens d.number []) in
      let f : FitsState (filled d.opens (value.Int d.number)) = reached_back bytes (at + length (integer_text d.number)) s (filled d.opens (value.Int d.number)) st (omega arith) reached fits q in
      let g : Fits (length d.opens) (value.Int d.number) = (filled_fits d.opens (value.Int d.number) f).1 in
      let e : true ≡ false = sym g.plain ∙ is_plain-int d.number ∙ d.big in cc

  no_twice : (at seen : ℕ) → seen < s → IsTwice bytes at seen → ⊥
  no_twice at seen h d =
      let last : at + length (string_text d.key) ≡ seen + 1 = d.last in
      let r : Reached bytes at (Keyless d.opens d.pairs) = ap (run start) d.front ∙ fronts_run d.opens (100 ∷ pairs_text (pairs_of d.pairs)) ∙ ap (run (Some (Keyless d.opens []))) (sym (append-nil (pairs_text (pairs_of d.pairs)))) ∙ pairs_taken d.pairs d.opens [] in
      let q : Reached bytes (at + length (string_text d.key)) (Ready (InPair d.pairs d.key ∷ d.opens)) =
      reached_text bytes at (at + length (string_text d.key)) (string_text d.key) (Keyless d.opens d.pairs) (Some (Ready (InPair d.pairs d.key ∷ d.opens))) r (standing bytes at (string_text d.key) (string_long d.key) d.stands).1
      (ap (run (Some (Keyless d.opens d.pairs))) (sym (append-nil (string_text d.key))) ∙ string_run (AsKey d.opens d.pairs) d.key []) in
      let f : FitsOpen (InPair d.pairs d.key ∷ d.opens) = reached_back bytes (at + length (string_text d.key)) s (Ready (InPair d.pairs d.key ∷ d.opens)) st (omega arith) reached fits q in
      let e : true ≡ false = sym d.twice ∙ f.1 in cc

  none_before : (other : Bad) (seen : ℕ) → seen < s → SeenAt bytes other seen → ⊥
  none_before (NotBencode at) seen h d =
      let same : seen ≡ at = d.1 in
      d.0.longest (omega arith) (front_begins bytes (at + 1) s st (omega arith) reached)
  none_before (Deep at) seen h d = let same : seen ≡ at = d.1 in no_deep at (omega arith) d.0
  none_before (NumberTooBig at) seen h d = no_big at seen h d
  none_before (KeyTwice at) seen h d = no_twice at seen h d
  none_before (Trailing at) seen h d =
      let same : seen ≡ at = d.1 in
      ended bytes at s d.0.whole.0 st (omega arith) d.0.more (whole_text (take at bytes) d.0.whole) reached

  -- where the machine stands within the limits, no fault was seen
  pub first : (other : Bad) (seen : ℕ) → SeenAt bytes other seen → s ≤ seen
  first other seen d = elim (cases_lt seen s) as (λ _. s ≤ seen) [ inl lt ↦ absurd (none_before other seen lt d) | inr le ↦ le ]

  -- the bytes don't go on as a text does
  pub not_bencode : (s < length bytes → step st (get_or bytes s 0) ≡ None) → ((v : Value) → st ≡ Whole v → ⊥) → IsFirstFault bytes (NotBencode s)
  not_bencode stuck partial = record {
    seen = s;
    here = (
      record {
        within = within;
        begins = begins (take s bytes) st reached;
        longest = λ h. no_text (take (s + 1) bytes) (ap (run start) (take_more bytes s 0 h) ∙ run_append start (take s bytes) (get_or bytes s 0 ∷ []) ∙ ap (λ o. run o (get_or bytes s 0 ∷ [])) reached ∙ stuck h);
        unfinished = λ t. partial t.0 (same_some (sym reached ∙ whole_text (take s bytes) t));
      },
      refl,
    );
    first = first;
  }
