-- The steps of the reader's parts.
use Rattle.std.proofs.Common.{◌≡◌, ℕ, suc, ◌+◌, ◌-◌, ◌*◌, ◌^◌, ◌<◌, ◌≤◌, min, Bool, true, false, cond, List, [], ◌∷◌, ◌++◌, length, take, drop, get_or, Some, None, ℤ, pos, negsuc, nat_eq, refl, sym, ap, ◌∙◌, subst, arith, append_assoc, append-nil, inl, inr, length-append, length-drop, w64}
use Rattle.std.proofs.lemmas.Bool.{cases_lt}
use Rattle.std.proofs.lemmas.Bool.Decides.{nat_tests}
use Rattle.std.proofs.lemmas.List.{take_more, take-append-drop, length-take-le, take_all}
use Rattle.std.proofs.lemmas.Int.{to_z-of_z}
use Rattle.std.proofs.Math.Seq.{drop-append_seam, take-append-add}
use mir.Val.{SFits, of_z, to_z}
use Rattle.kad_bencode.specs.Spelling.{numeral, integer_text, string_text, is_i64}
use Rattle.kad_bencode.specs.Faults.{Open, fronts, IsAt, IsFirstFault}
use Rattle.kad_bencode.specs.Machine.{Place, AsValue, AsKey, State, Ready, Whole, Sign, Minus, Zero, AwaitsInteger, Digits, NoLength, Length, Body, filled, stored, before, signed, is_digit, is_nonzero, step, run, Reached, FitsOpen, FitsPlace, FitsState, DigitsSoFar, ReadsDigits, sign_state, AwaitsNumber, ReadsInteger, HasByte, HasNumber, AwaitsString, ReadsString}
use Rattle.kad_bencode.specs.declared.value.Value.{Value}
use Rattle.kad_bencode.specs.declared.value.Value.TheVariants as value
use Rattle.kad_bencode.specs.declared.value.Bad.TheVariants.{NotBencode, NumberTooBig}
use Rattle.kad_bencode.proofs.Numerals.{numeral_digit, numeral_more}
use Rattle.kad_bencode.proofs.Takes.{numeral_run, digit_sign, digit_minus, digit_digits, digit_before, digit_length, string_run}
use Rattle.kad_bencode.proofs.Said.{nonzero_low, nonzero_high, run_front, said}
use Rattle.kad_bencode.proofs.First.{reached_more, reached_text, not_bencode, first}

pub digits_begin : (bytes : List ℕ) (first : ℕ) → first < length bytes → is_nonzero (get_or bytes first 0) ≡ true → DigitsSoFar bytes first (get_or bytes first 0 - 48) (first + 1)
digits_begin bytes first h e =
    let low : 49 ≤ get_or bytes first 0 = nonzero_low (get_or bytes first 0) e in
    let high : get_or bytes first 0 < 58 = nonzero_high (get_or bytes first 0) e in
    let back : 48 + (get_or bytes first 0 - 48) ≡ get_or bytes first 0 = omega arith in
    record {
      number = get_or bytes first 0 - 48;
      positive = omega arith;
      text = take_more bytes first 0 h ∙ ap (λ l. take first bytes ++ l) (sym (numeral_digit (get_or bytes first 0 - 48) (omega arith) (omega arith) ∙ ap (λ x. x ∷ []) back));
      value = omega arith;
      within = omega arith;
      after = omega arith;
    }

pub digits_step : (bytes : List ℕ) (first n next m : ℕ) → DigitsSoFar bytes first n next → next < length bytes → 48 ≤ get_or bytes next 0 → get_or bytes next 0 ≤ 57 → m ≡ min (min (n * 10) (2 ^ 64 - 1) + (get_or bytes next 0 - 48)) (2 ^ 64 - 1) → DigitsSoFar bytes first m (next + 1)
digits_step bytes first n next m d h low high e =
    let back : 48 + (get_or bytes next 0 - 48) ≡ get_or bytes next 0 = omega arith in
    let value : n ≡ min d.number (2 ^ 64 - 1) = d.value in
    let positive : 0 < d.number = d.positive in
    let after : first < next = d.after in
    record {
      number = d.number * 10 + (get_or bytes next 0 - 48);
      positive = omega arith;
      text = take_more bytes next 0 h ∙ ap (λ l. l ++ get_or bytes next 0 ∷ []) d.text ∙ append_assoc (take first bytes) (numeral d.number) (get_or bytes next 0 ∷ [])
          ∙ ap (λ l. take first bytes ++ l) (sym (numeral_more d.number (get_or bytes next 0 - 48) positive (omega arith) ∙ ap (λ x. numeral d.number ++ x ∷ []) back));
      value = omega arith;
      within = omega arith;
      after = omega arith;
    }

pub not_digit : (b : ℕ) → b < 48 → is_digit b ≡ false
not_digit b h = grind (arith, nat_tests)

pub not_digit_above : (b : ℕ) → 57 < b → is_digit b ≡ false
not_digit_above b h = grind (arith, nat_tests)

-- ---- integers

sign_fits : (negative : Bool) (os : List Open) → FitsOpen os → FitsState (sign_state negative os)
sign_fits false os f = f
sign_fits true os f = f

sign_partial : (negative : Bool) (os : List Open) (v : Value) → sign_state negative os ≡ Whole v → ⊥
sign_partial false os v e = cc
sign_partial true os v e = cc

pub no_number : (bytes : List ℕ) (at next : ℕ) (negative : Bool) (os : List Open) → AwaitsNumber bytes at next negative os → next ≤ length bytes → HasNumber bytes next false → IsFirstFault bytes (NotBencode next)
no_number bytes at next negative os a h n =
    not_bencode bytes next (sign_state negative os) a.reached (sign_fits negative os a.fits) h (λ k. a.goes k (n k)) (sign_partial negative os)

pub number_reached : (bytes : List ℕ) (at next : ℕ) (negative : Bool) (os : List Open) (n end : ℕ) → AwaitsNumber bytes at next negative os → (d : DigitsSoFar bytes next n end) → Reached bytes end (Digits os negative d.number)
number_reached bytes at next false os n end a d =
    reached_text bytes next end (numeral d.number) (Sign os) (Some (Digits os false d.number)) a.reached d.text
    (ap (run (Some (Sign os))) (sym (append-nil (numeral d.number))) ∙ numeral_run (Sign os) (Digits os false) (digit_sign os) (digit_digits os false) d.number d.positive [])
number_reached bytes at next true os n end a d =
    reached_text bytes next end (numeral d.number) (Minus os) (Some (Digits os true d.number)) a.reached d.text
    (ap (run (Some (Minus os))) (sym (append-nil (numeral d.number))) ∙ numeral_run (Minus os) (Digits os true) (digit_minus os) (digit_digits os true) d.number d.positive [])

pub different : (a b : ℕ) → (a ≡ b → ⊥) → nat_eq a b ≡ false
different a b h = grind (arith, nat_tests)

stuck_digits : (os : List Open) (s : Bool) (n b : ℕ) → (b ≡ 101 → ⊥) → is_digit b ≡ false → step (Digits os s n) b ≡ None
stuck_digits os s n b h e =
    ap (λ c. cond c (Some (filled os (value.Int (signed s n)))) (cond (is_digit b) (Some (Digits os s (n * 10 + (b - 48)))) None)) (different b 101 h)
    ∙ ap (λ c. cond c (Some (Digits os s (n * 10 + (b - 48)))) None) e

pub number_unended : (bytes : List ℕ) (at next : ℕ) (negative : Bool) (os : List Open) (n end : ℕ) → AwaitsNumber bytes at next negative os → ReadsDigits bytes next n end → HasByte bytes end 101 false → IsFirstFault bytes (NotBencode end)
number_unended bytes at next negative os n end a d h =
    not_bencode bytes end (Digits os negative d.digits.number) (number_reached bytes at next negative os n end a d.digits) a.fits d.digits.within
    (λ k. stuck_digits os negative d.digits.number (get_or bytes end 0) (h k) (d.ends k)) (λ v e. cc)

step_end : (os : List Open) (s : Bool) (n b : ℕ) → b ≡ 101 → step (Digits os s n) b ≡ Some (filled os (value.Int (signed s n)))
step_end os s n b e = ap (step (Digits os s n)) e

-- a number of 64 bits wasn't held up
whole_number : (negative : Bool) (n m : ℕ) → n ≡ min m (2 ^ 64 - 1) → is_i64 (signed negative n) ≡ true → m ≡ n
whole_number false n m e h = let k : n < 2 ^ 63 = grind (arith, nat_tests) in omega arith
whole_number true n m e h = let k : n - 1 < 2 ^ 63 = grind (arith, nat_tests) in omega arith

big_number : (negative : Bool) (n m : ℕ) → n ≡ min m (2 ^ 64 - 1) → is_i64 (signed negative n) ≡ false → is_i64 (signed negative m) ≡ false
big_number false n m e h = let k : 2 ^ 63 ≤ n = grind (arith, nat_tests) in let l : 2 ^ 63 ≤ m = omega arith in grind (arith, nat_tests)
big_number true n m e h = let k : 2 ^ 63 ≤ n - 1 = grind (arith, nat_tests) in let l : 2 ^ 63 ≤ m - 1 = omega arith in grind (arith, nat_tests)

pub bits : (z : ℤ) → is_i64 z ≡ true → to_z w64 (of_z w64 z) ≡ z
bits z h = to_z-of_z w64 z (fits z h)
  where
    fits : (z : ℤ) → is_i64 z ≡ true → SFits w64 z
    fits (pos n) h = let k : n < 2 ^ 63 = grind (arith, nat_tests) in record { sfits = k }
    fits (negsuc n) h = let k : n < 2 ^ 63 = grind (arith, nat_tests) in record { sfits = k }

pub number_read : (bytes : List ℕ) (at next : ℕ) (negative : Bool) (os : List Open) (n end : ℕ) (z : ℤ) → AwaitsNumber bytes at next negative os → ReadsDigits bytes next n end → HasByte bytes end 101 true → z ≡ signed negative n → is_i64 (signed negative n) ≡ true → ReadsInteger bytes at os (to_z w64 (of_z w64 z)) (end + 1)
number_read bytes at next negative os n end z a d h e i =
    let m : ℕ = d.digits.number in
    let same : signed negative m ≡ z = ap (signed negative) (whole_number negative n m d.digits.value i) ∙ sym e in
    let plain : is_i64 z ≡ true = ap is_i64 e ∙ i in
    let whole : to_z w64 (of_z w64 z) ≡ z = bits z plain in
    let after : at < next = a.after in
    let behind : next < end = d.digits.after in
    let end_in : end < length bytes = h.0 in
    record {
      reached = reached_more bytes end (Digits os negative m) (filled os (value.Int (to_z w64 (of_z w64 z)))) (number_reached bytes at next negative os n end a d.digits) h.0
          (step_end os negative m (get_or bytes end 0) h.1 ∙ ap (λ x. Some (filled os (value.Int x))) (same ∙ sym whole));
      plain = ap is_i64 whole ∙ plain;
      within = omega arith;
      after = omega arith;
    }

-- what comes between two places stands at the first
pub stands_between : (bytes : List ℕ) (i j : ℕ) (text : List ℕ) → i ≤ length bytes → take j bytes ≡ take i bytes ++ text → IsAt bytes i text
stands_between bytes i j text h e =
    let whole : bytes ≡ take i bytes ++ (text ++ drop j bytes) = sym (take-append-drop j bytes) ∙ ap (λ l. l ++ drop j bytes) e ∙ append_assoc (take i bytes) text (drop j bytes) in
    (drop j bytes, ap (λ n. drop n bytes) (sym (length-take-le i bytes h)) ∙ ap (drop (length (take i bytes))) whole ∙ drop-append_seam (take i bytes) (text ++ drop j bytes))

pub length_between : (bytes : List ℕ) (i j : ℕ) (text : List ℕ) → i ≤ length bytes → j ≤ length bytes → take j bytes ≡ take i bytes ++ text → i + length text ≡ j
length_between bytes i j text h k e = omega (arith, length-take-le i bytes h, length-take-le j bytes k, ap length e, length-append (take i bytes) text)

number_text : (bytes : List ℕ) (at next : ℕ) (negative : Bool) (os : List Open) (n end : ℕ) → AwaitsNumber bytes at next negative os → (d : DigitsSoFar bytes next n end) → HasByte bytes end 101 true → take (end + 1) bytes ≡ take at bytes ++ integer_text (signed negative d.number)
number_text bytes at next negative os n end a d h =
    take_more bytes end 0 h.0 ∙ (λ i. run_front (take end bytes) (Digits os negative d.number) (number_reached bytes at next negative os n end a d) i ++ h.1 i ∷ [])
    ∙ apart negative os d.number d.positive
    ∙ ap (λ l. l ++ integer_text (signed negative d.number)) (sym (run_front (take at bytes) (Ready os) a.begins))
  where
    apart : (s : Bool) (os : List Open) (n : ℕ) → 0 < n → said (Digits os s n) ++ 101 ∷ [] ≡ fronts os ++ integer_text (signed s n)
    apart false os n h = append_assoc (fronts os ++ 105 ∷ []) (numeral n) (101 ∷ []) ∙ append_assoc (fronts os) (105 ∷ []) (numeral n ++ 101 ∷ [])
    apart true os n h = append_assoc (fronts os ++ 105 ∷ 45 ∷ []) (numeral n) (101 ∷ []) ∙ append_assoc (fronts os) (105 ∷ 45 ∷ []) (numeral n ++ 101 ∷ [])
        ∙ (let e : suc (n - 1) ≡ n = omega arith in ap (λ m. fronts os ++ (105 ∷ 45 ∷ numeral m ++ 101 ∷ [])) (sym e))

pub number_big : (bytes : List ℕ) (at next : ℕ) (negative : Bool) (os : List Open) (n end : ℕ) → AwaitsNumber bytes at next negative os → ReadsDigits bytes next n end → HasByte bytes end 101 true → is_i64 (signed negative n) ≡ false → IsFirstFault bytes (NumberTooBig at)
number_big bytes at next negative os n end a d h i =
    let text : take (end + 1) bytes ≡ take at bytes ++ integer_text (signed negative d.digits.number) = number_text bytes at next negative os n end a d.digits h in
    let after : at < next = a.after in
    let behind : next < end = d.digits.after in
    let end_in : end < length bytes = h.0 in
    record {
      seen = end;
      here = record {
        opens = os;
        front = run_front (take at bytes) (Ready os) a.begins;
        number = signed negative d.digits.number;
        stands = stands_between bytes at (end + 1) (integer_text (signed negative d.digits.number)) (omega arith) text;
        last = length_between bytes at (end + 1) (integer_text (signed negative d.digits.number)) (omega arith) (omega arith) text;
        big = big_number negative n d.digits.number d.digits.value i;
      };
      first = first bytes end (Digits os negative d.digits.number) (number_reached bytes at next negative os n end a d.digits) a.fits d.digits.within;
    }

-- ---- the front of an integer

at_place : (bytes : List ℕ) (i j : ℕ) (st : State) → i ≡ j → Reached bytes i st → Reached bytes j st
at_place bytes i j st e r = subst (λ k. Reached bytes k st) e r

sign_reached : (bytes : List ℕ) (at : ℕ) (os : List Open) → Reached bytes at (Ready os) → at < length bytes → get_or bytes at 0 ≡ 105 → Reached bytes (at + 1) (Sign os)
sign_reached bytes at os r h e = reached_more bytes at (Ready os) (Sign os) r h (ap (step (Ready os)) e)

zero_reached : (bytes : List ℕ) (at : ℕ) (os : List Open) → Reached bytes at (Ready os) → at < length bytes → get_or bytes at 0 ≡ 105 → HasByte bytes (at + 1) 48 true → Reached bytes (at + 2) (Zero os)
zero_reached bytes at os r h e z =
    at_place bytes (at + 1 + 1) (at + 2) (Zero os) (omega arith) (reached_more bytes (at + 1) (Sign os) (Zero os) (sign_reached bytes at os r h e) z.0 (ap (step (Sign os)) z.1))

pub zero_unended : (bytes : List ℕ) (at : ℕ) (os : List Open) → AwaitsInteger bytes at os → at < length bytes → get_or bytes at 0 ≡ 105 → HasByte bytes (at + 1) 48 true → HasByte bytes (at + 2) 101 false → IsFirstFault bytes (NotBencode (at + 2))
zero_unended bytes at os a h e z n =
    let in_front : at + 1 < length bytes = z.0 in
    not_bencode bytes (at + 2) (Zero os) (zero_reached bytes at os a.begins h e z) a.fits (omega arith)
    (λ k. ap (λ c. cond c (Some (filled os (value.Int (pos 0)))) None) (different (get_or bytes (at + 2) 0) 101 (n k))) (λ v q. cc)

pub zero_read : (bytes : List ℕ) (at : ℕ) (os : List Open) → AwaitsInteger bytes at os → at < length bytes → get_or bytes at 0 ≡ 105 → HasByte bytes (at + 1) 48 true → HasByte bytes (at + 2) 101 true → ReadsInteger bytes at os (pos 0) (at + 3)
zero_read bytes at os a h e z n =
    let in_end : at + 2 < length bytes = n.0 in
    record {
      reached = at_place bytes (at + 2 + 1) (at + 3) (filled os (value.Int (pos 0))) (omega arith) (reached_more bytes (at + 2) (Zero os) (filled os (value.Int (pos 0))) (zero_reached bytes at os a.begins h e z) n.0 (ap (step (Zero os)) n.1));
      plain = refl;
      within = omega arith;
      after = omega arith;
    }

pub awaits_minus : (bytes : List ℕ) (at : ℕ) (os : List Open) → AwaitsInteger bytes at os → at < length bytes → get_or bytes at 0 ≡ 105 → HasByte bytes (at + 1) 45 true → AwaitsNumber bytes at (at + 2) true os
awaits_minus bytes at os a h e m = record {
  begins = a.begins;
  reached = at_place bytes (at + 1 + 1) (at + 2) (Minus os) (omega arith) (reached_more bytes (at + 1) (Sign os) (Minus os) (sign_reached bytes at os a.begins h e) m.0 (ap (step (Sign os)) m.1));
  fits = a.fits;
  after = omega arith;
  goes = λ k n. ap (λ c. cond c (Some (Digits os true (get_or bytes (at + 2) 0 - 48))) None) n;
}

stuck_sign : (os : List Open) (b : ℕ) → (b ≡ 45 → ⊥) → (b ≡ 48 → ⊥) → is_nonzero b ≡ false → step (Sign os) b ≡ None
stuck_sign os b m z n =
    ap (λ c. cond c (Some (Minus os)) (cond (nat_eq b 48) (Some (Zero os)) (cond (is_nonzero b) (Some (Digits os false (b - 48))) None))) (different b 45 m)
    ∙ ap (λ c. cond c (Some (Zero os)) (cond (is_nonzero b) (Some (Digits os false (b - 48))) None)) (different b 48 z)
    ∙ ap (λ c. cond c (Some (Digits os false (b - 48))) None) n

pub awaits_plus : (bytes : List ℕ) (at : ℕ) (os : List Open) → AwaitsInteger bytes at os → at < length bytes → get_or bytes at 0 ≡ 105 → HasByte bytes (at + 1) 48 false → HasByte bytes (at + 1) 45 false → AwaitsNumber bytes at (at + 1) false os
awaits_plus bytes at os a h e z m = record {
  begins = a.begins;
  reached = sign_reached bytes at os a.begins h e;
  fits = a.fits;
  after = omega arith;
  goes = λ k n. stuck_sign os (get_or bytes (at + 1) 0) (m k) (z k) n;
}

-- ---- strings

before_fits : (p : Place) → FitsPlace p → FitsState (before p)
before_fits (AsValue os) f = f
before_fits (AsKey os ps) f = f

before_partial : (p : Place) (v : Value) → before p ≡ Whole v → ⊥
before_partial (AsValue os) v e = cc
before_partial (AsKey os ps) v e = cc

before_zero : (p : Place) → step (before p) 48 ≡ Some (NoLength p)
before_zero (AsValue os) = refl
before_zero (AsKey os ps) = refl

no_length_reached : (bytes : List ℕ) (at : ℕ) (p : Place) → AwaitsString bytes at p → HasByte bytes at 48 true → Reached bytes (at + 1) (NoLength p)
no_length_reached bytes at p a z = reached_more bytes at (before p) (NoLength p) a.reached z.0 (ap (step (before p)) z.1 ∙ before_zero p)

pub no_length_unended : (bytes : List ℕ) (at : ℕ) (p : Place) → AwaitsString bytes at p → HasByte bytes at 48 true → HasByte bytes (at + 1) 58 false → IsFirstFault bytes (NotBencode (at + 1))
no_length_unended bytes at p a z n =
    let k : at < length bytes = z.0 in
    not_bencode bytes (at + 1) (NoLength p) (no_length_reached bytes at p a z) a.fits (omega arith)
    (λ k. ap (λ c. cond c (Some (stored p [])) None) (different (get_or bytes (at + 1) 0) 58 (n k))) (λ v q. cc)

pub empty_read : (bytes : List ℕ) (at : ℕ) (p : Place) (s : List ℕ) → s ≡ [] → AwaitsString bytes at p → HasByte bytes at 48 true → HasByte bytes (at + 1) 58 true → ReadsString bytes at p s (at + 2)
empty_read bytes at p s e a z n =
    let k : at + 1 < length bytes = n.0 in
    let next : at + 1 + 1 ≡ at + 2 = omega arith in
    let last : at + 1 ≡ at + 2 - 1 = omega arith in
    record {
      reached = subst (λ l. Reached bytes (at + 2) (stored p l)) (sym e) (at_place bytes (at + 1 + 1) (at + 2) (stored p []) next (reached_more bytes (at + 1) (NoLength p) (stored p []) (no_length_reached bytes at p a z) n.0 (ap (step (NoLength p)) n.1)));
      text = subst (λ l. take (at + 2) bytes ≡ take at bytes ++ string_text l) (sym e)
          (ap (λ m. take m bytes) (sym next) ∙ take_more bytes (at + 1) 0 n.0 ∙ (λ i. take_more bytes at 0 z.0 i ++ n.1 i ∷ []) ∙ ap (λ x. (take at bytes ++ x ∷ []) ++ 58 ∷ []) z.1 ∙ append_assoc (take at bytes) (48 ∷ []) (58 ∷ []));
      within = omega arith;
      after = omega arith;
      state = NoLength p;
      before_last = at_place bytes (at + 1) (at + 2 - 1) (NoLength p) last (no_length_reached bytes at p a z);
      fits = a.fits;
    }

no_digit : (b : ℕ) → (b ≡ 48 → ⊥) → is_nonzero b ≡ false → is_digit b ≡ false
no_digit b h n =
    elim (cases_lt b 48) as (λ _. is_digit b ≡ false) [
      | inl low ↦ not_digit b low
      | inr high ↦ elim (cases_lt 57 b) as (λ _. is_digit b ≡ false) [ inl above ↦ not_digit_above b above | inr below ↦ absurd (let k : is_nonzero b ≡ true = nonzero b (let g : b ≡ 48 → ⊥ = h in omega arith) below in let e : true ≡ false = sym k ∙ n in cc) ]
    ]
  where
    nonzero : (b : ℕ) → 49 ≤ b → b ≤ 57 → is_nonzero b ≡ true
    nonzero b k l = grind (arith, nat_tests)

pub no_string : (bytes : List ℕ) (at : ℕ) (p : Place) → AwaitsString bytes at p → HasByte bytes at 48 false → HasNumber bytes at false → IsFirstFault bytes (NotBencode at)
no_string bytes at p a z n =
    not_bencode bytes at (before p) a.reached (before_fits p a.fits) a.within (λ k. a.goes k (no_digit (get_or bytes at 0) (z k) (n k))) (before_partial p)

length_reached : (bytes : List ℕ) (at : ℕ) (p : Place) (n end : ℕ) → AwaitsString bytes at p → (d : DigitsSoFar bytes at n end) → Reached bytes end (Length p d.number)
length_reached bytes at p n end a d =
    reached_text bytes at end (numeral d.number) (before p) (Some (Length p d.number)) a.reached d.text
    (ap (run (Some (before p))) (sym (append-nil (numeral d.number))) ∙ numeral_run (before p) (Length p) (digit_before p) (digit_length p) d.number d.positive [])

pub length_unended : (bytes : List ℕ) (at : ℕ) (p : Place) (n end : ℕ) → AwaitsString bytes at p → ReadsDigits bytes at n end → HasByte bytes end 58 false → IsFirstFault bytes (NotBencode end)
length_unended bytes at p n end a d h =
    not_bencode bytes end (Length p d.digits.number) (length_reached bytes at p n end a d.digits) a.fits d.digits.within
    (λ k. ap (λ c. cond c (Some (Body p d.digits.number [])) (cond (is_digit (get_or bytes end 0)) (Some (Length p (d.digits.number * 10 + (get_or bytes end 0 - 48)))) None)) (different (get_or bytes end 0) 58 (h k))
    ∙ ap (λ c. cond c (Some (Length p (d.digits.number * 10 + (get_or bytes end 0 - 48)))) None) (d.ends k)) (λ v e. cc)

body_reached : (bytes : List ℕ) (at : ℕ) (p : Place) (n end : ℕ) → AwaitsString bytes at p → (d : DigitsSoFar bytes at n end) → HasByte bytes end 58 true → Reached bytes (end + 1) (Body p d.number [])
body_reached bytes at p n end a d h = reached_more bytes end (Length p d.number) (Body p d.number []) (length_reached bytes at p n end a d) h.0 (ap (step (Length p d.number)) h.1)

body_part : (p : Place) (n m : ℕ) (front xs : List ℕ) → 0 < m → n ≡ length xs + m → run (Some (Body p n front)) xs ≡ Some (Body p m (front ++ xs))
body_part p n m front [] h e = let same : n ≡ m = omega arith in (λ i. Some (Body p (same i) (sym (append-nil front) i)))
body_part p n m front (x ∷ xs) h e =
    let big : n ≡ 1 → ⊥ = λ q. omega arith in
    let rest : n - 1 ≡ length xs + m = omega arith in
    ap (λ c. run (cond c (Some (stored p (front ++ x ∷ []))) (Some (Body p (n - 1) (front ++ x ∷ [])))) xs) (different n 1 big)
    ∙ body_part p (n - 1) m (front ++ x ∷ []) xs h rest
    ∙ ap (λ l. Some (Body p m l)) (append_assoc front (x ∷ []) xs)

pub body_short : (bytes : List ℕ) (at : ℕ) (p : Place) (n end : ℕ) → AwaitsString bytes at p → ReadsDigits bytes at n end → HasByte bytes end 58 true → length bytes - (end + 1) < n → IsFirstFault bytes (NotBencode (length bytes))
body_short bytes at p n end a d h short =
    let number : ℕ = d.digits.number in
    let value : n ≡ min number (2 ^ 64 - 1) = d.digits.value in
    let k : end < length bytes = h.0 in
    let r : Reached bytes (length bytes) (Body p (number - (length bytes - (end + 1))) ([] ++ drop (end + 1) bytes)) =
    reached_text bytes (end + 1) (length bytes) (drop (end + 1) bytes) (Body p number []) (Some (Body p (number - (length bytes - (end + 1))) ([] ++ drop (end + 1) bytes)))
    (body_reached bytes at p n end a d.digits h) (take_all (length bytes) bytes (omega arith) ∙ sym (take-append-drop (end + 1) bytes))
    (body_part p number (number - (length bytes - (end + 1))) [] (drop (end + 1) bytes) (omega arith) (omega (arith, length-drop (end + 1) bytes))) in
    not_bencode bytes (length bytes) (Body p (number - (length bytes - (end + 1))) ([] ++ drop (end + 1) bytes)) r a.fits (omega arith) (λ q. absurd (omega arith)) (λ v e. cc)

-- a part of the bytes behind a place
part_text : (bytes : List ℕ) (i m : ℕ) → i ≤ length bytes → take (i + m) bytes ≡ take i bytes ++ take m (drop i bytes)
part_text bytes i m h =
    ap (λ n. take (n + m) bytes) (sym (length-take-le i bytes h)) ∙ ap (take (length (take i bytes) + m)) (sym (take-append-drop i bytes)) ∙ take-append-add (take i bytes) (drop i bytes) m

pub string_read : (bytes : List ℕ) (at : ℕ) (p : Place) (n end : ℕ) (s : List ℕ) → s ≡ take n (drop (end + 1) bytes) → AwaitsString bytes at p → ReadsDigits bytes at n end → HasByte bytes end 58 true → n ≤ length bytes - (end + 1) → length bytes < 2 ^ 64 → ReadsString bytes at p s (end + 1 + n)
string_read bytes at p n end s e a d h fits small =
    let value : n ≡ min d.digits.number (2 ^ 64 - 1) = d.digits.value in
    let positive : 0 < d.digits.number = d.digits.positive in
    let after : at < end = d.digits.after in
    let k : end < length bytes = h.0 in
    let number : d.digits.number ≡ n = omega arith in
    let long : length s ≡ n = ap length e ∙ length-take-le n (drop (end + 1) bytes) (omega (arith, length-drop (end + 1) bytes)) in
    let text : take (end + 1 + n) bytes ≡ take at bytes ++ string_text s =
    part_text bytes (end + 1) n (omega arith) ∙ ap (λ l. l ++ take n (drop (end + 1) bytes)) (take_more bytes end 0 h.0) ∙ ap (λ l. (take end bytes ++ get_or bytes end 0 ∷ []) ++ l) (sym e) ∙ ap (λ l. (l ++ get_or bytes end 0 ∷ []) ++ s) d.digits.text ∙ ap (λ x. ((take at bytes ++ numeral d.digits.number) ++ x ∷ []) ++ s) h.1
    ∙ append_assoc (take at bytes ++ numeral d.digits.number) (58 ∷ []) s ∙ append_assoc (take at bytes) (numeral d.digits.number) (58 ∷ s)
    ∙ ap (λ m. take at bytes ++ (numeral m ++ 58 ∷ s)) (number ∙ sym long) in
    let last : end + 1 + (n - 1) ≡ end + 1 + n - 1 = omega arith in
    let front : List ℕ = take (n - 1) (drop (end + 1) bytes) in
    let front_long : length front ≡ n - 1 = length-take-le (n - 1) (drop (end + 1) bytes) (omega (arith, length-drop (end + 1) bytes)) in
    record {
      reached = reached_text bytes at (end + 1 + n) (string_text s) (before p) (Some (stored p s)) a.reached text (ap (run (Some (before p))) (sym (append-nil (string_text s))) ∙ string_run p s []);
      text = text;
      within = omega arith;
      after = omega arith;
      state = Body p 1 ([] ++ front);
      before_last = at_place bytes (end + 1 + (n - 1)) (end + 1 + n - 1) (Body p 1 ([] ++ front)) last
          (reached_text bytes (end + 1) (end + 1 + (n - 1)) front (Body p d.digits.number []) (Some (Body p 1 ([] ++ front))) (body_reached bytes at p n end a d.digits h) (part_text bytes (end + 1) (n - 1) (omega arith))
          (body_part p d.digits.number 1 [] front (omega arith) (omega arith)));
      fits = a.fits;
    }

-- ---- a string whose length is one digit

-- one digit that isn't 0, and none behind it
one_digit : (bytes : List ℕ) (at : ℕ) → at < length bytes → is_nonzero (get_or bytes at 0) ≡ true → get_or bytes (at + 1) 0 ≡ 58 → ReadsDigits bytes at (get_or bytes at 0 - 48) (at + 1)
one_digit bytes at h digit colon = record {
  digits = digits_begin bytes at h digit;
  ends = λ k. ap is_digit colon;
}

pub short_read : (bytes : List ℕ) (at next : ℕ) (p : Place) (s : List ℕ) → s ≡ take (next - (at + 2)) (drop (at + 2) bytes) → AwaitsString bytes at p → next ≡ at + 2 + (get_or bytes at 0 - 48) → next ≤ length bytes → is_nonzero (get_or bytes at 0) ≡ true → get_or bytes (at + 1) 0 ≡ 58 → length bytes < 2 ^ 64 → ReadsString bytes at p s next
short_read bytes at next p s e a to long digit colon small =
    let n : ℕ = get_or bytes at 0 - 48 in
    let from : at + 2 ≡ at + 1 + 1 = omega arith in
    let amount : next - (at + 2) ≡ n = omega (arith, to) in
    let end : at + 1 + 1 + n ≡ next = omega (arith, to) in
    subst (ReadsString bytes at p s) end
    (string_read bytes at p n (at + 1) s (e ∙ ap (λ m. take m (drop (at + 2) bytes)) amount ∙ ap (λ m. take n (drop m bytes)) from) a (one_digit bytes at (omega (arith, to, long)) digit colon) (omega (arith, to, long), colon) (omega (arith, to, long)) small)

-- one digit, which may be 0, a colon and as many bytes
pub digit_read : (bytes : List ℕ) (at : ℕ) (p : Place) → AwaitsString bytes at p → 48 ≤ get_or bytes at 0 → get_or bytes at 0 ≤ 57 → get_or bytes (at + 1) 0 ≡ 58 → at + 2 + (get_or bytes at 0 - 48) ≤ length bytes → length bytes < 2 ^ 64 → ReadsString bytes at p (take (at + 2 + (get_or bytes at 0 - 48) - (at + 2)) (drop (at + 2) bytes)) (at + 2 + (get_or bytes at 0 - 48))
digit_read bytes at p a low high colon long small =
    let next : ℕ = at + 2 + (get_or bytes at 0 - 48) in
    let s : List ℕ = take (next - (at + 2)) (drop (at + 2) bytes) in
    elim (cases_lt 48 (get_or bytes at 0)) as (λ _. ReadsString bytes at p s next) [
      | inl above ↦ short_read bytes at next p s refl a refl long (nonzero (get_or bytes at 0) above high) colon small
      | inr below ↦
          let is_zero : get_or bytes at 0 ≡ 48 = omega (arith, low, below) in
          let none : next - (at + 2) ≡ 0 = omega (arith, is_zero) in
          let same : at + 2 ≡ next = omega (arith, is_zero) in
          subst (ReadsString bytes at p s) same
          (empty_read bytes at p s (ap (λ n. take n (drop (at + 2) bytes)) none) a (omega (arith, long), is_zero) (omega (arith, long), colon))
    ]
  where
    nonzero : (b : ℕ) → 48 < b → b ≤ 57 → is_nonzero b ≡ true
    nonzero b k l = grind (arith, nat_tests)

-- ---- a string whose length is two digits

-- two digits, the first not 0, and none behind them
two_digits : (bytes : List ℕ) (at n : ℕ) → n ≡ (get_or bytes at 0 - 48) * 10 + (get_or bytes (at + 1) 0 - 48) → at + 2 < length bytes → is_nonzero (get_or bytes at 0) ≡ true → 48 ≤ get_or bytes (at + 1) 0 → get_or bytes (at + 1) 0 ≤ 57 → get_or bytes (at + 2) 0 ≡ 58 → ReadsDigits bytes at n (at + 2)
two_digits bytes at n e long digit low high colon =
    let most : get_or bytes at 0 < 58 = nonzero_high (get_or bytes at 0) digit in
    let end : at + 1 + 1 ≡ at + 2 = omega arith in
    record {
      digits = subst (DigitsSoFar bytes at n) end (digits_step bytes at (get_or bytes at 0 - 48) (at + 1) n (digits_begin bytes at (omega arith) digit) (omega arith) low high (omega arith));
      ends = λ k. ap is_digit colon;
    }

-- two digits, a colon and as many bytes
pub two_read : (bytes : List ℕ) (at : ℕ) (p : Place) → AwaitsString bytes at p → 49 ≤ get_or bytes at 0 → get_or bytes at 0 ≤ 57 → 48 ≤ get_or bytes (at + 1) 0 → get_or bytes (at + 1) 0 ≤ 57 → get_or bytes (at + 2) 0 ≡ 58 → at + 3 + (get_or bytes at 0 - 48) * 10 + (get_or bytes (at + 1) 0 - 48) ≤ length bytes → length bytes < 2 ^ 64 → ReadsString bytes at p (take (at + 3 + (get_or bytes at 0 - 48) * 10 + (get_or bytes (at + 1) 0 - 48) - (at + 3)) (drop (at + 3) bytes)) (at + 3 + (get_or bytes at 0 - 48) * 10 + (get_or bytes (at + 1) 0 - 48))
two_read bytes at p a least most low high colon long small =
    let n : ℕ = (get_or bytes at 0 - 48) * 10 + (get_or bytes (at + 1) 0 - 48) in
    let next : ℕ = at + 3 + (get_or bytes at 0 - 48) * 10 + (get_or bytes (at + 1) 0 - 48) in
    let s : List ℕ = take (next - (at + 3)) (drop (at + 3) bytes) in
    let from : at + 3 ≡ at + 2 + 1 = omega arith in
    let amount : next - (at + 3) ≡ n = omega arith in
    let end : at + 2 + 1 + n ≡ next = omega arith in
    subst (ReadsString bytes at p s) end
    (string_read bytes at p n (at + 2) s (ap (λ m. take m (drop (at + 3) bytes)) amount ∙ ap (λ m. take n (drop m bytes)) from) a
    (two_digits bytes at n refl (omega (arith, long)) (nonzero (get_or bytes at 0) least most) low high colon) (omega (arith, long), colon) (omega (arith, long)) small)
  where
    nonzero : (b : ℕ) → 49 ≤ b → b ≤ 57 → is_nonzero b ≡ true
    nonzero b k l = grind (arith, nat_tests)

-- ---- a string of six bytes

-- the digit 6, and none behind it
six_digits : (bytes : List ℕ) (at : ℕ) → at < length bytes → get_or bytes at 0 ≡ 54 → get_or bytes (at + 1) 0 ≡ 58 → ReadsDigits bytes at 6 (at + 1)
six_digits bytes at h six colon = subst (λ n. ReadsDigits bytes at n (at + 1)) (ap (λ b. b - 48) six) (one_digit bytes at h (ap is_nonzero six) colon)

pub six_read : (bytes : List ℕ) (at : ℕ) (p : Place) (s : List ℕ) → s ≡ take 6 (drop (at + 2) bytes) → AwaitsString bytes at p → at + 8 ≤ length bytes → get_or bytes at 0 ≡ 54 → get_or bytes (at + 1) 0 ≡ 58 → length bytes < 2 ^ 64 → ReadsString bytes at p s (at + 8)
six_read bytes at p s e a long six colon small =
    let from : at + 2 ≡ at + 1 + 1 = omega arith in
    let to : at + 1 + 1 + 6 ≡ at + 8 = omega arith in
    subst (ReadsString bytes at p s) to
    (string_read bytes at p 6 (at + 1) s (e ∙ ap (λ n. take 6 (drop n bytes)) from) a (six_digits bytes at (omega arith) six colon) (omega arith, colon) (omega arith) small)
