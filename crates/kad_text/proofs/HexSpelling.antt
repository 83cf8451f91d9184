-- What the hex crate decodes is what spells bytes in hex.
use Rattle.std.proofs.Common.{◌≡◌, ℕ, zero, suc, ◌+◌, ◌*◌, ◌/◌, ◌%◌, ◌<◌, ◌==◌, Bool, true, ◌&&◌, inl, inr, List, [], ◌∷◌, length, get_or, slice_index, Option, Some, None, is_some, MatchOption, subst, Result, Ok, Err, refl, sym, ap, ◌∙◌, arith}
use Rattle.std.specs.Prelude.{IsOk}
use Rattle.std.specs.Char.{to_ascii_lowercase}
use Rattle.std.specs.Str.{str_to_ascii_lowercase}
use Rattle.std.specs.List.{AllPass}
use Rattle.std.specs.Result.{result_unwrap_or, result_ok}
use Rattle.std.proofs.lemmas.List.{get_or-map, length-map}
use Rattle.std.proofs.lemmas.Bool.{and_parts, cases_lt, eqb-true}
use Rattle.std.proofs.lemmas.Bool.Decides.{nat_tests}
use Rattle.hex.specs.Hex.{IsBytes, decode_of, decode_pairs, decode_sized, digit_or_error, hex_digit_value, encode_lower, encode_with, is_hex_digit, lower_digits, pair_value, value_at, ◌>>=◌}
use Rattle.hex.specs.declared.error.FromHexError.{FromHexError}
use Rattle.hex.proofs.HexLemmas.{IsOk-decode_sized, decode_of-digits, decode_of-encode_lower, decode_of-even, decode_of-ok, decode_of-same, decode_sized-ok, decode_sized-twice}
use Rattle.std.specs.List.{list_all}
use Rattle.std.proofs.lemmas.List.Sums.{AllPass-from_list_all, list_all-from_AllPass}
use Rattle.kad_text.specs.Text.{SpellsBytes, SpellsHex}

-- ---- one digit

-- the lower-case digit of a value is the digit that had it, in lower case
abbrev lowers : ℕ → Option ℕ → Bool
lowers c None = true
lowers c (Some v) = slice_index lower_digits v == to_ascii_lowercase c

abbrev all_lower : ℕ → Bool
all_lower zero = true
all_lower (suc n) = lowers n (hex_digit_value n) && all_lower n

all_lower-at : (n k : ℕ) → all_lower n ≡ true → k < n → lowers k (hex_digit_value k) ≡ true
all_lower-at zero k h lt = absurd (omega arith)
all_lower-at (suc n) k h lt =
    let parts = and_parts (lowers n (hex_digit_value n)) (all_lower n) h in
    elim (cases_lt k n) [
      | inl below ↦ all_lower-at n k parts.1 below
      | inr top ↦
          let e : k ≡ n = omega arith in
          rw e parts.0
    ]

digit_below : (c v : ℕ) → hex_digit_value c ≡ Some v → (c < 103) × (v < 16)
digit_below c v h = (grind (arith), grind (arith))

pub lower_digit : (c v : ℕ) → hex_digit_value c ≡ Some v → slice_index lower_digits v ≡ to_ascii_lowercase c
lower_digit c v h =
    let t = all_lower-at 103 c refl (digit_below c v h).0 in
    eqb-true (slice_index lower_digits v) (to_ascii_lowercase c) (rw h at t)

value-lowercase : (c : ℕ) → hex_digit_value (to_ascii_lowercase c) ≡ hex_digit_value c
value-lowercase c = grind (arith, nat_tests)

-- ---- pairs of digits

bind_ok : {A B : Type 0} (r : Result A FromHexError) (f : A → Result B FromHexError) (y : B)
    → (r >>= f) ≡ Ok y → (x : A) × (r ≡ Ok x) × (f x ≡ Ok y)
bind_ok (Ok x) f y h = (x, refl, h)
bind_ok (Err e) f y h = cc h

digit_read : (c i : ℕ) (o : Option ℕ) (v : ℕ) → digit_or_error c i o ≡ Ok v → o ≡ Some v
digit_read c i (Some w) v h = ap Some (ap (λ (r : Result ℕ FromHexError). result_unwrap_or r 0) h)
digit_read c i None v h = cc h

-- what decodes is in lower case the hex of what it decodes to
lower_pairs : (i : ℕ) (s bytes : List ℕ) → decode_pairs i s ≡ Ok bytes → str_to_ascii_lowercase s ≡ encode_lower bytes
unfolding decode_pairs encode_with
lower_pairs i [] bytes h =
    let e : [] ≡ bytes = ap (λ (r : Result (List ℕ) FromHexError). result_unwrap_or r []) h in
    rw (← e) refl
lower_pairs i (a ∷ []) bytes h = cc h
lower_pairs i (a ∷ b ∷ rest) bytes h =
    let p0 = bind_ok (pair_value a b i) _ bytes h in
    let p1 = bind_ok (value_at a i) _ p0.0 p0.1 in
    let p2 = bind_ok (value_at b (i + 1)) _ p0.0 p1.2 in
    let p3 = bind_ok (decode_pairs (i + 2) rest) _ bytes p0.2 in
    let ih = lower_pairs (i + 2) rest p3.0 p3.1 in
    let e : p0.0 ∷ p3.0 ≡ bytes = ap (λ (r : Result (List ℕ) FromHexError). result_unwrap_or r []) p3.2 in
    let va = digit_read a i (hex_digit_value a) p1.0 p1.1 in
    let vb = digit_read b (i + 1) (hex_digit_value b) p2.0 p2.1 in
    let high : p1.0 < 16 = (digit_below a p1.0 va).1 in
    let low : p2.0 < 16 = (digit_below b p2.0 vb).1 in
    let byte : p1.0 * 16 + p2.0 ≡ p0.0 = ap (λ (r : Result ℕ FromHexError). result_unwrap_or r 0) p2.2 in
    let h16 : p0.0 / 16 ≡ p1.0 = omega arith in
    let l16 : p0.0 % 16 ≡ p2.0 = omega arith in
    rw (← e) (rw (h16, l16, lower_digit a p1.0 va, lower_digit b p2.0 vb, ih) refl)

-- ---- whole texts

pub spells_decoded : (n : ℕ) (text bytes : List ℕ) → decode_sized text n ≡ Ok bytes → SpellsHex n text bytes
spells_decoded n text bytes h =
    let len = decode_sized-ok text n bytes h in
    let d : decode_of text ≡ Ok bytes = sym (decode_sized-twice text n len) ∙ h in
    let ok = decode_of-ok text bytes d in
    let pairs : decode_pairs 0 text ≡ Ok bytes = sym (decode_of-even text ok.0) ∙ d in
    record { long = omega (arith, ok.2, len); fit = ok.3; digits = lower_pairs 0 text bytes pairs }

-- digits in lower case were digits
AllPass-lowercase : (text : List ℕ) → AllPass is_hex_digit (str_to_ascii_lowercase text) → AllPass is_hex_digit text
AllPass-lowercase text h k d lt =
    let e = h k (to_ascii_lowercase d) (rw (length-map text to_ascii_lowercase) lt) in
    ap is_some (sym (value-lowercase (get_or text k d))) ∙ ap is_hex_digit (sym (get_or-map to_ascii_lowercase text k d (to_ascii_lowercase d) lt)) ∙ e

-- bytes have one hex text in lower case
pub encode_lower-same : (a b : List ℕ) → IsBytes a → IsBytes b → encode_lower a ≡ encode_lower b → a ≡ b
encode_lower-same a b ha hb e = decode_of-same (encode_lower a) a b (decode_of-encode_lower a ha) (ap decode_of e ∙ decode_of-encode_lower b hb)

pub spells_digits : (n : ℕ) (text bytes : List ℕ) → SpellsHex n text bytes → (length text ≡ 2 * n) × AllPass is_hex_digit text
spells_digits n text bytes s =
    let ok = decode_of-ok (encode_lower bytes) bytes (decode_of-encode_lower bytes s.fit) in
    let len : length text ≡ 2 * n = sym (length-map text to_ascii_lowercase) ∙ ap length s.digits ∙ ok.2 ∙ ap (λ (k : ℕ). 2 * k) s.long in
    (len, AllPass-lowercase text (subst (AllPass is_hex_digit) (sym s.digits) ok.1))

-- the value of a result that is `Ok`
ok_value : (r : Result (List ℕ) FromHexError) → IsOk r → (bytes : List ℕ) × (r ≡ Ok bytes)
ok_value (Ok bytes) h = (bytes, refl)
ok_value (Err e) h = cc h

pub decoded_spells : (n : ℕ) (text bytes : List ℕ) → SpellsHex n text bytes → decode_sized text n ≡ Ok bytes
decoded_spells n text bytes s =
    let r = ok_value (decode_sized text n) ((IsOk-decode_sized text n).1 (spells_digits n text bytes s)) in
    let back = spells_decoded n text r.0 r.1 in
    r.1 ∙ ap (λ (x : List ℕ). Ok x) (encode_lower-same r.0 bytes back.fit s.fit (sym back.digits ∙ s.digits))

-- what `from_hex(text).ok()` answers
pub hex_cases : (n : ℕ) (text : List ℕ) (r : Result (List ℕ) FromHexError) → r ≡ decode_sized text n
    → MatchOption (result_ok r) ((bytes : List ℕ) → SpellsHex n text bytes → ⊥) (λ bytes. SpellsHex n text bytes)
hex_cases n text (Ok bytes) e = spells_decoded n text bytes (sym e)
hex_cases n text (Err f) e = λ bytes s. cc (e ∙ decoded_spells n text bytes s)

-- ---- texts of any length

pub bytes_decoded : (text bytes : List ℕ) → decode_of text ≡ Ok bytes → SpellsBytes text bytes
bytes_decoded text bytes d =
    let ok = decode_of-ok text bytes d in
    record { long = refl; fit = ok.3; digits = lower_pairs 0 text bytes (sym (decode_of-even text ok.0) ∙ d) }

pub bytes_decode : (text bytes : List ℕ) → SpellsBytes text bytes → decode_of text ≡ Ok bytes
bytes_decode text bytes s =
    let long = spells_digits (length bytes) text bytes s in
    sym (decode_sized-twice text (length bytes) long.0) ∙ decoded_spells (length bytes) text bytes s

-- an even number of digits spells bytes, and nothing else does
pub digits_spell : (text shown : List ℕ) (b : Bool) → length text % 2 ≡ 0 → shown ≡ text → b ≡ list_all is_hex_digit shown
    → (b ≡ true → (bytes : List ℕ) × SpellsBytes text bytes) × (((bytes : List ℕ) × SpellsBytes text bytes) → b ≡ true)
digits_spell text shown b even same is = (
  λ t.
      let r = decode_of-digits text even (AllPass-from_list_all is_hex_digit text (ap (list_all is_hex_digit) (sym same) ∙ sym is ∙ t)) in
      (r.0, bytes_decoded text r.0 r.1),
  λ s. is ∙ ap (list_all is_hex_digit) same ∙ list_all-from_AllPass is_hex_digit text (spells_digits (length s.0) text s.0 s.1).1,
)

pub spelled_even : (text : List ℕ) → ((bytes : List ℕ) × SpellsBytes text bytes) → length text % 2 ≡ 0
spelled_even text s = let long = (spells_digits (length s.0) text s.0 s.1).0 in omega (arith, long)
