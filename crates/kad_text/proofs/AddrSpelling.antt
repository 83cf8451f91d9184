-- The parts of an IPv4 address: their digits, and how std reads them.
use Rattle.std.proofs.Common.{◌≡◌, ℕ, zero, suc, ◌^◌, ◌<◌, ◌≤◌, List, [], ◌∷◌, length, slice_index, refl, arith, lit<, lit≤}
use Rattle.std.specs.Prelude.{decimal, All}
use Rattle.std.specs.Net.Grammar.{IsDotted}
use Rattle.std.specs.Net.Text.{ipv4_text, dotted_text}
use Rattle.std.proofs.lemmas.Fmt.{decimal_is_IsNumeral}
use Rattle.std.proofs.lemmas.List.{get_or_default}
use Rattle.std.proofs.lemmas.List.Elements.{All-append, All-cons, All-nil}
use Rattle.std.proofs.lemmas.Str.Parse.{digit_at}
use Rattle.hex.specs.Hex.{IsBytes}
use Rattle.kad_base.specs.declared.types.Ip.TheVariants.{V4}
use Rattle.kad_text.specs.Text.{FitsIp, ip_text}

-- a decimal digit, and one or a dot, which is the byte before the digits but one
abbrev pub IsDigit : ℕ → Type 0
IsDigit c = (48 ≤ c) × (c < 58)

abbrev pub IsDotOrDigit : ℕ → Type 0
IsDotOrDigit c = (46 ≤ c) × (c < 58)

pub decimal_digits : (n : ℕ) → n < 2 ^ 64 → All IsDigit (decimal n)
decimal_digits n h k d lt =
    let r = digit_at (decimal n) k (decimal_is_IsNumeral n h).0.1 lt in
    rw (get_or_default (decimal n) k d 0 lt) (omega arith, omega arith)

digits_too : (xs : List ℕ) → All IsDigit xs → All IsDotOrDigit xs
digits_too xs h k d lt = let r = h k d lt in (omega arith, omega arith)

-- a.b.c.d has no other byte
dotted_bytes : (a b c d : ℕ) → a < 256 → b < 256 → c < 256 → d < 256 → All IsDotOrDigit (dotted_text a b c d)
dotted_bytes a b c d ha hb hc hd =
    let dot = All-cons IsDotOrDigit 46 [] (lit≤ tt, lit< tt) (All-nil IsDotOrDigit) in
    let da = digits_too (decimal a) (decimal_digits a (omega arith)) in
    let db = digits_too (decimal b) (decimal_digits b (omega arith)) in
    let dc = digits_too (decimal c) (decimal_digits c (omega arith)) in
    let dd = digits_too (decimal d) (decimal_digits d (omega arith)) in
    All-append IsDotOrDigit _ _ (All-append IsDotOrDigit _ _ (All-append IsDotOrDigit _ _ (All-append IsDotOrDigit _ _ (All-append IsDotOrDigit _ _ (All-append IsDotOrDigit _ _ da dot) db) dot) dc) dot) dd

pub v4_bytes : (bytes : List ℕ) → FitsIp (V4 bytes) → All IsDotOrDigit (ip_text (V4 bytes))
v4_bytes bytes h = dotted_bytes _ _ _ _ (h.1 0) (h.1 1) (h.1 2) (h.1 3)

-- four bytes are those at the places 0 to 3
pub four : (bytes : List ℕ) → length bytes ≡ 4 → bytes ≡ slice_index bytes 0 ∷ slice_index bytes 1 ∷ slice_index bytes 2 ∷ slice_index bytes 3 ∷ []
four (a ∷ b ∷ c ∷ d ∷ []) h = refl
four [] h = absurd (omega arith)
four (a ∷ []) h = absurd (omega arith)
four (a ∷ b ∷ []) h = absurd (omega arith)
four (a ∷ b ∷ c ∷ []) h = absurd (omega arith)
four (a ∷ b ∷ c ∷ d ∷ e ∷ rest) h = absurd (omega arith)

-- std reads it
pub v4_dotted : (bytes : List ℕ) → FitsIp (V4 bytes) → IsDotted (ipv4_text bytes) bytes
v4_dotted bytes h = record {
  a = slice_index bytes 0;
  b = slice_index bytes 1;
  c = slice_index bytes 2;
  d = slice_index bytes 3;
  fit = (h.1 0, h.1 1, h.1 2, h.1 3);
  value = four bytes h.0;
  spelled = refl;
}

pub bytes_two : (a b : ℕ) → a < 256 → b < 256 → IsBytes (a ∷ b ∷ [])
bytes_two a b ha hb zero = ha
bytes_two a b ha hb (suc zero) = hb
bytes_two a b ha hb (suc (suc k)) = lit< tt

pub bytes_four : (a b c d : ℕ) → a < 256 → b < 256 → c < 256 → d < 256 → IsBytes (a ∷ b ∷ c ∷ d ∷ [])
bytes_four a b c d ha hb hc hd zero = ha
bytes_four a b c d ha hb hc hd (suc zero) = hb
bytes_four a b c d ha hb hc hd (suc (suc zero)) = hc
bytes_four a b c d ha hb hc hd (suc (suc (suc zero))) = hd
bytes_four a b c d ha hb hc hd (suc (suc (suc (suc i)))) = lit< tt

-- what std reads is an IPv4 address as it is printed
pub dotted_v4 : (text bytes : List ℕ) → IsDotted text bytes → FitsIp (V4 bytes) × (text ≡ ipv4_text bytes)
dotted_v4 text bytes d =
    let four = bytes_four d.a d.b d.c d.d d.fit.0 d.fit.1 d.fit.2 d.fit.3 in
    rw d.value ((refl, four), d.spelled)
