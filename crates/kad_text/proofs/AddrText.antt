-- What an address is made of as it is printed, and which texts it is in lower case.
use Rattle.std.proofs.Common.{◌≡◌, ◌≢◌, ℕ, suc, ◌+◌, ◌/◌, ◌%◌, ◌^◌, ◌<◌, inl, inr, true, List, [], ◌∷◌, ◌++◌, length, get_or, slice_index, true≢false, refl, sym, ap, ap₂, ◌∙◌, subst, arith, lit<}
use Rattle.std.specs.Prelude.{decimal, codes, All}
use Rattle.std.specs.Char.{to_ascii_lowercase}
use Rattle.std.specs.Str.{str_to_ascii_lowercase}
use Rattle.std.proofs.lemmas.Bool.{cases_lt}
use Rattle.std.proofs.lemmas.List.{get_or-map, length-map, map-append}
use Rattle.std.proofs.lemmas.List.Elements.{All-append, All-cons, All-head, All-nil, All-tail}
use Rattle.std.proofs.lemmas.Str.Ascii.{lowercase_is}
use Rattle.hex.specs.Hex.{IsBytes, encode_lower, encode_with, is_hex_digit, lower_digits}
use Rattle.hex.proofs.HexLemmas.{IsDigits-lower_digits}
use Rattle.kad_base.specs.declared.types.Ip.{Ip}
use Rattle.kad_base.specs.declared.types.Ip.TheVariants.{V4, V6}
use Rattle.kad_base.specs.declared.types.Addr.{Addr}
use Rattle.kad_text.specs.Text.{FitsAddr, FitsIp, SpellsAddr, SpellsHex, addr_text, groups_after, ip_text}
use Rattle.kad_text.proofs.AddrSpelling.{bytes_two, decimal_digits, v4_bytes}
use Rattle.kad_text.proofs.HexSpelling.{lower_digit, spells_digits}

-- a visible ASCII character
abbrev pub IsVisible : ℕ → Type 0
IsVisible c = (32 < c) × (c < 128)

-- ---- hex

pub lower_stays : (v : ℕ) → v < 16 → to_ascii_lowercase (slice_index lower_digits v) ≡ slice_index lower_digits v
lower_stays v lt = sym (lower_digit (slice_index lower_digits v) v (IsDigits-lower_digits v lt))

pub lower_hex : (bytes : List ℕ) → IsBytes bytes → str_to_ascii_lowercase (encode_lower bytes) ≡ encode_lower bytes
unfolding encode_with
lower_hex [] h = refl
lower_hex (b ∷ bytes) h =
    let fits : b < 256 = h 0 in
    let high = lower_stays (b / 16) (omega arith) in
    let low = lower_stays (b % 16) (omega arith) in
    let rest = lower_hex bytes (λ k. h (suc k)) in
    rw (high, low, rest) refl

-- a hex digit is no space and no bracket that closes
abbrev pub IsPlain : ℕ → Type 0
IsPlain c = (32 < c) × (c < 128) × (c ≢ 93)

digit_plain : (c : ℕ) → is_hex_digit c ≡ true → IsPlain c
digit_plain c h = (grind (arith), grind (arith), λ e. true≢false (sym h ∙ ap is_hex_digit e))

pub hex_plain : (bytes : List ℕ) → IsBytes bytes → All IsPlain (encode_lower bytes)
hex_plain bytes fit k d lt =
    let s : SpellsHex (length bytes) (encode_lower bytes) bytes = record { long = refl; fit = fit; digits = lower_hex bytes fit } in
    digit_plain (get_or (encode_lower bytes) k d) ((spells_digits (length bytes) (encode_lower bytes) bytes s).1 k d lt)

pub seen_of : (xs : List ℕ) → All IsPlain xs → All IsVisible xs
seen_of xs h k d lt = let v = h k d lt in (v.0, v.1)

pub hex_visible : (bytes : List ℕ) → IsBytes bytes → All IsVisible (encode_lower bytes)
hex_visible bytes fit = seen_of (encode_lower bytes) (hex_plain bytes fit)

-- ---- addresses

pub decimal_visible : (n : ℕ) → n < 2 ^ 16 → All IsVisible (decimal n)
decimal_visible n fits k d lt = let b = decimal_digits n (omega arith) k d lt in (omega arith, omega arith)

pub groups_plain : (lead : ℕ) (bytes : List ℕ) → IsPlain lead → IsBytes bytes → All IsPlain (groups_after (lead ∷ []) bytes)
groups_plain lead [] p fit = All-nil IsPlain
groups_plain lead (a ∷ []) p fit = All-nil IsPlain
groups_plain lead (a ∷ b ∷ rest) p fit =
    let pair : IsBytes (a ∷ b ∷ []) = bytes_two a b (fit 0) (fit 1) in
    let one = All-append IsPlain (lead ∷ []) (encode_lower (a ∷ b ∷ [])) (All-cons IsPlain lead [] p (All-nil IsPlain)) (hex_plain (a ∷ b ∷ []) pair) in
    let more = groups_plain 58 rest (lit< tt, lit< tt, λ e. omega (arith, e)) (λ k. fit (suc (suc k))) in
    All-append IsPlain ((lead ∷ []) ++ encode_lower (a ∷ b ∷ [])) (groups_after (58 ∷ []) rest) one more

pub ip_visible : (ip : Ip) → FitsIp ip → All IsVisible (ip_text ip)
ip_visible (V4 bytes) fits = λ k d lt. let b = v4_bytes bytes fits k d lt in (omega arith, omega arith)
ip_visible (V6 bytes) fits =
    let close = All-cons IsVisible 93 [] (lit< tt, lit< tt) (All-nil IsVisible) in
    All-append IsVisible (groups_after (91 ∷ []) bytes) (93 ∷ []) (seen_of _ (groups_plain 91 bytes (lit< tt, lit< tt, λ e. omega (arith, e)) fits.1)) close

pub addr_visible : (addr : Addr) → FitsAddr addr → All IsVisible (addr_text addr)
addr_visible addr fits =
    let colon : All IsVisible (codes ":") = All-cons IsVisible 58 [] (lit< tt, lit< tt) (All-nil IsVisible) in
    All-append IsVisible (ip_text addr.ip ++ codes ":") (decimal addr.port) (All-append IsVisible (ip_text addr.ip) (codes ":") (ip_visible addr.ip fits.0) colon) (decimal_visible addr.port fits.1)

-- ---- lower case

-- what comes before the capital letters stays
pub low_stays : (xs : List ℕ) → All (λ c. c < 65) xs → str_to_ascii_lowercase xs ≡ xs
low_stays [] h = refl
low_stays (x ∷ xs) h =
    let P : ℕ → Type 0 = λ c. c < 65 in
    ap₂ (λ (y : ℕ) (ys : List ℕ). y ∷ ys) ((lowercase_is x).1 (All-head P x xs h)) (low_stays xs (All-tail P x xs h))

-- what comes before the small letters is the lower case of itself alone
pub low_one : (x y : ℕ) → y < 97 → to_ascii_lowercase x ≡ y → x ≡ y
low_one x y lt e = elim (cases_lt x 65) [
  | inl below ↦ sym ((lowercase_is x).1 below) ∙ e
  | inr above ↦
      elim (cases_lt 90 x) [
        | inl over ↦ sym ((lowercase_is x).2 over) ∙ e
        | inr within ↦ let up : to_ascii_lowercase x ≡ x + 32 = (lowercase_is x).0 (above, within) in absurd (omega (arith, up, e))
      ]
]

pub low_back : (xs ys : List ℕ) → All (λ c. c < 97) ys → str_to_ascii_lowercase xs ≡ ys → xs ≡ ys
low_back [] [] h e = refl
low_back [] (y ∷ ys) h e = cc e
low_back (x ∷ xs) [] h e = cc e
low_back (x ∷ xs) (y ∷ ys) h e =
    let P : ℕ → Type 0 = λ c. c < 97 in
    let first : to_ascii_lowercase x ≡ y = cc in
    let rest : str_to_ascii_lowercase xs ≡ ys = cc in
    ap₂ (λ (z : ℕ) (zs : List ℕ). z ∷ zs) (low_one x y (All-head P y ys h) first) (low_back xs ys (All-tail P y ys h) rest)

groups_lower : (lead : ℕ) (bytes : List ℕ) → to_ascii_lowercase lead ≡ lead → IsBytes bytes → str_to_ascii_lowercase (groups_after (lead ∷ []) bytes) ≡ groups_after (lead ∷ []) bytes
groups_lower lead [] l fit = refl
groups_lower lead (a ∷ []) l fit = refl
groups_lower lead (a ∷ b ∷ rest) l fit =
    let pair = lower_hex (a ∷ b ∷ []) (bytes_two a b (fit 0) (fit 1)) in
    let more = groups_lower 58 rest refl (λ k. fit (suc (suc k))) in
    map-append to_ascii_lowercase (lead ∷ encode_lower (a ∷ b ∷ [])) (groups_after (58 ∷ []) rest)
    ∙ ap₂ (λ (x y : List ℕ). x ++ y) (ap₂ (λ (c : ℕ) (x : List ℕ). c ∷ x) l pair) more

pub low_digits : (n : ℕ) → n < 2 ^ 64 → str_to_ascii_lowercase (decimal n) ≡ decimal n
low_digits n fits = low_stays (decimal n) (λ k d lt. let b = decimal_digits n fits k d lt in omega arith)

ip_lower : (ip : Ip) → FitsIp ip → str_to_ascii_lowercase (ip_text ip) ≡ ip_text ip
ip_lower (V4 bytes) f = low_stays (ip_text (V4 bytes)) (λ k d lt. let b = v4_bytes bytes f k d lt in omega arith)
ip_lower (V6 bytes) f = map-append to_ascii_lowercase (groups_after (codes "[") bytes) (codes "]") ∙ ap (λ (x : List ℕ). x ++ codes "]") (groups_lower 91 bytes refl f.1)

-- an address as it is printed is in lower case
pub addr_lower : (addr : Addr) → FitsAddr addr → str_to_ascii_lowercase (addr_text addr) ≡ addr_text addr
addr_lower addr f =
    let port = f.1 in
    map-append to_ascii_lowercase (ip_text addr.ip ++ codes ":") (decimal addr.port)
    ∙ ap₂ (λ (x y : List ℕ). x ++ y) (map-append to_ascii_lowercase (ip_text addr.ip) (codes ":") ∙ ap (λ (x : List ℕ). x ++ codes ":") (ip_lower addr.ip f.0)) (low_digits addr.port (omega arith))

-- so it spells itself
pub addr_itself : (addr : Addr) → FitsAddr addr → SpellsAddr (addr_text addr) addr
addr_itself addr f = record { fits = f; printed = addr_lower addr f }

visible_one : (c : ℕ) → IsVisible (to_ascii_lowercase c) → IsVisible c
visible_one c v = elim (cases_lt c 65) [
  | inl below ↦ let e : to_ascii_lowercase c ≡ c = (lowercase_is c).1 below in (omega (arith, v.0, e), omega arith)
  | inr above ↦
      elim (cases_lt 90 c) [
        | inl over ↦ let e : to_ascii_lowercase c ≡ c = (lowercase_is c).2 over in (omega arith, omega (arith, v.1, e))
        | inr within ↦ (omega arith, omega arith)
      ]
]

-- a text that spells an address is visible ASCII
pub spelled_visible : (text : List ℕ) (addr : Addr) → SpellsAddr text addr → All IsVisible text
spelled_visible text addr s k d lt =
    let shown : All IsVisible (str_to_ascii_lowercase text) = subst (All IsVisible) (sym s.printed) (addr_visible addr s.fits) in
    let here = shown k (to_ascii_lowercase d) (rw length-map lt) in
    visible_one (get_or text k d) (rw (get_or-map to_ascii_lowercase text k d (to_ascii_lowercase d) lt) at here)
