-- What the parts of a line spell.
use Rattle.std.proofs.Common.{◌≡◌, ℕ, ◌+◌, ◌^◌, ◌<◌, ◌≤◌, Bool, true, false, List, [], ◌∷◌, ◌++◌, length, take, get_or, map, Option, Some, None, MatchOption, refl, sym, ap, ◌∙◌, subst, arith}
use Rattle.std.specs.Prelude.{◌==◌, IsUtf8, codes, decimal, All}
use Rattle.std.specs.Str.{str_to_ascii_lowercase}
use Rattle.std.proofs.lemmas.Bool.{eqb-true}
use Rattle.std.proofs.lemmas.List.{append_assoc, get_or-map, length-append, length-map, map-append, take_all, take_more}
use Rattle.std.proofs.Math.Seq.{get_or-append_seam}
use Rattle.std.proofs.lemmas.Str.{IsUtf8-from_ascii}
use Rattle.std.proofs.lemmas.Str.Ascii.{IsAscii-from_all}
use Rattle.hex.specs.Hex.{encode_lower}
use Rattle.kad_base.specs.declared.types.Addr.{Addr}
use Rattle.kad_base.specs.declared.types.Contact.{Contact}
use Rattle.kad_base.specs.declared.types.Id.{Id}
use Rattle.kad_text.specs.Text.{SpellsHex, addr_text, contact_text}
use Rattle.kad_text.specs.Text as words
use Rattle.kad_text.proofs.AddrText.{IsVisible, addr_lower, addr_visible, decimal_visible, hex_visible, lower_hex}
use Rattle.kad_text.proofs.OneSpelling.{cut_once}
use Rattle.kad_text.specs.Cut.{IsCut, Lacks}
use Rattle.table_file.specs.Reading.{SpellsAddr, SpellsContact, SpellsLower}
use Rattle.table_file.specs.SavedText.{bit_text, prefix_text}
use Rattle.table_file.proofs.Visible.{no_space}

-- ---- where a text has a byte

pub lacking : (c : ℕ) (x t z : List ℕ) → Lacks c x → x ≡ t ++ (c ∷ z) → ⊥
lacking c x t z w e =
    let lt : length t < length x = rw (e, length-append) (omega arith) in
    let at : get_or x (length t) 0 ≡ c = rw e (get_or-append_seam t c z 0) in
    w (length t) 0 lt at

-- ---- visible texts are UTF-8

pub visible_utf8 : (text : List ℕ) → All IsVisible text → IsUtf8 text
visible_utf8 text h = IsUtf8-from_ascii text (IsAscii-from_all text (λ k d lt. (h k d lt).1))

pub number_utf8 : (text : List ℕ) (n most : ℕ) → most < 2 ^ 16 → n ≤ most → text ≡ decimal n → IsUtf8 text
number_utf8 text n most fits le e = subst IsUtf8 (sym e) (visible_utf8 (decimal n) (decimal_visible n (omega arith)))

pub lower_utf8 : (size : ℕ) (text bytes : List ℕ) → SpellsLower size text bytes → IsUtf8 text
lower_utf8 size text bytes s = subst IsUtf8 (sym s.digits) (visible_utf8 (encode_lower bytes) (hex_visible bytes s.fit))

pub addr_utf8 : (text : List ℕ) (addr : Addr) → SpellsAddr text addr → IsUtf8 text
addr_utf8 text addr s = subst IsUtf8 (sym s.printed) (visible_utf8 (addr_text addr) (addr_visible addr s.fits))

-- ---- lower case

pub lower_all : (text : List ℕ) (n : ℕ) → length text ≤ n → str_to_ascii_lowercase (take n text) ≡ take n text → str_to_ascii_lowercase text ≡ text
lower_all text n le done = let all : take n text ≡ text = take_all n text le in ap str_to_ascii_lowercase (sym all) ∙ done ∙ all

pub lower_is : (size : ℕ) (text bytes : List ℕ) → SpellsLower size text bytes → str_to_ascii_lowercase text ≡ text
lower_is size text bytes s = ap str_to_ascii_lowercase s.digits ∙ lower_hex bytes s.fit ∙ sym s.digits

pub lower_cases : (size : ℕ) (text : List ℕ) (r : Option (List ℕ)) → str_to_ascii_lowercase text ≡ text → MatchOption r ((bytes : List ℕ) → SpellsHex size text bytes → ⊥) (λ bytes. SpellsHex size text bytes)
    → MatchOption r ((bytes : List ℕ) → SpellsLower size text bytes → ⊥) (λ bytes. SpellsLower size text bytes)
lower_cases size text None e h = λ bytes s. h bytes (record { long = s.long; fit = s.fit; digits = e ∙ s.digits })
lower_cases size text (Some bytes) e h = record { long = h.long; fit = h.fit; digits = sym e ∙ h.digits }

-- ---- addresses

pub addr_is : (text : List ℕ) (addr : Addr) → SpellsAddr text addr → str_to_ascii_lowercase text ≡ text
addr_is text addr s = ap str_to_ascii_lowercase s.printed ∙ addr_lower addr s.fits ∙ sym s.printed

pub addr_cases : (text : List ℕ) (r : Option Addr) → str_to_ascii_lowercase text ≡ text → MatchOption r ((addr : Addr) → words.SpellsAddr text addr → ⊥) (λ addr. words.SpellsAddr text addr)
    → MatchOption r ((addr : Addr) → SpellsAddr text addr → ⊥) (λ addr. SpellsAddr text addr)
addr_cases text None e h = λ addr s. h addr (record { fits = s.fits; printed = e ∙ s.printed })
addr_cases text (Some addr) e h = record { fits = h.fits; printed = sym e ∙ h.printed }

-- ---- contacts

-- where a text with a space is cut
pub spaced : (text front behind a b : List ℕ) → IsCut 32 text a b → All IsVisible front → text ≡ front ++ (32 ∷ behind) → (a ≡ front) × (b ≡ behind)
spaced text front behind a b c v e = cut_once 32 a front b behind c.lacks (no_space front v) (sym c.split ∙ e)

contact_shape : (c : Contact) → contact_text c ≡ encode_lower c.id.0 ++ (32 ∷ addr_text c.addr)
contact_shape c = append_assoc (encode_lower c.id.0) (codes " ") (addr_text c.addr)

pub contact_cut : (text a b : List ℕ) (c : Contact) → IsCut 32 text a b → SpellsContact text c → SpellsLower 20 a c.id.0 × SpellsAddr b c.addr
contact_cut text a b c k s =
    let cut = spaced text (encode_lower c.id.0) (addr_text c.addr) a b k (hex_visible c.id.0 s.fits.0.1) (s.printed ∙ contact_shape c) in
    (record { long = s.fits.0.0; fit = s.fits.0.1; digits = cut.0 }, record { fits = s.fits.1; printed = cut.1 })

pub contact_uncut : (text : List ℕ) (c : Contact) → Lacks 32 text → SpellsContact text c → ⊥
contact_uncut text c w s = lacking 32 text (encode_lower c.id.0) (addr_text c.addr) w (s.printed ∙ contact_shape c)

pub contact_read : (text a b : List ℕ) (id : Id) (addr : Addr) → IsCut 32 text a b → SpellsLower 20 a id.0 → SpellsAddr b addr → SpellsContact text (record { id = id; addr = addr })
contact_read text a b id addr k i s = record {
  fits = ((i.long, i.fit), s.fits);
  printed = k.split ∙ rw (i.digits, s.printed) refl ∙ sym (contact_shape (record { id = id; addr = addr }));
}

-- ---- prefixes

pub bits_more : (text : List ℕ) (i : ℕ) (bits : List Bool) (bit : Bool) → i < length text → get_or text i 0 ≡ bit_text bit → take i text ≡ map bit_text bits → take (i + 1) text ≡ map bit_text (bits ++ bit ∷ [])
bits_more text i bits bit lt here done =
    take_more text i 0 lt ∙ ap (λ (x : List ℕ). x ++ get_or text i 0 ∷ []) done ∙ ap (λ (c : ℕ). map bit_text bits ++ c ∷ []) here ∙ sym (map-append bit_text bits (bit ∷ []))

pub no_bit : (text : List ℕ) (i : ℕ) (bits : List Bool) → i < length text → ((bit : Bool) → get_or text i 0 ≡ bit_text bit → ⊥) → text ≡ map bit_text bits → ⊥
no_bit text i bits lt bad e =
    let len : i < length bits = rw (← length-map bits bit_text, ← e) lt in
    bad (get_or bits i false) (ap (λ (x : List ℕ). get_or x i 0) e ∙ get_or-map bit_text bits i false 0 len)

pub prefix_bits : (text : List ℕ) (bits : List Bool) → (text ≡ codes "-" → ⊥) → text ≡ prefix_text bits → (text ≡ map bit_text bits) × (0 < length text)
prefix_bits text [] h e = absurd (h e)
prefix_bits text (b ∷ bits) h e = (e, rw e (omega arith))

pub bits_prefix : (text : List ℕ) (bits : List Bool) → (length text ≡ 0 → ⊥) → text ≡ map bit_text bits → text ≡ prefix_text bits
bits_prefix text [] h e = absurd (h (ap length e))
bits_prefix text (b ∷ bits) h e = e

pub nonempty : (text : List ℕ) → false ≡ (length text == 0) → length text ≡ 0 → ⊥
nonempty [] n e = cc n
nonempty (c ∷ text) n e = omega arith

pub empty_of : (text : List ℕ) → true ≡ (length text == 0) → text ≡ []
empty_of [] e = refl
empty_of (c ∷ text) e = (let z : length (c ∷ text) ≡ 0 = eqb-true (length (c ∷ text)) 0 (sym e) in absurd (omega arith))

pub prefix_cases : (text : List ℕ) (r : Option (List Bool)) → (text ≡ codes "-" → ⊥) → false ≡ (length text == 0) → length text ≤ 160 → MatchOption r ((bits : List Bool) → text ≡ map bit_text bits → ⊥) (λ bits. text ≡ map bit_text bits)
    → MatchOption r ((bits : List Bool) → length bits ≤ 160 → text ≡ prefix_text bits → ⊥) (λ bits. (length bits ≤ 160) × (text ≡ prefix_text bits))
prefix_cases text None d n le h = λ bits few e. h bits (prefix_bits text bits d e).0
prefix_cases text (Some bits) d n le h = (rw (← length-map bits bit_text, ← h) le, bits_prefix text bits (nonempty text n) h)
