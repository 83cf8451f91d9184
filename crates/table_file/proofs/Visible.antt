-- What the lines of a saved text are made of: printable ASCII, and no space but those that part a line.
use Rattle.std.proofs.Common.{◌≢◌, ℕ, ◌^◌, ◌<◌, true, List, [], ◌∷◌, ◌++◌, map, arith, lit<}
use Rattle.std.specs.Prelude.{Bool, false, decimal, codes, All}
use Rattle.std.proofs.lemmas.List.Elements.{All-append, All-cons, All-nil}
use Rattle.hex.specs.Hex.{encode_lower}
use Rattle.kad_base.specs.declared.types.Contact.{Contact}
use Rattle.kad_text.specs.Text.{FitsContact, contact_text, addr_text}
use Rattle.kad_text.proofs.AddrText.{IsVisible, addr_visible, decimal_visible, hex_visible}
use Rattle.table_file.specs.declared.line.Line.{Line}
use Rattle.table_file.specs.declared.line.Line.TheVariants as line
use Rattle.table_file.specs.SavedText.{FitsLine, bit_text, prefix_text, text_of}

-- a visible ASCII character, or a space
abbrev pub IsShown : ℕ → Type 0
IsShown c = (31 < c) × (c < 128)

pub shown_of : (xs : List ℕ) → All IsVisible xs → All IsShown xs
shown_of xs h k d lt = let v = h k d lt in (omega arith, omega arith)

pub no_space : (xs : List ℕ) → All IsVisible xs → All (λ d. d ≢ 32) xs
no_space xs h k d lt e = let v = h k d lt in omega arith

pub no_feed : (xs : List ℕ) → All IsShown xs → All (λ d. d ≢ 10) xs
no_feed xs h k d lt e = let v = h k d lt in omega arith

-- ---- lines

abbrev space : All IsShown (codes " ")
space = All-cons IsShown 32 [] (lit< tt, lit< tt) (All-nil IsShown)

pub contact_shown : (c : Contact) → FitsContact c → All IsShown (contact_text c)
contact_shown c fits =
    All-append IsShown (encode_lower c.id.0 ++ codes " ") (addr_text c.addr)
    (All-append IsShown (encode_lower c.id.0) (codes " ") (shown_of _ (hex_visible c.id.0 fits.0.1)) space)
    (shown_of _ (addr_visible c.addr fits.1))

bits_shown : (bits : List Bool) → All IsShown (map bit_text bits)
bits_shown [] = All-nil IsShown
bits_shown (true ∷ bits) = All-cons IsShown 49 (map bit_text bits) (lit< tt, lit< tt) (bits_shown bits)
bits_shown (false ∷ bits) = All-cons IsShown 48 (map bit_text bits) (lit< tt, lit< tt) (bits_shown bits)

prefix_shown : (bits : List Bool) → All IsShown (prefix_text bits)
prefix_shown [] = All-cons IsShown 45 [] (lit< tt, lit< tt) (All-nil IsShown)
prefix_shown (b ∷ bits) = bits_shown (b ∷ bits)

-- a literal's bytes are shown
abbrev shown3 : (a b c : ℕ) → IsShown a → IsShown b → IsShown c → All IsShown (a ∷ b ∷ c ∷ [])
shown3 a b c x y z = All-cons IsShown a (b ∷ c ∷ []) x (All-cons IsShown b (c ∷ []) y (All-cons IsShown c [] z (All-nil IsShown)))

word_table : All IsShown (codes "table ")
word_table = All-append IsShown (codes "tab") (codes "le ") (shown3 116 97 98 (lit< tt, lit< tt) (lit< tt, lit< tt) (lit< tt, lit< tt)) (shown3 108 101 32 (lit< tt, lit< tt) (lit< tt, lit< tt) (lit< tt, lit< tt))

word_row : All IsShown (codes "row ")
word_row = All-append IsShown (codes "row") (codes " ") (shown3 114 111 119 (lit< tt, lit< tt) (lit< tt, lit< tt) (lit< tt, lit< tt)) space

word_live : All IsShown (codes "live ")
word_live = All-append IsShown (codes "liv") (codes "e ") (shown3 108 105 118 (lit< tt, lit< tt) (lit< tt, lit< tt) (lit< tt, lit< tt)) (All-cons IsShown 101 (codes " ") (lit< tt, lit< tt) space)

word_spare : All IsShown (codes "spare ")
word_spare = All-append IsShown (codes "spa") (codes "re ") (shown3 115 112 97 (lit< tt, lit< tt) (lit< tt, lit< tt) (lit< tt, lit< tt)) (shown3 114 101 32 (lit< tt, lit< tt) (lit< tt, lit< tt) (lit< tt, lit< tt))

word_sibling : All IsShown (codes "sibling ")
word_sibling =
    All-append IsShown (codes "sib") (codes "ling ") (shown3 115 105 98 (lit< tt, lit< tt) (lit< tt, lit< tt) (lit< tt, lit< tt))
    (All-append IsShown (codes "lin") (codes "g ") (shown3 108 105 110 (lit< tt, lit< tt) (lit< tt, lit< tt) (lit< tt, lit< tt)) (All-cons IsShown 103 (codes " ") (lit< tt, lit< tt) space))

number_shown : (n : ℕ) → n < 2 ^ 16 → All IsShown (decimal n)
number_shown n lt = shown_of (decimal n) (decimal_visible n lt)

pub text_shown : (l : Line) → FitsLine l → All IsShown (text_of l)
unfolding text_of
text_shown (line.Table own k b) fits =
    let small_k = fits.1 in
    let small_b = fits.2 in
    let id = shown_of (encode_lower own.0) (hex_visible own.0 fits.0.1) in
    let front = All-append IsShown _ _ id space in
    All-append IsShown (codes "table ") _ word_table (All-append IsShown _ (decimal b) (All-append IsShown _ (codes " ") (All-append IsShown _ (decimal k) front (number_shown k (omega arith))) space) (number_shown b (omega arith)))
text_shown (line.Row prefix) fits = All-append IsShown (codes "row ") (prefix_text prefix) word_row (prefix_shown prefix)
text_shown (line.Live entry) fits =
    let few = fits.1 in
    All-append IsShown (codes "live ") _ word_live
    (All-append IsShown _ (decimal entry.failures) (All-append IsShown (contact_text entry.contact) (codes " ") (contact_shown entry.contact fits.0) space) (number_shown entry.failures (omega arith)))
text_shown (line.Spare c) fits = All-append IsShown (codes "spare ") (contact_text c) word_spare (contact_shown c fits)
text_shown (line.Sibling c) fits = All-append IsShown (codes "sibling ") (contact_text c) word_sibling (contact_shown c fits)
text_shown line.End fits = shown3 101 110 100 (lit< tt, lit< tt) (lit< tt, lit< tt) (lit< tt, lit< tt)
