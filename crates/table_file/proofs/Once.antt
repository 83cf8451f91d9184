-- A text is one line at most.
use Rattle.std.proofs.Common.{◌≡◌, ℕ, ◌+◌, ◌*◌, ◌≤◌, Bool, true, false, List, [], ◌∷◌, ◌++◌, get_or, map, true≢false, refl, sym, ap, ◌∙◌, arith}
use Rattle.std.specs.Prelude.{decimal, codes, All}
use Rattle.std.proofs.lemmas.Fmt.{decimal_injective}
use Rattle.std.proofs.lemmas.List.{append_assoc}
use Rattle.hex.specs.Hex.{encode_lower}
use Rattle.kad_base.specs.declared.types.Id.{Id}
use Rattle.kad_base.specs.declared.types.Addr.{Addr}
use Rattle.kad_base.specs.declared.types.Contact.{Contact}
use Rattle.kad_text.specs.Text.{FitsContact, FitsId, contact_text, addr_text}
use Rattle.kad_text.proofs.AddrText.{IsVisible, addr_visible, decimal_visible, hex_visible}
use Rattle.kad_text.proofs.HexSpelling.{encode_lower-same}
use Rattle.kad_text.proofs.OneSpelling.{addr_same, cut_once}
use Rattle.bucket_tree.specs.declared.types.Live.{Live}
use Rattle.table_file.specs.declared.line.Line.{Line}
use Rattle.table_file.specs.declared.line.Line.TheVariants as line
use Rattle.table_file.specs.SavedText.{FitsLine, bit_text, prefix_text, text_of}
use Rattle.table_file.proofs.Visible.{no_space}

-- ---- what two texts that begin alike go on with

pub same_rest : (a x y : List ℕ) → a ++ x ≡ a ++ y → x ≡ y
same_rest [] x y e = e
same_rest (c ∷ a) x y e = let rest : a ++ x ≡ a ++ y = cc in same_rest a x y rest

-- ---- identifiers

pub id_once : (a b : Id) → FitsId a → FitsId b → encode_lower a.0 ≡ encode_lower b.0 → a ≡ b
id_once a b ha hb e =
    let made : List ℕ → Id = λ bytes. record { 0 = bytes } in
    ap made (encode_lower-same a.0 b.0 ha.1 hb.1 e)

-- ---- contacts

made_contact : Id → Addr → Contact
made_contact id addr = record { id = id; addr = addr }

-- what stands before and behind a space
pub spaced_once : (a b x y : List ℕ) → All IsVisible a → All IsVisible b → a ++ codes " " ++ x ≡ b ++ codes " " ++ y → (a ≡ b) × (x ≡ y)
spaced_once a b x y va vb e = cut_once 32 a b x y (no_space a va) (no_space b vb) (sym (append_assoc a (codes " ") x) ∙ e ∙ append_assoc b (codes " ") y)

pub contact_once : (a b : Contact) → FitsContact a → FitsContact b → contact_text a ≡ contact_text b → a ≡ b
unfolding made_contact
contact_once a b ha hb e =
    let cut = spaced_once (encode_lower a.id.0) (encode_lower b.id.0) (addr_text a.addr) (addr_text b.addr) (hex_visible a.id.0 ha.0.1) (hex_visible b.id.0 hb.0.1) e in
    ap (λ (i : Id). made_contact i a.addr) (id_once a.id b.id ha.0 hb.0 cut.0) ∙ ap (made_contact b.id) (addr_same a.addr b.addr ha.1 hb.1 cut.1)

-- ---- live contacts

made_live : Contact → ℕ → Live
made_live c failures = record { contact = c; failures = failures }

pub live_once : (a b : Live) → FitsContact a.contact → FitsContact b.contact → a.failures ≤ 1 → b.failures ≤ 1
    → contact_text a.contact ++ codes " " ++ decimal a.failures ≡ contact_text b.contact ++ codes " " ++ decimal b.failures → a ≡ b
unfolding made_live made_contact
live_once a b ha hb fa fb e =
    let x = a.contact in
    let y = b.contact in
    let shape : (i d f : List ℕ) → ((i ++ codes " ") ++ d) ++ codes " " ++ f ≡ i ++ codes " " ++ (d ++ codes " " ++ f) = λ i d f. append_assoc (i ++ codes " " ++ d) (codes " ") f ∙ append_assoc (i ++ codes " ") d (codes " " ++ f) ∙ ap (λ (l : List ℕ). i ++ codes " " ++ l) (sym (append_assoc d (codes " ") f)) in
    let one = spaced_once (encode_lower x.id.0) (encode_lower y.id.0) (addr_text x.addr ++ codes " " ++ decimal a.failures) (addr_text y.addr ++ codes " " ++ decimal b.failures) (hex_visible x.id.0 ha.0.1) (hex_visible y.id.0 hb.0.1) (sym (shape _ _ _) ∙ e ∙ shape _ _ _) in
    let two = spaced_once (addr_text x.addr) (addr_text y.addr) (decimal a.failures) (decimal b.failures) (addr_visible x.addr ha.1) (addr_visible y.addr hb.1) one.1 in
    let c : x ≡ y = ap (λ (i : Id). made_contact i x.addr) (id_once x.id y.id ha.0 hb.0 one.0) ∙ ap (made_contact y.id) (addr_same x.addr y.addr ha.1 hb.1 two.0) in
    ap (λ (z : Contact). made_live z a.failures) c ∙ ap (made_live y) (decimal_injective a.failures b.failures (omega arith) (omega arith) two.1)

-- ---- prefixes

pub bits_once : (a b : List Bool) → map bit_text a ≡ map bit_text b → a ≡ b
bits_once [] [] e = refl
bits_once [] (d ∷ b) e = absurd cc
bits_once (c ∷ a) [] e = absurd cc
bits_once (true ∷ a) (true ∷ b) e = let rest : map bit_text a ≡ map bit_text b = cc in ap (λ (l : List Bool). true ∷ l) (bits_once a b rest)
bits_once (true ∷ a) (false ∷ b) e = let bad : ◌≡◌ {A = ℕ} 49 48 = cc in absurd (omega (arith, bad))
bits_once (false ∷ a) (true ∷ b) e = let bad : ◌≡◌ {A = ℕ} 48 49 = cc in absurd (omega (arith, bad))
bits_once (false ∷ a) (false ∷ b) e = let rest : map bit_text a ≡ map bit_text b = cc in ap (λ (l : List Bool). false ∷ l) (bits_once a b rest)

no_dash : (b : Bool) (bits : List Bool) → codes "-" ≡ map bit_text (b ∷ bits) → ⊥
no_dash true bits e = let bad : ◌≡◌ {A = ℕ} 45 49 = cc in omega (arith, bad)
no_dash false bits e = let bad : ◌≡◌ {A = ℕ} 45 48 = cc in omega (arith, bad)

pub prefix_once : (a b : List Bool) → prefix_text a ≡ prefix_text b → a ≡ b
prefix_once [] [] e = refl
prefix_once [] (d ∷ b) e = absurd (no_dash d b e)
prefix_once (c ∷ a) [] e = absurd (no_dash c a (sym e))
prefix_once (c ∷ a) (d ∷ b) e = bits_once (c ∷ a) (d ∷ b) e

-- ---- lines

-- the two are of one kind
abbrev same_kind : Line → Line → Bool
same_kind (line.Table own k b) (line.Table own' k' b') = true
same_kind (line.Row p) (line.Row q) = true
same_kind (line.Live x) (line.Live y) = true
same_kind (line.Spare x) (line.Spare y) = true
same_kind (line.Sibling x) (line.Sibling y) = true
same_kind line.End line.End = true
same_kind a b = false

-- the first two bytes of a line tell its kind
abbrev pub kind : Line → ℕ
kind (line.Table own k b) = 116 * 256 + 97
kind (line.Row p) = 114 * 256 + 111
kind (line.Live x) = 108 * 256 + 105
kind (line.Spare x) = 115 * 256 + 112
kind (line.Sibling x) = 115 * 256 + 105
kind line.End = 101 * 256 + 110

abbrev pub mark : List ℕ → ℕ
mark text = get_or text 0 0 * 256 + get_or text 1 0

pub kind_told : (l : Line) → mark (text_of l) ≡ kind l
unfolding text_of
kind_told (line.Table own k b) = refl
kind_told (line.Row p) = refl
kind_told (line.Live x) = refl
kind_told (line.Spare x) = refl
kind_told (line.Sibling x) = refl
kind_told line.End = refl

table_once : (o p : Id) (k b j d : ℕ) → FitsLine (line.Table o k b) → FitsLine (line.Table p j d)
    → encode_lower o.0 ++ codes " " ++ decimal k ++ codes " " ++ decimal b ≡ encode_lower p.0 ++ codes " " ++ decimal j ++ codes " " ++ decimal d → line.Table o k b ≡ line.Table p j d
table_once o p k b j d ha hb e =
    let shape : (i x y : List ℕ) → i ++ codes " " ++ x ++ codes " " ++ y ≡ i ++ codes " " ++ (x ++ codes " " ++ y) = λ i x y. append_assoc (i ++ codes " " ++ x) (codes " ") y ∙ append_assoc (i ++ codes " ") x (codes " " ++ y) ∙ ap (λ (l : List ℕ). i ++ codes " " ++ l) (sym (append_assoc x (codes " ") y)) in
    let ak = ha.1 in
    let ab = ha.2 in
    let bk = hb.1 in
    let bb = hb.2 in
    let one = spaced_once (encode_lower o.0) (encode_lower p.0) (decimal k ++ codes " " ++ decimal b) (decimal j ++ codes " " ++ decimal d) (hex_visible o.0 ha.0.1) (hex_visible p.0 hb.0.1) (sym (shape _ _ _) ∙ e ∙ shape _ _ _) in
    let two = spaced_once (decimal k) (decimal j) (decimal b) (decimal d) (decimal_visible k (omega arith)) (decimal_visible j (omega arith)) one.1 in
    let own : o ≡ p = id_once o p ha.0 hb.0 one.0 in
    let same_k : k ≡ j = decimal_injective k j (omega arith) (omega arith) two.0 in
    let same_b : b ≡ d = decimal_injective b d (omega arith) (omega arith) two.1 in
    rw (own, same_k, same_b) refl

alike : (a b : Line) → same_kind a b ≡ true → FitsLine a → FitsLine b → text_of a ≡ text_of b → a ≡ b
unfolding text_of
alike (line.Table o k b) (line.Table p j d) h ha hb e = table_once o p k b j d ha hb (same_rest (codes "table ") _ _ e)
alike (line.Row p) (line.Row q) h ha hb e = ap (λ (x : List Bool). line.Row x) (prefix_once p q (same_rest (codes "row ") _ _ e))
alike (line.Live x) (line.Live y) h ha hb e = ap (λ (z : Live). line.Live z) (live_once x y ha.0 hb.0 ha.1 hb.1 (same_rest (codes "live ") _ _ e))
alike (line.Spare x) (line.Spare y) h ha hb e = ap (λ (z : Contact). line.Spare z) (contact_once x y ha hb (same_rest (codes "spare ") _ _ e))
alike (line.Sibling x) (line.Sibling y) h ha hb e = ap (λ (z : Contact). line.Sibling z) (contact_once x y ha hb (same_rest (codes "sibling ") _ _ e))
alike line.End line.End h ha hb e = refl
alike a b h ha hb e = absurd (true≢false (sym h))

kinds : (a b : Line) → kind a ≡ kind b → same_kind a b ≡ true
kinds (line.Table own k b) (line.Table own' k' b') e = refl
kinds (line.Row p) (line.Row q) e = refl
kinds (line.Live x) (line.Live y) e = refl
kinds (line.Spare x) (line.Spare y) e = refl
kinds (line.Sibling x) (line.Sibling y) e = refl
kinds line.End line.End e = refl
kinds a b e = absurd (omega arith)

pub line_once : (a b : Line) → FitsLine a → FitsLine b → text_of a ≡ text_of b → a ≡ b
line_once a b ha hb e = alike a b (kinds a b (sym (kind_told a) ∙ ap mark e ∙ kind_told b)) ha hb e
