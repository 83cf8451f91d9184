-- What a line spells: its word, and what stands behind it.
use Rattle.std.proofs.Common.{◌≡◌, ◌≢◌, ℕ, ◌<◌, ◌≤◌, ◌==◌, Bool, true, false, ◌||◌, List, [], ◌∷◌, ◌++◌, length, refl, sym, ap, ◌∙◌, arith}
use Rattle.std.specs.Prelude.{codes, decimal}
use Rattle.std.proofs.lemmas.Bool.{eqb-false}
use Rattle.std.proofs.lemmas.List.{append_assoc}
use Rattle.std.proofs.lemmas.List.Elements.{All-cons, All-nil}
use Rattle.hex.specs.Hex.{encode_lower}
use Rattle.kad_base.specs.declared.types.Addr.{Addr}
use Rattle.kad_base.specs.declared.types.Contact.{Contact}
use Rattle.kad_base.specs.declared.types.Id.{Id}
use Rattle.kad_text.specs.Text.{FitsContact, FitsId, addr_text}
use Rattle.kad_text.proofs.OneSpelling.{cut_once}
use Rattle.bucket_tree.specs.declared.types.Live.{Live}
use Rattle.table_file.specs.declared.line.Line.{Line}
use Rattle.table_file.specs.declared.line.Line.TheVariants as line
use Rattle.kad_text.specs.Cut.{IsCut, Lacks}
use Rattle.table_file.specs.Reading.{Spells, SpellsAddr, SpellsContact, SpellsLower}
use Rattle.table_file.specs.SavedText.{prefix_text, text_of}
use Rattle.table_file.proofs.Once.{kind, kind_told, mark, same_rest}
use Rattle.table_file.proofs.PartSpelling.{lacking, spaced}
use Rattle.kad_text.proofs.AddrText.{addr_visible, decimal_visible, hex_visible}

-- ---- each kind, from its word

marked : (text : List ℕ) (l : Line) → Spells text l → mark text ≡ kind l
marked text l s = ap mark s.printed ∙ kind_told l

-- a line of a table
pub record IsTable (text : List ℕ) (l : Line) : Type 0 where
  pub own : Id
  pub k : ℕ
  pub b : ℕ
  pub is : l ≡ line.Table own k b
  pub fits : FitsId own × (k < 256) × (b < 256)
  pub printed : text ≡ encode_lower own.0 ++ (32 ∷ (decimal k ++ (32 ∷ decimal b)))

table_shape : (o x y : List ℕ) → o ++ codes " " ++ x ++ codes " " ++ y ≡ o ++ (32 ∷ (x ++ (32 ∷ y)))
table_shape o x y = append_assoc (o ++ codes " " ++ x) (codes " ") y ∙ append_assoc (o ++ codes " ") x (32 ∷ y) ∙ append_assoc o (codes " ") (x ++ (32 ∷ y))

pub is_table : (text : List ℕ) (l : Line) → Spells (codes "table " ++ text) l → IsTable text l
unfolding text_of
is_table text (line.Table own k b) s = record { own = own; k = k; b = b; is = refl; fits = s.fits; printed = same_rest (codes "table ") text _ s.printed ∙ table_shape (encode_lower own.0) (decimal k) (decimal b) }
is_table text (line.Row p) s = (let m = marked (codes "table " ++ text) (line.Row p) s in absurd (omega arith))
is_table text (line.Live x) s = (let m = marked (codes "table " ++ text) (line.Live x) s in absurd (omega arith))
is_table text (line.Spare x) s = (let m = marked (codes "table " ++ text) (line.Spare x) s in absurd (omega arith))
is_table text (line.Sibling x) s = (let m = marked (codes "table " ++ text) (line.Sibling x) s in absurd (omega arith))
is_table text line.End s = (let m = marked (codes "table " ++ text) line.End s in absurd (omega arith))

pub table_line : (text : List ℕ) (own : Id) (k b : ℕ) → FitsId own → k ≤ 255 → b ≤ 255 → text ≡ encode_lower own.0 ++ (32 ∷ (decimal k ++ (32 ∷ decimal b))) → Spells (codes "table " ++ text) (line.Table own k b)
unfolding text_of
table_line text own k b f hk hb e = record {
  fits = (f, omega arith, omega arith);
  printed = ap (λ (x : List ℕ). codes "table " ++ x) (e ∙ sym (table_shape (encode_lower own.0) (decimal k) (decimal b)));
}

pub record IsRow (text : List ℕ) (l : Line) : Type 0 where
  pub prefix : List Bool
  pub is : l ≡ line.Row prefix
  pub fits : length prefix ≤ 160
  pub printed : text ≡ prefix_text prefix

pub is_row : (text : List ℕ) (l : Line) → Spells (codes "row " ++ text) l → IsRow text l
unfolding text_of
is_row text (line.Row p) s = record { prefix = p; is = refl; fits = s.fits; printed = same_rest (codes "row ") text _ s.printed }
is_row text (line.Table own k b) s = (let m = marked (codes "row " ++ text) (line.Table own k b) s in absurd (omega arith))
is_row text (line.Live x) s = (let m = marked (codes "row " ++ text) (line.Live x) s in absurd (omega arith))
is_row text (line.Spare x) s = (let m = marked (codes "row " ++ text) (line.Spare x) s in absurd (omega arith))
is_row text (line.Sibling x) s = (let m = marked (codes "row " ++ text) (line.Sibling x) s in absurd (omega arith))
is_row text line.End s = (let m = marked (codes "row " ++ text) line.End s in absurd (omega arith))

pub row_line : (text : List ℕ) (prefix : List Bool) → length prefix ≤ 160 → text ≡ prefix_text prefix → Spells (codes "row " ++ text) (line.Row prefix)
unfolding text_of
row_line text prefix f e = record { fits = f; printed = ap (λ (x : List ℕ). codes "row " ++ x) e }

pub record IsLive (text : List ℕ) (l : Line) : Type 0 where
  pub entry : Live
  pub is : l ≡ line.Live entry
  pub fits : FitsContact entry.contact
  pub few : entry.failures ≤ 1
  pub printed : text ≡ encode_lower entry.contact.id.0 ++ (32 ∷ (addr_text entry.contact.addr ++ (32 ∷ decimal entry.failures)))

live_shape : (i a f : List ℕ) → (i ++ codes " " ++ a) ++ codes " " ++ f ≡ i ++ (32 ∷ (a ++ (32 ∷ f)))
live_shape i a f = append_assoc (i ++ codes " " ++ a) (codes " ") f ∙ append_assoc (i ++ codes " ") a (32 ∷ f) ∙ append_assoc i (codes " ") (a ++ (32 ∷ f))

pub is_live : (text : List ℕ) (l : Line) → Spells (codes "live " ++ text) l → IsLive text l
unfolding text_of
is_live text (line.Live x) s = record {
  entry = x;
  is = refl;
  fits = s.fits.0;
  few = s.fits.1;
  printed = same_rest (codes "live ") text _ s.printed ∙ live_shape (encode_lower x.contact.id.0) (addr_text x.contact.addr) (decimal x.failures);
}
is_live text (line.Table own k b) s = (let m = marked (codes "live " ++ text) (line.Table own k b) s in absurd (omega arith))
is_live text (line.Row p) s = (let m = marked (codes "live " ++ text) (line.Row p) s in absurd (omega arith))
is_live text (line.Spare x) s = (let m = marked (codes "live " ++ text) (line.Spare x) s in absurd (omega arith))
is_live text (line.Sibling x) s = (let m = marked (codes "live " ++ text) (line.Sibling x) s in absurd (omega arith))
is_live text line.End s = (let m = marked (codes "live " ++ text) line.End s in absurd (omega arith))

pub live_line : (text : List ℕ) (id : Id) (addr : Addr) (failures : ℕ) → FitsContact (record { id = id; addr = addr }) → failures ≤ 1
    → text ≡ encode_lower id.0 ++ (32 ∷ (addr_text addr ++ (32 ∷ decimal failures))) → Spells (codes "live " ++ text) (line.Live (record { contact = record { id = id; addr = addr }; failures = failures }))
unfolding text_of
live_line text id addr failures f few e = record {
  fits = (f, few);
  printed = ap (λ (x : List ℕ). codes "live " ++ x) (e ∙ sym (live_shape (encode_lower id.0) (addr_text addr) (decimal failures)));
}

pub is_spare : (text : List ℕ) (l : Line) → Spells (codes "spare " ++ text) l → (c : Contact) × SpellsContact text c
unfolding text_of
is_spare text (line.Spare c) s = (c, record { fits = s.fits; printed = same_rest (codes "spare ") text _ s.printed })
is_spare text (line.Table own k b) s = (let m = marked (codes "spare " ++ text) (line.Table own k b) s in absurd (omega arith))
is_spare text (line.Row p) s = (let m = marked (codes "spare " ++ text) (line.Row p) s in absurd (omega arith))
is_spare text (line.Live x) s = (let m = marked (codes "spare " ++ text) (line.Live x) s in absurd (omega arith))
is_spare text (line.Sibling x) s = (let m = marked (codes "spare " ++ text) (line.Sibling x) s in absurd (omega arith))
is_spare text line.End s = (let m = marked (codes "spare " ++ text) line.End s in absurd (omega arith))

pub spare_line : (text : List ℕ) (c : Contact) → SpellsContact text c → Spells (codes "spare " ++ text) (line.Spare c)
unfolding text_of
spare_line text c s = record { fits = s.fits; printed = ap (λ (x : List ℕ). codes "spare " ++ x) s.printed }

pub is_sibling : (text : List ℕ) (l : Line) → Spells (codes "sibling " ++ text) l → (c : Contact) × SpellsContact text c
unfolding text_of
is_sibling text (line.Sibling c) s = (c, record { fits = s.fits; printed = same_rest (codes "sibling ") text _ s.printed })
is_sibling text (line.Table own k b) s = (let m = marked (codes "sibling " ++ text) (line.Table own k b) s in absurd (omega arith))
is_sibling text (line.Row p) s = (let m = marked (codes "sibling " ++ text) (line.Row p) s in absurd (omega arith))
is_sibling text (line.Live x) s = (let m = marked (codes "sibling " ++ text) (line.Live x) s in absurd (omega arith))
is_sibling text (line.Spare x) s = (let m = marked (codes "sibling " ++ text) (line.Spare x) s in absurd (omega arith))
is_sibling text line.End s = (let m = marked (codes "sibling " ++ text) line.End s in absurd (omega arith))

pub sibling_line : (text : List ℕ) (c : Contact) → SpellsContact text c → Spells (codes "sibling " ++ text) (line.Sibling c)
unfolding text_of
sibling_line text c s = record { fits = s.fits; printed = ap (λ (x : List ℕ). codes "sibling " ++ x) s.printed }

-- ---- where a line is cut

has : ℕ → List ℕ → Bool
has c [] = false
has c (d ∷ text) = (d == c) || has c text

lacks_by : (c : ℕ) (text : List ℕ) → has c text ≡ false → Lacks c text
unfolding has
lacks_by c [] h = All-nil (λ (d : ℕ). d ≢ c)
lacks_by c (d ∷ text) h =
    let parts = or_parts (d == c) (has c text) h in
    All-cons (λ (e : ℕ). e ≢ c) d text (eqb-false d c parts.0) (lacks_by c text parts.1)
  where
    or_parts : (a b : Bool) → (a || b) ≡ false → (a ≡ false) × (b ≡ false)
    or_parts true b e = cc e
    or_parts false b e = (refl, e)

-- no word has a space
word_table : Lacks 32 (codes "table")
unfolding has
word_table = lacks_by 32 (codes "table") refl

word_row : Lacks 32 (codes "row")
unfolding has
word_row = lacks_by 32 (codes "row") refl

word_live : Lacks 32 (codes "live")
unfolding has
word_live = lacks_by 32 (codes "live") refl

word_spare : Lacks 32 (codes "spare")
unfolding has
word_spare = lacks_by 32 (codes "spare") refl

word_sibling : Lacks 32 (codes "sibling")
unfolding has
word_sibling = lacks_by 32 (codes "sibling") refl

word_end : Lacks 32 (codes "end")
unfolding has
word_end = lacks_by 32 (codes "end") refl

pub end_line : (text : List ℕ) → text ≡ codes "end" → Spells text line.End
unfolding text_of
end_line text e = record { fits = tt; printed = e }

pub end_alone : (text : List ℕ) (l : Line) → Lacks 32 text → (text ≡ codes "end" → ⊥) → Spells text l → ⊥
unfolding text_of
end_alone text (line.Table own k b) w h s = lacking 32 text (codes "table") _ w s.printed
end_alone text (line.Row p) w h s = lacking 32 text (codes "row") _ w s.printed
end_alone text (line.Live x) w h s = lacking 32 text (codes "live") _ w s.printed
end_alone text (line.Spare x) w h s = lacking 32 text (codes "spare") _ w s.printed
end_alone text (line.Sibling x) w h s = lacking 32 text (codes "sibling") _ w s.printed
end_alone text line.End w h s = h s.printed

-- a word that begins a line behind which something stands
pub no_word : (word text : List ℕ) (l : Line) → Lacks 32 word → (word ≡ codes "table" → ⊥) → (word ≡ codes "row" → ⊥) → (word ≡ codes "live" → ⊥) → (word ≡ codes "spare" → ⊥) → (word ≡ codes "sibling" → ⊥)
    → Spells (word ++ 32 ∷ text) l → ⊥
unfolding text_of
no_word word text (line.Table own k b) w t r l p i s = t (cut_once 32 word (codes "table") text _ w word_table s.printed).0
no_word word text (line.Row x) w t r l p i s = r (cut_once 32 word (codes "row") text _ w word_row s.printed).0
no_word word text (line.Live x) w t r l p i s = l (cut_once 32 word (codes "live") text _ w word_live s.printed).0
no_word word text (line.Spare x) w t r l p i s = p (cut_once 32 word (codes "spare") text _ w word_spare s.printed).0
no_word word text (line.Sibling x) w t r l p i s = i (cut_once 32 word (codes "sibling") text _ w word_sibling s.printed).0
no_word word text line.End w t r l p i s = lacking 32 (codes "end") word text word_end (sym s.printed)

pub table_cut : (text a b c d : List ℕ) (l : Line) → IsCut 32 text a b → IsCut 32 b c d → (t : IsTable text l) → SpellsLower 20 a t.own.0 × (c ≡ decimal t.k) × (d ≡ decimal t.b)
table_cut text a b c d l u v t =
    let fits = t.fits in
    let small = fits.1 in
    let one = spaced text (encode_lower t.own.0) (decimal t.k ++ (32 ∷ decimal t.b)) a b u (hex_visible t.own.0 t.fits.0.1) t.printed in
    let two = spaced b (decimal t.k) (decimal t.b) c d v (decimal_visible t.k (omega arith)) one.1 in
    (record { long = t.fits.0.0; fit = t.fits.0.1; digits = one.0 }, two.0, two.1)

pub table_uncut : (text : List ℕ) (l : Line) → Lacks 32 text → IsTable text l → ⊥
table_uncut text l w t = lacking 32 text (encode_lower t.own.0) _ w t.printed

pub table_uncut_behind : (text a b : List ℕ) (l : Line) → IsCut 32 text a b → Lacks 32 b → IsTable text l → ⊥
table_uncut_behind text a b l u w t =
    let one = spaced text (encode_lower t.own.0) (decimal t.k ++ (32 ∷ decimal t.b)) a b u (hex_visible t.own.0 t.fits.0.1) t.printed in
    lacking 32 b (decimal t.k) (decimal t.b) w one.1

pub table_read : (text a b c d : List ℕ) (own : Id) (k m : ℕ) → IsCut 32 text a b → IsCut 32 b c d → SpellsLower 20 a own.0 → (k ≤ 255) × (c ≡ decimal k) → (m ≤ 255) × (d ≡ decimal m)
    → Spells (codes "table " ++ text) (line.Table own k m)
table_read text a b c d own k m u v s ck dm = table_line text own k m (s.long, s.fit) ck.0 dm.0 (u.split ∙ rw (s.digits, v.split, ck.1, dm.1) refl)

pub live_cut : (text a b c d : List ℕ) (l : Line) → IsCut 32 text a b → IsCut 32 b c d → (t : IsLive text l) → SpellsLower 20 a t.entry.contact.id.0 × SpellsAddr c t.entry.contact.addr × (d ≡ decimal t.entry.failures)
live_cut text a b c d l u v t =
    let x = t.entry.contact in
    let one = spaced text (encode_lower x.id.0) (addr_text x.addr ++ (32 ∷ decimal t.entry.failures)) a b u (hex_visible x.id.0 t.fits.0.1) t.printed in
    let two = spaced b (addr_text x.addr) (decimal t.entry.failures) c d v (addr_visible x.addr t.fits.1) one.1 in
    (record { long = t.fits.0.0; fit = t.fits.0.1; digits = one.0 }, record { fits = t.fits.1; printed = two.0 }, two.1)

pub live_uncut : (text : List ℕ) (l : Line) → Lacks 32 text → IsLive text l → ⊥
live_uncut text l w t = lacking 32 text (encode_lower t.entry.contact.id.0) _ w t.printed

pub live_uncut_behind : (text a b : List ℕ) (l : Line) → IsCut 32 text a b → Lacks 32 b → IsLive text l → ⊥
live_uncut_behind text a b l u w t =
    let x = t.entry.contact in
    let one = spaced text (encode_lower x.id.0) (addr_text x.addr ++ (32 ∷ decimal t.entry.failures)) a b u (hex_visible x.id.0 t.fits.0.1) t.printed in
    lacking 32 b (addr_text x.addr) (decimal t.entry.failures) w one.1

pub live_read : (text a b c d : List ℕ) (id : Id) (addr : Addr) (n : ℕ) → IsCut 32 text a b → IsCut 32 b c d → SpellsLower 20 a id.0 → SpellsAddr c addr → (n ≤ 1) × (d ≡ decimal n)
    → Spells (codes "live " ++ text) (line.Live (record { contact = record { id = id; addr = addr }; failures = n }))
live_read text a b c d id addr n u v i s f = live_line text id addr n ((i.long, i.fit), s.fits) f.0 (u.split ∙ rw (i.digits, v.split, s.printed, f.1) refl)
