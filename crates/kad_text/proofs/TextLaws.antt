-- A text has one reading.
use Rattle.std.proofs.Common.{◌≡◌, ◌≢◌, ℕ, suc, ◌+◌, true, List, [], ◌∷◌, ◌++◌, length, Option, Some, None, refl, sym, ap, ◌∙◌, subst, arith}
use Rattle.std.specs.Prelude.{codes, All, flat_map, option_to_list}
use Rattle.std.specs.List.{AllZip, AllPass}
use Rattle.std.proofs.lemmas.List.{append_assoc, append-nil}
use Rattle.std.proofs.lemmas.List.Elements.{All-head}
use Rattle.hex.specs.Hex.{IsBytes, encode_lower, is_hex_digit}
use Rattle.kad_base.specs.declared.types.Id.{Id}
use Rattle.kad_base.specs.declared.types.Addr.{Addr}
use Rattle.kad_base.specs.declared.types.Contact.{Contact}
use Rattle.kad_base.specs.declared.types.Proof.{Proof}
use Rattle.kad_base.specs.declared.types.Report.{Report}
use Rattle.kad_text.specs.Text.{FitsAddr, SpellsAddr, SpellsHex, SpellsId, addr_text}
use Rattle.kad_text.specs.Lines.{EndsWithProof, IsBad, IsContactLine, IsFirstBad, IsPassedOver, Reporting, SpellsProof, Tells}
use Rattle.kad_text.specs.Text.{contact_text}
use Rattle.kad_text.proofs.AddrText.{IsVisible, addr_itself, lower_hex, spelled_visible}
use Rattle.kad_text.proofs.HexSpelling.{spells_digits}
use Rattle.kad_text.proofs.OneSpelling.{addr_once, cut_once, hex_once, id_once}
use Rattle.kad_text.proofs.LineSpelling.{hex_visible, plain_line, uncut}

no_space : (xs : List ℕ) → All IsVisible xs → All (λ d. d ≢ 32) xs
no_space xs h k d lt e = let v = h k d lt in omega arith

-- ---- contact lines

proof_once : (text : List ℕ) (a b : Proof) → SpellsProof text a → SpellsProof text b → a ≡ b
proof_once text a b s t =
    let joined : s.key ++ (32 ∷ s.x) ≡ t.key ++ (32 ∷ t.x) =
    sym (append_assoc s.key (codes " ") s.x) ∙ sym s.spelled ∙ t.spelled ∙ append_assoc t.key (codes " ") t.x in
    let cut = cut_once 32 s.key t.key s.x t.x (no_space s.key (hex_visible 32 s.key a.key s.spells_key)) (no_space t.key (hex_visible 32 t.key b.key t.spells_key)) joined in
    let made : List ℕ → List ℕ → Proof = λ key x. record { key = key; x = x } in
    ap (λ (k : List ℕ). made k a.x) (hex_once 32 t.key a.key b.key (subst (λ (l : List ℕ). SpellsHex 32 l a.key) cut.0 s.spells_key) t.spells_key)
    ∙ ap (made b.key) (hex_once 20 t.x a.x b.x (subst (λ (l : List ℕ). SpellsHex 20 l a.x) cut.1 s.spells_x) t.spells_x)

ends_once : (x y p q : List ℕ) (a b : Addr) (c d : Option Proof) → x ++ p ≡ y ++ q → SpellsAddr x a → SpellsAddr y b → EndsWithProof p c → EndsWithProof q d → (a ≡ b) × (c ≡ d)
ends_once x y p q a b None None e s t hp hq =
    let same : x ≡ y = sym (append-nil x) ∙ ap (λ (l : List ℕ). x ++ l) (sym hp) ∙ e ∙ ap (λ (l : List ℕ). y ++ l) hq ∙ append-nil y in
    (addr_once y a b (subst (λ (l : List ℕ). SpellsAddr l a) same s) t, refl)
ends_once x y p q a b None (Some d) e s t hp hq =
    absurd (uncut x y hq.0 (spelled_visible x a s) (sym (append-nil x) ∙ ap (λ (l : List ℕ). x ++ l) (sym hp) ∙ e ∙ ap (λ (l : List ℕ). y ++ l) hq.1))
ends_once x y p q a b (Some c) None e s t hp hq =
    absurd (uncut y x hp.0 (spelled_visible y b t) (sym (append-nil y) ∙ ap (λ (l : List ℕ). y ++ l) (sym hq) ∙ sym e ∙ ap (λ (l : List ℕ). x ++ l) hp.1))
ends_once x y p q a b (Some c) (Some d) e s t hp hq =
    let joined : x ++ (32 ∷ hp.0) ≡ y ++ (32 ∷ hq.0) = ap (λ (l : List ℕ). x ++ l) (sym hp.1) ∙ e ∙ ap (λ (l : List ℕ). y ++ l) hq.1 in
    let cut = cut_once 32 x y hp.0 hq.0 (no_space x (spelled_visible x a s)) (no_space y (spelled_visible y b t)) joined in
    (addr_once y a b (subst (λ (l : List ℕ). SpellsAddr l a) cut.0 s) t, ap (λ (z : Proof). Some z) (proof_once hq.0 c d (subst (λ (l : List ℕ). SpellsProof l c) cut.1 hp.2) hq.2))

pub whole : (line id address rest : List ℕ) → line ≡ id ++ codes " " ++ address ++ rest → line ≡ id ++ (32 ∷ (address ++ rest))
whole line id address rest e = e ∙ append_assoc (id ++ codes " ") address rest ∙ append_assoc id (codes " ") (address ++ rest)

report_of : Id → Addr → Option Proof → Report
report_of id addr proof = record { contact = record { id = id; addr = addr }; proof = proof }

pub contact_once : (line : List ℕ) (a b : Report) → IsContactLine line a → IsContactLine line b → a ≡ b
unfolding report_of
contact_once line a b s t =
    let joined = sym (whole line s.id s.address s.rest s.spelled) ∙ whole line t.id t.address t.rest t.spelled in
    let cut = cut_once 32 s.id t.id (s.address ++ s.rest) (t.address ++ t.rest) (no_space s.id (hex_visible 20 s.id a.contact.id.0 s.spells_id)) (no_space t.id (hex_visible 20 t.id b.contact.id.0 t.spells_id)) joined in
    let ids = id_once t.id a.contact.id b.contact.id (subst (λ (l : List ℕ). SpellsId l a.contact.id) cut.0 s.spells_id) t.spells_id in
    let ends = ends_once s.address t.address s.rest t.rest a.contact.addr b.contact.addr a.proof b.proof cut.1 s.spells_addr t.spells_addr s.ends t.ends in
    ap (λ (i : Id). report_of i a.contact.addr a.proof) ids ∙ ap (λ (x : Addr). report_of b.contact.id x a.proof) ends.0 ∙ ap (report_of b.contact.id b.contact.addr) ends.1

-- ---- lines

-- a contact line begins with a hex digit
digit_first : (id rest : List ℕ) → length id ≡ 40 → AllPass is_hex_digit id → IsPassedOver (id ++ rest) → ⊥
digit_first [] rest len d p = absurd (omega arith)
digit_first (c ∷ id) rest len d p =
    let one = All-head (λ (x : ℕ). is_hex_digit x ≡ true) c id d in
    let test : is_hex_digit 35 ≡ true = ap is_hex_digit (sym p) ∙ one in
    cc test

pub not_passed_over : (line : List ℕ) (report : Report) → IsContactLine line report → IsPassedOver line → ⊥
not_passed_over line report s p =
    let d = spells_digits 20 s.id report.contact.id.0 s.spells_id in
    digit_first s.id (32 ∷ (s.address ++ s.rest)) d.0 d.1 (subst IsPassedOver (whole line s.id s.address s.rest s.spelled) p)

told_once : (line : List ℕ) (a b : Option Report) → Tells line a → Tells line b → a ≡ b
told_once line None None s t = refl
told_once line None (Some b) s t = absurd (not_passed_over _ b t s)
told_once line (Some a) None s t = absurd (not_passed_over _ a s t)
told_once line (Some a) (Some b) s t = ap (λ (x : Report). Some x) (contact_once _ a b s t)

all_told_once : (input : List (List ℕ)) (a b : List (Option Report)) → AllZip Tells input a → AllZip Tells input b → a ≡ b
all_told_once [] [] [] s t = refl
all_told_once [] [] (y ∷ b) s t = absurd t
all_told_once [] (x ∷ a) b s t = absurd s
all_told_once (line ∷ input) [] b s t = absurd s
all_told_once (line ∷ input) (x ∷ a) [] s t = absurd t
all_told_once (line ∷ input) (x ∷ a) (y ∷ b) s t =
    ap (λ (z : Option Report). z ∷ a) (told_once line x y s.0 t.0) ∙ ap (λ (l : List (Option Report)). y ∷ l) (all_told_once input a b s.1 t.1)

pub reading_once : (input : List (List ℕ)) (a b : List Report) → Reporting input a → Reporting input b → a ≡ b
reading_once input a b s t = s.kept ∙ ap (flat_map option_to_list) (all_told_once input s.told t.told s.each t.each) ∙ sym t.kept

-- a bad line stands in no input that is read
bad_inside : (before after : List (List ℕ)) (line : List ℕ) (told : List (Option Report)) → AllZip Tells (before ++ line ∷ after) told → IsBad line → ⊥
bad_inside [] after line [] s b = s
bad_inside [] after line (x ∷ told) s b = b x s.0
bad_inside (l ∷ before) after line [] s b = s
bad_inside (l ∷ before) after line (x ∷ told) s b = bad_inside before after line told s.1 b

pub read_or_bad : (input : List (List ℕ)) (reports : List Report) (number : ℕ) → Reporting input reports → IsFirstBad input number → ⊥
read_or_bad input reports number r f = bad_inside f.before f.after f.line r.told (subst (λ (l : List (List ℕ)). AllZip Tells l r.told) f.split r.each) f.bad

first_once : (a b c d : List (List ℕ)) (x y : List ℕ) (s t : List (Option Report)) → a ++ x ∷ c ≡ b ++ y ∷ d → AllZip Tells a s → AllZip Tells b t → IsBad x → IsBad y → length a ≡ length b
first_once [] [] c d x y s t e ha hb bx by = refl
first_once [] (l ∷ b) c d x y s [] e ha hb bx by = absurd hb
first_once [] (l ∷ b) c d x y s (z ∷ t) e ha hb bx by = absurd (bx z (let same : l ≡ x = cc in subst (λ (q : List ℕ). Tells q z) same hb.0))
first_once (l ∷ a) [] c d x y [] t e ha hb bx by = absurd ha
first_once (l ∷ a) [] c d x y (z ∷ s) t e ha hb bx by = absurd (by z (let same : l ≡ y = cc in subst (λ (q : List ℕ). Tells q z) same ha.0))
first_once (l ∷ a) (m ∷ b) c d x y [] t e ha hb bx by = absurd ha
first_once (l ∷ a) (m ∷ b) c d x y (z ∷ s) [] e ha hb bx by = absurd hb
first_once (l ∷ a) (m ∷ b) c d x y (z ∷ s) (w ∷ t) e ha hb bx by =
    let rest : a ++ x ∷ c ≡ b ++ y ∷ d = cc in
    ap suc (first_once a b c d x y s t rest ha.1 hb.1 bx by)

pub bad_once : (input : List (List ℕ)) (m n : ℕ) → IsFirstBad input m → IsFirstBad input n → m ≡ n
bad_once input m n f g =
    let same = first_once f.before g.before f.after g.after f.line g.line f.good.1.told g.good.1.told (sym f.split ∙ g.split) f.good.1.each g.good.1.each f.bad g.bad in
    f.place ∙ ap (λ (k : ℕ). k + 1) same ∙ sym g.place

-- ---- what is printed reads back

pub reads_back : (contact : Contact) → length contact.id.0 ≡ 20 → IsBytes contact.id.0 → FitsAddr contact.addr
    → IsContactLine (contact_text contact) (record { contact = contact; proof = None })
reads_back contact len fit fits =
    plain_line (contact_text contact) (encode_lower contact.id.0) (addr_text contact.addr) contact.id contact.addr
    (append_assoc (encode_lower contact.id.0) (codes " ") (addr_text contact.addr))
    (record { long = len; fit = fit; digits = lower_hex contact.id.0 fit })
    (addr_itself contact.addr fits)
