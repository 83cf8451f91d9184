-- A contact line is cut at its spaces.
use Rattle.std.proofs.Common.{◌≡◌, ℕ, ◌<◌, true, false, List, [], ◌∷◌, ◌++◌, length, get_or, Option, Some, None, MatchOption, refl, sym, ap, ◌∙◌, arith, Bor, lit<}
use Rattle.std.specs.Prelude.{codes, All, IsAscii, IsUtf8, ◌==◌}
use Rattle.std.specs.Str.Lines.{strip_carriage_return}
use Rattle.std.proofs.lemmas.Str.{IsUtf8-from_ascii}
use Rattle.std.proofs.Math.Seq.{get_or-append_seam}
use Rattle.std.proofs.lemmas.List.{append_assoc, append-nil, length-append}
use Rattle.std.proofs.lemmas.List.Elements.{All-append, All-cons, All-nil}
use Rattle.std.proofs.lemmas.Str.Ascii.{IsAscii-from_all}
use Rattle.std.proofs.lemmas.Str.Pattern.{IsSplitOnceResult, split_after, split_parts}
use Rattle.hex.specs.Hex.{is_hex_digit}
use Rattle.kad_base.specs.declared.types.Proof.{Proof}
use Rattle.kad_base.specs.declared.types.Report.{Report}
use Rattle.kad_base.specs.declared.types.Addr.{Addr}
use Rattle.kad_base.specs.declared.types.Id.{Id}
use Rattle.kad_text.specs.Text.{SpellsAddr, SpellsHex, SpellsId}
use Rattle.kad_text.specs.Lines.{EndsWithProof, IsBad, IsContactLine, IsPassedOver, SpellsProof}
use Rattle.kad_text.proofs.AddrText.{IsVisible, spelled_visible}
use Rattle.kad_text.proofs.HexSpelling.{spells_digits}

digit_visible : (c : ℕ) → is_hex_digit c ≡ true → IsVisible c
digit_visible c h = (grind (arith), grind (arith))

pub hex_visible : (n : ℕ) (text bytes : List ℕ) → SpellsHex n text bytes → All IsVisible text
hex_visible n text bytes s k d lt = digit_visible (get_or text k d) ((spells_digits n text bytes s).1 k d lt)

-- ---- where a text is cut at its first space

pub cut_after : (text front back : List ℕ) (r : Option (Bor (List ℕ) × Bor (List ℕ))) → IsSplitOnceResult 32 text r → text ≡ front ++ (codes " " ++ back) → All IsVisible front
    → MatchOption r ⊥ (λ x. (x.0.now ≡ front) × (x.1.now ≡ back))
cut_after text front back r h e v = split_after 32 text front back r h (lit< tt) e (λ i lt f. let b = v i 0 lt in omega arith)

-- a text of visible characters has none
pub uncut : (text a b : List ℕ) → All IsVisible text → text ≡ a ++ (32 ∷ b) → ⊥
uncut text a b v e =
    let lt : length a < length text = rw (e, length-append) (omega arith) in
    let at : get_or text (length a) 0 ≡ 32 = rw e (get_or-append_seam a 32 b 0) in
    let seen = v (length a) 0 lt in
    omega arith

pub proof_cut : (text : List ℕ) (r : Option (Bor (List ℕ) × Bor (List ℕ))) (proof : Proof) → IsSplitOnceResult 32 text r → SpellsProof text proof
    → MatchOption r ⊥ (λ x. SpellsHex 32 x.0.now proof.key × SpellsHex 20 x.1.now proof.x)
proof_cut text None proof h s = cut_after text s.key s.x None h (s.spelled ∙ append_assoc s.key (codes " ") s.x) (hex_visible 32 s.key proof.key s.spells_key)
proof_cut text (Some x) proof h s =
    let cut = cut_after text s.key s.x (Some x) h (s.spelled ∙ append_assoc s.key (codes " ") s.x) (hex_visible 32 s.key proof.key s.spells_key) in
    rw (cut.0, cut.1) (s.spells_key, s.spells_x)

-- what follows the identifier and its space
pub record FollowsId (text : List ℕ) (report : Report) : Type 0 where
  pub address : List ℕ
  pub rest : List ℕ
  pub spelled : text ≡ address ++ rest
  pub spells_addr : SpellsAddr address report.contact.addr
  pub ends : EndsWithProof rest report.proof

line_join : (line id address rest : List ℕ) → line ≡ id ++ codes " " ++ address ++ rest → line ≡ id ++ (codes " " ++ (address ++ rest))
line_join line id address rest e = e ∙ append_assoc (id ++ codes " ") address rest ∙ append_assoc id (codes " ") (address ++ rest)

follows : (line text : List ℕ) (report : Report) (s : IsContactLine line report) → text ≡ s.address ++ s.rest → FollowsId text report
follows line text report s e = record { address = s.address; rest = s.rest; spelled = e; spells_addr = s.spells_addr; ends = s.ends }

pub line_cut : (line : List ℕ) (r : Option (Bor (List ℕ) × Bor (List ℕ))) (report : Report) → IsSplitOnceResult 32 line r → IsContactLine line report
    → MatchOption r ⊥ (λ x. SpellsId x.0.now report.contact.id × FollowsId x.1.now report)
line_cut line None report h s = cut_after line s.id (s.address ++ s.rest) None h (line_join line s.id s.address s.rest s.spelled) (hex_visible 20 s.id report.contact.id.0 s.spells_id)
line_cut line (Some x) report h s =
    let cut = cut_after line s.id (s.address ++ s.rest) (Some x) h (line_join line s.id s.address s.rest s.spelled) (hex_visible 20 s.id report.contact.id.0 s.spells_id) in
    (rw cut.0 s.spells_id, follows line x.1.now report s cut.1)

-- where it is cut, it has a proof
pub record HasProof (text : List ℕ) (proof : Option Proof) : Type 0 where
  pub it : Proof
  pub is : proof ≡ Some it
  pub spells : SpellsProof text it

bare : (text address rest : List ℕ) (addr : Addr) → text ≡ address ++ rest → SpellsAddr address addr → rest ≡ [] → SpellsAddr text addr
bare text address rest addr e s h = rw (e, h, append-nil) s

rest_cut : (text address rest : List ℕ) (addr : Addr) (proof : Option Proof) (r : Option (Bor (List ℕ) × Bor (List ℕ))) → IsSplitOnceResult 32 text r → text ≡ address ++ rest
    → SpellsAddr address addr → EndsWithProof rest proof
    → MatchOption r (SpellsAddr text addr × (proof ≡ None)) (λ x. SpellsAddr x.0.now addr × HasProof x.1.now proof)
rest_cut text address rest addr None None h e s p = (bare text address rest addr e s p, refl)
rest_cut text address rest addr None (Some x) h e s p =
    absurd (uncut text x.0.now x.1.now (spelled_visible text addr (bare text address rest addr e s p)) (split_parts 32 text (Some x) h (lit< tt)).0)
rest_cut text address rest addr (Some proof) None h e s p =
    absurd (cut_after text address p.0 None h (e ∙ ap (λ (l : List ℕ). address ++ l) p.1) (spelled_visible address addr s))
rest_cut text address rest addr (Some proof) (Some x) h e s p =
    let cut = cut_after text address p.0 (Some x) h (e ∙ ap (λ (l : List ℕ). address ++ l) p.1) (spelled_visible address addr s) in
    (rw cut.0 s, record { it = proof; is = refl; spells = rw cut.1 p.2 })

pub follows_cut : (text : List ℕ) (report : Report) (r : Option (Bor (List ℕ) × Bor (List ℕ))) → IsSplitOnceResult 32 text r → FollowsId text report
    → MatchOption r (SpellsAddr text report.contact.addr × (report.proof ≡ None)) (λ x. SpellsAddr x.0.now report.contact.addr × HasProof x.1.now report.proof)
follows_cut text report r h f = rest_cut text f.address f.rest report.contact.addr report.proof r h f.spelled f.spells_addr f.ends

-- ---- parts that make a contact line

pub plain_line : (line id rest : List ℕ) (i : Id) (a : Addr) → line ≡ id ++ (32 ∷ rest) → SpellsId id i → SpellsAddr rest a
    → IsContactLine line (record { contact = record { id = i; addr = a }; proof = None })
plain_line line id rest i a e si sa = record {
  id = id;
  address = rest;
  rest = [];
  spelled = e ∙ sym (append_assoc id (codes " ") rest) ∙ sym (append-nil (id ++ codes " " ++ rest));
  spells_id = si;
  spells_addr = sa;
  ends = refl;
}

pub proved_line : (line id rest addr text : List ℕ) (i : Id) (a : Addr) (p : Proof) → line ≡ id ++ (32 ∷ rest) → rest ≡ addr ++ (32 ∷ text) → SpellsId id i → SpellsAddr addr a → SpellsProof text p
    → IsContactLine line (record { contact = record { id = i; addr = a }; proof = Some p })
proved_line line id rest addr text i a p e f si sa sp = record {
  id = id;
  address = addr;
  rest = 32 ∷ text;
  spelled = e ∙ ap (λ (l : List ℕ). id ++ (32 ∷ l)) f ∙ sym (append_assoc id (codes " ") (addr ++ (32 ∷ text))) ∙ sym (append_assoc (id ++ codes " ") addr (32 ∷ text));
  spells_id = si;
  spells_addr = sa;
  ends = (text, refl, sp);
}

not_passed : (line : List ℕ) → false ≡ (length line == 0) → (get_or line 0 0 ≡ 35 → ⊥) → IsPassedOver line → ⊥
not_passed [] n c p = cc n
not_passed (b ∷ rest) n c p = c p

-- ---- a contact line is ASCII

pub ascii_of : (xs : List ℕ) → All IsVisible xs → All (λ c. c < 128) xs
ascii_of xs h k d lt = (h k d lt).1

proof_ascii : (text : List ℕ) (proof : Proof) → SpellsProof text proof → All (λ c. c < 128) text
proof_ascii text proof s =
    let P : ℕ → Type 0 = λ c. c < 128 in
    let space = All-cons P 32 [] (lit< tt) (All-nil P) in
    let key = ascii_of s.key (hex_visible 32 s.key proof.key s.spells_key) in
    let x = ascii_of s.x (hex_visible 20 s.x proof.x s.spells_x) in
    rw s.spelled (All-append P _ _ (All-append P _ _ key space) x)

end_ascii : (rest : List ℕ) (proof : Option Proof) → EndsWithProof rest proof → All (λ c. c < 128) rest
end_ascii rest None e = rw e (All-nil (λ (c : ℕ). c < 128))
end_ascii rest (Some proof) e = rw e.1 (All-cons (λ (c : ℕ). c < 128) 32 e.0 (lit< tt) (proof_ascii e.0 proof e.2))

pub line_ascii : (line : List ℕ) (report : Report) → IsContactLine line report → IsAscii line
line_ascii line report s =
    let P : ℕ → Type 0 = λ c. c < 128 in
    let space = All-cons P 32 [] (lit< tt) (All-nil P) in
    let id = ascii_of s.id (hex_visible 20 s.id report.contact.id.0 s.spells_id) in
    let addr = ascii_of s.address (spelled_visible s.address report.contact.addr s.spells_addr) in
    let end = end_ascii s.rest report.proof s.ends in
    IsAscii-from_all line (rw s.spelled (All-append P _ _ (All-append P _ _ (All-append P _ _ id space) addr) end))

-- a line that isn't text is bad
pub not_text : (line trimmed : List ℕ) → trimmed ≡ strip_carriage_return line → (IsUtf8 trimmed → ⊥) → false ≡ (length trimmed == 0) → (get_or trimmed 0 0 ≡ 35 → ⊥) → IsBad line
not_text line trimmed e u n c None t = not_passed trimmed n c (rw (← e) at t)
not_text line trimmed e u n c (Some report) t = u (IsUtf8-from_ascii trimmed (line_ascii trimmed report (rw (← e) at t)))
