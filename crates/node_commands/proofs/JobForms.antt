-- A line that names a job names one, and is neither passed over nor a contact line; and how it is cut.
use Rattle.std.proofs.Common.{◌≡◌, ◌≢◌, ℕ, ◌+◌, ◌*◌, ◌<◌, Bool, true, false, List, [], ◌∷◌, ◌++◌, length, Option, Some, None, MatchOption, refl, sym, ap, subst, ◌∙◌, arith, lit<, Bor}
use Rattle.std.specs.Prelude.{All, IsUtf8, codes, ◌&&◌}
use Rattle.std.specs.List.{AllPass}
use Rattle.std.proofs.lemmas.Str.{IsUtf8-from_ascii}
use Rattle.std.proofs.lemmas.Str.Ascii.{IsAscii-from_all}
use Rattle.std.proofs.lemmas.Str.Pattern.{IsSplitOnceResult}
use Rattle.std.proofs.lemmas.List.{append_cancel_left}
use Rattle.std.proofs.lemmas.List.Elements.{All-append, All-cons, All-nil}
use Rattle.hex.specs.Hex.{is_hex_digit}
use Rattle.kad_base.specs.declared.types.Id.{Id}
use Rattle.kad_base.specs.declared.types.Report.{Report}
use Rattle.item_store.specs.Items.{IsItem, key_of}
use Rattle.look_many.specs.Job.{MaySayOf}
use Rattle.look_many.specs.declared.job.Job.{Job}
use Rattle.look_many.specs.declared.job.Job.TheVariants.{Announce, Find, Get, Peers, Put}
use Rattle.kad_text.specs.Lines.{IsContactLine, IsPassedOver}
use Rattle.kad_text.specs.Text.{SpellsBytes, SpellsId, SpellsNumber}
use Rattle.kad_text.proofs.AddrSpelling.{decimal_digits}
use Rattle.kad_text.proofs.AddrText.{IsVisible}
use Rattle.kad_text.proofs.HexSpelling.{spells_digits}
use Rattle.kad_text.proofs.LineSpelling.{ascii_of, cut_after, hex_visible}
use Rattle.kad_text.proofs.OneSpelling.{bytes_once, cut_once, id_once, number_once}
use Rattle.kad_text.proofs.TextLaws.{whole}
use Rattle.node_commands.specs.JobLines.{IsAnnounceLine, IsJobLine, IsPutLine, NamesId}

-- ---- each form says one thing

names_once : (word line : List ℕ) (a b : Id) → NamesId word line a → NamesId word line b → a ≡ b
names_once word line a b s t =
    let same = append_cancel_left word s.digits t.digits (sym s.spelled ∙ t.spelled) in
    id_once t.digits a b (subst (λ (l : List ℕ). SpellsId l a) same s.spells_id) t.spells_id

no_space : (xs : List ℕ) → All IsVisible xs → All (λ d. d ≢ 32) xs
no_space xs h k d lt e = let v = h k d lt in omega arith

announced_once : (line : List ℕ) (a b : Id) (p q : ℕ) → IsAnnounceLine line a p → IsAnnounceLine line b q → Announce a p ≡ Announce b q
announced_once line a b p q s t =
    let joined = append_cancel_left (codes "announce ") (s.digits ++ (codes " " ++ s.number)) (t.digits ++ (codes " " ++ t.number)) (sym s.spelled ∙ t.spelled) in
    let cut = cut_once 32 s.digits t.digits s.number t.number (no_space s.digits (hex_visible 20 s.digits a.0 s.spells_key)) (no_space t.digits (hex_visible 20 t.digits b.0 t.spells_key)) joined in
    let key = id_once t.digits a b (subst (λ (l : List ℕ). SpellsId l a) cut.0 s.spells_key) t.spells_key in
    let port = number_once 0 65535 t.number p q (omega arith) (subst (λ (l : List ℕ). SpellsNumber 0 65535 l p) cut.1 s.spells_port) t.spells_port in
    ap (λ (k : Id). Announce k p) key ∙ ap (λ (n : ℕ). Announce b n) port

put_once : (line : List ℕ) (a b : Id) (v w : List ℕ) → IsPutLine line a v → IsPutLine line b w → Put a v ≡ Put b w
put_once line a b v w s t =
    let same = append_cancel_left (codes "put ") s.digits t.digits (sym s.spelled ∙ t.spelled) in
    let one : v ≡ w = bytes_once t.digits v w (subst (λ (l : List ℕ). SpellsBytes l v) same s.spells_value) t.spells_value in
    let key : a ≡ b = s.key_is ∙ ap key_of one ∙ sym t.key_is in
    ap (λ (k : Id). Put k v) key ∙ ap (λ (l : List ℕ). Put b l) one

-- ---- no two forms are one: their words differ in the first two characters

mark : List ℕ → ℕ
mark [] = 0
mark (a ∷ []) = 0
mark (a ∷ (b ∷ rest)) = 256 * a + b

mark_of : Job → ℕ
mark_of (Find target) = 26217
mark_of (Peers key) = 28773
mark_of (Announce key port) = 24942
mark_of (Get key) = 26469
mark_of (Put key v) = 28789

marked : (line : List ℕ) (job : Job) → IsJobLine line job → mark line ≡ mark_of job
unfolding mark mark_of
marked line (Find target) s = ap mark s.spelled
marked line (Peers key) s = ap mark s.spelled
marked line (Announce key port) s = ap mark s.spelled
marked line (Get key) s = ap mark s.spelled
marked line (Put key v) s = ap mark s.spelled

same_mark : (line : List ℕ) (a b : Job) → IsJobLine line a → IsJobLine line b → mark_of a ≡ mark_of b
same_mark line a b s t = sym (marked line a s) ∙ marked line b t

pub job_once : (line : List ℕ) (a b : Job) → IsJobLine line a → IsJobLine line b → a ≡ b
unfolding mark_of
job_once line (Find a) (Find b) s t = ap Find (names_once (codes "find ") line a b s t)
job_once line (Peers a) (Peers b) s t = ap Peers (names_once (codes "peers ") line a b s t)
job_once line (Announce a p) (Announce b q) s t = announced_once line a b p q s t
job_once line (Get a) (Get b) s t = ap Get (names_once (codes "get ") line a b s t)
job_once line (Put a v) (Put b w) s t = put_once line a b v w s t
job_once line a b s t = let e = same_mark line a b s t in absurd (omega (arith, e))

-- ---- nor is one of them another line

pub job_not_passed : (line : List ℕ) (job : Job) → IsJobLine line job → IsPassedOver line → ⊥
job_not_passed line (Find target) s p = let e : 102 ≡ 35 = subst IsPassedOver s.spelled p in absurd (omega (arith, e))
job_not_passed line (Peers key) s p = let e : 112 ≡ 35 = subst IsPassedOver s.spelled p in absurd (omega (arith, e))
job_not_passed line (Announce key port) s p = let e : 97 ≡ 35 = subst IsPassedOver s.spelled p in absurd (omega (arith, e))
job_not_passed line (Get key) s p = let e : 103 ≡ 35 = subst IsPassedOver s.spelled p in absurd (omega (arith, e))
job_not_passed line (Put key v) s p = let e : 112 ≡ 35 = subst IsPassedOver s.spelled p in absurd (omega (arith, e))

-- whether a line begins with two hex digits
begins_hex : List ℕ → Bool
begins_hex [] = false
begins_hex (a ∷ []) = false
begins_hex (a ∷ (b ∷ rest)) = is_hex_digit a && is_hex_digit b

job_no_hex : (line : List ℕ) (job : Job) → IsJobLine line job → begins_hex line ≡ false
unfolding begins_hex
job_no_hex line (Find target) s = ap begins_hex s.spelled
job_no_hex line (Peers key) s = ap begins_hex s.spelled
job_no_hex line (Announce key port) s = ap begins_hex s.spelled
job_no_hex line (Get key) s = ap begins_hex s.spelled
job_no_hex line (Put key v) s = ap begins_hex s.spelled

digits_begin : (id rest : List ℕ) → length id ≡ 40 → AllPass is_hex_digit id → begins_hex (id ++ rest) ≡ true
unfolding begins_hex
digits_begin [] rest len d = absurd (omega (arith, len))
digits_begin (a ∷ []) rest len d = absurd (omega (arith, len))
digits_begin (a ∷ (b ∷ id)) rest len d =
    let one : is_hex_digit a ≡ true = d 0 0 (omega arith) in
    let two : is_hex_digit b ≡ true = d 1 0 (omega arith) in
    rw (one, two) refl

pub job_not_contact : (line : List ℕ) (job : Job) (report : Report) → IsJobLine line job → IsContactLine line report → ⊥
job_not_contact line job report f s =
    let d = spells_digits 20 s.id report.contact.id.0 s.spells_id in
    let hex = digits_begin s.id (32 ∷ (s.address ++ s.rest)) d.0 d.1 in
    let bare = job_no_hex line job f in
    cc (sym bare ∙ ap begins_hex (whole line s.id s.address s.rest s.spelled) ∙ hex)

-- ---- where a word and an identifier are read

named_cut : (word line digits : List ℕ) (id : Id) → line ≡ word ++ digits → NamesId word line id → SpellsId digits id
named_cut word line digits id e f = subst (λ (l : List ℕ). SpellsId l id) (append_cancel_left word f.digits digits (sym f.spelled ∙ e)) f.spells_id

pub named_at : (word line digits text : List ℕ) (r : Option Id) → line ≡ word ++ digits → text ≡ digits → MatchOption r ((x : Id) → ¬ SpellsId text x) (λ x. SpellsId text x)
    → MatchOption r ((x : Id) → ¬ NamesId word line x) (λ x. NamesId word line x)
named_at word line digits text None e same h = λ id f. h id (subst (λ (l : List ℕ). SpellsId l id) (sym same) (named_cut word line digits id e f))
named_at word line digits text (Some x) e same h = record { digits = digits; spelled = e; spells_id = subst (λ (l : List ℕ). SpellsId l x) same h }

pub unworded : (word line : List ℕ) → ((rest : List ℕ) → line ≢ word ++ rest) → (id : Id) → ¬ NamesId word line id
unworded word line none_ id f = none_ f.digits f.spelled

pub untexted : (word line digits : List ℕ) → line ≡ word ++ digits → (IsUtf8 digits → ⊥) → (id : Id) → ¬ NamesId word line id
untexted word line digits e u id f =
    let s = named_cut word line digits id e f in
    u (IsUtf8-from_ascii digits (IsAscii-from_all digits (ascii_of digits (hex_visible 20 digits id.0 s))))

-- ---- where an announcement is read

announce_rest : (line rest : List ℕ) (key : Id) (port : ℕ) → line ≡ codes "announce " ++ rest → (f : IsAnnounceLine line key port) → rest ≡ f.digits ++ (codes " " ++ f.number)
announce_rest line rest key port e f = append_cancel_left (codes "announce ") rest (f.digits ++ (codes " " ++ f.number)) (sym e ∙ f.spelled)

number_ascii : (text : List ℕ) (port : ℕ) → SpellsNumber 0 65535 text port → All (λ c. c < 128) text
number_ascii text port s =
    let low = s.below in
    subst (All (λ (c : ℕ). c < 128)) (sym s.digits) (λ k d lt. let b = decimal_digits port (omega arith) k d lt in omega arith)

pub announce_text : (line rest : List ℕ) → line ≡ codes "announce " ++ rest → (IsUtf8 rest → ⊥) → (key : Id) (port : ℕ) → ¬ IsAnnounceLine line key port
announce_text line rest e u key port f =
    let P : ℕ → Type 0 = λ c. c < 128 in
    let space = All-cons P 32 [] (lit< tt) (All-nil P) in
    let digits = ascii_of f.digits (hex_visible 20 f.digits key.0 f.spells_key) in
    let number = number_ascii f.number port f.spells_port in
    u (subst IsUtf8 (sym (announce_rest line rest key port e f)) (IsUtf8-from_ascii _ (IsAscii-from_all _ (All-append P f.digits (codes " " ++ f.number) digits (All-append P (codes " ") f.number space number)))))

-- it is cut at its first space behind the word
pub announce_cut : (line rest : List ℕ) (r : Option (Bor (List ℕ) × Bor (List ℕ))) (key : Id) (port : ℕ) → IsSplitOnceResult 32 rest r → line ≡ codes "announce " ++ rest → IsAnnounceLine line key port
    → MatchOption r ⊥ (λ x. SpellsId x.0.now key × SpellsNumber 0 65535 x.1.now port)
announce_cut line rest None key port h e f = cut_after rest f.digits f.number None h (announce_rest line rest key port e f) (hex_visible 20 f.digits key.0 f.spells_key)
announce_cut line rest (Some x) key port h e f =
    let cut = cut_after rest f.digits f.number (Some x) h (announce_rest line rest key port e f) (hex_visible 20 f.digits key.0 f.spells_key) in
    (rw cut.0 f.spells_key, rw cut.1 f.spells_port)

pub is_announce : (line rest digits number : List ℕ) (key : Id) (port : ℕ) → line ≡ codes "announce " ++ rest → rest ≡ digits ++ (32 ∷ number) → SpellsId digits key → SpellsNumber 0 65535 number port → IsAnnounceLine line key port
is_announce line rest digits number key port e cut k p = record {
  digits = digits;
  number = number;
  spelled = e ∙ ap (λ (l : List ℕ). codes "announce " ++ l) cut;
  spells_key = k;
  spells_port = p;
}

-- ---- where an item is read

put_cut : (line digits : List ℕ) (key : Id) (v : List ℕ) → line ≡ codes "put " ++ digits → IsPutLine line key v → SpellsBytes digits v
put_cut line digits key v e f = subst (λ (l : List ℕ). SpellsBytes l v) (append_cancel_left (codes "put ") f.digits digits (sym f.spelled ∙ e)) f.spells_value

pub put_text : (line digits : List ℕ) → line ≡ codes "put " ++ digits → (IsUtf8 digits → ⊥) → (key : Id) (v : List ℕ) → ¬ IsPutLine line key v
put_text line digits e u key v f =
    let s = put_cut line digits key v e f in
    u (IsUtf8-from_ascii digits (IsAscii-from_all digits (ascii_of digits (hex_visible (length v) digits v s))))

pub put_no_item : (line digits text v : List ℕ) → line ≡ codes "put " ++ digits → text ≡ digits → SpellsBytes text v → (IsItem v → ⊥) → (key : Id) (w : List ℕ) → ¬ IsPutLine line key w
put_no_item line digits text v e same s none_ key w f =
    let mine = subst (λ (l : List ℕ). SpellsBytes l v) same s in
    none_ (subst IsItem (bytes_once digits w v (put_cut line digits key w e f) mine) f.is_item)

pub is_put : (line digits text v : List ℕ) (key : Id) → line ≡ codes "put " ++ digits → text ≡ digits → SpellsBytes text v → IsItem v → key ≡ key_of v → IsPutLine line key v
is_put line digits text v key e same s item is = record {
  digits = digits;
  spelled = e;
  spells_value = subst (λ (l : List ℕ). SpellsBytes l v) same s;
  is_item = item;
  key_is = is;
}

-- ---- which form it is

-- ---- what a job has to say may stand in a message

pub job_carried : (line : List ℕ) (job : Job) → IsJobLine line job → MaySayOf job
job_carried line (Put key v) f = f.is_item.written
job_carried line job f = tt
