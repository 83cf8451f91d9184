-- How a part of a journal may be settled: in one way alone.
use Rattle.std.proofs.Common.{◌≡◌, ◌⊎◌, ℕ, ◌<◌, List, [], ◌∷◌, ◌++◌, length, Option, Some, true, false, inl, inr, refl, sym, ap, subst, ◌∙◌, arith}
use Rattle.std.specs.Prelude.{slice_get}
use Rattle.std.proofs.lemmas.Bool.{cases_lt}
use Rattle.std.proofs.lemmas.List.{append-nil, append_assoc}
use Rattle.kad_base.specs.Limits.{max_path_contacts}
use Rattle.kad_base.specs.declared.types.Contact.{Contact}
use Rattle.kad_base.specs.declared.types.Report.{Report}
use Rattle.kad_base.specs.Contacts.{IsUsable}
use Rattle.kad_base.specs.Puzzles.{Passes}
use Rattle.claim_book.specs.declared.types.Setting.{Setting}
use Rattle.claim_book.specs.declared.types.Thing.{Thing}
use Rattle.claim_book.specs.declared.types.Thing.TheVariants.{Responder, Told}
use Rattle.claim_book.specs.declared.types.Entry.{Entry}
use Rattle.claim_book.specs.declared.types.Entry.TheVariants.{Note, Taken, Held, Turned, Rejected, Skipped}
use Rattle.claim_book.specs.Journal.{path, things_of, settles_on, unsettled, first_unsettled}
use Rattle.claim_book.specs.Crowded.{IsCrowded}
use Rattle.claim_book.specs.Legal.{Fits, IsFree, IsHeldBy, LegalAfter, Legal}
use Rattle.claim_book.proofs.More.{legal_more}
use Rattle.claim_book.proofs.Holding.{held_by_one, held_not_free}
use Rattle.claim_book.proofs.Ends.{first_below}
use Rattle.claim_book.proofs.Kept.{off_this}
use Rattle.claim_book.proofs.Unsettled.{settles, unsettled_kept}
use Rattle.lookup_run.specs.Rounds.{sequential, path_number, is_settling, SettlesFrom, AllSettled}

same_first : (P : List Entry) (q p : ℕ) (t u : Thing) → q ≡ p → first_unsettled q P ≡ Some t → first_unsettled p P ≡ Some u → t ≡ u
same_first P q p t u e f h = (let same : ◌≡◌ {A = Option Thing} (Some t) (Some u) = sym f ∙ ap (λ n. first_unsettled n P) e ∙ h in cc)

-- a path that is full, or crowded by the contact's host, takes no more of it
turned_not_taken : (s : Setting) (P : List Entry) (q p : ℕ) (c d : Contact) → q ≡ p → c ≡ d → (length (path q P) ≡ max_path_contacts) ⊎ IsCrowded s P q c → length (path p P) < max_path_contacts → ¬ IsCrowded s P p d → ⊥
turned_not_taken s P q p c d e one (inl full) lt free = (let at = ap (λ n. length (path n P)) e in omega (arith, at, full, lt))
turned_not_taken s P q p c d e one (inr crowded) lt free = free (subst (IsCrowded s P p) one (subst (λ n. IsCrowded s P n c) e crowded))

-- one thing has one outcome
entry_once : (s : Setting) (P : List Entry) (a b : Entry) → Legal s P → Fits s P a → Fits s P b → is_settling a ≡ true → is_settling b ≡ true → path_number a ≡ path_number b → a ≡ b
entry_once s P (Note q c) (Note p d) l f h sa sb e = (let same = same_first P q p (Responder c) (Responder d) e f h in let is : c ≡ d = cc in ap (λ n. Note n c) e ∙ ap (λ x. Note p x) is)
entry_once s P (Note q c) (Skipped p t) l f h sa sb e = (let same = same_first P q p (Responder c) (Told t) e f h.0 in absurd cc)
entry_once s P (Note q c) (Rejected p t) l f h sa sb e = (let same = same_first P q p (Responder c) (Told t) e f h.0 in absurd cc)
entry_once s P (Note q c) (Held p d z) l f h sa sb e = (let same = same_first P q p (Responder c) (Told h.0.report) e f h.0.first in absurd cc)
entry_once s P (Note q c) (Turned p d) l f h sa sb e = (let same = same_first P q p (Responder c) (Told h.0.report) e f h.0.first in absurd cc)
entry_once s P (Note q c) (Taken p d) l f h sa sb e = (let same = same_first P q p (Responder c) (Told h.0.report) e f h.0.first in absurd cc)
entry_once s P (Note q c) other l f h sa sb e = absurd cc
entry_once s P (Skipped q r) (Note p d) l f h sa sb e = (let same = same_first P q p (Told r) (Responder d) e f.0 h in absurd cc)
entry_once s P (Skipped q r) (Skipped p t) l f h sa sb e = (let same = same_first P q p (Told r) (Told t) e f.0 h.0 in let is : r ≡ t = cc in ap (λ n. Skipped n r) e ∙ ap (λ x. Skipped p x) is)
entry_once s P (Skipped q r) (Rejected p t) l f h sa sb e = (let same = same_first P q p (Told r) (Told t) e f.0 h.0 in let is : r ≡ t = cc in absurd (f.1 (subst (λ (w : Report). IsUsable s.own w.contact) (sym is) h.1)))
entry_once s P (Skipped q r) (Held p d z) l f h sa sb e = (let same = same_first P q p (Told r) (Told h.0.report) e f.0 h.0.first in let is : r ≡ h.0.report = cc in absurd (f.1 (subst (λ w. IsUsable s.own w) (sym h.0.contact ∙ ap (λ (w : Report). w.contact) (sym is)) h.0.usable)))
entry_once s P (Skipped q r) (Turned p d) l f h sa sb e = (let same = same_first P q p (Told r) (Told h.0.report) e f.0 h.0.first in let is : r ≡ h.0.report = cc in absurd (f.1 (subst (λ w. IsUsable s.own w) (sym h.0.contact ∙ ap (λ (w : Report). w.contact) (sym is)) h.0.usable)))
entry_once s P (Skipped q r) (Taken p d) l f h sa sb e = (let same = same_first P q p (Told r) (Told h.0.report) e f.0 h.0.first in let is : r ≡ h.0.report = cc in absurd (f.1 (subst (λ w. IsUsable s.own w) (sym h.0.contact ∙ ap (λ (w : Report). w.contact) (sym is)) h.0.usable)))
entry_once s P (Skipped q r) other l f h sa sb e = absurd cc
entry_once s P (Rejected q r) (Note p d) l f h sa sb e = (let same = same_first P q p (Told r) (Responder d) e f.0 h in absurd cc)
entry_once s P (Rejected q r) (Skipped p t) l f h sa sb e = (let same = same_first P q p (Told r) (Told t) e f.0 h.0 in let is : r ≡ t = cc in absurd (h.1 (subst (λ (w : Report). IsUsable s.own w.contact) is f.1)))
entry_once s P (Rejected q r) (Rejected p t) l f h sa sb e = (let same = same_first P q p (Told r) (Told t) e f.0 h.0 in let is : r ≡ t = cc in ap (λ n. Rejected n r) e ∙ ap (λ x. Rejected p x) is)
entry_once s P (Rejected q r) (Held p d z) l f h sa sb e = (let same = same_first P q p (Told r) (Told h.0.report) e f.0 h.0.first in let is : r ≡ h.0.report = cc in absurd (f.2 (subst (λ (w : Report). Passes s.policy w) (sym is) h.0.passes)))
entry_once s P (Rejected q r) (Turned p d) l f h sa sb e = (let same = same_first P q p (Told r) (Told h.0.report) e f.0 h.0.first in let is : r ≡ h.0.report = cc in absurd (f.2 (subst (λ (w : Report). Passes s.policy w) (sym is) h.0.passes)))
entry_once s P (Rejected q r) (Taken p d) l f h sa sb e = (let same = same_first P q p (Told r) (Told h.0.report) e f.0 h.0.first in let is : r ≡ h.0.report = cc in absurd (f.2 (subst (λ (w : Report). Passes s.policy w) (sym is) h.0.passes)))
entry_once s P (Rejected q r) other l f h sa sb e = absurd cc
entry_once s P (Held q c x) (Note p d) l f h sa sb e = (let same = same_first P q p (Told f.0.report) (Responder d) e f.0.first h in absurd cc)
entry_once s P (Held q c x) (Skipped p t) l f h sa sb e = (let same = same_first P q p (Told f.0.report) (Told t) e f.0.first h.0 in let is : f.0.report ≡ t = cc in absurd (h.1 (subst (λ w. IsUsable s.own w) (sym f.0.contact ∙ ap (λ (w : Report). w.contact) is) f.0.usable)))
entry_once s P (Held q c x) (Rejected p t) l f h sa sb e = (let same = same_first P q p (Told f.0.report) (Told t) e f.0.first h.0 in let is : f.0.report ≡ t = cc in absurd (h.2 (subst (λ (w : Report). Passes s.policy w) is f.0.passes)))
entry_once s P (Held q c x) (Held p d z) l f h sa sb e = (let same = same_first P q p (Told f.0.report) (Told h.0.report) e f.0.first h.0.first in let is : f.0.report ≡ h.0.report = cc in let one : c ≡ d = sym f.0.contact ∙ ap (λ (w : Report). w.contact) is ∙ h.0.contact in let by : x ≡ z = held_by_one s P q x z c l f.1 (subst (λ w. IsHeldBy s.claim P q w z) (sym one) (subst (λ n. IsHeldBy s.claim P n d z) (sym e) h.1)) in ap (λ n. Held n c x) e ∙ ap (λ w. Held p w x) one ∙ ap (λ n. Held p d n) by)
entry_once s P (Held q c x) (Turned p d) l f h sa sb e = (let same = same_first P q p (Told f.0.report) (Told h.0.report) e f.0.first h.0.first in let is : f.0.report ≡ h.0.report = cc in let one : c ≡ d = sym f.0.contact ∙ ap (λ (w : Report). w.contact) is ∙ h.0.contact in absurd (held_not_free s P q x c f.1 (subst (λ w. IsFree s.claim P q w) (sym one) (subst (λ n. IsFree s.claim P n d) (sym e) h.1))))
entry_once s P (Held q c x) (Taken p d) l f h sa sb e = (let same = same_first P q p (Told f.0.report) (Told h.0.report) e f.0.first h.0.first in let is : f.0.report ≡ h.0.report = cc in let one : c ≡ d = sym f.0.contact ∙ ap (λ (w : Report). w.contact) is ∙ h.0.contact in absurd (held_not_free s P q x c f.1 (subst (λ w. IsFree s.claim P q w) (sym one) (subst (λ n. IsFree s.claim P n d) (sym e) h.1))))
entry_once s P (Held q c x) other l f h sa sb e = absurd cc
entry_once s P (Turned q c) (Note p d) l f h sa sb e = (let same = same_first P q p (Told f.0.report) (Responder d) e f.0.first h in absurd cc)
entry_once s P (Turned q c) (Skipped p t) l f h sa sb e = (let same = same_first P q p (Told f.0.report) (Told t) e f.0.first h.0 in let is : f.0.report ≡ t = cc in absurd (h.1 (subst (λ w. IsUsable s.own w) (sym f.0.contact ∙ ap (λ (w : Report). w.contact) is) f.0.usable)))
entry_once s P (Turned q c) (Rejected p t) l f h sa sb e = (let same = same_first P q p (Told f.0.report) (Told t) e f.0.first h.0 in let is : f.0.report ≡ t = cc in absurd (h.2 (subst (λ (w : Report). Passes s.policy w) is f.0.passes)))
entry_once s P (Turned q c) (Held p d z) l f h sa sb e = (let same = same_first P q p (Told f.0.report) (Told h.0.report) e f.0.first h.0.first in let is : f.0.report ≡ h.0.report = cc in let one : c ≡ d = sym f.0.contact ∙ ap (λ (w : Report). w.contact) is ∙ h.0.contact in absurd (held_not_free s P p z d h.1 (subst (λ w. IsFree s.claim P p w) one (subst (λ n. IsFree s.claim P n c) e f.1))))
entry_once s P (Turned q c) (Turned p d) l f h sa sb e = (let same = same_first P q p (Told f.0.report) (Told h.0.report) e f.0.first h.0.first in let is : f.0.report ≡ h.0.report = cc in let one : c ≡ d = sym f.0.contact ∙ ap (λ (w : Report). w.contact) is ∙ h.0.contact in ap (λ n. Turned n c) e ∙ ap (λ w. Turned p w) one)
entry_once s P (Turned q c) (Taken p d) l f h sa sb e =
    let same = same_first P q p (Told f.0.report) (Told h.0.report) e f.0.first h.0.first in
    let is : f.0.report ≡ h.0.report = cc in
    let one : c ≡ d = sym f.0.contact ∙ ap (λ (w : Report). w.contact) is ∙ h.0.contact in
    absurd (turned_not_taken s P q p c d e one f.2 h.2 h.3)
entry_once s P (Turned q c) other l f h sa sb e = absurd cc
entry_once s P (Taken q c) (Note p d) l f h sa sb e = (let same = same_first P q p (Told f.0.report) (Responder d) e f.0.first h in absurd cc)
entry_once s P (Taken q c) (Skipped p t) l f h sa sb e = (let same = same_first P q p (Told f.0.report) (Told t) e f.0.first h.0 in let is : f.0.report ≡ t = cc in absurd (h.1 (subst (λ w. IsUsable s.own w) (sym f.0.contact ∙ ap (λ (w : Report). w.contact) is) f.0.usable)))
entry_once s P (Taken q c) (Rejected p t) l f h sa sb e = (let same = same_first P q p (Told f.0.report) (Told t) e f.0.first h.0 in let is : f.0.report ≡ t = cc in absurd (h.2 (subst (λ (w : Report). Passes s.policy w) is f.0.passes)))
entry_once s P (Taken q c) (Held p d z) l f h sa sb e = (let same = same_first P q p (Told f.0.report) (Told h.0.report) e f.0.first h.0.first in let is : f.0.report ≡ h.0.report = cc in let one : c ≡ d = sym f.0.contact ∙ ap (λ (w : Report). w.contact) is ∙ h.0.contact in absurd (held_not_free s P p z d h.1 (subst (λ w. IsFree s.claim P p w) one (subst (λ n. IsFree s.claim P n c) e f.1))))
entry_once s P (Taken q c) (Turned p d) l f h sa sb e =
    let same = same_first P q p (Told f.0.report) (Told h.0.report) e f.0.first h.0.first in
    let is : f.0.report ≡ h.0.report = cc in
    let one : c ≡ d = sym f.0.contact ∙ ap (λ (w : Report). w.contact) is ∙ h.0.contact in
    absurd (turned_not_taken s P p q d c (sym e) (sym one) h.2 f.2 f.3)
entry_once s P (Taken q c) (Taken p d) l f h sa sb e = (let same = same_first P q p (Told f.0.report) (Told h.0.report) e f.0.first h.0.first in let is : f.0.report ≡ h.0.report = cc in let one : c ≡ d = sym f.0.contact ∙ ap (λ (w : Report). w.contact) is ∙ h.0.contact in ap (λ n. Taken n c) e ∙ ap (λ w. Taken p w) one)
entry_once s P (Taken q c) other l f h sa sb e = absurd cc
entry_once s P other b l f h sa sb e = absurd cc

-- ---- what is settled on later paths leaves the earlier ones

settling_elsewhere : (p : ℕ) (e : Entry) → p < path_number e → is_settling e ≡ true → (settles_on p e ≡ false) × (things_of p e ≡ [])
settling_elsewhere p (Note q c) lt h = (off_this q p (λ e. absurd (omega (arith, lt, e))), refl)
settling_elsewhere p (Taken q c) lt h = (off_this q p (λ e. absurd (omega (arith, lt, e))), refl)
settling_elsewhere p (Held q c by) lt h = (off_this q p (λ e. absurd (omega (arith, lt, e))), refl)
settling_elsewhere p (Turned q c) lt h = (off_this q p (λ e. absurd (omega (arith, lt, e))), refl)
settling_elsewhere p (Rejected q r) lt h = (off_this q p (λ e. absurd (omega (arith, lt, e))), refl)
settling_elsewhere p (Skipped q r) lt h = (off_this q p (λ e. absurd (omega (arith, lt, e))), refl)
settling_elsewhere p other lt h = absurd cc

pub settled_later : (s : Setting) (p low : ℕ) (P es : List Entry) → p < low → Legal s P → LegalAfter s P es → SettlesFrom sequential low es → unsettled p (P ++ es) ≡ unsettled p P
settled_later s p low P [] lt l h k = ap (unsettled p) (append-nil P)
settled_later s p low P (e ∷ es) lt l h k =
    let less : p < path_number e = (let le = k.0 in omega (arith, lt, le)) in
    let off = settling_elsewhere p e less k.1 in
    ap (unsettled p) (sym (append_assoc P (e ∷ []) es))
    ∙ settled_later s p (path_number e) (P ++ e ∷ []) es less (legal_more s P e l h.0) h.1 k.2
    ∙ unsettled_kept s p P e l off.0 off.1

none_left : (p : ℕ) (P : List Entry) (t : Thing) → unsettled p P ≡ [] → first_unsettled p P ≡ Some t → ⊥
unfolding first_unsettled
none_left p P t none f = (let g : slice_get {X = Thing} [] 0 ≡ Some t = sym (ap (λ l. slice_get l 0) none) ∙ f in absurd cc)

-- where an entry settles something, and all is settled later, not all comes on later paths
not_later : (s : Setting) (n low : ℕ) (P es : List Entry) (e : Entry) → 0 < s.paths → n ≡ s.paths → Legal s P → LegalAfter s P es → SettlesFrom sequential low es → path_number e < low → Fits s P e → is_settling e ≡ true → AllSettled n (P ++ es) → ⊥
not_later s n low P es e some is l h k lt f settling all =
    let q = path_number e in
    let at = settles s P e q f settling in
    let below = first_below s P q at.thing some l at.front in
    let stays = settled_later s q low P es lt l h k in
    none_left q P at.thing (sym stays ∙ all q (omega (arith, below, is))) at.front

-- from there on all is settled in one way
pub settled_once : (s : Setting) (n low : ℕ) (P xs ys : List Entry) → 0 < s.paths → n ≡ s.paths → Legal s P → LegalAfter s P xs → LegalAfter s P ys → SettlesFrom sequential low xs → SettlesFrom sequential low ys → AllSettled n (P ++ xs) → AllSettled n (P ++ ys) → xs ≡ ys
settled_once s n low P [] [] some is l h k a b c d = refl
settled_once s n low P [] (y ∷ ys) some is l h k a b c d =
    let q = path_number y in
    let at = settles s P y q k.0 b.1 in
    let below = first_below s P q at.thing some l at.front in
    absurd (none_left q P at.thing (ap (unsettled q) (sym (append-nil P)) ∙ c q (omega (arith, below, is))) at.front)
settled_once s n low P (x ∷ xs) [] some is l h k a b c d =
    let q = path_number x in
    let at = settles s P x q h.0 a.1 in
    let below = first_below s P q at.thing some l at.front in
    absurd (none_left q P at.thing (ap (unsettled q) (sym (append-nil P)) ∙ d q (omega (arith, below, is))) at.front)
settled_once s n low P (x ∷ xs) (y ∷ ys) some is l h k a b c d =
    elim (cases_lt (path_number x) (path_number y)) [
      | inl lt ↦ absurd (not_later s n (path_number y) P (y ∷ ys) x some is l k (omega arith, b.1, b.2) lt h.0 a.1 d)
      | inr ge ↦ elim (cases_lt (path_number y) (path_number x)) [
        | inl lt ↦ absurd (not_later s n (path_number x) P (x ∷ xs) y some is l h (omega arith, a.1, a.2) lt k.0 b.1 c)
        | inr le ↦
            let one : x ≡ y = entry_once s P x y l h.0 k.0 a.1 b.1 (omega (arith, ge, le)) in
            let rest : xs ≡ ys = settled_once s n (path_number x) (P ++ x ∷ []) xs ys some is (legal_more s P x l h.0) h.1 (subst (λ e. LegalAfter s (P ++ e ∷ []) ys) (sym one) k.1) a.2 (subst (λ e. SettlesFrom sequential (path_number e) ys) (sym one) b.2)
            (subst (AllSettled n) (sym (append_assoc P (x ∷ []) xs)) c)
            (subst (λ e. AllSettled n ((P ++ e ∷ []) ++ ys)) (sym one) (subst (AllSettled n) (sym (append_assoc P (y ∷ []) ys)) d)) in
            ap (λ e. e ∷ xs) one ∙ ap (λ l. y ∷ l) rest
      ]
    ]
