-- The events of a lookup that goes by rounds tell one journal alone.
use Rattle.std.proofs.Common.{◌≡◌, ℕ, zero, suc, ◌<◌, List, [], ◌∷◌, ◌++◌, refl, sym, ap, subst, ◌∙◌}
use Rattle.std.proofs.lemmas.List.{append-nil, append_assoc, append_cancel_left}
use Rattle.kad_base.specs.declared.types.Event.{Event}
use Rattle.kad_base.specs.declared.types.Event.TheVariants.{Now, Sent, Unsent, Got, Quiet}
use Rattle.claim_book.specs.declared.types.Setting.{Setting}
use Rattle.claim_book.specs.declared.types.Entry.{Entry}
use Rattle.claim_book.specs.Journal.{seeds}
use Rattle.claim_book.specs.Legal.{LegalAfter, Legal}
use Rattle.lookup_run.specs.Tells.{Given, Seen, Gives, begun}
use Rattle.lookup_run.specs.Rounds.{sequential, AllSettled, SettlesIn, InTurn, WaitsInTurn, RoundsFrom, Rounds}
use Rattle.lookup_run.proofs.OnceSettled.{settled_once}
use Rattle.lookup_run.proofs.OnceEvents.{Apart, apart_gives, got_once, sent_once, unsent_once}

-- ---- parts of a legal journal

legal_after_split : (s : Setting) (P xs ys : List Entry) → LegalAfter s P (xs ++ ys) → LegalAfter s P xs × LegalAfter s (P ++ xs) ys
legal_after_split s P [] ys h = (tt, subst (λ Q. LegalAfter s Q ys) (sym (append-nil P)) h)
legal_after_split s P (x ∷ xs) ys h =
    let rest = legal_after_split s (P ++ x ∷ []) xs ys h.1 in
    ((h.0, rest.0), subst (λ Q. LegalAfter s Q ys) (append_assoc P (x ∷ []) xs) rest.1)

pub legal_split : (s : Setting) (P xs : List Entry) → Legal s (P ++ xs) → Legal s P × LegalAfter s P xs
unfolding Legal
legal_split s P xs h = legal_after_split s [] P xs h

-- the part of the journal that is still to come
later : (g : Given) (J P : List Entry) (s : Seen) (es : List Event) → RoundsFrom sequential g J P s es → (rest : List Entry) × (J ≡ P ++ rest)
later g J P s [] h = (h.0, h.1)
later g J P s (e ∷ es) h =
    let rest = later g J ((P ++ h.0.between) ++ h.0.gave) h.0.mid es h.1 in
    (h.0.between ++ (h.0.gave ++ rest.0), rest.1 ∙ append_assoc (P ++ h.0.between) h.0.gave rest.0 ∙ append_assoc P h.0.between (h.0.gave ++ rest.0))

-- what a step leaves is legal
pub record LegalStep (setting : Setting) (P between gave : List Entry) : Type 0 where
  pub before : Legal setting P
  pub settles : LegalAfter setting P between
  pub gives : LegalAfter setting (P ++ between) gave
  pub after : Legal setting ((P ++ between) ++ gave)

pub legal_step : (g : Given) (J P : List Entry) (s : Seen) (e : Event) (es : List Event) → Legal g.setting J → (h : RoundsFrom sequential g J P s (e ∷ es)) → LegalStep g.setting P h.0.between h.0.gave
legal_step g J P s e es l h =
    let rest = later g J ((P ++ h.0.between) ++ h.0.gave) h.0.mid es h.1 in
    let all = subst (Legal g.setting) rest.1 l in
    let one = legal_split g.setting ((P ++ h.0.between) ++ h.0.gave) rest.0 all in
    let two = legal_split g.setting (P ++ h.0.between) h.0.gave one.0 in
    let three = legal_split g.setting P h.0.between two.0 in
    record { before = three.0; settles = three.1; gives = two.1; after = one.0 }

-- ---- what stands between two events

pub settled_at : (setting : Setting) (Q : List Entry) (s : Seen) (e : Event) (gave : List Entry) → s.receives ≡ 0 → InTurn setting Q s e gave → AllSettled setting.paths Q
settled_at setting Q s (Now at) gave zero_ h = absurd h
settled_at setting Q s (Sent to bytes) gave zero_ h = h.settled
settled_at setting Q s (Unsent to bytes) gave zero_ h = h.settled
settled_at setting Q s (Got from bytes until at) gave zero_ h = (subst (WaitsInTurn setting Q) zero_ h).0
settled_at setting Q s (Quiet until at) gave zero_ h = (subst (WaitsInTurn setting Q) zero_ h).0

pub between_once : (setting : Setting) (P xs ys : List Entry) (n : ℕ) → 0 < setting.paths → Legal setting P → LegalAfter setting P xs → LegalAfter setting P ys → SettlesIn sequential n xs → SettlesIn sequential n ys → (n ≡ 0 → AllSettled setting.paths (P ++ xs)) → (n ≡ 0 → AllSettled setting.paths (P ++ ys)) → xs ≡ ys
between_once setting P xs ys zero some l h k a b c d = settled_once setting setting.paths 0 P xs ys some refl l h k a b (c refl) (d refl)
between_once setting P xs ys (suc n) some l h k a b c d = a ∙ sym b

-- ---- one step

step_once : (g : Given) (J K Q : List Entry) (s t u : Seen) (e : Event) (gave gave' : List Entry) → Apart s.queries → Gives g J s e t → Gives g K s e u → t.given ≡ s.given ++ gave → u.given ≡ s.given ++ gave' → InTurn g.setting Q s e gave → InTurn g.setting Q s e gave' → LegalAfter g.setting Q gave → LegalAfter g.setting Q gave' → t ≡ u
step_once g J K Q s t u (Now at) gave gave' apart j k a b c d l m = absurd j
step_once g J K Q s t u (Sent to bytes) gave gave' apart j k a b c d l m = sent_once g s t u to bytes Q gave gave' j k a b c d l m
step_once g J K Q s t u (Unsent to bytes) gave gave' apart j k a b c d l m = unsent_once g s t u to bytes Q gave gave' j k a b c d l m
step_once g J K Q s t u (Got from bytes until at) gave gave' apart j k a b c d l m = got_once g s t u from bytes at apart j.1 k.1
step_once g J K Q s t u (Quiet until at) gave gave' apart j k a b c d l m = j.1 ∙ sym k.1

-- what is settled before the next event, whatever that is
pub between_steps : (g : Given) (J K P : List Entry) (s : Seen) (e f : Event) (es fs : List Event) → 0 < g.setting.paths → Legal g.setting J → Legal g.setting K → (h : RoundsFrom sequential g J P s (e ∷ es)) → (k : RoundsFrom sequential g K P s (f ∷ fs)) → h.0.between ≡ k.0.between
between_steps g J K P s e f es fs some l m h k =
    let x = legal_step g J P s e es l h in
    let y = legal_step g K P s f fs m k in
    between_once g.setting P h.0.between k.0.between s.receives some x.before x.settles y.settles h.0.settles k.0.settles (λ z. settled_at g.setting (P ++ h.0.between) s e h.0.gave z h.0.in_turn) (λ z. settled_at g.setting (P ++ k.0.between) s f k.0.gave z k.0.in_turn)

-- past one event of both the one goes on from where the other does
pub past : (g : Given) (J K P : List Entry) (s : Seen) (e : Event) (es fs : List Event) → 0 < g.setting.paths → Legal g.setting J → Legal g.setting K → Apart s.queries → (h : RoundsFrom sequential g J P s (e ∷ es)) → (k : RoundsFrom sequential g K P s (e ∷ fs))
    → RoundsFrom sequential g J ((P ++ k.0.between) ++ k.0.gave) k.0.mid es
past g J K P s e es fs some l m apart h k =
    let x = legal_step g J P s e es l h in
    let y = legal_step g K P s e fs m k in
    let between : h.0.between ≡ k.0.between = between_steps g J K P s e e es fs some l m h k in
    let Q = P ++ k.0.between in
    let to_Q : P ++ h.0.between ≡ Q = ap (λ l. P ++ l) between in
    let mid : h.0.mid ≡ k.0.mid = step_once g J K Q s h.0.mid k.0.mid e h.0.gave k.0.gave apart h.0.gives k.0.gives h.0.given k.0.given
    (subst (λ R. InTurn g.setting R s e h.0.gave) to_Q h.0.in_turn) k.0.in_turn (subst (λ R. LegalAfter g.setting R h.0.gave) to_Q x.gives) y.gives in
    let gave : h.0.gave ≡ k.0.gave = append_cancel_left s.given h.0.gave k.0.gave (sym h.0.given ∙ ap (λ (t : Seen). t.given) mid ∙ k.0.given) in
    let front : (P ++ h.0.between) ++ h.0.gave ≡ Q ++ k.0.gave = ap (λ l. l ++ h.0.gave) to_Q ∙ ap (λ l. Q ++ l) gave in
    subst (λ (t : Seen). RoundsFrom sequential g J (Q ++ k.0.gave) t es) mid (subst (λ R. RoundsFrom sequential g J R h.0.mid es) front h.1)

once_from : (g : Given) (J K P : List Entry) (s : Seen) (es : List Event) → 0 < g.setting.paths → Legal g.setting J → Legal g.setting K → AllSettled g.setting.paths J → AllSettled g.setting.paths K → Apart s.queries → RoundsFrom sequential g J P s es → RoundsFrom sequential g K P s es → J ≡ K
once_from g J K P s [] some l m a b apart h k =
    let x = legal_split g.setting P h.0 (subst (Legal g.setting) h.1 l) in
    let y = legal_split g.setting P k.0 (subst (Legal g.setting) k.1 m) in
    let same = between_once g.setting P h.0 k.0 s.receives some x.0 x.1 y.1 h.2 k.2 (λ e. subst (AllSettled g.setting.paths) h.1 a) (λ e. subst (AllSettled g.setting.paths) k.1 b) in
    h.1 ∙ ap (λ l. P ++ l) same ∙ sym k.1
once_from g J K P s (e ∷ es) some l m a b apart h k =
    once_from g J K ((P ++ k.0.between) ++ k.0.gave) k.0.mid es some l m a b (apart_gives g K s k.0.mid e apart k.0.gives) (past g J K P s e es es some l m apart h k) k.1

-- one journal alone
pub rounds_once : (g : Given) (J K : List Entry) (events : List Event) → 0 < g.setting.paths → Legal g.setting J → Legal g.setting K → seeds J ≡ seeds K → Rounds sequential g J events → Rounds sequential g K events → J ≡ K
rounds_once g J K events some l m same h k =
    let first : Now h.at ∷ h.rest ≡ Now k.at ∷ k.rest = sym h.first ∙ k.first in
    let at : h.at ≡ k.at = cc in
    let rest : h.rest ≡ k.rest = cc in
    once_from g J K (seeds K) (begun k.at) k.rest some l m h.settled k.settled tt
    (subst (λ es. RoundsFrom sequential g J (seeds K) (begun k.at) es) rest (subst (λ n. RoundsFrom sequential g J (seeds K) (begun n) h.rest) at (subst (λ cs. RoundsFrom sequential g J cs (begun h.at) h.rest) same h.goes))) k.goes
