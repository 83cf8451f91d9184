-- What a lookup that goes by rounds calls next follows from the events before, and where it ended it calls nothing more.
use Rattle.std.proofs.Common.{◌≡◌, ℕ, zero, suc, ◌+◌, ◌<◌, ◌≤◌, List, [], ◌∷◌, ◌++◌, Some, refl, sym, ap, subst, ◌∙◌, arith}
use Rattle.std.specs.Prelude.{map, Contains}
use Rattle.std.specs.List.{AllByRecursion}
use Rattle.kad_base.specs.declared.types.Addr.{Addr}
use Rattle.kad_base.specs.declared.types.Contact.{Contact}
use Rattle.kad_base.specs.declared.types.Event.{Event}
use Rattle.kad_base.specs.declared.types.Event.TheVariants.{Now, Sent, Unsent, Got, Quiet}
use Rattle.kad_base.specs.Words.{word}
use Rattle.kad_krpc.specs.Form.{form}
use Rattle.claim_book.specs.declared.types.Setting.{Setting}
use Rattle.claim_book.specs.declared.types.Cause.TheVariants.{SendFault}
use Rattle.claim_book.specs.declared.types.Entry.{Entry}
use Rattle.claim_book.specs.declared.types.Entry.TheVariants.{Ask, Lost}
use Rattle.claim_book.specs.Journal.{seeds, may_ask}
use Rattle.claim_book.specs.Legal.{LegalAfter, Legal}
use Rattle.claim_book.proofs.Seeding.{seeds_are_seeds}
use Rattle.claim_book.proofs.Claims.{may_ask_on_path}
use Rattle.claim_book.proofs.Ends.{path_below}
use Rattle.lookup_core.specs.Matching.{OpenQuery, query_of, IsQuery}
use Rattle.lookup_core.specs.Quest.{query_message}
use Rattle.lookup_core.proofs.Lists.{all_in}
use Rattle.lookup_run.specs.LinkCalls.{LinkCall, sends, receives, call_of}
use Rattle.lookup_run.specs.Tells.{Given, Seen, IsEarliest, Waits, Gives, TellsSoFar, Tells, begun}
use Rattle.lookup_run.specs.Rounds.{sequential, AllSettled, NoneAsks, AsksInTurn, WaitsInTurn, RoundStep, RoundsFrom, Rounds}
use Rattle.lookup_run.proofs.OnceEvents.{Apart, apart_gives, free_once, Asks, asks_of, asks_once}
use Rattle.lookup_run.proofs.Once.{LegalStep, legal_step, legal_split, between_once, between_steps, past}
use Rattle.lookup_run.proofs.OnceGiven.{last_seen, rounds_tell, rounds_give, told_once}
use Rattle.lookup_core.proofs.Received.{all_quiet}
use Rattle.std.proofs.lemmas.List.{append_cancel_left}

-- ---- a send

-- the query of a send, and who asks whom
record Sends (g : Given) (Q : List Entry) (s : Seen) (to : Addr) (bytes : List ℕ) : Type 0 where
  path : ℕ
  contact : Contact
  tx : ℕ
  is_query : IsQuery g.quest s.queries (word g.seed (g.place + s.sends)) to bytes contact tx
  asks : Asks g.setting Q path contact
  begins : s.receives ≡ 0
  settled : AllSettled g.setting.paths Q

sends_at : (g : Given) (J Q gave : List Entry) (s t : Seen) (to : Addr) (bytes : List ℕ) → Gives g J s (Sent to bytes) t → t.given ≡ s.given ++ gave → AsksInTurn g.setting Q s gave → LegalAfter g.setting Q gave → Sends g Q s to bytes
sends_at g J Q gave s t to bytes h given turn legal =
    let is : gave ≡ Ask h.path h.contact ∷ [] = append_cancel_left s.given gave (Ask h.path h.contact ∷ []) (sym given ∙ ap (λ (x : Seen). x.given) h.after) in
    record { path = h.path; contact = h.contact; tx = h.tx; is_query = h.is_query; asks = asks_of g.setting Q [] gave s h.path h.contact is turn legal; begins = turn.begins; settled = turn.settled }

unsent_at : (g : Given) (J Q gave : List Entry) (s t : Seen) (to : Addr) (bytes : List ℕ) → Gives g J s (Unsent to bytes) t → t.given ≡ s.given ++ gave → AsksInTurn g.setting Q s gave → LegalAfter g.setting Q gave → Sends g Q s to bytes
unsent_at g J Q gave s t to bytes h given turn legal =
    let more : List Entry = Lost h.path h.contact SendFault ∷ [] in
    let is : gave ≡ Ask h.path h.contact ∷ more = append_cancel_left s.given gave (Ask h.path h.contact ∷ more) (sym given ∙ ap (λ (x : Seen). x.given) h.after) in
    record { path = h.path; contact = h.contact; tx = h.tx; is_query = h.is_query; asks = asks_of g.setting Q more gave s h.path h.contact is turn legal; begins = turn.begins; settled = turn.settled }

-- what is sent, and to whom
sends_once : (g : Given) (Q : List Entry) (s : Seen) (to to' : Addr) (bytes bytes' : List ℕ) → Sends g Q s to bytes → Sends g Q s to' bytes' → ◌≡◌ {A = LinkCall} (sends to bytes) (sends to' bytes')
sends_once g Q s to to' bytes bytes' h k =
    let one = asks_once g.setting Q h.path k.path h.contact k.contact h.asks k.asks in
    let tx = free_once (map query_of s.queries) (word g.seed (g.place + s.sends)) h.tx k.tx h.is_query.id k.is_query.id in
    let to_is : to ≡ to' = h.is_query.address ∙ ap (λ (c : Contact). c.addr) one.1 ∙ sym k.is_query.address in
    let bytes_are : bytes ≡ bytes' = h.is_query.form ∙ ap (λ n. form (query_message g.quest n)) tx ∙ sym k.is_query.form in
    ap (λ (a : Addr). sends a bytes) to_is ∙ ap (λ (l : List ℕ). sends to' l) bytes_are

-- who asks is one of the paths
asks_below : (s : Setting) (Q : List Entry) (p : ℕ) (c : Contact) → 0 < s.paths → Legal s Q → may_ask s p Q ≡ Some c → p < s.paths
asks_below s Q p c some legal may = path_below s Q p c some legal (may_ask_on_path s p Q c may)

-- ---- a receive

least_of : (ds : List ℕ) (x : ℕ) → Contains ds x → (m : ℕ) → AllByRecursion (λ d. m ≤ d) ds → m ≤ x
least_of ds x c m h = all_in (λ d. m ≤ d) ds x h c

earliest_once : (ds : List ℕ) (m n : ℕ) → IsEarliest ds m → IsEarliest ds n → m ≡ n
earliest_once ds m n h k =
    let le = least_of ds n k.one m h.least in
    let ge = least_of ds m h.one n k.least in
    omega (arith, le, ge)

waits_once : (n : ℕ) (s : Seen) (u v : ℕ) → Waits n s u → Waits n s v → u ≡ v
waits_once zero s u v h k = earliest_once (map (λ (q : OpenQuery). q.deadline) s.queries) u v h k
waits_once (suc r) s u v h k = h ∙ sym k

-- no path may ask where a round's first receive waits, so that nothing is sent there
sends_or_waits : (g : Given) (Q : List Entry) (s : Seen) (to : Addr) (bytes : List ℕ) → 0 < g.setting.paths → Legal g.setting Q → Sends g Q s to bytes → WaitsInTurn g.setting Q s.receives → ⊥
sends_or_waits g Q s to bytes some legal h waits =
    let none = (subst (WaitsInTurn g.setting Q) h.begins waits).1 h.path (asks_below g.setting Q h.path h.contact some legal h.asks.may) in
    let may = h.asks.may in
    absurd cc

-- ---- the next call

-- what a step calls, behind what is settled
data Calls (g : Given) (Q : List Entry) (s : Seen) : LinkCall → Type 0 where
  to_send : (to : Addr) (bytes : List ℕ) → Sends g Q s to bytes → Calls g Q s (sends to bytes)
  to_receive : (until : ℕ) → Waits s.receives s until → WaitsInTurn g.setting Q s.receives → Calls g Q s (receives until)

calls_at : (g : Given) (J P : List Entry) (s : Seen) (e : Event) (step : RoundStep sequential g J P s e) → LegalAfter g.setting (P ++ step.between) step.gave → Calls g (P ++ step.between) s (call_of e)
calls_at g J P s (Now at) step legal = absurd step.gives
calls_at g J P s (Sent to bytes) step legal = to_send to bytes (sends_at g J (P ++ step.between) step.gave s step.mid to bytes step.gives step.given step.in_turn legal)
calls_at g J P s (Unsent to bytes) step legal = to_send to bytes (unsent_at g J (P ++ step.between) step.gave s step.mid to bytes step.gives step.given step.in_turn legal)
calls_at g J P s (Got from bytes until at) step legal = to_receive until step.gives.0.waits step.in_turn
calls_at g J P s (Quiet until at) step legal = to_receive until step.gives.0.waits step.in_turn

calls_once : (g : Given) (Q : List Entry) (s : Seen) (a b : LinkCall) → 0 < g.setting.paths → Legal g.setting Q → Calls g Q s a → Calls g Q s b → a ≡ b
calls_once g Q s a b some legal (to_send to bytes h) (to_send to' bytes' k) = sends_once g Q s to to' bytes bytes' h k
calls_once g Q s a b some legal (to_send to bytes h) (to_receive until w t) = absurd (sends_or_waits g Q s to bytes some legal h t)
calls_once g Q s a b some legal (to_receive until w t) (to_send to bytes h) = absurd (sends_or_waits g Q s to bytes some legal h t)
calls_once g Q s a b some legal (to_receive until w t) (to_receive until' x u) = ap receives (waits_once s.receives s until until' w x)

first_call : (g : Given) (J K P : List Entry) (s : Seen) (e f : Event) (es fs : List Event) → 0 < g.setting.paths → Legal g.setting J → Legal g.setting K → RoundsFrom sequential g J P s (e ∷ es) → RoundsFrom sequential g K P s (f ∷ fs) → call_of e ≡ call_of f
first_call g J K P s e f es fs some l m h k =
    let x = legal_step g J P s e es l h in
    let y = legal_step g K P s f fs m k in
    let to_Q : P ++ h.0.between ≡ P ++ k.0.between = ap (λ l. P ++ l) (between_steps g J K P s e f es fs some l m h k) in
    let settled : Legal g.setting (P ++ k.0.between) = legal_joined y in
    calls_once g (P ++ k.0.between) s (call_of e) (call_of f) some settled (subst (λ Q. Calls g Q s (call_of e)) to_Q (calls_at g J P s e h.0 x.gives)) (calls_at g K P s f k.0 y.gives)
  where
    legal_joined : LegalStep g.setting P k.0.between k.0.gave → Legal g.setting (P ++ k.0.between)
    legal_joined y = (legal_split g.setting (P ++ k.0.between) k.0.gave y.after).0

calls_from : (g : Given) (J K P : List Entry) (s : Seen) (before : List Event) (e f : Event) (es fs : List Event) → 0 < g.setting.paths → Legal g.setting J → Legal g.setting K → Apart s.queries → RoundsFrom sequential g J P s (before ++ e ∷ es) → RoundsFrom sequential g K P s (before ++ f ∷ fs) → call_of e ≡ call_of f
calls_from g J K P s [] e f es fs some l m apart h k = first_call g J K P s e f es fs some l m h k
calls_from g J K P s (x ∷ before) e f es fs some l m apart h k =
    calls_from g J K ((P ++ k.0.between) ++ k.0.gave) k.0.mid before e f es fs some l m (apart_gives g K s k.0.mid x apart k.0.gives) (past g J K P s x (before ++ e ∷ es) (before ++ f ∷ fs) some l m apart h k) k.1

-- the walk behind the first event, from another journal's seeds and another's moment
goes_with : (g : Given) (J : List Entry) (cs : List Entry) (at : ℕ) (rest : List Event) (h : Rounds sequential g J (Now at ∷ rest)) → seeds J ≡ cs → RoundsFrom sequential g J cs (begun at) rest
goes_with g J cs at rest h same =
    let first : Now at ∷ rest ≡ Now h.at ∷ h.rest = h.first in
    let one : h.at ≡ at = cc in
    let more : h.rest ≡ rest = cc in
    subst (λ es. RoundsFrom sequential g J cs (begun at) es) more
    (subst (λ n. RoundsFrom sequential g J cs (begun n) h.rest) one
    (subst (λ l. RoundsFrom sequential g J l (begun h.at) h.rest) same h.goes))

-- the first event tells the moment
begins_with : (g : Given) (J : List Entry) (e : Event) (es : List Event) → Rounds sequential g J (e ∷ es) → (at : ℕ) × (e ≡ Now at)
begins_with g J e es h = (h.at, (let first : e ∷ es ≡ Now h.at ∷ h.rest = h.first in let one : e ≡ Now h.at = cc in one))

pub next_call : (g : Given) (J K : List Entry) (before rest others : List Event) (e f : Event) → 0 < g.setting.paths → Legal g.setting J → Legal g.setting K → seeds J ≡ seeds K → Rounds sequential g J (before ++ e ∷ rest) → Rounds sequential g K (before ++ f ∷ others) → call_of e ≡ call_of f
next_call g J K [] rest others e f some l m same h k =
    let one = begins_with g J e rest h in
    let two = begins_with g K f others k in
    ap call_of one.1 ∙ sym (ap call_of two.1)
next_call g J K (x ∷ before) rest others e f some l m same h k =
    let one = begins_with g J x (before ++ e ∷ rest) h in
    calls_from g J K (seeds K) (begun one.0) before e f rest others some l m tt
    (goes_with g J (seeds K) one.0 (before ++ e ∷ rest) (subst (λ y. Rounds sequential g J (y ∷ (before ++ e ∷ rest))) one.1 h) same)
    (goes_with g K (seeds K) one.0 (before ++ f ∷ others) (subst (λ y. Rounds sequential g K (y ∷ (before ++ f ∷ others))) one.1 k) refl)

-- ---- the end

nothing_sent : (g : Given) (K Q : List Entry) (s : Seen) (to : Addr) (bytes : List ℕ) → 0 < g.setting.paths → Legal g.setting K → Q ≡ K → NoneAsks g.setting g.setting.paths K → Sends g Q s to bytes → ⊥
nothing_sent g K Q s to bytes some legal is none h =
    let may : may_ask g.setting h.path K ≡ Some h.contact = subst (λ L. may_ask g.setting h.path L ≡ Some h.contact) is h.asks.may in
    let nobody = none h.path (asks_below g.setting K h.path h.contact some legal may) in
    absurd cc

-- no step stands where the other walk has ended with no query open
no_step : (g : Given) (J K P : List Entry) (s : Seen) (f : Event) (fs : List Event) → 0 < g.setting.paths → Legal g.setting J → Legal g.setting K → AllSettled g.setting.paths K → NoneAsks g.setting g.setting.paths K → s.queries ≡ []
    → (h : RoundsFrom sequential g J P s (f ∷ fs)) → RoundsFrom sequential g K P s [] → ⊥
no_step g J K P s f fs some l m settled none closed h k = by f h.0 x.gives (λ z b. same z b)
  where
    x : LegalStep g.setting P h.0.between h.0.gave
    x = legal_step g J P s f fs l h

    y : Legal g.setting P × LegalAfter g.setting P k.0
    y = legal_split g.setting P k.0 (subst (Legal g.setting) k.1 m)

    same : s.receives ≡ 0 → AllSettled g.setting.paths (P ++ h.0.between) → P ++ h.0.between ≡ K
    same z b = ap (λ l. P ++ l) (between_once g.setting P h.0.between k.0 s.receives some x.before x.settles y.1 h.0.settles k.2 (λ e. b) (λ e. subst (AllSettled g.setting.paths) k.1 settled)) ∙ sym k.1

    sent : (to : Addr) (bytes : List ℕ) (Q : List Entry) → (s.receives ≡ 0 → AllSettled g.setting.paths Q → Q ≡ K) → Sends g Q s to bytes → ⊥
    sent to bytes Q is t = nothing_sent g K Q s to bytes some m (is t.begins t.settled) none t

    by : (e : Event) (step : RoundStep sequential g J P s e) → LegalAfter g.setting (P ++ step.between) step.gave → (s.receives ≡ 0 → AllSettled g.setting.paths (P ++ step.between) → P ++ step.between ≡ K) → ⊥
    by (Now at) step legal is = absurd step.gives
    by (Sent to bytes) step legal is = sent to bytes (P ++ step.between) is (sends_at g J (P ++ step.between) step.gave s step.mid to bytes step.gives step.given step.in_turn legal)
    by (Unsent to bytes) step legal is = sent to bytes (P ++ step.between) is (unsent_at g J (P ++ step.between) step.gave s step.mid to bytes step.gives step.given step.in_turn legal)
    by (Got from bytes until at) step legal is = step.gives.0.some_open closed
    by (Quiet until at) step legal is = step.gives.0.some_open closed

ends_from : (g : Given) (J K P : List Entry) (s : Seen) (es : List Event) (f : Event) (fs : List Event) → 0 < g.setting.paths → Legal g.setting J → Legal g.setting K → AllSettled g.setting.paths K → NoneAsks g.setting g.setting.paths K
    → Apart s.queries → RoundsFrom sequential g J P s (es ++ f ∷ fs) → (k : RoundsFrom sequential g K P s es) → (last_seen sequential g K P s es k).queries ≡ [] → ⊥
unfolding last_seen
ends_from g J K P s [] f fs some l m settled none apart h k closed = no_step g J K P s f fs some l m settled none closed h k
ends_from g J K P s (x ∷ es) f fs some l m settled none apart h k closed =
    ends_from g J K ((P ++ k.0.between) ++ k.0.gave) k.0.mid es f fs some l m settled none (apart_gives g K s k.0.mid x apart k.0.gives) (past g J K P s x (es ++ f ∷ fs) es some l m apart h k) k.1 closed

pub last_call : (g : Given) (J K : List Entry) (events rest : List Event) (f : Event) → 0 < g.setting.paths → Legal g.setting J → Legal g.setting K → seeds J ≡ seeds K → Tells g K events → Rounds sequential g K events → Rounds sequential g J (events ++ f ∷ rest) → ⊥
last_call g J K [] rest f some l m same tells k h = (let first : [] ≡ Now k.at ∷ k.rest = k.first in absurd cc)
last_call g J K (x ∷ es) rest f some l m same tells k h =
    let one = begins_with g K x es k in
    let told = subst (λ y. TellsSoFar g K (y ∷ es) tells.end) one.1 tells.so_far in
    let P = seeds K in
    let goes = goes_with g K (seeds K) one.0 es (subst (λ y. Rounds sequential g K (y ∷ es)) one.1 k) refl in
    let last = last_seen sequential g K P (begun one.0) es goes in
    let given : last.given ≡ tells.end.given = rounds_give sequential g K P (begun one.0) es goes (sym (all_quiet (seeds K) (seeds_are_seeds K))) ∙ sym told.1 in
    let is : last ≡ tells.end = told_once g K K (begun one.0) last tells.end es tt (rounds_tell sequential g K P (begun one.0) es goes) told.0 given in
    ends_from g J K P (begun one.0) es f rest some l m k.settled k.none_asks tt
    (goes_with g J (seeds K) one.0 (es ++ f ∷ rest) (subst (λ y. Rounds sequential g J (y ∷ (es ++ f ∷ rest))) one.1 h) same) goes
    (ap (λ (y : Seen). y.queries) is ∙ tells.none_open)
