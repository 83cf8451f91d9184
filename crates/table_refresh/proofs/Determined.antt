-- The events of a refresh determine what they show.
use Rattle.std.proofs.Common.{◌≡◌, ◌≢◌, ℕ, ◌+◌, List, [], ◌∷◌, Option, Some, false, inl, inr, refl, sym, ap, subst, ◌∙◌, arith}
use Rattle.kad_base.specs.declared.types.Addr.{Addr}
use Rattle.kad_base.specs.declared.types.Contact.{Contact}
use Rattle.kad_base.specs.declared.types.Event.{Event}
use Rattle.kad_base.specs.declared.types.Event.TheVariants.{Now, Sent, Unsent, Got, Quiet}
use Rattle.kad_base.specs.Words.{word}
use Rattle.query_book.specs.declared.Query.{Query}
use Rattle.bucket_tree.specs.declared.types.Gone.{Gone}
use Rattle.contact_table.specs.declared.calls.TableCall.TheVariants.{Seen as Seen_call, Failed}
use Rattle.contact_table.specs.declared.calls.TableReply.{TableReply}
use Rattle.contact_table.specs.declared.calls.TableReply.TheVariants.{Gone as Gone_reply, NoMemory}
use Rattle.contact_table.specs.TableState.{TableState, SoundTable}
use Rattle.contact_table.specs.TableStep.{table_after}
use Rattle.contact_table.specs.Told.{HasMemory}
use Rattle.contact_table.proofs.Outcome.{one-reply, one-state}
use Rattle.contact_table.proofs.StaysSound.{step-sound}
use Rattle.lookup_core.specs.Reply.{Reply}
use Rattle.lookup_core.specs.Timeouts.{deadline_of}
use Rattle.lookup_core.proofs.Replying.{one_reply}
use Rattle.table_refresh.specs.Refreshed.{Given, Standing, is_kept, over, IsSeen, HasFailed, Succeeds, Fails, SentGives, UnsentGives, NoReply, ReplyGives, GotGives, Gives, TellsFrom, begun, Tells, Refreshed}

-- ---- the step of a try

same_gone : (x y : Gone) → ◌≡◌ {A = TableReply} (Gone_reply x) (Gone_reply y) → x ≡ y
same_gone x y e = cc

had_memory : (x : TableReply) → x ≢ NoMemory → HasMemory x
had_memory NoMemory h = absurd (h refl)
had_memory other h = tt

one_seen : (c : Contact) (s t u : TableState) → SoundTable s → IsSeen c s t → IsSeen c s u → t ≡ u
one_seen c s t u sound h k =
    h.after ∙ one-state s 0 0 (Seen_call c) h.reply k.reply sound h.step k.step (had_memory h.reply h.kept) (had_memory k.reply k.kept) ∙ sym k.after

same_failure : (c : Contact) (x y : Gone) (s t u : TableState) → SoundTable s → HasFailed c x s t → HasFailed c y s u → x ≡ y
same_failure c x y s t u sound h k = same_gone x y (one-reply s 0 0 (Failed c) (Gone_reply x) (Gone_reply y) sound h.step k.step tt tt)

one_success : (s : Standing) (c : Contact) (t u : Standing) → SoundTable s.table → Succeeds s c t → Succeeds s c u → t ≡ u
one_success s c t u sound h k = h.after ∙ ap (over s false) (one_seen c s.table h.table k.table sound h.seen k.seen) ∙ sym k.after

one_failure : (s : Standing) (c : Contact) (t u : Standing) → SoundTable s.table → Fails s c t → Fails s c u → t ≡ u
one_failure s c t u sound h k =
    let same = same_failure c h.gone k.gone s.table h.table k.table sound h.failed k.failed in
    let tables : h.table ≡ k.table = h.failed.after ∙ ap (λ x. table_after s.table 0 (Failed c) (Gone_reply x)) same ∙ sym k.failed.after in
    h.after ∙ ap (λ x. over s (is_kept x) h.table) same ∙ ap (over s (is_kept k.gone)) tables ∙ sym k.after

seen_sound : (s : Standing) (c : Contact) (t : Standing) → SoundTable s.table → Succeeds s c t → SoundTable t.table
seen_sound s c t sound h = subst (λ (x : Standing). SoundTable x.table) (sym h.after) (subst SoundTable (sym h.seen.after) (step-sound s.table 0 (Seen_call c) h.seen.reply sound h.seen.step))

failed_sound : (s : Standing) (c : Contact) (t : Standing) → SoundTable s.table → Fails s c t → SoundTable t.table
failed_sound s c t sound h = subst (λ (x : Standing). SoundTable x.table) (sym h.after) (subst SoundTable (sym h.failed.after) (step-sound s.table 0 (Failed c) (Gone_reply h.gone) sound h.failed.step))

-- ---- one event

same_first : (x y : Contact) (xs ys l : List Contact) → l ≡ x ∷ xs → l ≡ y ∷ ys → x ≡ y
same_first x y xs ys l e f = cc

same_waiting : (x y : Query) (o : Option Query) → o ≡ Some x → o ≡ Some y → x ≡ y
same_waiting x y o e f = cc

one_sent : (g : Given) (s : Standing) (to : Addr) (bytes : List ℕ) (t u : Standing) → SentGives g s to bytes t → SentGives g s to bytes u → t ≡ u
one_sent g s to bytes t u h k =
    let same = same_first h.head k.head h.pings.rest k.pings.rest s.due h.pings.due k.pings.due in
    h.after ∙ ap (λ c. record s { place = s.place + 1; waits = Some (record { tx = word g.seed s.place; contact = c; deadline = deadline_of s.moment g.timeout }) }) same ∙ sym k.after

one_unsent : (g : Given) (s : Standing) (to : Addr) (bytes : List ℕ) (t u : Standing) → SoundTable s.table → UnsentGives g s to bytes t → UnsentGives g s to bytes u → t ≡ u
one_unsent g s to bytes t u sound h k =
    let same = same_first h.head k.head h.pings.rest k.pings.rest s.due h.pings.due k.pings.due in
    one_failure (record s { place = s.place + 1 }) h.head t u sound h.fails (subst (λ c. Fails (record s { place = s.place + 1 }) c u) (sym same) k.fails)

one_none : (s : Standing) (q : Query) (at : ℕ) (t u : Standing) → SoundTable s.table → NoReply s q at t → NoReply s q at u → t ≡ u
one_none s q at t u sound (inl h) (inl k) = h.1 ∙ sym k.1
one_none s q at t u sound (inl h) (inr k) = absurd (let a = h.0 in let b = k.0 in omega (arith, a, b))
one_none s q at t u sound (inr h) (inl k) = absurd (let a = h.0 in let b = k.0 in omega (arith, a, b))
one_none s q at t u sound (inr h) (inr k) = one_failure s q.contact t u sound h.1 k.1

one_answer : (s : Standing) (q : Query) (said : Reply) (t u : Standing) → SoundTable s.table → ReplyGives s q said t → ReplyGives s q said u → t ≡ u
one_answer s q said t u sound (inl h) (inl k) = one_success s q.contact t u sound h.1 k.1
one_answer s q said t u sound (inl h) (inr k) = absurd (k.0 h.0)
one_answer s q said t u sound (inr h) (inl k) = absurd (h.0 k.0)
one_answer s q said t u sound (inr h) (inr k) = one_failure s q.contact t u sound h.1 k.1

one_got : (g : Given) (s : Standing) (q : Query) (from : Addr) (bytes : List ℕ) (at : ℕ) (t u : Standing) → SoundTable s.table → GotGives g s q from bytes at t → GotGives g s q from bytes at u → t ≡ u
one_got g s q from bytes at t u sound (inl h) (inl k) =
    let same = (one_reply g.sealed g.accepts bytes from q q h.said k.said h.matched k.matched).1 in
    one_answer (record s { moment = at }) q h.said t u sound h.gives (subst (λ m. ReplyGives (record s { moment = at }) q m u) (sym same) k.gives)
one_got g s q from bytes at t u sound (inl h) (inr k) = absurd (k.stray h.said h.matched)
one_got g s q from bytes at t u sound (inr h) (inl k) = absurd (h.stray k.said k.matched)
one_got g s q from bytes at t u sound (inr h) (inr k) = one_none (record s { moment = at; strays = s.strays + 1 }) q at t u sound h.gives k.gives

one_gives : (g : Given) (s : Standing) (e : Event) (t u : Standing) → SoundTable s.table → Gives g s e t → Gives g s e u → t ≡ u
one_gives g s (Now at) t u sound h k = absurd h
one_gives g s (Sent to bytes) t u sound h k = one_sent g s to bytes t u h k
one_gives g s (Unsent to bytes) t u sound h k = one_unsent g s to bytes t u sound h k
one_gives g s (Got from bytes until at) t u sound h k =
    let same = same_waiting h.0 k.0 s.waits h.1.waits k.1.waits in
    one_got g s h.0 from bytes at t u sound h.2 (subst (λ q. GotGives g s q from bytes at u) (sym same) k.2)
one_gives g s (Quiet until at) t u sound h k =
    let same = same_waiting h.0 k.0 s.waits h.1.waits k.1.waits in
    one_none (record s { moment = at }) h.0 at t u sound h.2 (subst (λ q. NoReply (record s { moment = at }) q at u) (sym same) k.2)

none_sound : (s : Standing) (q : Query) (at : ℕ) (t : Standing) → SoundTable s.table → NoReply s q at t → SoundTable t.table
none_sound s q at t sound (inl h) = subst (λ (x : Standing). SoundTable x.table) (sym h.1) sound
none_sound s q at t sound (inr h) = failed_sound s q.contact t sound h.1

answer_sound : (s : Standing) (q : Query) (said : Reply) (t : Standing) → SoundTable s.table → ReplyGives s q said t → SoundTable t.table
answer_sound s q said t sound (inl h) = seen_sound s q.contact t sound h.1
answer_sound s q said t sound (inr h) = failed_sound s q.contact t sound h.1

got_sound : (g : Given) (s : Standing) (q : Query) (from : Addr) (bytes : List ℕ) (at : ℕ) (t : Standing) → SoundTable s.table → GotGives g s q from bytes at t → SoundTable t.table
got_sound g s q from bytes at t sound (inl h) = answer_sound (record s { moment = at }) q h.said t sound h.gives
got_sound g s q from bytes at t sound (inr h) = none_sound (record s { moment = at; strays = s.strays + 1 }) q at t sound h.gives

gives_sound : (g : Given) (s : Standing) (e : Event) (t : Standing) → SoundTable s.table → Gives g s e t → SoundTable t.table
gives_sound g s (Now at) t sound h = absurd h
gives_sound g s (Sent to bytes) t sound h = subst (λ (x : Standing). SoundTable x.table) (sym h.after) sound
gives_sound g s (Unsent to bytes) t sound h = failed_sound (record s { place = s.place + 1 }) h.head t sound h.fails
gives_sound g s (Got from bytes until at) t sound h = got_sound g s h.0 from bytes at t sound h.2
gives_sound g s (Quiet until at) t sound h = none_sound (record s { moment = at }) h.0 at t sound h.2

-- ---- all events

one_from : (g : Given) (s : Standing) (es : List Event) (t u : Standing) → SoundTable s.table → TellsFrom g s es t → TellsFrom g s es u → t ≡ u
one_from g s [] t u sound h k = h ∙ sym k
one_from g s (e ∷ es) t u sound h k =
    let same = one_gives g s e h.0 k.0 sound h.1 k.1 in
    one_from g h.0 es t u (gives_sound g s e h.0 sound h.1) h.2 (subst (λ m. TellsFrom g m es u) (sym same) k.2)

from_sound : (g : Given) (s : Standing) (es : List Event) (t : Standing) → SoundTable s.table → TellsFrom g s es t → SoundTable t.table
from_sound g s [] t sound h = subst (λ (x : Standing). SoundTable x.table) (sym h) sound
from_sound g s (e ∷ es) t sound h = from_sound g h.0 es t (gives_sound g s e h.0 sound h.1) h.2

pub one_standing : (g : Given) (table : TableState) (place : ℕ) (events : List Event) (t u : Standing) → SoundTable table → Tells g table place events t → Tells g table place events u → t ≡ u
one_standing g table place [] t u sound h k = absurd h
one_standing g table place (Now at ∷ es) t u sound h k = one_from g (begun g table place at) es t u sound h k
one_standing g table place (Sent to bytes ∷ es) t u sound h k = absurd h
one_standing g table place (Unsent to bytes ∷ es) t u sound h k = absurd h
one_standing g table place (Got from bytes until at ∷ es) t u sound h k = absurd h
one_standing g table place (Quiet until at ∷ es) t u sound h k = absurd h

pub standing_sound : (g : Given) (table : TableState) (place : ℕ) (events : List Event) (t : Standing) → SoundTable table → Tells g table place events t → SoundTable t.table
standing_sound g table place [] t sound h = absurd h
standing_sound g table place (Now at ∷ es) t sound h = from_sound g (begun g table place at) es t sound h
standing_sound g table place (Sent to bytes ∷ es) t sound h = absurd h
standing_sound g table place (Unsent to bytes ∷ es) t sound h = absurd h
standing_sound g table place (Got from bytes until at ∷ es) t sound h = absurd h
standing_sound g table place (Quiet until at ∷ es) t sound h = absurd h

pub one_table : (g : Given) (table : TableState) (place : ℕ) (t u : TableState) (m n : ℕ) (events : List Event) → SoundTable table → Refreshed g table place t m events → Refreshed g table place u n events → t ≡ u
one_table g table place t u m n events sound h k = h.table_is ∙ ap (λ (x : Standing). x.table) (one_standing g table place events h.end k.end sound h.tells k.tells) ∙ sym k.table_is
