-- What the events show goes on, event by event, while the journals grow.
use Rattle.std.proofs.Common.{◌≡◌, ◌⊎◌, ℕ, zero, suc, ◌<◌, List, [], ◌∷◌, ◌++◌, Option, None, Bool, true, false, inl, inr, refl, sym, ap, subst, ◌∙◌, arith}
use Rattle.std.specs.Prelude.{map, cond, slice_get, Some}
use Rattle.std.specs.List.{AllZip}
use Rattle.std.proofs.lemmas.List.{append-nil, append_assoc}
use Rattle.kad_base.specs.declared.types.Addr.{Addr}
use Rattle.kad_base.specs.declared.types.Event.{Event}
use Rattle.kad_base.specs.declared.types.Event.TheVariants.{Now, Sent, Unsent, Got, Quiet}
use Rattle.claim_book.specs.declared.types.Setting.{Setting}
use Rattle.claim_book.specs.Journal.{may_ask}
use Rattle.lookup_core.specs.declared.quest.Quest.{Quest}
use Rattle.lookup_core.specs.Matching.{IsStray}
use Rattle.lookup_core.specs.Sealed.{Accepts}
use Rattle.lookup_crowd.specs.declared.due.FollowUp.{FollowUp}
use Rattle.lookup_crowd.specs.declared.seeker.Seeker.{Seeker}
use Rattle.lookup_crowd.specs.declared.seeker.Progress.{Progress}
use Rattle.lookup_crowd.specs.Mine.{Mine, Whose, HasAsked, HaveAsked, SentGives, UnsentGives, MatchGives}
use Rattle.lookup_crowd.specs.Many.{Frame, Owed, Shown, Reading, nothing_read, and_then, OneMoves, AsksOne, MayWait, for_replies, for_follow_ups, for_others, AllHaveAsked, Receives, FirstTakes, IsForeign, IsTaken, IsAnsweredFor, SaysNext, Gives, GivesFrom, begun}
use Rattle.lookup_crowd.specs.inner.Crowd.{whose, Longer, KeepsMine, framed, KeepsProgress, KeepsSaying, ManyShow}

-- ---- readings

pub same_reading : (a b : Reading) → a.owners ≡ b.owners → a.did ≡ b.did → a.lost ≡ b.lost → a.told ≡ b.told → a ≡ b
same_reading a b o d l t =
    ap (λ x. record { owners = x; did = a.did; lost = a.lost; told = a.told }) o
    ∙ ap (λ x. record { owners = b.owners; did = x; lost = a.lost; told = a.told }) d
    ∙ ap (λ x. record { owners = b.owners; did = b.did; lost = x; told = a.told }) l
    ∙ ap (λ x. record { owners = b.owners; did = b.did; lost = b.lost; told = x }) t

pub nothing_after : (a : Reading) → and_then a nothing_read ≡ a
nothing_after a = same_reading (and_then a nothing_read) a (append-nil a.owners) (append-nil a.did) (append-nil a.lost) (append-nil a.told)

pub then_assoc : (a b c : Reading) → and_then (and_then a b) c ≡ and_then a (and_then b c)
then_assoc a b c = same_reading (and_then (and_then a b) c) (and_then a (and_then b c)) (append_assoc a.owners b.owners c.owners) (append_assoc a.did b.did c.did) (append_assoc a.lost b.lost c.lost) (append_assoc a.told b.told c.told)

-- ---- longer journals

asked_longer : (k l : Seeker) (m : Mine) (p : ℕ) → Longer k l → HasAsked (whose k) m p → HasAsked (whose l) m p
asked_longer k l m p g h = record {
  before = h.before;
  behind = h.behind ++ g.more;
  later = h.later;
  earlier = h.earlier;
  splits = g.journal ∙ ap (λ J. J ++ g.more) h.splits ∙ append_assoc h.before h.behind g.more;
  none = subst (λ (s : Setting). may_ask s p h.before ≡ None) (sym g.setting) h.none;
  covers = h.covers;
  since_receive = h.since_receive;
  of_others = h.of_others;
}

have_longer : (ks ls : List Seeker) (ms : List Mine) → AllZip Longer ks ls → AllZip HaveAsked (map whose ks) ms → AllZip HaveAsked (map whose ls) ms
have_longer [] [] ms g h = h
have_longer [] (l ∷ ls) ms g h = absurd g
have_longer (k ∷ ks) [] ms g h = absurd g
have_longer (k ∷ ks) (l ∷ ls) [] g h = absurd h
have_longer (k ∷ ks) (l ∷ ls) (m ∷ ms) g h = (
  (λ p lt. asked_longer k l m p g.0 (h.0 p (subst (λ (s : Setting). p < s.paths) g.0.setting lt))),
  have_longer ks ls ms g.1 h.1,
)

all_have_longer : (n : ℕ) (ks ls : List Seeker) (ms : List Mine) → AllZip Longer ks ls → AllHaveAsked n (map whose ks) ms → AllHaveAsked n (map whose ls) ms
all_have_longer zero ks ls ms g h = have_longer ks ls ms g h
all_have_longer (suc n) ks ls ms g h = tt

waits_longer : (ks ls : List Seeker) (s : Shown) (until : ℕ) → MayWait 0 [] (map whose ks) s until → MayWait 0 [] (map whose ls) s until
waits_longer ks ls s until (for_replies some waits) = for_replies some waits
waits_longer ks ls s until (for_follow_ups some none over one is) = absurd (omega (arith, some))
waits_longer ks ls s until (for_others none over said round fewer before is) = absurd (omega (arith, fewer))

receives_longer : (ks ls : List Seeker) (s : Shown) (until : ℕ) → AllZip Longer ks ls → Receives 0 [] (map whose ks) s until → Receives 0 [] (map whose ls) s until
receives_longer ks ls s until g h = record { none_owed = h.none_owed; waits = waits_longer ks ls s until h.waits; asked = all_have_longer s.receives ks ls s.each g h.asked }

pub first_longer : (accepts : Accepts) (from : Addr) (bytes : List ℕ) (at : ℕ) (ks ls : List Seeker) (ms ns : List Mine) → AllZip Longer ks ls → FirstTakes accepts from bytes at (map whose ks) ms ns → FirstTakes accepts from bytes at (map whose ls) ms ns
first_longer accepts from bytes at [] [] ms ns g h = h
first_longer accepts from bytes at [] (l ∷ ls) ms ns g h = absurd g
first_longer accepts from bytes at (k ∷ ks) [] ms ns g h = absurd g
first_longer accepts from bytes at (k ∷ ks) (l ∷ ls) [] ns g h = absurd h
first_longer accepts from bytes at (k ∷ ks) (l ∷ ls) (m ∷ ms) [] g h = absurd h
first_longer accepts from bytes at (k ∷ ks) (l ∷ ls) (m ∷ ms) (n ∷ ns) g (inl h) = inl (subst (λ (q : Quest). MatchGives q accepts m from bytes at n) (sym g.0.quest) h.0, h.1)
first_longer accepts from bytes at (k ∷ ks) (l ∷ ls) (m ∷ ms) (n ∷ ns) g (inr h) =
    inr (subst (λ (q : Quest). IsStray q accepts m.queries from bytes) (sym g.0.quest) h.0, h.1, first_longer accepts from bytes at ks ls ms ns g.1 h.2)

pub foreign_longer : (accepts : Accepts) (from : Addr) (bytes : List ℕ) (ks ls : List Seeker) (ms : List Mine) → AllZip Longer ks ls → IsForeign accepts from bytes (map whose ks) ms → IsForeign accepts from bytes (map whose ls) ms
foreign_longer accepts from bytes [] [] ms g h = h
foreign_longer accepts from bytes [] (l ∷ ls) ms g h = absurd g
foreign_longer accepts from bytes (k ∷ ks) [] ms g h = absurd g
foreign_longer accepts from bytes (k ∷ ks) (l ∷ ls) [] g h = absurd h
foreign_longer accepts from bytes (k ∷ ks) (l ∷ ls) (m ∷ ms) g h = (subst (λ (q : Quest). IsStray q accepts m.queries from bytes) (sym g.0.quest) h.0, foreign_longer accepts from bytes ks ls ms g.1 h.1)

taken_longer : (f : Frame) (ks ls : List Seeker) (s t : Shown) (from : Addr) (bytes : List ℕ) (at : ℕ) (read : Reading) → AllZip Longer ks ls → IsTaken f (map whose ks) s from bytes at read t → IsTaken f (map whose ls) s from bytes at read t
taken_longer f ks ls s t from bytes at read g h = record { each = h.each; first = first_longer f.accepts from bytes at ks ls s.each h.each g h.first; read_is = h.read_is; after = h.after }

answered_longer : (f : Frame) (ks ls : List Seeker) (s t : Shown) (from : Addr) (bytes : List ℕ) (at : ℕ) (read : Reading) → AllZip Longer ks ls → IsAnsweredFor f (map whose ks) s from bytes at read t → IsAnsweredFor f (map whose ls) s from bytes at read t
answered_longer f ks ls s t from bytes at read g h = record { foreign = foreign_longer f.accepts from bytes ks ls s.each g h.foreign; did = h.did; read_is = h.read_is; few = h.few; owed = h.owed; owes = h.owes; after = h.after }

moves_longer : (G : Quest → Mine → Mine → Type 0) (i : ℕ) (ks ls : List Seeker) (ms ns : List Mine) → AllZip Longer ks ls → OneMoves (λ w m n. G w.quest m n) i (map whose ks) ms ns → OneMoves (λ w m n. G w.quest m n) i (map whose ls) ms ns
moves_longer G i [] [] ms ns g h = h
moves_longer G i [] (l ∷ ls) ms ns g h = absurd g
moves_longer G i (k ∷ ks) [] ms ns g h = absurd g
moves_longer G i (k ∷ ks) (l ∷ ls) [] ns g h = absurd h
moves_longer G i (k ∷ ks) (l ∷ ls) (m ∷ ms) [] g h = absurd h
moves_longer G zero (k ∷ ks) (l ∷ ls) (m ∷ ms) (n ∷ ns) g h = (subst (λ q. G q m n) (sym g.0.quest) h.0, h.1)
moves_longer G (suc i) (k ∷ ks) (l ∷ ls) (m ∷ ms) (n ∷ ns) g h = (h.0, moves_longer G i ks ls ms ns g.1 h.1)

asks_longer : (G : Quest → Mine → Mine → Type 0) (ks ls : List Seeker) (s t : Shown) (read : Reading) → AllZip Longer ks ls → AsksOne (λ w m n. G w.quest m n) (map whose ks) s read t → AsksOne (λ w m n. G w.quest m n) (map whose ls) s read t
asks_longer G ks ls s t read g h = record { owner = h.owner; owns = h.owns; none_owed = h.none_owed; each = h.each; moves = moves_longer G h.owner ks ls s.each h.each g h.moves; after = h.after }

-- while lookups are open no follow-up is due
pub none_due : (f : Frame) (ws : List Whose) (s t : Shown) (to : Addr) (bytes : List ℕ) (was_sent : Bool) (read : Reading) → SaysNext (framed true f) ws s to bytes was_sent read t → ⊥
none_due f ws s t to bytes was_sent read h = nothing_there s.followed h.due h.next
  where
    nothing_there : (n : ℕ) (due : FollowUp) → slice_get {X = FollowUp} [] n ≡ Some due → ⊥
    nothing_there n due e = absurd cc

gives_longer : (f : Frame) (ks ls : List Seeker) (s t : Shown) (e : Event) (read : Reading) → AllZip Longer ks ls → Gives (framed true f) (map whose ks) s e read t → Gives (framed true f) (map whose ls) s e read t
gives_longer f ks ls s t (Now at) read g h = h
gives_longer f ks ls s t (Sent to bytes) read g (inl h) = inl (asks_longer (λ q m n. SentGives q _ _ m to bytes n) ks ls s t read g h)
gives_longer f ks ls s t (Sent to bytes) read g (inr (inl h)) = inr (inl h)
gives_longer f ks ls s t (Sent to bytes) read g (inr (inr h)) = absurd (none_due f (map whose ks) s t to bytes true read h)
gives_longer f ks ls s t (Unsent to bytes) read g (inl h) = inl (asks_longer (λ q m n. UnsentGives q _ m to bytes n) ks ls s t read g h)
gives_longer f ks ls s t (Unsent to bytes) read g (inr (inl h)) = inr (inl h)
gives_longer f ks ls s t (Unsent to bytes) read g (inr (inr h)) = absurd (none_due f (map whose ks) s t to bytes false read h)
gives_longer f ks ls s t (Got from bytes until at) read g h = (receives_longer ks ls s until g h.0, pick h.1)
  where
    pick : IsTaken (framed true f) (map whose ks) s from bytes at read t ⊎ IsAnsweredFor (framed true f) (map whose ks) s from bytes at read t → IsTaken (framed true f) (map whose ls) s from bytes at read t ⊎ IsAnsweredFor (framed true f) (map whose ls) s from bytes at read t
    pick (inl x) = inl (taken_longer (framed true f) ks ls s t from bytes at read g x)
    pick (inr x) = inr (answered_longer (framed true f) ks ls s t from bytes at read g x)
gives_longer f ks ls s t (Quiet until at) read g h = (receives_longer ks ls s until g h.0, h.1, h.2)

walk_longer : (f : Frame) (ks ls : List Seeker) (s : Shown) (es : List Event) (t : Shown) (read : Reading) → AllZip Longer ks ls → GivesFrom (framed true f) (map whose ks) s es t read → GivesFrom (framed true f) (map whose ls) s es t read
walk_longer f ks ls s [] t read g h = h
walk_longer f ks ls s (e ∷ es) t read g h = (h.0, h.1, h.2, gives_longer f ks ls s h.0 e h.1 g h.3, walk_longer f ks ls h.0 es t h.2 g h.4, h.5)

-- while lookups are open their journals may grow, and afterwards nothing of them changes
pub walk_still : (busy : Bool) (f : Frame) (ks ls : List Seeker) (s : Shown) (es : List Event) (t : Shown) (read : Reading) → AllZip Longer ks ls → (busy ≡ false → map whose ls ≡ map whose ks) → GivesFrom (framed busy f) (map whose ks) s es t read → GivesFrom (framed busy f) (map whose ls) s es t read
walk_still true f ks ls s es t read g same h = walk_longer f ks ls s es t read g h
walk_still false f ks ls s es t read g same h = subst (λ ws. GivesFrom (framed false f) ws s es t read) (sym (same refl)) h

-- ---- one event more

walk_on : (f : Frame) (ws : List Whose) (s : Shown) (es : List Event) (m : Shown) (read : Reading) (e : Event) (one : Reading) (t : Shown) → GivesFrom f ws s es m read → Gives f ws m e one t → GivesFrom f ws s (es ++ e ∷ []) t (and_then read one)
walk_on f ws s [] m read e one t h step = (t, one, nothing_read, subst (λ (x : Shown). Gives f ws x e one t) h.0 step, (refl, refl), ap (λ r. and_then r one) h.1 ∙ sym (nothing_after one))
walk_on f ws s (x ∷ es) m read e one t h step = (h.0, h.1, and_then h.2 one, h.3, walk_on f ws h.0 es m h.2 e one t h.4 step, ap (λ r. and_then r one) h.5 ∙ then_assoc h.1 h.2 one)

pub shows_more : (busy : Bool) (f : Frame) (count place place' : ℕ) (owed owed' : Option Owed) (read one : Reading) (ks ls : List Seeker) (progress progress' : Progress) (e : Event) (es : List Event) (h : ManyShow busy f count ks progress place owed read es) (t : Shown) → AllZip Longer ks ls → (busy ≡ false → map whose ls ≡ map whose ks)
    → Gives (framed busy f) (map whose ls) h.end e one t → KeepsProgress f progress' place' owed' t → AllZip KeepsMine ls t.each → KeepsSaying busy (cond busy [] f.follows) progress' t → ManyShow busy f count ls progress' place' owed' (and_then read one) (es ++ e ∷ [])
shows_more busy f count place place' owed owed' read one ks ls progress progress' e es h t g same gives keeps_progress keeps_each keeps_saying = record {
  at = h.at;
  rest = h.rest ++ e ∷ [];
  first = ap (λ l. l ++ e ∷ []) h.first;
  end = t;
  walk = walk_on (framed busy f) (map whose ls) (begun f.minutes count h.at) h.rest h.end read e one t (walk_still busy f ks ls (begun f.minutes count h.at) h.rest h.end read g same h.walk) gives;
  keeps_progress = keeps_progress;
  keeps_each = keeps_each;
  keeps_saying = keeps_saying;
}
