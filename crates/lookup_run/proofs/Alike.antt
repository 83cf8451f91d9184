-- What events show of datagrams in a lookup that isn't sealed, whatever the journal is: which are strays, and how many.
use Rattle.std.proofs.Common.{◌≡◌, ◌≢◌, ℕ, zero, suc, ◌+◌, ◌%◌, ◌^◌, ◌<◌, List, [], ◌∷◌, ◌++◌, length, get_or, true, false, not, cond, inl, inr, refl, sym, ap, subst, ◌∙◌, arith}
use Rattle.std.specs.Prelude.{map, Contains}
use Rattle.std.specs.List.{AllByRecursion}
use Rattle.std.proofs.lemmas.Bool.{cases_lt}
use Rattle.std.proofs.lemmas.List.{map-append}
use Rattle.kad_base.specs.declared.types.Addr.{Addr}
use Rattle.kad_base.specs.declared.types.Event.{Event}
use Rattle.kad_base.specs.declared.types.Event.TheVariants.{Now, Sent, Unsent, Got, Quiet}
use Rattle.kad_base.specs.Words.{word, word_bytes}
use Rattle.query_book.specs.declared.Query.{Query}
use Rattle.query_book.specs.Queries.{HasId, IsFirstFree}
use Rattle.claim_book.specs.declared.types.Entry.{Entry}
use Rattle.lookup_core.specs.Reply.{Reply}
use Rattle.lookup_core.specs.Matching.{OpenQuery, query_of, SaysTo, Replies, IsStray}
use Rattle.lookup_core.specs.Timeouts.{deadline_of, is_overdue, open_at}
use Rattle.lookup_run.specs.Tells.{Given, Seen, SentGives, MatchGives, GotGives, receives_seen, after_stray, Gives, TellsFrom, begun, TellsSoFar, NeverEnds}
use Rattle.lookup_run.proofs.Driven.{map_push}
use Rattle.lookup_run.proofs.OnceEvents.{Apart, apart_gives, small_there, one_query, reply_once}
use Rattle.lookup_core.specs.declared.quest.Quest.{Quest}
use Rattle.lookup_core.specs.Sealed.{Accepts, IsSealed, speaker}

-- an open query as the events alone show it
abbrev pub bare : OpenQuery → OpenQuery
bare q = record { path = 0; contact = record { id = record { 0 = [] }; addr = q.contact.addr }; tx = q.tx; deadline = q.deadline }

-- two journals' states that the events can't tell apart
pub record Alike (s t : Seen) : Type 0 where
  pub moment : s.moment ≡ t.moment
  pub queries : map bare s.queries ≡ map bare t.queries
  pub sends : s.sends ≡ t.sends
  pub strays : s.strays ≡ t.strays
  pub receives : s.receives ≡ t.receives

apart_ids : (x : ℕ) (qs : List OpenQuery) → AllByRecursion (λ (q : OpenQuery). q.tx ≢ x) qs → AllByRecursion (λ (q : OpenQuery). q.tx ≢ x) (map bare qs)
apart_ids x [] h = tt
apart_ids x (q ∷ qs) h = (h.0, apart_ids x qs h.1)

apart_bare : (qs : List OpenQuery) → Apart qs → Apart (map bare qs)
apart_bare [] h = tt
apart_bare (q ∷ qs) h = (h.0, apart_ids q.tx qs h.1, apart_bare qs h.2)

-- ---- ids

has_bare : (qs rs : List OpenQuery) (tx : ℕ) → map bare qs ≡ map bare rs → HasId (map query_of qs) tx → HasId (map query_of rs) tx
has_bare [] rs tx e h = (let lt = h.2 in absurd (omega (arith, lt)))
has_bare (q ∷ qs) [] tx e h = absurd cc
has_bare (q ∷ qs) (r ∷ rs) tx e h =
    let head : bare q ≡ bare r = cc in
    let tail : map bare qs ≡ map bare rs = cc in
    here h.0 h.2 h.3 head (λ k. has_bare qs rs tx tail k)
  where
    here : (k : ℕ) → k < length (map query_of (q ∷ qs)) → get_or (map query_of (q ∷ qs)) k h.1 ≡ h.1 → bare q ≡ bare r → (HasId (map query_of qs) tx → HasId (map query_of rs) tx) → HasId (map query_of (r ∷ rs)) tx
    here zero lt is head rest = (0, query_of r, omega arith, refl, ap (λ (x : OpenQuery). x.tx) (sym head) ∙ ap (λ (x : Query). x.tx) is ∙ h.4)
    here (suc k) lt is head rest = (let m = rest (k, h.1, omega (arith, lt), is, h.4) in (suc m.0, m.1, (let less = m.2 in omega (arith, less)), m.3, m.4))

free_alike : (xs ys : List Query) (w a b : ℕ) → ((n : ℕ) → HasId xs n → HasId ys n) → ((n : ℕ) → HasId ys n → HasId xs n) → IsFirstFree xs w a → IsFirstFree ys w b → a ≡ b
free_alike xs ys w a b f g h k =
    elim (cases_lt h.steps k.steps) [
      | inl lt ↦ absurd (h.free (subst (HasId xs) (sym h.is_id) (g _ (k.taken_before h.steps lt))))
      | inr ge ↦ elim (cases_lt k.steps h.steps) [
        | inl lt ↦ absurd (k.free (subst (HasId ys) (sym k.is_id) (f _ (h.taken_before k.steps lt))))
        | inr le ↦ (let same : h.steps ≡ k.steps = omega (arith, ge, le) in h.is_id ∙ ap (λ n. (w + n) % 2 ^ 32) same ∙ sym k.is_id)
      ]
    ]

-- ---- what is open later

open_bare : (at : ℕ) (qs : List OpenQuery) → map bare (open_at at qs) ≡ open_at at (map bare qs)
open_bare at [] = refl
open_bare at (q ∷ qs) = elim (is_overdue at q) as (λ b. map bare (cond (not b) (q ∷ open_at at qs) (open_at at qs)) ≡ cond (not b) (bare q ∷ open_at at (map bare qs)) (open_at at (map bare qs))) [
  | true ↦ open_bare at qs
  | false ↦ ap (λ l. bare q ∷ l) (open_bare at qs)
]

open_alike : (at : ℕ) (qs rs : List OpenQuery) → map bare qs ≡ map bare rs → map bare (open_at at qs) ≡ map bare (open_at at rs)
open_alike at qs rs e = open_bare at qs ∙ ap (open_at at) e ∙ sym (open_bare at rs)

goes_bare : (n : ℕ) (qs : List OpenQuery) → receives_seen n qs ≡ receives_seen n (map bare qs)
goes_bare n [] = refl
goes_bare n (q ∷ qs) = refl

goes_alike : (n m : ℕ) (qs rs : List OpenQuery) → n ≡ m → map bare qs ≡ map bare rs → receives_seen n qs ≡ receives_seen m rs
goes_alike n m qs rs e f = goes_bare n qs ∙ ap (receives_seen n) f ∙ ap (λ k. receives_seen k (map bare rs)) e ∙ sym (goes_bare m rs)

-- ---- who replied

-- a query of the other list that looks like this one
pub record Twin (rs : List OpenQuery) (q : OpenQuery) : Type 0 where
  pub query : OpenQuery
  pub there : Contains rs query
  pub same : bare query ≡ bare q

twin : (before behind rs : List OpenQuery) (q : OpenQuery) → map bare (before ++ q ∷ behind) ≡ map bare rs → Twin rs q
twin [] behind [] q e = absurd cc
twin [] behind (r ∷ rs) q e = record { query = r; there = (0, omega arith, refl); same = (let head : bare q ≡ bare r = cc in sym head) }
twin (x ∷ before) behind [] q e = absurd cc
twin (x ∷ before) behind (r ∷ rs) q e =
    let tail : map bare (before ++ q ∷ behind) ≡ map bare rs = cc in
    let t = twin before behind rs q tail in
    record { query = t.query; there = (suc t.there.0, (let lt = t.there.1 in omega (arith, lt)), t.there.2); same = t.same }

twin_replies : (quest : Quest) (accepts : Accepts) (bytes : List ℕ) (from : Addr) (p q : OpenQuery) (r : Reply) → quest.sealed ≡ false → bare p ≡ bare q → Replies quest accepts bytes from q r → Replies quest accepts bytes from p r
twin_replies quest accepts bytes from p q r plain e h = record {
  believable = h.believable;
  said = h.said;
  says = h.says;
  to_query = subst (λ n. SaysTo (word_bytes n) h.said r) (sym (ap (λ (x : OpenQuery). x.tx) e)) h.to_query;
  source = h.source ∙ sym (ap (λ (x : OpenQuery). x.contact.addr) e);
  sealed = subst (λ b. IsSealed b accepts bytes (speaker p.contact r)) (sym plain) tt;
}

-- a datagram that replies to a query of the one replies to one of the other
pub not_both : (quest : Quest) (accepts : Accepts) (s t : Seen) (from : Addr) (bytes : List ℕ) (before behind : List OpenQuery) (q : OpenQuery) (r : Reply) → quest.sealed ≡ false → map bare s.queries ≡ map bare t.queries → s.queries ≡ before ++ q ∷ behind → Replies quest accepts bytes from q r → IsStray quest accepts t.queries from bytes → ⊥
not_both quest accepts s t from bytes before behind q r plain alike is replies stray =
    let w = twin before behind t.queries q (ap (map bare) (sym is) ∙ alike) in
    stray w.query w.there r (twin_replies quest accepts bytes from w.query q r plain w.same replies)

left_alike : (quest : Quest) (accepts : Accepts) (s t : Seen) (from : Addr) (bytes : List ℕ) (a b c d : List OpenQuery) (x y : OpenQuery) (r u : Reply) → Apart s.queries → Apart t.queries → map bare s.queries ≡ map bare t.queries → s.queries ≡ a ++ x ∷ b → t.queries ≡ c ++ y ∷ d → Replies quest accepts bytes from x r → Replies quest accepts bytes from y u → map bare (a ++ b) ≡ map bare (c ++ d)
left_alike quest accepts s t from bytes a b c d x y r u hs ht alike is js h k =
    let ids = (reply_once quest accepts bytes from x y r u (small_there a b x (subst Apart is hs)) (small_there c d y (subst Apart js ht)) h k).0 in
    let whole : map bare a ++ bare x ∷ map bare b ≡ map bare c ++ bare y ∷ map bare d = sym (map-append bare a (x ∷ b)) ∙ ap (map bare) (sym is) ∙ alike ∙ ap (map bare) js ∙ map-append bare c (y ∷ d) in
    let apart : Apart (map bare a ++ bare x ∷ map bare b) = subst Apart (ap (map bare) is ∙ map-append bare a (x ∷ b)) (apart_bare s.queries hs) in
    let one = one_query (map bare a) (map bare b) (map bare c) (map bare d) (bare x) (bare y) apart whole ids in
    map-append bare a b ∙ ap (λ l. l ++ map bare b) one.0 ∙ ap (λ l. map bare c ++ l) one.2 ∙ sym (map-append bare c d)

-- ---- event by event

got_alike : (g : Given) (s t s' t' : Seen) (from : Addr) (bytes : List ℕ) (at : ℕ) → g.quest.sealed ≡ false → Apart s.queries → Apart t.queries → Alike s t → GotGives g s from bytes at s' → GotGives g t from bytes at t' → Alike s' t'
got_alike g s t s' t' from bytes at plain hs ht a j k =
    elim j [
      | inl m ↦ elim k [ inl n ↦ both m n | inr n ↦ absurd (not_both g.quest g.accepts s t from bytes m.matched.before m.matched.behind m.matched.query m.matched.what plain a.queries m.matched.queries m.matched.replies n.0) ]
      | inr m ↦ elim k [ inl n ↦ absurd (not_both g.quest g.accepts t s from bytes n.matched.before n.matched.behind n.matched.query n.matched.what plain (sym a.queries) n.matched.queries n.matched.replies m.0) | inr n ↦ neither m.1 n.1 ]
    ]
  where
    both : MatchGives g s from bytes at s' → MatchGives g t from bytes at t' → Alike s' t'
    both m n =
        let x = m.matched in
        let y = n.matched in
        let left : map bare m.left ≡ map bare n.left = ap (map bare) x.closes ∙ left_alike g.quest g.accepts s t from bytes x.before x.behind y.before y.behind x.query y.query x.what y.what hs ht a.queries x.queries y.queries x.replies y.replies ∙ ap (map bare) (sym y.closes) in
        let opens = open_alike at m.left n.left left in
        record {
          moment = ap (λ (z : Seen). z.moment) m.after ∙ sym (ap (λ (z : Seen). z.moment) n.after);
          queries = ap (λ (z : Seen). map bare z.queries) m.after ∙ opens ∙ sym (ap (λ (z : Seen). map bare z.queries) n.after);
          sends = ap (λ (z : Seen). z.sends) m.after ∙ a.sends ∙ sym (ap (λ (z : Seen). z.sends) n.after);
          strays = ap (λ (z : Seen). z.strays) m.after ∙ a.strays ∙ sym (ap (λ (z : Seen). z.strays) n.after);
          receives = ap (λ (z : Seen). z.receives) m.after ∙ goes_alike s.receives t.receives (open_at at m.left) (open_at at n.left) a.receives opens ∙ sym (ap (λ (z : Seen). z.receives) n.after);
        }

    neither : s' ≡ after_stray s at → t' ≡ after_stray t at → Alike s' t'
    neither m n =
        let opens = open_alike at s.queries t.queries a.queries in
        record {
          moment = ap (λ (z : Seen). z.moment) m ∙ sym (ap (λ (z : Seen). z.moment) n);
          queries = ap (λ (z : Seen). map bare z.queries) m ∙ opens ∙ sym (ap (λ (z : Seen). map bare z.queries) n);
          sends = ap (λ (z : Seen). z.sends) m ∙ a.sends ∙ sym (ap (λ (z : Seen). z.sends) n);
          strays = ap (λ (z : Seen). z.strays) m ∙ ap (λ k. k + 1) a.strays ∙ sym (ap (λ (z : Seen). z.strays) n);
          receives = ap (λ (z : Seen). z.receives) m ∙ goes_alike s.receives t.receives (open_at at s.queries) (open_at at t.queries) a.receives opens ∙ sym (ap (λ (z : Seen). z.receives) n);
        }

sent_alike : (g : Given) (s t s' t' : Seen) (to : Addr) (bytes : List ℕ) → Alike s t → SentGives g s to bytes s' → SentGives g t to bytes t' → Alike s' t'
sent_alike g s t s' t' to bytes a j k =
    let drawn : word g.seed (g.place + t.sends) ≡ word g.seed (g.place + s.sends) = ap (λ n. word g.seed (g.place + n)) (sym a.sends) in
    let tx : j.tx ≡ k.tx = free_alike (map query_of s.queries) (map query_of t.queries) (word g.seed (g.place + s.sends)) j.tx k.tx (λ n. has_bare s.queries t.queries n a.queries) (λ n. has_bare t.queries s.queries n (sym a.queries)) j.is_query.id (subst (λ w. IsFirstFree (map query_of t.queries) w k.tx) drawn k.is_query.id) in
    let p : OpenQuery = record { path = j.path; contact = j.contact; tx = j.tx; deadline = deadline_of s.moment g.quest.timeout } in
    let q : OpenQuery = record { path = k.path; contact = k.contact; tx = k.tx; deadline = deadline_of t.moment g.quest.timeout } in
    let opened : (addr : Addr) (n m : ℕ) → OpenQuery = (λ addr n m. record { path = 0; contact = record { id = record { 0 = [] }; addr = addr }; tx = n; deadline = deadline_of m g.quest.timeout }) in
    let same : bare p ≡ bare q = ap (λ addr. opened addr j.tx s.moment) (sym j.is_query.address ∙ k.is_query.address) ∙ ap (λ n. opened k.contact.addr n s.moment) tx ∙ ap (λ m. opened k.contact.addr k.tx m) a.moment in
    let queries : map bare (s.queries ++ p ∷ []) ≡ map bare (t.queries ++ q ∷ []) = map_push bare s.queries p ∙ ap (λ l. l ++ bare p ∷ []) a.queries ∙ ap (λ x. map bare t.queries ++ x ∷ []) same ∙ sym (map_push bare t.queries q) in
    record {
      moment = ap (λ (z : Seen). z.moment) j.after ∙ a.moment ∙ sym (ap (λ (z : Seen). z.moment) k.after);
      queries = ap (λ (z : Seen). map bare z.queries) j.after ∙ queries ∙ sym (ap (λ (z : Seen). map bare z.queries) k.after);
      sends = ap (λ (z : Seen). z.sends) j.after ∙ ap (λ n. n + 1) a.sends ∙ sym (ap (λ (z : Seen). z.sends) k.after);
      strays = ap (λ (z : Seen). z.strays) j.after ∙ a.strays ∙ sym (ap (λ (z : Seen). z.strays) k.after);
      receives = ap (λ (z : Seen). z.receives) j.after ∙ a.receives ∙ sym (ap (λ (z : Seen). z.receives) k.after);
    }

pub step_alike : (g : Given) (J K : List Entry) (s t s' t' : Seen) (e : Event) → g.quest.sealed ≡ false → Apart s.queries → Apart t.queries → Alike s t → Gives g J s e s' → Gives g K t e t' → Alike s' t'
step_alike g J K s t s' t' (Now at) plain hs ht a j k = absurd j
step_alike g J K s t s' t' (Sent to bytes) plain hs ht a j k = sent_alike g s t s' t' to bytes a j k
step_alike g J K s t s' t' (Unsent to bytes) plain hs ht a j k = record {
  moment = ap (λ (z : Seen). z.moment) j.after ∙ a.moment ∙ sym (ap (λ (z : Seen). z.moment) k.after);
  queries = ap (λ (z : Seen). map bare z.queries) j.after ∙ a.queries ∙ sym (ap (λ (z : Seen). map bare z.queries) k.after);
  sends = ap (λ (z : Seen). z.sends) j.after ∙ ap (λ n. n + 1) a.sends ∙ sym (ap (λ (z : Seen). z.sends) k.after);
  strays = ap (λ (z : Seen). z.strays) j.after ∙ a.strays ∙ sym (ap (λ (z : Seen). z.strays) k.after);
  receives = ap (λ (z : Seen). z.receives) j.after ∙ a.receives ∙ sym (ap (λ (z : Seen). z.receives) k.after);
}
step_alike g J K s t s' t' (Got from bytes until at) plain hs ht a j k = got_alike g s t s' t' from bytes at plain hs ht a j.1 k.1
step_alike g J K s t s' t' (Quiet until at) plain hs ht a j k = record {
  moment = ap (λ (z : Seen). z.moment) j.1 ∙ sym (ap (λ (z : Seen). z.moment) k.1);
  queries = ap (λ (z : Seen). map bare z.queries) j.1 ∙ open_alike at s.queries t.queries a.queries ∙ sym (ap (λ (z : Seen). map bare z.queries) k.1);
  sends = ap (λ (z : Seen). z.sends) j.1 ∙ a.sends ∙ sym (ap (λ (z : Seen). z.sends) k.1);
  strays = ap (λ (z : Seen). z.strays) j.1 ∙ a.strays ∙ sym (ap (λ (z : Seen). z.strays) k.1);
  receives = ap (λ (z : Seen). z.receives) j.1 ∙ sym (ap (λ (z : Seen). z.receives) k.1);
}

walk_alike : (g : Given) (J K : List Entry) (s t s' t' : Seen) (es : List Event) → g.quest.sealed ≡ false → Apart s.queries → Apart t.queries → Alike s t → TellsFrom g J s es s' → TellsFrom g K t es t' → Alike s' t'
walk_alike g J K s t s' t' [] plain hs ht a j k = subst (λ (x : Seen). Alike x t') (sym j) (subst (λ (x : Seen). Alike s x) (sym k) a)
walk_alike g J K s t s' t' (e ∷ es) plain hs ht a j k =
    walk_alike g J K j.0 k.0 s' t' es plain (apart_gives g J s j.0 e hs j.1) (apart_gives g K t k.0 e ht k.1) (step_alike g J K s t j.0 k.0 e plain hs ht a j.1 k.1) j.2 k.2

-- ---- the last stray

-- the last event of a walk
pub record LastOf (g : Given) (J : List Entry) (s t : Seen) (es : List Event) (e : Event) : Type 0 where
  pub mid : Seen
  pub front : TellsFrom g J s es mid
  pub gives : Gives g J mid e t

last_of : (g : Given) (J : List Entry) (s t : Seen) (es : List Event) (e : Event) → TellsFrom g J s (es ++ e ∷ []) t → LastOf g J s t es e
last_of g J s t [] e h = record { mid = s; front = refl; gives = subst (λ (x : Seen). Gives g J s e x) (sym h.2) h.1 }
last_of g J s t (x ∷ es) e h = (let r = last_of g J h.0 t es e h.2 in record { mid = r.mid; front = (h.0, h.1, r.front); gives = r.gives })

abbrev pub same_begun : (at : ℕ) → Alike (begun at) (begun at)
same_begun at = record { moment = refl; queries = refl; sends = refl; strays = refl; receives = refl }

stray_counts : (g : Given) (m t u : Seen) (from : Addr) (bytes : List ℕ) (at number : ℕ) → g.quest.sealed ≡ false → Alike m u → GotGives g m from bytes at t → IsStray g.quest g.accepts u.queries from bytes → u.strays + 1 ≡ number → t.strays ≡ number
stray_counts g m t u from bytes at number plain a k stray count =
    elim k [
      | inl x ↦ absurd (not_both g.quest g.accepts m u from bytes x.matched.before x.matched.behind x.matched.query x.matched.what plain a.queries x.matched.queries x.matched.replies stray)
      | inr x ↦ ap (λ (z : Seen). z.strays) x.1 ∙ ap (λ n. n + 1) a.strays ∙ count
    ]

ends_at : (g : Given) (J : List Entry) (at : ℕ) (rest : List Event) (t : Seen) (number : ℕ) (before : List Event) (K : List Entry) (u : Seen) (from : Addr) (bytes : List ℕ) (until now_ : ℕ) → g.quest.sealed ≡ false → TellsFrom g J (begun at) rest t → TellsSoFar g K before u → Now at ∷ rest ≡ before ++ Got from bytes until now_ ∷ [] → IsStray g.quest g.accepts u.queries from bytes → u.strays + 1 ≡ number → t.strays ≡ number
ends_at g J at rest t number [] K u from bytes until now_ plain h k e stray count = absurd cc
ends_at g J at rest t number (Now start ∷ before) K u from bytes until now_ plain h k e stray count =
    let one : at ≡ start = cc in
    let same : rest ≡ before ++ Got from bytes until now_ ∷ [] = cc in
    let l = last_of g J (begun at) t before (Got from bytes until now_) (subst (λ es. TellsFrom g J (begun at) es t) same h) in
    let a = walk_alike g J K (begun at) (begun at) l.mid u before plain tt tt (same_begun at) l.front (subst (λ n. TellsFrom g K (begun n) before u) (sym one) k.0) in
    stray_counts g l.mid t u from bytes now_ number plain a l.gives.1 stray count
ends_at g J at rest t number (Sent to bytes' ∷ before) K u from bytes until now_ plain h k e stray count = absurd k
ends_at g J at rest t number (Unsent to bytes' ∷ before) K u from bytes until now_ plain h k e stray count = absurd k
ends_at g J at rest t number (Got from' bytes' until' at' ∷ before) K u from bytes until now_ plain h k e stray count = absurd k
ends_at g J at rest t number (Quiet until' at' ∷ before) K u from bytes until now_ plain h k e stray count = absurd k

-- where the events show fewer strays, they don't end with the stray of this number
pub not_ended : (g : Given) (J : List Entry) (at : ℕ) (rest : List Event) (t : Seen) (number : ℕ) → g.quest.sealed ≡ false → TellsFrom g J (begun at) rest t → t.strays < number → NeverEnds g number (Now at ∷ rest)
not_ended g J at rest t number plain h few K k =
    let all = ends_at g J at rest t number k.before K k.end k.from k.bytes k.until k.at plain h k.so_far k.last k.stray k.count in
    absurd (omega (arith, all, few))
