-- What an event gives, where it is known what the events before it showed.
use Rattle.std.proofs.Common.{◌≡◌, ◌≢◌, ℕ, suc, ◌+◌, ◌%◌, ◌^◌, ◌<◌, List, [], ◌∷◌, ◌++◌, Option, Some, Bool, true, false, not, cond, inl, inr, refl, sym, ap, subst, ◌∙◌, arith}
use Rattle.std.specs.Prelude.{map, filter, Contains}
use Rattle.std.specs.List.{AllByRecursion}
use Rattle.std.proofs.lemmas.Bool.{cases_lt}
use Rattle.std.proofs.lemmas.List.{append_cancel_left}
use Rattle.std.proofs.lemmas.List.Elements.{Contains-append_right}
use Rattle.kad_base.specs.declared.types.Addr.{Addr}
use Rattle.kad_base.specs.declared.types.Contact.{Contact}
use Rattle.kad_base.specs.declared.types.Event.{Event}
use Rattle.kad_base.specs.declared.types.Event.TheVariants.{Now, Sent, Unsent, Got, Quiet}
use Rattle.kad_base.specs.Words.{word}
use Rattle.query_book.specs.declared.Query.{Query}
use Rattle.query_book.specs.Queries.{HasId, IsFirstFree}
use Rattle.claim_book.specs.declared.types.Setting.{Setting}
use Rattle.claim_book.specs.declared.types.Cause.TheVariants.{SendFault}
use Rattle.claim_book.specs.declared.types.Entry.{Entry}
use Rattle.claim_book.specs.declared.types.Entry.TheVariants.{Ask, Lost}
use Rattle.claim_book.specs.Journal.{may_ask}
use Rattle.claim_book.specs.Legal.{LegalAfter}
use Rattle.lookup_core.specs.Reply.{Reply}
use Rattle.lookup_core.specs.Reply as reply
use Rattle.lookup_core.specs.Matching.{OpenQuery, query_of, Replies, ReplyGives}
use Rattle.lookup_core.specs.Timeouts.{deadline_of, is_overdue}
use Rattle.lookup_run.specs.Tells.{Given, Seen, gives, SentGives, UnsentGives, MatchGives, GotGives, after_match, Gives}
use Rattle.lookup_run.specs.Rounds.{NoneAsks, AsksInTurn}
use Rattle.lookup_core.proofs.Opening.{small_id}
use Rattle.lookup_core.proofs.Replying.{word_same, one_reply}
use Rattle.lookup_run.proofs.Driven.{all_push}
use Rattle.lookup_core.specs.declared.quest.Quest.{Quest}
use Rattle.lookup_core.specs.Sealed.{Accepts}

-- ---- queries with different ids

abbrev pub Apart : List OpenQuery → Type 0
Apart [] = Unit {0}
Apart (q ∷ qs) = (q.tx < 2 ^ 32) × AllByRecursion (λ (x : OpenQuery). x.tx ≢ q.tx) qs × Apart qs

all_filter : {A : Type 0} (P : A → Type 0) (p : A → Bool) (xs : List A) → AllByRecursion P xs → AllByRecursion P (filter p xs)
all_filter P p [] h = tt
all_filter P p (x ∷ xs) h = elim (p x) as (λ b. AllByRecursion P (cond b (x ∷ filter p xs) (filter p xs))) [ true ↦ (h.0, all_filter P p xs h.1) | false ↦ all_filter P p xs h.1 ]

all_remove : {A : Type 0} (P : A → Type 0) (before behind : List A) (x : A) → AllByRecursion P (before ++ x ∷ behind) → AllByRecursion P (before ++ behind)
all_remove P [] behind x h = h.1
all_remove P (y ∷ before) behind x h = (h.0, all_remove P before behind x h.1)

all_there : {A : Type 0} (P : A → Type 0) (before behind : List A) (x : A) → AllByRecursion P (before ++ x ∷ behind) → P x
all_there P [] behind x h = h.0
all_there P (y ∷ before) behind x h = all_there P before behind x h.1

pub small_there : (before behind : List OpenQuery) (q : OpenQuery) → Apart (before ++ q ∷ behind) → q.tx < 2 ^ 32
small_there [] behind q h = h.0
small_there (x ∷ before) behind q h = small_there before behind q h.2

apart_free : (qs : List OpenQuery) (tx : ℕ) → ¬ HasId (map query_of qs) tx → AllByRecursion (λ (x : OpenQuery). x.tx ≢ tx) qs
apart_free [] tx n = tt
apart_free (q ∷ qs) tx n = (λ e. n (0, query_of q, omega arith, refl, e), apart_free qs tx (λ h. n (suc h.0, h.1, (let lt = h.2 in omega (arith, lt)), h.3, h.4)))

apart_push : (qs : List OpenQuery) (q : OpenQuery) → Apart qs → q.tx < 2 ^ 32 → AllByRecursion (λ (x : OpenQuery). x.tx ≢ q.tx) qs → Apart (qs ++ q ∷ [])
apart_push [] q h small n = (small, tt, tt)
apart_push (y ∷ qs) q h small n = (h.0, all_push (λ (x : OpenQuery). x.tx ≢ y.tx) qs q h.1 (λ e. n.0 (sym e)), apart_push qs q h.2 small n.1)

apart_filter : (p : OpenQuery → Bool) (qs : List OpenQuery) → Apart qs → Apart (filter p qs)
apart_filter p [] h = tt
apart_filter p (q ∷ qs) h = elim (p q) as (λ b. Apart (cond b (q ∷ filter p qs) (filter p qs))) [ true ↦ (h.0, all_filter (λ (x : OpenQuery). x.tx ≢ q.tx) p qs h.1, apart_filter p qs h.2) | false ↦ apart_filter p qs h.2 ]

apart_remove : (before behind : List OpenQuery) (q : OpenQuery) → Apart (before ++ q ∷ behind) → Apart (before ++ behind)
apart_remove [] behind q h = h.2
apart_remove (x ∷ before) behind q h = (h.0, all_remove (λ (y : OpenQuery). y.tx ≢ x.tx) before behind q h.1, apart_remove before behind q h.2)

pub apart_gives : (g : Given) (J : List Entry) (s t : Seen) (e : Event) → Apart s.queries → Gives g J s e t → Apart t.queries
apart_gives g J s t (Now at) h k = absurd k
apart_gives g J s t (Sent to bytes) h k =
    subst (λ (x : Seen). Apart x.queries) (sym k.after)
    (apart_push s.queries (record { path = k.path; contact = k.contact; tx = k.tx; deadline = deadline_of s.moment g.quest.timeout }) h (small_id (map query_of s.queries) (word g.seed (g.place + s.sends)) k.tx k.is_query.id) (apart_free s.queries k.tx k.is_query.id.free))
apart_gives g J s t (Unsent to bytes) h k = subst (λ (x : Seen). Apart x.queries) (sym k.after) h
apart_gives g J s t (Got from bytes until at) h k =
    elim k.1 [
      | inl m ↦ subst (λ (x : Seen). Apart x.queries) (sym m.after)
          (apart_filter (λ q. not (is_overdue at q)) m.left (subst Apart (sym m.matched.closes) (apart_remove m.matched.before m.matched.behind m.matched.query (subst Apart m.matched.queries h))))
      | inr m ↦ subst (λ (x : Seen). Apart x.queries) (sym m.1) (apart_filter (λ q. not (is_overdue at q)) s.queries h)
    ]
apart_gives g J s t (Quiet until at) h k = subst (λ (x : Seen). Apart x.queries) (sym k.1) (apart_filter (λ q. not (is_overdue at q)) s.queries h)

-- one id is that of one query
pub one_query : (a b c d : List OpenQuery) (x y : OpenQuery) → Apart (a ++ x ∷ b) → a ++ x ∷ b ≡ c ++ y ∷ d → x.tx ≡ y.tx → (a ≡ c) × (x ≡ y) × (b ≡ d)
one_query [] b [] d x y h e same = (refl, (let p : x ≡ y = cc in p), (let p : b ≡ d = cc in p))
one_query [] b (z ∷ c) d x y h e same =
    let head : x ≡ z = cc in
    let rest : b ≡ c ++ y ∷ d = cc in
    absurd (all_there (λ (w : OpenQuery). w.tx ≢ x.tx) c d y (subst (AllByRecursion (λ (w : OpenQuery). w.tx ≢ x.tx)) rest h.1) (sym same))
one_query (z ∷ a) b [] d x y h e same =
    let head : z ≡ y = cc in
    absurd (all_there (λ (w : OpenQuery). w.tx ≢ z.tx) a b x h.1 (same ∙ ap (λ (w : OpenQuery). w.tx) (sym head)))
one_query (z ∷ a) b (w ∷ c) d x y h e same =
    let head : z ≡ w = cc in
    let tail : a ++ x ∷ b ≡ c ++ y ∷ d = cc in
    let rest = one_query a b c d x y h.2 tail same in
    (ap (λ l. z ∷ l) rest.0 ∙ ap (λ q. q ∷ c) head, rest.1, rest.2)

-- ---- a datagram says one thing to one id

pub reply_once : (quest : Quest) (accepts : Accepts) (bytes : List ℕ) (from : Addr) (p q : OpenQuery) (r t : Reply) → p.tx < 2 ^ 32 → q.tx < 2 ^ 32 → Replies quest accepts bytes from p r → Replies quest accepts bytes from q t → (p.tx ≡ q.tx) × (r ≡ t)
reply_once quest accepts bytes from p q r t lp lq h k =
    let both = one_reply quest.sealed accepts bytes from (query_of p) (query_of q) r t h k in
    (word_same p.tx q.tx lp lq both.0, both.1)

pub entry_once : (quest : Quest) (q : OpenQuery) (r : Reply) (a b : Entry) → ReplyGives quest q r a → ReplyGives quest q r b → a ≡ b
entry_once quest q (reply.Answer answer) a b h k =
    elim h [
      | inl x ↦ elim k [ inl y ↦ x.1 ∙ sym y.1 | inr y ↦ absurd (y.0 x.0) ]
      | inr x ↦ elim k [ inl y ↦ absurd (x.0 y.0) | inr y ↦ x.1 ∙ sym y.1 ]
    ]
entry_once quest q (reply.Error code) a b h k = h ∙ sym k

pub contains_there : (before behind : List OpenQuery) (q : OpenQuery) → Contains (before ++ q ∷ behind) q
contains_there before behind q = Contains-append_right before (q ∷ behind) q (0, omega arith, refl)

-- ---- what each event gives

pub got_once : (g : Given) (s t u : Seen) (from : Addr) (bytes : List ℕ) (at : ℕ) → Apart s.queries → GotGives g s from bytes at t → GotGives g s from bytes at u → t ≡ u
got_once g s t u from bytes at h j k =
    elim j [
      | inl m ↦ elim k [ inl n ↦ both m n | inr n ↦ absurd (n.0 m.matched.query (subst (λ l. Contains l m.matched.query) (sym m.matched.queries) (contains_there m.matched.before m.matched.behind m.matched.query)) m.matched.what m.matched.replies) ]
      | inr m ↦ elim k [ inl n ↦ absurd (m.0 n.matched.query (subst (λ l. Contains l n.matched.query) (sym n.matched.queries) (contains_there n.matched.before n.matched.behind n.matched.query)) n.matched.what n.matched.replies) | inr n ↦ m.1 ∙ sym n.1 ]
    ]
  where
    both : MatchGives g s from bytes at t → MatchGives g s from bytes at u → t ≡ u
    both m n =
        let x = m.matched in
        let y = n.matched in
        let apart : Apart (x.before ++ x.query ∷ x.behind) = subst Apart x.queries h in
        let says = reply_once g.quest g.accepts bytes from x.query y.query x.what y.what (small_there x.before x.behind x.query apart) (small_there y.before y.behind y.query (subst Apart y.queries h)) x.replies y.replies in
        let one = one_query x.before x.behind y.before y.behind x.query y.query apart (sym x.queries ∙ y.queries) says.0 in
        let left : m.left ≡ n.left = x.closes ∙ ap (λ l. l ++ x.behind) one.0 ∙ ap (λ l. y.before ++ l) one.2 ∙ sym y.closes in
        let gave : m.entry ≡ n.entry = entry_once g.quest y.query y.what m.entry n.entry (subst (λ r. ReplyGives g.quest y.query r m.entry) says.1 (subst (λ q. ReplyGives g.quest q x.what m.entry) one.1 x.entry)) y.entry in
        m.after ∙ ap (λ e. after_match s at e m.left) gave ∙ ap (λ l. after_match s at n.entry l) left ∙ sym n.after

pub free_once : (qs : List Query) (w a b : ℕ) → IsFirstFree qs w a → IsFirstFree qs w b → a ≡ b
free_once qs w a b h k =
    elim (cases_lt h.steps k.steps) [
      | inl lt ↦ absurd (h.free (subst (HasId qs) (sym h.is_id) (k.taken_before h.steps lt)))
      | inr ge ↦ elim (cases_lt k.steps h.steps) [
        | inl lt ↦ absurd (k.free (subst (HasId qs) (sym k.is_id) (h.taken_before k.steps lt)))
        | inr le ↦ (let same : h.steps ≡ k.steps = omega (arith, ge, le) in h.is_id ∙ ap (λ n. (w + n) % 2 ^ 32) same ∙ sym k.is_id)
      ]
    ]

-- the path that asks, and whom
pub record Asks (s : Setting) (Q : List Entry) (path : ℕ) (contact : Contact) : Type 0 where
  pub may : may_ask s path Q ≡ Some contact
  pub none_before : NoneAsks s path Q

pub asks_of : (s : Setting) (Q more gave : List Entry) (t : Seen) (path : ℕ) (contact : Contact) → gave ≡ Ask path contact ∷ more → AsksInTurn s Q t gave → LegalAfter s Q gave → Asks s Q path contact
asks_of s Q more gave t path contact is turn legal =
    let e : Ask path contact ∷ more ≡ Ask turn.path turn.contact ∷ turn.rest = sym is ∙ turn.asks in
    let same : path ≡ turn.path = cc in
    record { may = (subst (LegalAfter s Q) is legal).0; none_before = subst (λ n. NoneAsks s n Q) (sym same) turn.none_before }

pub asks_once : (s : Setting) (Q : List Entry) (p q : ℕ) (c d : Contact) → Asks s Q p c → Asks s Q q d → (p ≡ q) × (c ≡ d)
asks_once s Q p q c d h k =
    elim (cases_lt p q) [
      | inl lt ↦ (let none = k.none_before p lt in let some = h.may in absurd cc)
      | inr ge ↦ elim (cases_lt q p) [
        | inl lt ↦ (let none = h.none_before q lt in let some = k.may in absurd cc)
        | inr le ↦ (
            let same : p ≡ q = omega (arith, ge, le) in
            let both : ◌≡◌ {A = Option Contact} (Some c) (Some d) = sym h.may ∙ ap (λ n. may_ask s n Q) same ∙ k.may in
            (same, (let one : c ≡ d = cc in one))
            )
      ]
    ]

abbrev pub sent_after : Given → Seen → ℕ → Contact → ℕ → Seen
sent_after g s path contact tx = record (gives s (Ask path contact ∷ [])) { queries = s.queries ++ record { path = path; contact = contact; tx = tx; deadline = deadline_of s.moment g.quest.timeout } ∷ []; sends = s.sends + 1 }

pub sent_once : (g : Given) (s t u : Seen) (to : Addr) (bytes : List ℕ) (Q gave gave' : List Entry) → SentGives g s to bytes t → SentGives g s to bytes u → t.given ≡ s.given ++ gave → u.given ≡ s.given ++ gave' → AsksInTurn g.setting Q s gave → AsksInTurn g.setting Q s gave' → LegalAfter g.setting Q gave → LegalAfter g.setting Q gave' → t ≡ u
sent_once g s t u to bytes Q gave gave' j k tg ug turn turn' l l' =
    let is : gave ≡ Ask j.path j.contact ∷ [] = append_cancel_left s.given gave (Ask j.path j.contact ∷ []) (sym tg ∙ ap (λ (x : Seen). x.given) j.after) in
    let is' : gave' ≡ Ask k.path k.contact ∷ [] = append_cancel_left s.given gave' (Ask k.path k.contact ∷ []) (sym ug ∙ ap (λ (x : Seen). x.given) k.after) in
    let one = asks_once g.setting Q j.path k.path j.contact k.contact (asks_of g.setting Q [] gave s j.path j.contact is turn l) (asks_of g.setting Q [] gave' s k.path k.contact is' turn' l') in
    let tx = free_once (map query_of s.queries) (word g.seed (g.place + s.sends)) j.tx k.tx j.is_query.id k.is_query.id in
    j.after ∙ ap (λ p. sent_after g s p j.contact j.tx) one.0 ∙ ap (λ c. sent_after g s k.path c j.tx) one.1 ∙ ap (λ n. sent_after g s k.path k.contact n) tx ∙ sym k.after

abbrev pub unsent_after : Seen → ℕ → Contact → Seen
unsent_after s path contact = record (gives s (Ask path contact ∷ Lost path contact SendFault ∷ [])) { sends = s.sends + 1 }

pub unsent_once : (g : Given) (s t u : Seen) (to : Addr) (bytes : List ℕ) (Q gave gave' : List Entry) → UnsentGives g s to bytes t → UnsentGives g s to bytes u → t.given ≡ s.given ++ gave → u.given ≡ s.given ++ gave' → AsksInTurn g.setting Q s gave → AsksInTurn g.setting Q s gave' → LegalAfter g.setting Q gave → LegalAfter g.setting Q gave' → t ≡ u
unsent_once g s t u to bytes Q gave gave' j k tg ug turn turn' l l' =
    let is : gave ≡ Ask j.path j.contact ∷ Lost j.path j.contact SendFault ∷ [] = append_cancel_left s.given gave (Ask j.path j.contact ∷ Lost j.path j.contact SendFault ∷ []) (sym tg ∙ ap (λ (x : Seen). x.given) j.after) in
    let is' : gave' ≡ Ask k.path k.contact ∷ Lost k.path k.contact SendFault ∷ [] = append_cancel_left s.given gave' (Ask k.path k.contact ∷ Lost k.path k.contact SendFault ∷ []) (sym ug ∙ ap (λ (x : Seen). x.given) k.after) in
    let one = asks_once g.setting Q j.path k.path j.contact k.contact (asks_of g.setting Q (Lost j.path j.contact SendFault ∷ []) gave s j.path j.contact is turn l) (asks_of g.setting Q (Lost k.path k.contact SendFault ∷ []) gave' s k.path k.contact is' turn' l') in
    j.after ∙ ap (λ p. unsent_after s p j.contact) one.0 ∙ ap (λ c. unsent_after s k.path c) one.1 ∙ sym k.after
