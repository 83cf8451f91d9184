-- To which of the open queries a datagram replies.
use Rattle.std.proofs.Common.{◌≡◌, ◌≢◌, ℕ, suc, ◌^◌, ◌<◌, List, take, drop, Some, Result, Ok, Err, true, inl, inr, refl, sym, ap, subst, ◌∙◌, arith}
use Rattle.std.specs.Prelude.{Any, Contains, map, slice_get, remove, IfOk}
use Rattle.std.specs.List.{All}
use Rattle.std.proofs.lemmas.Option.{slice_get-get_or, get_or_from_slice_get, slice_get_within}
use Rattle.std.proofs.lemmas.Bool.{cases_lt}
use Rattle.kad_base.specs.declared.types.Addr.{Addr}
use Rattle.kad_base.specs.declared.types.Contact.{Contact}
use Rattle.kad_base.specs.declared.types.NoMemory.{NoMemory}
use Rattle.kad_base.specs.Contacts.{among}
use Rattle.kad_base.specs.Words.{word_bytes}
use Rattle.query_book.specs.declared.Query.{Query}
use Rattle.query_book.specs.Queries.{IsQueries, IsOf, IsOfAt}
use Rattle.claim_book.specs.declared.types.Entry.{Entry}
use Rattle.claim_book.specs.Journal.{open_any}
use Rattle.lookup_core.specs.declared.on_reply.Taken.{Taken}
use Rattle.lookup_core.specs.declared.on_reply.Taken.TheVariants as taken
use Rattle.lookup_core.specs.declared.quest.Quest.{Quest}
use Rattle.lookup_core.specs.Reply.{Reply, Said, Answered}
use Rattle.lookup_core.specs.declared.state.Lookup.{Lookup}
use Rattle.lookup_core.specs.Matching.{SaysTo, Replies}
use Rattle.lookup_core.specs.Says.{RepliesTo, IsReply, IsNoReply}
use Rattle.lookup_core.specs.Sealed.{Accepts, IsSealed, speaker}
use Rattle.lookup_core.specs.LookupSteps.{as_open, Holds, HearsOne, HearsIn, HearsReply, HearsAt, handed, IsPlaceOf, IsMatch, RepliesToNone, Takes}
use Rattle.lookup_core.proofs.Lists.{split_at, all_in}
use Rattle.lookup_core.proofs.Holding.{among_middle}

-- ---- queries

place_is : {A : Type 0} (xs : List A) (x : A) (h : Contains xs x) → slice_get xs h.0 ≡ Some x
place_is xs x h = slice_get-get_or xs h.0 x h.1 ∙ ap Some h.2

-- no two queries have one transaction id
pub only_one : (qs : List Query) (place : ℕ) (q : Query) → IsQueries qs → slice_get qs place ≡ Some q → (x : Query) → Contains qs x → x.tx ≡ q.tx → x ≡ q
only_one qs place q is here x has same =
    elim (cases_lt has.0 place) [
      | inl below ↦ absurd (apart has.0 place x q below (place_is qs x has) here same)
      | inr above ↦ elim (cases_lt place has.0) [
        | inl below ↦ absurd (apart place has.0 q x below here (place_is qs x has) (sym same))
        | inr other ↦ (let k : has.0 ≡ place = omega (arith, above, other) in let e : Some x ≡ Some q = sym (place_is qs x has) ∙ ap (slice_get qs) k ∙ here in cc)
      ]
    ]
  where
    apart : (i j : ℕ) (a b : Query) → i < j → slice_get qs i ≡ Some a → slice_get qs j ≡ Some b → a.tx ≡ b.tx → ⊥
    apart i j a b lt ga gb e =
        is.ids i j a lt (slice_get_within qs j b gb)
        (ap (λ (z : Query). z.tx) (get_or_from_slice_get qs i a a ga) ∙ e ∙ sym (ap (λ (z : Query). z.tx) (get_or_from_slice_get qs j b a gb)))

all_at : (P : Query → Type 0) (qs : List Query) (q : Query) → All P qs → Contains qs q → P q
all_at P qs q all has = subst P has.2 (all has.0 q has.1)

pub to_reply : (quest : Quest) (accepts : Accepts) (J : List Entry) (bytes : List ℕ) (from : Addr) (q : Query) (r : Reply) → Replies quest accepts bytes from (as_open J q) r → RepliesTo bytes q.tx r
to_reply quest accepts J bytes from q r h = record { believable = h.believable; message = h.said; says = h.says; to_query = h.to_query }

-- what is no reply replies to none
pub silent : (quest : Quest) (accepts : Accepts) (k : Lookup) (from : Addr) (bytes : List ℕ) → Holds k → IsNoReply bytes → RepliesToNone quest accepts from bytes k
silent quest accepts k from bytes holds nothing q has r h = nothing q.tx r (all_in (λ (q : Query). q.tx < 2 ^ 32) k.queries q holds.ids has) (to_reply quest accepts k.book.journal bytes from q r h)

-- nor does what comes from where none was sent
pub unknown : (quest : Quest) (accepts : Accepts) (k : Lookup) (from : Addr) (bytes : List ℕ) → ¬ Any (λ (q : Query). q.contact.addr ≡ from) k.queries → RepliesToNone quest accepts from bytes k
unknown quest accepts k from bytes none q has r h = none (has.0, q, has.1, has.2, sym h.source)

-- and neither does a reply to nobody who was asked so
pub unasked : (quest : Quest) (accepts : Accepts) (k : Lookup) (from : Addr) (bytes : List ℕ) (said : Said) → Holds k → IsReply bytes said → All (λ (q : Query). ¬ IsOf said.tx from q) k.queries → RepliesToNone quest accepts from bytes k
unasked quest accepts k from bytes said holds reads none q has r h =
    all_at (λ (q : Query). ¬ IsOf said.tx from q) k.queries q none has
    (reads.same_id q.tx r (all_in (λ (q : Query). q.tx < 2 ^ 32) k.queries q holds.ids has) (to_reply quest accepts k.book.journal bytes from q r h), sym h.source)

-- a reply without the tag that it needs replies to none
pub unsealed : (quest : Quest) (accepts : Accepts) (k : Lookup) (from : Addr) (bytes : List ℕ) (said : Said) (place : ℕ) (c : Contact) → Holds k → IsQueries k.queries → IsReply bytes said → (at : IsOfAt said.tx from k.queries place) → c ≡ at.query.contact → ¬ IsSealed quest.sealed accepts bytes (speaker c said.reply) → RepliesToNone quest accepts from bytes k
unsealed quest accepts k from bytes said place c holds is reads at whom lacks q has r h =
    let replies = to_reply quest accepts k.book.journal bytes from q r h in
    let small = all_in (λ (q : Query). q.tx < 2 ^ 32) k.queries q holds.ids has in
    let one : q ≡ at.query = only_one k.queries place at.query is at.here q has (reads.same_id q.tx r small replies ∙ sym at.answers.0) in
    let what : r ≡ said.reply = reads.same_reply q.tx r small replies in
    lacks (subst (λ x. IsSealed quest.sealed accepts bytes (speaker x said.reply)) (ap (λ (q : Query). q.contact) one ∙ sym whom) (subst (λ x. IsSealed quest.sealed accepts bytes (speaker q.contact x)) what h.sealed))

-- the query at the place that was found, and its contact
pub found_place : (quest : Quest) (accepts : Accepts) (k : Lookup) (from : Addr) (bytes : List ℕ) (said : Said) (place : ℕ) (c : Contact) → IsQueries k.queries → (at : IsOfAt said.tx from k.queries place) → c ≡ at.query.contact → IsSealed quest.sealed accepts bytes (speaker c said.reply) → IsPlaceOf quest accepts from bytes said k place
found_place quest accepts k from bytes said place c is at whom sealed = record {
  valid = is;
  query = at.query;
  here = at.here;
  answers = at.answers;
  sealed = subst (λ (x : Contact). IsSealed quest.sealed accepts bytes (speaker x said.reply)) whom sealed;
}

-- who stands at a place
pub stands_there : (qs : List Query) (place : ℕ) (p q : Query) → slice_get qs place ≡ Some p → slice_get qs place ≡ Some q → p ≡ q
stands_there qs place p q e f = (let g : Some p ≡ Some q = sym e ∙ f in cc)

-- who answers is open
pub stands_open : (J : List Entry) (qs : List Query) (place : ℕ) (q : Query) → map (λ (q : Query). q.contact) qs ≡ open_any J → slice_get qs place ≡ Some q → among (open_any J) q.contact ≡ true
stands_open J qs place q is here =
    ap (λ l. among l q.contact) (sym is) ∙ ap (λ l. among (map (λ (q : Query). q.contact) l) q.contact) (split_at qs place q here)
    ∙ among_middle (take place qs) q (drop (suc place) qs)

matches : (quest : Quest) (accepts : Accepts) (from : Addr) (bytes : List ℕ) (said : Said) (place : ℕ) (old new : Lookup) (heard : List Answered) → IsReply bytes said → (of : IsPlaceOf quest accepts from bytes said old place) → new.queries ≡ remove old.queries place → HearsOne quest of.query.contact said.reply old.book new.book
    → HearsIn of.query.contact said.reply heard → IsMatch quest accepts from bytes old new heard
matches quest accepts from bytes said place old new heard reads of closes hears hears_in =
    let q = of.query in
    let tx : q.tx ≡ said.tx = of.answers.0 in
    let replies = reads.replies in
    record {
      before = take place old.queries;
      query = q;
      behind = drop (suc place) old.queries;
      what = said.reply;
      was_open = split_at old.queries place q of.here;
      alone = only_one old.queries place q of.valid of.here;
      replies = record { believable = replies.believable; said = replies.message; says = replies.says; to_query = subst (λ w. SaysTo (word_bytes w) replies.message said.reply) (sym tx) replies.to_query; source = sym of.answers.1; sealed = of.sealed };
      reads = subst (λ w. IsReply bytes (record { tx = w; reply = said.reply })) (sym tx) reads;
      closes = closes;
      hears = hears;
      hears_in = hears_in;
    }

-- what is heard at the place of the reply's query is a match
pub matched_at : (quest : Quest) (accepts : Accepts) (from : Addr) (bytes : List ℕ) (said : Said) (place : ℕ) (old new : Lookup) (out : Taken) → IsReply bytes said → IsPlaceOf quest accepts from bytes said old place → HearsAt quest place said.reply old new out → IsMatch quest accepts from bytes old new (handed out)
matched_at quest accepts from bytes said place old new out reads of h =
    let hears = subst (λ (q : Query). HearsReply quest q.contact said.reply old.book new.book out) (stands_there old.queries place h.query of.query h.was_open of.here) h.hears in
    matches quest accepts from bytes said place old new (handed out) reads of h.closes hears.hears hears.hears_in

takes_out : (quest : Quest) (accepts : Accepts) (from : Addr) (bytes : List ℕ) (old new : Lookup) (out : Taken) → out ≢ taken.Stray → IsMatch quest accepts from bytes old new (handed out) → Takes quest accepts from bytes old new out
takes_out quest accepts from bytes old new taken.Stray other m = absurd (other refl)
takes_out quest accepts from bytes old new (taken.Heard answered) other m = m
takes_out quest accepts from bytes old new taken.Lost other m = m

takes_at : (quest : Quest) (accepts : Accepts) (from : Addr) (bytes : List ℕ) (said : Said) (place : ℕ) (old new : Lookup) (out : Taken) → IsReply bytes said → IsPlaceOf quest accepts from bytes said old place → HearsAt quest place said.reply old new out → Takes quest accepts from bytes old new out
takes_at quest accepts from bytes said place old new out reads of h = takes_out quest accepts from bytes old new out h.hears.taken (matched_at quest accepts from bytes said place old new out reads of h)

pub take_result : (quest : Quest) (accepts : Accepts) (from : Addr) (bytes : List ℕ) (said : Said) (place : ℕ) (old new : Lookup) (result : Result Taken NoMemory) → IsReply bytes said → IsPlaceOf quest accepts from bytes said old place → IfOk result (HearsAt quest place said.reply old new) → IfOk result (Takes quest accepts from bytes old new)
take_result quest accepts from bytes said place old new (Ok out) reads of h = takes_at quest accepts from bytes said place old new out reads of h
take_result quest accepts from bytes said place old new (Err e) reads of h = tt
