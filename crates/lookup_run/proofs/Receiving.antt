-- One receive: what its event gives, and that the lookup comes nearer to its end.
use Rattle.std.proofs.Common.{◌≡◌, ◌≢◌, ◌⊎◌, ℕ, zero, suc, ◌+◌, ◌-◌, ◌*◌, ◌^◌, ◌<◌, ◌≤◌, List, [], ◌∷◌, ◌++◌, length, Option, true, false, cond, inl, inr, refl, sym, ap, subst, ◌∙◌, arith}
use Rattle.std.specs.Prelude.{map, filter, nat_lt}
use Rattle.std.specs.List.{AllByRecursion, flat_map}
use Rattle.std.proofs.lemmas.List.{append-nil, append_assoc, length-append}
use Rattle.std.proofs.lemmas.List.Concat.{flat_map-append}
use Rattle.kad_base.specs.declared.types.Addr.{Addr}
use Rattle.kad_base.specs.declared.types.Contact.{Contact}
use Rattle.kad_base.specs.declared.types.Event.{Event}
use Rattle.kad_base.specs.declared.types.Event.TheVariants.{Got, Quiet}
use Rattle.kad_base.specs.Contacts.{same, among}
use Rattle.kad_base.specs.Limits.{max_strays, max_round_receives}
use Rattle.kad_base.specs.Outside.{Grows}
use Rattle.id_puzzles.specs.Drawn.{WordsState}
use Rattle.query_book.specs.declared.Query.{Query}
use Rattle.claim_book.specs.declared.types.Entry.{Entry}
use Rattle.claim_book.specs.declared.types.Entry.TheVariants.{Heard, Lost}
use Rattle.claim_book.specs.declared.types.Cause.TheVariants.{WrongId, Error}
use Rattle.claim_book.specs.Journal.{seeds, asked, open_any}
use Rattle.claim_book.specs.Legal.{Legal}
use Rattle.claim_book.specs.State.{BookState}
use Rattle.lookup_run.specs.declared.types.LookSetting.{LookSetting}
use Rattle.lookup_run.specs.declared.types.Progress.{Progress}
use Rattle.lookup_run.specs.declared.types.LookupState.{LookupState}
use Rattle.lookup_core.specs.Reply.{Reply}
use Rattle.lookup_core.specs.Reply as reply
use Rattle.lookup_core.specs.Matching.{OpenQuery, ReplyGives, IsStray}
use Rattle.lookup_core.specs.Timeouts.{deadline_of, is_overdue, timed_out, closed_at, open_at}
use Rattle.lookup_run.specs.Tells.{Given, Seen, driven, IsEarliest, WaitsUntil, goes_on, Waits, HaveAsked, Receives, Gives, received, receives_seen, after_match}
use Rattle.lookup_run.specs.Rounds.{WaitsInTurn, InTurn}
use Rattle.lookup_run.specs.Gathered.{Hears}
use Rattle.lookup_run.specs.Lookup.{setting_of, given_of, told_of, TableTold, quest_of}
use Rattle.lookup_core.specs.SendFaults.{unsent}
use Rattle.lookup_core.specs.LookupSteps.{as_open}
use Rattle.lookup_run.specs.inner.DriverInvariant.{Keeps, max_asks, KeepsSeen}
use Rattle.lookup_core.specs.LookupSteps.{query_to, RepliesToNone}
use Rattle.lookup_run.specs.inner.RoundSteps.{WaitsFor, Expires, IsStrayFor, IsMatchFor, TakesDatagram, MayReceive, ReceivesOne}
use Rattle.lookup_core.specs.Gathered.{HearsOne, IsBare, KeepsFor}
use Rattle.lookup_core.proofs.Gathering.{none_replies, none_heard, match_heard, keeps_none, kept_find}
use Rattle.lookup_core.proofs.Received.{same_deadlines, open_still, all_still, fewer_still, one_less, among_still, driven_closed, driven_append, seeds_append, seeds_closed, asks_closed, asked_append, gives_of, among_dropped}
use Rattle.lookup_core.proofs.Refusing.{unsent_left}
use Rattle.lookup_run.proofs.Walking.{OneEvent, NextStep, along_next}
use Rattle.lookup_core.proofs.Opens.{opens_kept, each_asked}
use Rattle.lookup_core.proofs.Lists.{map_append}
use Rattle.lookup_core.proofs.Waiting.{below_last}
use Rattle.lookup_core.specs.declared.quest.Quest.{Quest}
use Rattle.lookup_core.specs.declared.state.Lookup.{Lookup}
use Rattle.lookup_core.proofs.Holding.{all_dropped}
use Rattle.lookup_core.specs.declared.quest.AskKind.TheVariants.{FindNode}
use Rattle.lookup_core.specs.Sealed.{Accepts}

-- ---- how long it waits

waits_of : (n : ℕ) (J : List Entry) (qs : List Query) (moment until : ℕ) (s : Seen) → s.queries ≡ map (as_open J) qs → s.moment ≡ moment → WaitsFor n moment qs until → Waits n s until
waits_of n J qs moment until s queries m h =
    subst (λ x. WaitsUntil n x (map (λ (q : OpenQuery). q.deadline) s.queries) until) (sym m) (subst (λ l. WaitsUntil n moment (map (λ (q : OpenQuery). q.deadline) l) until) (sym queries) (subst (λ l. WaitsUntil n moment l until) (sym (same_deadlines J qs)) h))

asked_of : (n : ℕ) (g : Given) (J more : List Entry) (s : Seen) → WaitsInTurn g.setting J n → s.given ≡ driven J → HaveAsked n g (J ++ more) s
asked_of zero g J more s turn given = λ p lt. record {
  before = J;
  behind = more;
  later = [];
  earlier = s.since;
  splits = refl;
  none = turn.1 p lt;
  covers = given ∙ sym (append-nil (driven J));
  since_receive = sym (append-nil s.since);
  of_others = tt;
}
asked_of (suc n) g J more s turn given = tt

some_left : (J : List Entry) (qs : List Query) → qs ≢ [] → map (as_open J) qs ≢ []
some_left J [] some e = some refl
some_left J (q ∷ qs) some e = absurd cc

receives_of : (look : LookSetting) (accepts : Accepts) (start : WordsState) (old : LookupState) (more : List Entry) (place : ℕ) (s : Seen) (until : ℕ) → MayReceive look old → WaitsFor old.progress.receives old.progress.moment old.lookup.queries until → KeepsSeen (given_of look accepts start) old place s
    → Receives (given_of look accepts start) (old.lookup.book.journal ++ more) s until
receives_of look accepts start old more place s until may waits st = record {
  some_open = λ none. some_left old.lookup.book.journal old.lookup.queries may.some_open (sym st.queries ∙ none);
  waits = subst (λ n. Waits n s until) (sym st.receives) (waits_of old.progress.receives old.lookup.book.journal old.lookup.queries old.progress.moment until s st.queries st.moment waits);
  asked = subst (λ n. HaveAsked n (given_of look accepts start) (old.lookup.book.journal ++ more) s) (sym st.receives) (asked_of old.progress.receives (given_of look accepts start) old.lookup.book.journal more s may.in_turn st.given);
}

turn_of : (look : LookSetting) (accepts : Accepts) (start : WordsState) (old : LookupState) (place : ℕ) (s : Seen) → MayReceive look old → KeepsSeen (given_of look accepts start) old place s → WaitsInTurn (setting_of look) old.lookup.book.journal s.receives
turn_of look accepts start old place s may st = subst (WaitsInTurn (setting_of look) old.lookup.book.journal) (sym st.receives) may.in_turn

-- ---- what is overdue

-- ---- the entries of the driver

-- entries that end a query at once
pub record IsEnds (first : List Entry) : Type 0 where
  pub all_driven : driven first ≡ first
  pub no_seeds : seeds first ≡ []
  pub no_asks : asked first ≡ []
  pub no_unsent : unsent first ≡ []
  pub untold : flat_map told_of first ≡ []

ends_none : IsEnds []
unfolding driven seeds asked unsent
ends_none = record { all_driven = refl; no_seeds = refl; no_asks = refl; no_unsent = refl; untold = refl }

ends_heard : (p : ℕ) (c : Contact) (reports : _) → IsEnds (Heard p c reports ∷ [])
unfolding driven seeds asked unsent
ends_heard p c reports = record { all_driven = refl; no_seeds = refl; no_asks = refl; no_unsent = refl; untold = refl }

ends_wrong : (p : ℕ) (c : Contact) → IsEnds (Lost p c WrongId ∷ [])
unfolding driven seeds asked unsent
ends_wrong p c = record { all_driven = refl; no_seeds = refl; no_asks = refl; no_unsent = refl; untold = refl }

ends_error : (p : ℕ) (c : Contact) (code : _) → IsEnds (Lost p c (Error code) ∷ [])
unfolding driven seeds asked unsent
ends_error p c code = record { all_driven = refl; no_seeds = refl; no_asks = refl; no_unsent = refl; untold = refl }

-- what a reply gives ends one
reply_ends : (quest : Quest) (q : OpenQuery) (what : Reply) (e : Entry) → ReplyGives quest q what e → IsEnds (e ∷ [])
reply_ends quest q (reply.Answer answer) e (inl own) = subst (λ x. IsEnds (x ∷ [])) (sym own.1) (ends_heard q.path q.contact _)
reply_ends quest q (reply.Answer answer) e (inr other) = subst (λ x. IsEnds (x ∷ [])) (sym other.1) (ends_wrong q.path q.contact)
reply_ends quest q (reply.Error code) e is = subst (λ x. IsEnds (x ∷ [])) (sym is) (ends_error q.path q.contact code)

-- ---- what a receive leaves

-- the entries `first`, and then those of the queries `left` that are overdue
pub record Left (look : LookSetting) (at : ℕ) (old new : LookupState) (first : List Entry) (left : List Query) : Type 0 where
  pub ends : IsEnds first
  pub setting : new.lookup.book.setting ≡ old.lookup.book.setting
  pub journal : new.lookup.book.journal ≡ old.lookup.book.journal ++ (first ++ closed_at at (map (as_open old.lookup.book.journal) left))
  pub queries : new.lookup.queries ≡ filter (λ (q : Query). nat_lt at q.deadline) left
  pub paths : map (as_open new.lookup.book.journal) new.lookup.queries ≡ map (as_open old.lookup.book.journal) new.lookup.queries
  pub is_open : map (λ (q : Query). q.contact) new.lookup.queries ≡ open_any new.lookup.book.journal
  pub ids : AllByRecursion (λ (q : Query). q.tx < 2 ^ 32) left
  pub deadlines : AllByRecursion (λ (q : Query). q.deadline ≤ deadline_of old.progress.moment look.timeout) left
  pub table : TableTold (flat_map told_of (closed_at at (map (as_open old.lookup.book.journal) left))) old.table new.table
  pub moment : new.progress.moment ≡ at
  pub later : old.progress.moment ≤ at

left_of : (look : LookSetting) (at : ℕ) (old mid late : LookupState) (progress : Progress) (first : List Entry) (left : List Query) → IsEnds first → mid.lookup.book.setting ≡ old.lookup.book.setting → mid.lookup.book.journal ≡ old.lookup.book.journal ++ first → mid.lookup.queries ≡ left → mid.table ≡ old.table
    → ((c : Contact) → among (map (λ (q : Query). q.contact) left) c ≡ true → among (asked old.lookup.book.journal) c ≡ true)
    → AllByRecursion (λ (q : Query). q.tx < 2 ^ 32) left → AllByRecursion (λ (q : Query). q.deadline ≤ deadline_of old.progress.moment look.timeout) left → Expires at mid late → progress.moment ≡ at → old.progress.moment ≤ at
    → Left look at old (record late { progress = progress }) first left
left_of look at old mid late progress first left ends setting journal queries table asks ids deadlines e moment later =
    let J = old.lookup.book.journal in
    let closed = closed_at at (map (as_open J) left) in
    let opens : map (as_open mid.lookup.book.journal) mid.lookup.queries ≡ map (as_open J) left = ap (map (as_open mid.lookup.book.journal)) queries ∙ ap (λ K. map (as_open K) left) journal ∙ opens_kept J first left asks in
    let journal' : late.lookup.book.journal ≡ J ++ (first ++ closed) = e.loses.journal ∙ ap (λ l. mid.lookup.book.journal ++ closed_at at l) opens ∙ ap (λ l. l ++ closed) journal ∙ append_assoc J first closed in
    let queries' : late.lookup.queries ≡ filter (λ (q : Query). nat_lt at q.deadline) left = e.loses.queries ∙ ap (filter (λ (q : Query). nat_lt at q.deadline)) queries in
    record {
      ends = ends;
      setting = e.loses.setting ∙ setting;
      journal = journal';
      queries = queries';
      paths = ap (λ K. map (as_open K) late.lookup.queries) journal' ∙ opens_kept J (first ++ closed) late.lookup.queries (λ c h. asks c (among_still at left c (subst (λ l. among (map (λ (q : Query). q.contact) l) c ≡ true) queries' h)));
      is_open = e.loses.is_open;
      ids = ids;
      deadlines = deadlines;
      table = subst (λ l. TableTold (flat_map told_of (closed_at at l)) old.table late.table) opens (subst (λ t. TableTold (flat_map told_of (closed_at at (map (as_open mid.lookup.book.journal) mid.lookup.queries))) t late.table) table e.table);
      moment = moment;
      later = later;
    }

driven_left : (first : List Entry) (qs : List OpenQuery) → IsEnds first → driven (first ++ map timed_out qs) ≡ first ++ map timed_out qs
driven_left first qs ends = driven_append first (map timed_out qs) ∙ ap (λ l. l ++ driven (map timed_out qs)) ends.all_driven ∙ ap (λ l. first ++ l) (driven_closed qs)

seeds_left : (first : List Entry) (qs : List OpenQuery) → IsEnds first → seeds (first ++ map timed_out qs) ≡ []
seeds_left first qs ends = seeds_append first (map timed_out qs) ∙ ap (λ l. l ++ seeds (map timed_out qs)) ends.no_seeds ∙ seeds_closed qs

asks_left : (J first : List Entry) (qs : List OpenQuery) → IsEnds first → asked (J ++ (first ++ map timed_out qs)) ≡ asked J
asks_left J first qs ends = asked_append J (first ++ map timed_out qs) ∙ ap (λ l. asked J ++ l) (asked_append first (map timed_out qs) ∙ ap (λ l. l ++ asked (map timed_out qs)) ends.no_asks ∙ asks_closed qs) ∙ append-nil (asked J)

same_asks : (look : LookSetting) (at : ℕ) (old new : LookupState) (first : List Entry) (left : List Query) → Left look at old new first left → length (asked new.lookup.book.journal) ≡ length (asked old.lookup.book.journal)
same_asks look at old new first left l =
    ap (λ J. length (asked J)) l.journal ∙ ap length (asks_left old.lookup.book.journal first (filter (is_overdue at) (map (as_open old.lookup.book.journal) left)) l.ends)

same_unsent : (look : LookSetting) (at : ℕ) (old new : LookupState) (first : List Entry) (left : List Query) → Left look at old new first left → unsent new.lookup.book.journal ≡ unsent old.lookup.book.journal
same_unsent look at old new first left l = ap unsent l.journal ∙ unsent_left old.lookup.book.journal first (filter (is_overdue at) (map (as_open old.lookup.book.journal) left)) l.ends.no_unsent

stands_left : (look : LookSetting) (g : Given) (place at : ℕ) (old new : LookupState) (first : List Entry) (left : List Query) (strays receives : ℕ) (s : Seen) → Left look at old new first left → KeepsSeen g old place s → strays ≡ new.progress.strays → receives ≡ new.progress.receives
    → KeepsSeen g new place (received s at first (map (as_open old.lookup.book.journal) left) strays receives)
stands_left look g place at old new first left strays receives s l st is_strays is_receives =
    let J = old.lookup.book.journal in
    let more = first ++ closed_at at (map (as_open J) left) in
    record {
      moment = sym l.moment;
      queries = open_still at J left ∙ ap (map (as_open J)) (sym l.queries) ∙ sym l.paths;
      sends = st.sends;
      strays = is_strays;
      receives = is_receives;
      given = ap (λ k. k ++ more) st.given ∙ sym (ap driven l.journal ∙ driven_append J more ∙ ap (λ k. driven J ++ k) (driven_left first (filter (is_overdue at) (map (as_open J) left)) l.ends));
    }

round_is : (n : ℕ) (J : List Entry) (qs : List Query) → receives_seen n (map (as_open J) qs) ≡ goes_on n (length qs)
round_is n J [] = refl
round_is n J (q ∷ qs) = refl

round_left : (n m at : ℕ) (J : List Entry) (left new : List Query) → n ≡ m → new ≡ filter (λ (q : Query). nat_lt at q.deadline) left → receives_seen n (open_at at (map (as_open J) left)) ≡ goes_on m (length new)
round_left n m at J left new same is = ap (receives_seen n) (open_still at J left ∙ ap (map (as_open J)) (sym is)) ∙ round_is n J new ∙ ap (λ k. goes_on k (length new)) same

next_of : (look : LookSetting) (accepts : Accepts) (words : WordsState) (at : ℕ) (old new : LookupState) (first : List Entry) (left : List Query) (a : ℕ) (e : Event) → Left look at old new first left
    → ((start : WordsState) (s : Seen) → KeepsSeen (given_of look accepts start) old words.place s → OneEvent (given_of look accepts start) old new (first ++ closed_at at (map (as_open old.lookup.book.journal) left)) words.place 0 s e)
    → NextStep look accepts words words old new a 0 e
next_of look accepts words at old new first left a e l next =
    let closed = closed_at at (map (as_open old.lookup.book.journal) left) in
    let ended = filter (is_overdue at) (map (as_open old.lookup.book.journal) left) in
    record {
      more = first ++ closed;
      journal = l.journal;
      no_seeds = seeds_left first ended l.ends;
      drawn = λ start is. is ∙ ap (λ n. record { seed = start.seed; place = start.place + n }) (sym (same_asks look at old new first left l));
      tabled = subst (λ calls. TableTold calls old.table new.table) (sym (flat_map-append told_of first closed ∙ ap (λ k. k ++ flat_map told_of closed) l.ends.untold)) l.table;
      next = λ start is s st asc. next start s st;
    }

-- how its round goes on
abbrev pub RoundGoes : Progress → Progress → List Query → Type 0
RoundGoes from to queries = (to.receives ≡ 0) ⊎ ((to.receives ≡ from.receives + 1) × (to.receives < max_round_receives) × (queries ≢ []))

round_goes : (n : ℕ) (from to : Progress) (qs : List Query) → from.receives ≡ n → to.receives ≡ goes_on n (length qs) → RoundGoes from to qs
round_goes n from to [] same is = inl is
round_goes n from to (q ∷ qs) same is =
    elim (nat_lt (n + 1) max_round_receives) as (λ b. nat_lt (n + 1) max_round_receives ≡ b → to.receives ≡ cond b (n + 1) 0 → RoundGoes from to (q ∷ qs)) [
      | true ↦ λ e k. inr (k ∙ ap (λ m. m + 1) (sym same), (let lt = below_last n e in omega (arith, lt, k)), λ none. absurd cc)
      | false ↦ λ e k. inl k
    ] refl is

later_deadlines : (m at timeout : ℕ) (qs : List Query) → m ≤ at → AllByRecursion (λ (q : Query). q.deadline ≤ deadline_of m timeout) qs → AllByRecursion (λ (q : Query). q.deadline ≤ deadline_of at timeout) qs
later_deadlines m at timeout [] le h = tt
later_deadlines m at timeout (q ∷ qs) le h = ((let a = h.0 in omega (arith, a, le)), later_deadlines m at timeout qs le h.1)

keeps_left : (look : LookSetting) (at : ℕ) (old new : LookupState) (first : List Entry) (left : List Query) → Left look at old new first left → Keeps look old → new.progress.strays < max_strays → RoundGoes old.progress new.progress new.lookup.queries → (look.kind ≡ FindNode → new.gathered ≡ old.gathered) → Keeps look new
keeps_left look at old new first left l keeps strays round bare = record {
  setting = l.setting ∙ keeps.setting;
  is_open = l.is_open;
  ids = subst (AllByRecursion (λ (q : Query). q.tx < 2 ^ 32)) (sym l.queries) (all_still (λ (q : Query). q.tx < 2 ^ 32) at left l.ids);
  deadlines = subst (AllByRecursion (λ (q : Query). q.deadline ≤ deadline_of new.progress.moment look.timeout)) (sym l.queries)
      (all_still (λ (q : Query). q.deadline ≤ deadline_of new.progress.moment look.timeout) at left (later_deadlines old.progress.moment new.progress.moment look.timeout left (subst (λ m. old.progress.moment ≤ m) (sym l.moment) l.later) l.deadlines));
  few_strays = strays;
  few_receives = few round;
  is_bare = λ e. subst IsBare (sym (bare e)) (keeps.is_bare e);
}
  where
    few : RoundGoes old.progress new.progress new.lookup.queries → new.progress.receives < max_round_receives
    few (inl z) = omega (arith, z)
    few (inr more) = more.1

goes_open : (from to : Progress) (qs : List Query) → RoundGoes from to qs → to.receives ≢ 0 → qs ≢ []
goes_open from to qs (inl z) some = absurd (some z)
goes_open from to qs (inr more) some = more.2

goes_count : (from to : Progress) (qs : List Query) → RoundGoes from to qs → (to.receives ≡ 0) ⊎ (to.receives ≡ from.receives + 1)
goes_count from to qs (inl z) = inl z
goes_count from to qs (inr more) = inr more.0

receives_one : (look : LookSetting) (accepts : Accepts) (at : ℕ) (old new : LookupState) (first : List Entry) (left : List Query) (e : Event) (told told' : Option (List Event)) → Left look at old new first left → Keeps look old → new.progress.strays < max_strays → RoundGoes old.progress new.progress new.lookup.queries → (look.kind ≡ FindNode → new.gathered ≡ old.gathered)
    → length new.lookup.queries + (max_strays - new.progress.strays) ≤ length old.lookup.queries + (max_strays - old.progress.strays)
    → (old.progress.receives ≡ 0 → length new.lookup.queries + (max_strays - new.progress.strays) < length old.lookup.queries + (max_strays - old.progress.strays))
    → ((words : WordsState) (start : WordsState) (s : Seen) → KeepsSeen (given_of look accepts start) old words.place s → OneEvent (given_of look accepts start) old new (first ++ closed_at at (map (as_open old.lookup.book.journal) left)) words.place 0 s e)
    → Grows told told' (λ es. es ≡ e ∷ []) → ReceivesOne look accepts old new told told'
receives_one look accepts at old new first left e told told' l keeps strays round bare light first_light next grows =
    let asks = same_asks look at old new first left l in
    record {
      keeps = keeps_left look at old new first left l keeps strays round bare;
      some_open = goes_open old.progress new.progress new.lookup.queries round;
      round = goes_count old.progress new.progress new.lookup.queries round;
      same_asks = asks;
      same_unsent = same_unsent look at old new first left l;
      first_lighter = λ z. (let lt = first_light z in lighter (length (asked new.lookup.book.journal)) (length (asked old.lookup.book.journal)) _ _ asks lt);
      lighter = no_heavier (length (asked new.lookup.book.journal)) (length (asked old.lookup.book.journal)) _ _ asks light;
      goes = λ words b a. along_next look accepts words words old new b 0 a 0 e told told' (next_of look accepts words at old new first left a e l (next words)) grows;
    }
  where
    lighter : (n m x y : ℕ) → n ≡ m → x < y → 2 * (max_asks - n) + x < 2 * (max_asks - m) + y
    lighter n m x y e lt = omega (arith, e, lt)

    no_heavier : (n m x y : ℕ) → n ≡ m → x ≤ y → 2 * (max_asks - n) + x ≤ 2 * (max_asks - m) + y
    no_heavier n m x y e le = omega (arith, e, le)

-- ---- a datagram that replies to none

pub stray_of : (quest : Quest) (accepts : Accepts) (work : LookupState) (s : Seen) (from : Addr) (bytes : List ℕ) → s.queries ≡ map (as_open work.lookup.book.journal) work.lookup.queries → RepliesToNone quest accepts from bytes work.lookup → IsStray quest accepts s.queries from bytes
stray_of quest accepts work s from bytes queries none = subst (λ l. IsStray quest accepts l from bytes) (sym queries) (none_replies quest accepts from bytes work.lookup none)

light_stray : (a b c d most : ℕ) → a ≤ b → d ≡ c + 1 → d < most → a + (most - d) < b + (most - c)
light_stray a b c d most le is lt = omega (arith, le, is, lt)

fewer_left : (look : LookSetting) (at : ℕ) (old new : LookupState) (first : List Entry) (left : List Query) → Left look at old new first left → length new.lookup.queries ≤ length left
fewer_left look at old new first left l = subst (λ qs. length qs ≤ length left) (sym l.queries) (fewer_still at left)

-- the events of a receive that gives no entry at first
one_quiet : (look : LookSetting) (accepts : Accepts) (words start : WordsState) (at : ℕ) (old new : LookupState) (s : Seen) (e : Event) (strays receives : ℕ) → Left look at old new [] old.lookup.queries → KeepsSeen (given_of look accepts start) old words.place s → new.gathered ≡ old.gathered
    → strays ≡ new.progress.strays → receives ≡ new.progress.receives → Gives (given_of look accepts start) new.lookup.book.journal s e (received s at [] s.queries strays receives) → InTurn (setting_of look) old.lookup.book.journal s e ([] ++ closed_at at (map (as_open old.lookup.book.journal) old.lookup.queries)) → Hears (quest_of look) accepts s e []
    → OneEvent (given_of look accepts start) old new ([] ++ closed_at at (map (as_open old.lookup.book.journal) old.lookup.queries)) words.place 0 s e
one_quiet look accepts words start at old new s e strays receives l st gathered is_strays is_receives gives turn hears = record {
  after = received s at [] s.queries strays receives;
  gives = gives;
  given = ap (λ qs. s.given ++ ([] ++ closed_at at qs)) st.queries;
  in_turn = turn;
  stands = subst (λ qs. KeepsSeen (given_of look accepts start) new words.place (received s at [] qs strays receives)) (sym st.queries)
      (stands_left look (given_of look accepts start) words.place at old new [] old.lookup.queries strays receives s l st is_strays is_receives);
  ascends = tt;
  found = [];
  hears = hears;
  keeps = keeps_none look.kind old.gathered new.gathered gathered;
}

-- what a receive depends on
pub record Receiving (look : LookSetting) (old : LookupState) (until at : ℕ) : Type 0 where
  pub may : MayReceive look old
  pub legal : Legal old.lookup.book.setting old.lookup.book.journal
  pub waits : WaitsFor old.progress.receives old.progress.moment old.lookup.queries until
  pub later : old.progress.moment ≤ at

-- nobody is heard
none_of : (quest : Quest) (accepts : Accepts) (work : LookupState) (s : Seen) (from : Addr) (bytes : List ℕ) → s.queries ≡ map (as_open work.lookup.book.journal) work.lookup.queries → RepliesToNone quest accepts from bytes work.lookup → HearsOne quest accepts s.queries from bytes []
none_of quest accepts work s from bytes queries none = subst (λ l. HearsOne quest accepts l from bytes []) (sym queries) (inr (none_heard quest accepts from bytes work.lookup none, refl))

stray_receives : (look : LookSetting) (accepts : Accepts) (from : Addr) (bytes : List ℕ) (until at n : ℕ) (old mid late : LookupState) (told told' : Option (List Event)) → Receiving look old until at → IsStrayFor look accepts from bytes old mid → Expires at mid late → n ≡ goes_on late.progress.receives (length late.lookup.queries)
    → Grows told told' (λ es. es ≡ Got from bytes until at ∷ []) → ReceivesOne look accepts old (record late { progress = record { moment = at; receives = n; strays = late.progress.strays } }) told told'
stray_receives look accepts from bytes until at n old mid late told told' r t e is grows =
    let keeps = r.may.keeps in
    let progress : Progress = record { moment = at; receives = n; strays = late.progress.strays } in
    let new : LookupState = record late { progress = progress } in
    let l : Left look at old new [] old.lookup.queries =
    left_of look at old mid late progress [] old.lookup.queries ends_none (ap (λ (k : Lookup). k.book.setting) t.lookup) (ap (λ (k : Lookup). k.book.journal) t.lookup ∙ sym (append-nil old.lookup.book.journal)) (ap (λ (k : Lookup). k.queries) t.lookup) t.table
    (each_asked old.lookup.book.journal old.lookup.queries keeps.is_open) keeps.ids keeps.deadlines e refl r.later in
    let strays : late.progress.strays ≡ old.progress.strays + 1 = ap (λ (x : Progress). x.strays) (e.progress ∙ t.takes.after) in
    let few : late.progress.strays < max_strays = subst (λ (x : Progress). x.strays < max_strays) (sym e.progress) t.takes.few in
    let receives : old.progress.receives ≡ late.progress.receives = sym (ap (λ (x : Progress). x.receives) (e.progress ∙ t.takes.after)) in
    let light = light_stray (length late.lookup.queries) (length old.lookup.queries) old.progress.strays late.progress.strays max_strays (fewer_left look at old new [] old.lookup.queries l) strays few in
    receives_one look accepts at old new [] old.lookup.queries (Got from bytes until at) told told' l keeps few (round_goes late.progress.receives old.progress progress late.lookup.queries receives is) (λ k. e.gathered ∙ t.gathered)
    (omega (arith, light)) (λ z. light)
    (λ words start s st. one_quiet look accepts words start at old new s (Got from bytes until at) (s.strays + 1) (receives_seen s.receives (open_at at s.queries)) l st (e.gathered ∙ t.gathered)
    (ap (λ m. m + 1) st.strays ∙ sym strays)
    (ap (λ qs. receives_seen s.receives (open_at at qs)) st.queries ∙ round_left s.receives late.progress.receives at old.lookup.book.journal old.lookup.queries late.lookup.queries (st.receives ∙ receives) l.queries ∙ sym is)
    (subst (λ J. Receives (given_of look accepts start) J s until) (sym l.journal) (receives_of look accepts start old ([] ++ closed_at at (map (as_open old.lookup.book.journal) old.lookup.queries)) words.place s until r.may r.waits st), inr (stray_of (quest_of look) accepts old s from bytes st.queries t.none, refl))
    (turn_of look accepts start old words.place s r.may st) (none_of (quest_of look) accepts old s from bytes st.queries t.none))
    grows

-- ---- no datagram

quiet_light : (n at until x y : ℕ) (qs qs' : List Query) (moment : ℕ) → qs' ≡ filter (λ (q : Query). nat_lt at q.deadline) qs → x ≡ y → until ≤ at → n ≡ 0 → WaitsFor n moment qs until → length qs' + (max_strays - x) < length qs + (max_strays - y)
quiet_light n at until x y qs qs' moment is strays le begins waits =
    let due : IsEarliest (map (λ (q : Query). q.deadline) qs) until = subst (λ m. WaitsFor m moment qs until) begins waits in
    let less = one_less at until qs due.one le in
    let few : length qs' < length qs = subst (λ l. length l < length qs) (sym is) less in
    omega (arith, few, strays)

pub quiet_receives : (look : LookSetting) (accepts : Accepts) (until at : ℕ) (old late : LookupState) (told told' : Option (List Event)) → Receiving look old until at → until ≤ at → Expires at old late → Grows told told' (λ es. es ≡ Quiet until at ∷ [])
    → ReceivesOne look accepts old (record late { progress = record { moment = at; receives = 0; strays = late.progress.strays } }) told told'
quiet_receives look accepts until at old late told told' r le e grows =
    let keeps = r.may.keeps in
    let progress : Progress = record { moment = at; receives = 0; strays = late.progress.strays } in
    let new : LookupState = record late { progress = progress } in
    let l : Left look at old new [] old.lookup.queries =
    left_of look at old old late progress [] old.lookup.queries ends_none refl (sym (append-nil old.lookup.book.journal)) refl refl (each_asked old.lookup.book.journal old.lookup.queries keeps.is_open) keeps.ids keeps.deadlines e refl r.later in
    let strays : late.progress.strays ≡ old.progress.strays = ap (λ (x : Progress). x.strays) e.progress in
    let few : late.progress.strays < max_strays = (let f = keeps.few_strays in omega (arith, f, strays)) in
    let fewer = fewer_left look at old new [] old.lookup.queries l in
    receives_one look accepts at old new [] old.lookup.queries (Quiet until at) told told' l keeps few (inl refl) (λ k. e.gathered) (omega (arith, fewer, strays))
    (λ z. quiet_light old.progress.receives at until late.progress.strays old.progress.strays old.lookup.queries late.lookup.queries old.progress.moment l.queries strays le z r.waits)
    (λ words start s st. one_quiet look accepts words start at old new s (Quiet until at) s.strays 0 l st e.gathered (st.strays ∙ sym strays) refl
    (subst (λ J. Receives (given_of look accepts start) J s until) (sym l.journal) (receives_of look accepts start old ([] ++ closed_at at (map (as_open old.lookup.book.journal) old.lookup.queries)) words.place s until r.may r.waits st), refl)
    (turn_of look accepts start old words.place s r.may st) refl)
    grows

-- ---- a datagram that replies to one

match_receives : (look : LookSetting) (accepts : Accepts) (from : Addr) (bytes : List ℕ) (until at n : ℕ) (old mid late : LookupState) (told told' : Option (List Event)) → Receiving look old until at → IsMatchFor look accepts from bytes old mid → Expires at mid late → n ≡ goes_on late.progress.receives (length late.lookup.queries)
    → Grows told told' (λ es. es ≡ Got from bytes until at ∷ []) → ReceivesOne look accepts old (record late { progress = record { moment = at; receives = n; strays = late.progress.strays } }) told told'
match_receives look accepts from bytes until at n old mid late told told' r m e is grows =
    let keeps = r.may.keeps in
    let k = m.matches in
    let J = old.lookup.book.journal in
    let entry = k.hears.entry in
    let left = k.before ++ k.behind in
    let more = (entry ∷ []) ++ closed_at at (map (as_open J) left) in
    let progress : Progress = record { moment = at; receives = n; strays = late.progress.strays } in
    let new : LookupState = record late { progress = progress } in
    let l : Left look at old new (entry ∷ []) left =
    left_of look at old mid late progress (entry ∷ []) left (reply_ends (quest_of look) (query_to J k.query.contact) k.what entry k.hears.gives) (ap (λ (b : BookState). b.setting) k.hears.after) (ap (λ (b : BookState). b.journal) k.hears.after) k.closes m.table
    (λ c h. each_asked J old.lookup.queries keeps.is_open c (subst (λ qs. among (map (λ (q : Query). q.contact) qs) c ≡ true) (sym k.was_open) (among_dropped k.before k.query k.behind c h)))
    (all_dropped (λ (q : Query). q.tx < 2 ^ 32) k.before k.query k.behind (subst (AllByRecursion (λ (q : Query). q.tx < 2 ^ 32)) k.was_open keeps.ids))
    (all_dropped (λ (q : Query). q.deadline ≤ deadline_of old.progress.moment look.timeout) k.before k.query k.behind (subst (AllByRecursion (λ (q : Query). q.deadline ≤ deadline_of old.progress.moment look.timeout)) k.was_open keeps.deadlines))
    e refl r.later in
    let same : late.progress ≡ old.progress = e.progress ∙ m.progress in
    let strays : late.progress.strays ≡ old.progress.strays = ap (λ (x : Progress). x.strays) same in
    let receives : old.progress.receives ≡ late.progress.receives = sym (ap (λ (x : Progress). x.receives) same) in
    let few : late.progress.strays < max_strays = (let f = keeps.few_strays in omega (arith, f, strays)) in
    let fewer = fewer_left look at old new (entry ∷ []) left l in
    let one : length old.lookup.queries ≡ length k.before + suc (length k.behind) = ap length k.was_open ∙ length-append k.before (k.query ∷ k.behind) in
    let two : length left ≡ length k.before + length k.behind = length-append k.before k.behind in
    let light : length late.lookup.queries + (max_strays - late.progress.strays) < length old.lookup.queries + (max_strays - old.progress.strays) = omega (arith, fewer, strays, one, two) in
    receives_one look accepts at old new (entry ∷ []) left (Got from bytes until at) told told' l keeps few (round_goes late.progress.receives old.progress progress late.lookup.queries receives is) (λ is_find. e.gathered ∙ kept_find look.kind m.heard old.gathered mid.gathered is_find m.keeps_for)
    (omega (arith, light)) (λ z. light)
    (λ words start s st. record {
      after = after_match s at entry (map (as_open J) left);
      gives = (
        subst (λ K. Receives (given_of look accepts start) K s until) (sym l.journal) (receives_of look accepts start old more words.place s until r.may r.waits st),
        inl (record {
          entry = entry;
          left = map (as_open J) left;
          matched = record {
            before = map (as_open J) k.before;
            query = as_open J k.query;
            behind = map (as_open J) k.behind;
            what = k.what;
            queries = st.queries ∙ ap (map (as_open J)) k.was_open ∙ map_append (as_open J) k.before (k.query ∷ k.behind);
            replies = k.replies;
            entry = gives_of (quest_of look) J k.query k.what entry k.hears.gives;
            closes = map_append (as_open J) k.before k.behind;
          };
          after = refl;
        }),
      );
      given = refl;
      in_turn = turn_of look accepts start old words.place s r.may st;
      stands = stands_left look (given_of look accepts start) words.place at old new (entry ∷ []) left s.strays (receives_seen s.receives (open_at at (map (as_open J) left))) s l st (st.strays ∙ sym strays)
          (round_left s.receives late.progress.receives at J left late.lookup.queries (st.receives ∙ receives) l.queries ∙ sym is);
      ascends = tt;
      found = m.heard;
      hears = subst (λ l. HearsOne (quest_of look) accepts l from bytes m.heard) (sym st.queries) (match_heard (quest_of look) accepts from bytes old.lookup mid.lookup m.heard (record { is_open = keeps.is_open; ids = keeps.ids }) k);
      keeps = subst (λ g. KeepsFor look.kind m.heard old.gathered g) (sym e.gathered) m.keeps_for;
    })
    grows

-- ---- a datagram

pub datagram_receives : (look : LookSetting) (accepts : Accepts) (from : Addr) (bytes : List ℕ) (until at n : ℕ) (old mid late : LookupState) (told told' : Option (List Event)) → Receiving look old until at → TakesDatagram look accepts from bytes old mid → Expires at mid late → n ≡ goes_on late.progress.receives (length late.lookup.queries)
    → Grows told told' (λ es. es ≡ Got from bytes until at ∷ []) → ReceivesOne look accepts old (record late { progress = record { moment = at; receives = n; strays = late.progress.strays } }) told told'
datagram_receives look accepts from bytes until at n old mid late told told' r (inl m) e is grows = match_receives look accepts from bytes until at n old mid late told told' r m e is grows
datagram_receives look accepts from bytes until at n old mid late told told' r (inr t) e is grows = stray_receives look accepts from bytes until at n old mid late told told' r t e is grows
