-- One receive of all lookups: what its event gives goes with what they keep.
use Rattle.std.proofs.Common.{◌≡◌, ◌≢◌, ◌⊎◌, ℕ, zero, suc, ◌+◌, ◌-◌, ◌<◌, ◌≤◌, ◌^◌, List, [], ◌∷◌, ◌++◌, length, Option, Some, None, Bool, true, false, cond, inl, inr, refl, sym, ap, subst, ◌∙◌, arith, Result, Err}
use Rattle.std.specs.Prelude.{map, filter, nat_lt, IsErrOf}
use Rattle.std.specs.List.{AllByRecursion, AllZip, flat_map}
use Rattle.std.proofs.lemmas.List.{append-nil, append_assoc, length-map, nil_from_length}
use Rattle.kad_base.specs.declared.types.Addr.{Addr}
use Rattle.kad_base.specs.declared.types.Contact.{Contact}
use Rattle.kad_base.specs.declared.types.Event.{Event}
use Rattle.kad_base.specs.declared.types.Event.TheVariants.{Sent, Unsent, Got, Quiet}
use Rattle.kad_base.specs.Limits.{max_strays, max_round_receives}
use Rattle.kad_base.specs.Outside.{Grows}
use Rattle.kad_base.proofs.Grown.{grows_then}
use Rattle.id_puzzles.specs.Drawn.{WordsState}
use Rattle.query_book.specs.declared.Query.{Query}
use Rattle.claim_book.specs.declared.types.Setting.{Setting}
use Rattle.claim_book.specs.Journal.{may_ask}
use Rattle.claim_book.specs.State.{BookState}
use Rattle.lookup_core.specs.Matching.{OpenQuery}
use Rattle.lookup_core.specs.Sealed.{Accepts}
use Rattle.lookup_core.specs.Timeouts.{closed_at}
use Rattle.lookup_core.specs.LookupSteps.{as_open}
use Rattle.lookup_core.proofs.Gathering.{kept_find}
use Rattle.lookup_core.proofs.Lists.{map_append}
use Rattle.lookup_core.proofs.Waiting.{below_last}
use Rattle.node_serve.specs.declared.setting.ServeSetting.{ServeSetting}
use Rattle.node_serve.specs.Calls.{Did}
use Rattle.node_serve.specs.Lasting.{is_over, waits_to}
use Rattle.node_serve.specs.Receives.{tried}
use Rattle.node_serve.specs.Sealing.{Tags}
use Rattle.serve_crew.specs.Hands.{Hands}
use Rattle.lookup_core.proofs.Received.{same_deadlines as each_deadline}
use Rattle.lookup_crowd.specs.declared.due.FollowUp.{FollowUp}
use Rattle.lookup_crowd.specs.declared.seeker.Seeker.{Seeker}
use Rattle.lookup_crowd.specs.declared.seeker.Progress.{Progress}
use Rattle.lookup_crowd.specs.declared.seeker.ManyFault.{ManyFault}
use Rattle.lookup_crowd.specs.declared.seeker.ManyFault.TheVariants.{LinkFault}
use Rattle.lookup_crowd.specs.Mine.{Mine, Whose, HaveAsked, waited}
use Rattle.lookup_crowd.specs.Many.{Frame, Owed, Shown, Reading, nothing_read, and_then, read_of, open_of, deadlines_of, WaitsUntil, IsOver, MayWait, for_replies, for_follow_ups, for_others, AllHaveAsked, Receives, FirstTakes, IsForeign, Owes, goes_on, after_got, after_quiet}
use Rattle.lookup_crowd.specs.inner.Crowd.{whose, opens, Holding, NoneAsks, Longer, DrivenOn, OnlyHeard, queries_of, KeepsMine, KeepsProgress, KeepsSaying, ManyShow, SameSeat, Ran, Stand, Advances, stand}
use Rattle.lookup_crowd.specs.inner.ManySteps.{IsMatchFor, IsNotFor, TakesFirst, Expires, all_lapsed, IsRunOut, WaitsFor, for_replies as waits_replies, for_follow_ups as waits_follow_ups, for_others as waits_others, MayReceive, Counts, Answers, Handles, is_taken, is_foreign, Comes, Passes, Pays, after_paid, IsLastForeign, Received, ShowsEarly, Stops, EndsByForeign}
use Rattle.lookup_crowd.proofs.Lists.{none_front, none_back}
use Rattle.lookup_crowd.proofs.Several.{all_wait, first_on, all_stray, first_holds, expired_hold}
use Rattle.lookup_crowd.proofs.Heard.{all_same as only_same_all, all_then, all_expired, first_taken, same_driven, driven_then, expired_driven, first_driven, same_seats, seats_then, expired_seats, first_seats}
use Rattle.lookup_crowd.proofs.Counting.{fewer_expired, closes_one, same_asks, counts_on, may_count_reply, paid_received}
use Rattle.lookup_crowd.proofs.Hosting.{ran_then, ran_answer, had_memory}
use Rattle.lookup_crowd.proofs.Walking.{same_reading, nothing_after, first_longer, foreign_longer, shows_more}

-- ---- how long a receive waits

same_deadlines : (ks : List Seeker) (ms : List Mine) → AllZip KeepsMine ks ms → deadlines_of ms ≡ map (λ (q : Query). q.deadline) (queries_of ks)
same_deadlines [] [] h = refl
same_deadlines [] (m ∷ ms) h = absurd h
same_deadlines (k ∷ ks) [] h = absurd h
same_deadlines (k ∷ ks) (m ∷ ms) h =
    map_append (λ (q : OpenQuery). q.deadline) m.queries (open_of ms)
    ∙ ap (λ l. l ++ deadlines_of ms) (ap (map (λ (q : OpenQuery). q.deadline)) h.0.queries ∙ each_deadline k.lookup.book.journal k.lookup.queries)
    ∙ ap (λ l. map (λ (q : Query). q.deadline) k.lookup.queries ++ l) (same_deadlines ks ms h.1)
    ∙ sym (map_append (λ (q : Query). q.deadline) k.lookup.queries (queries_of ks))

same_count : (ks : List Seeker) (ms : List Mine) → AllZip KeepsMine ks ms → length (open_of ms) ≡ length (queries_of ks)
same_count ks ms h =
    sym (length-map (open_of ms) (λ (q : OpenQuery). q.deadline)) ∙ ap length (same_deadlines ks ms h) ∙ length-map (queries_of ks) (λ (q : Query). q.deadline)

pub some_shown : (ks : List Seeker) (ms : List Mine) → AllZip KeepsMine ks ms → queries_of ks ≢ [] → open_of ms ≢ []
some_shown ks ms h some none = some (nil_from_length (queries_of ks) (sym (same_count ks ms h) ∙ ap length none))

pub none_shown : (ks : List Seeker) (ms : List Mine) → AllZip KeepsMine ks ms → queries_of ks ≡ [] → open_of ms ≡ []
none_shown ks ms h none = nil_from_length (open_of ms) (same_count ks ms h ∙ ap length none)

one_asked : (k l : Seeker) (m : Mine) → NoneAsks k → KeepsMine k m → Longer k l → HaveAsked (whose l) m
one_asked k l m none keeps g p lt = record {
  before = k.lookup.book.journal;
  behind = g.more;
  later = [];
  earlier = m.since;
  splits = g.journal;
  none = subst (λ (s : Setting). may_ask s p k.lookup.book.journal ≡ None) (sym g.setting) (none p (subst (λ (s : Setting). p < s.paths) g.setting lt));
  covers = keeps.given ∙ sym (append-nil _);
  since_receive = sym (append-nil m.since);
  of_others = tt;
}

each_asked : (ks ls : List Seeker) (ms : List Mine) → AllByRecursion NoneAsks ks → AllZip KeepsMine ks ms → AllZip Longer ks ls → AllZip HaveAsked (map whose ls) ms
each_asked [] [] [] none k g = tt
each_asked [] [] (m ∷ ms) none k g = absurd k
each_asked [] (l ∷ ls) ms none k g = absurd g
each_asked (x ∷ ks) [] ms none k g = absurd g
each_asked (x ∷ ks) (l ∷ ls) [] none k g = absurd k
each_asked (x ∷ ks) (l ∷ ls) (m ∷ ms) none k g = (one_asked x l m none.0 k.0 g.0, each_asked ks ls ms none.1 k.1 g.1)

all_asked : (n : ℕ) (ks ls : List Seeker) (ms : List Mine) → (n ≡ 0 → AllByRecursion NoneAsks ks) → AllZip KeepsMine ks ms → AllZip Longer ks ls → AllHaveAsked n (map whose ls) ms
all_asked zero ks ls ms none k g = each_asked ks ls ms (none refl) k g
all_asked (suc n) ks ls ms none k g = tt

pub each_over : (ks : List Seeker) (ms : List Mine) → AllByRecursion IsRunOut ks → AllZip KeepsMine ks ms → AllZip IsOver (map whose ks) ms
each_over [] [] over k = tt
each_over [] (m ∷ ms) over k = absurd k
each_over (x ∷ ks) [] over k = absurd k
each_over (x ∷ ks) (m ∷ ms) over k = (record { all_given = k.0.given; run_out = over.0.run_out }, each_over ks ms over.1 k.1)

waits_of : (busy : Bool) (f : Frame) (place : ℕ) (ks ls : List Seeker) (progress : Progress) (s : Shown) (until : ℕ) → WaitsFor ks progress until busy → KeepsProgress f progress place None s → KeepsSaying busy (cond busy [] f.follows) progress s → AllZip KeepsMine ks s.each → (busy ≡ false → map whose ls ≡ map whose ks) → MayWait (cond busy 0 f.wanted) (cond busy [] f.follows) (map whose ls) s until
waits_of busy f place ks ls progress s until (waits_replies is some waits few) st sy k same =
    for_replies (some_shown ks s.each k some)
    (subst (λ n. WaitsUntil n s.moment (deadlines_of s.each) until) (sym st.receives) (subst (λ m. WaitsUntil progress.receives m (deadlines_of s.each) until) (sym st.moment)
    (subst (λ l. WaitsUntil progress.receives progress.moment l until) (sym (same_deadlines ks s.each k)) waits)))
waits_of busy f place ks ls progress s until (waits_follow_ups is none over one waits) st sy k same =
    for_follow_ups (sy.some is one) (none_shown ks s.each k none) (subst (λ ws. AllZip IsOver ws s.each) (sym (same is)) (each_over ks s.each over k)) (λ z. one (sym st.receives ∙ z)) (waits ∙ sym st.moment)
waits_of busy f place ks ls progress s until (waits_others is none over unsaid round left before waits) st sy k same =
    let still : 0 < f.wanted - s.made = subst (λ n. 0 < n) (sym st.left) left in
    let within = sy.within in
    let kept = sy.left in
    for_others (none_shown ks s.each k none) (subst (λ ws. AllZip IsOver ws s.each) (sym (same is)) (each_over ks s.each over k)) (omega (arith, within, kept, unsaid)) (st.receives ∙ round) (subst (λ b. s.made < cond b 0 f.wanted) (sym is) (omega (arith, still)))
    (subst (λ m. is_over s.ends m ≡ false) (sym st.moment) (subst (λ o. is_over o progress.moment ≡ false) (sym st.ends) before))
    (waits ∙ ap (λ o. waits_to o progress.moment) (sym st.ends) ∙ ap (waits_to s.ends) (sym st.moment))

receives_of : (busy : Bool) (f : Frame) (place : ℕ) (ks ls : List Seeker) (progress : Progress) (s : Shown) (until : ℕ) → MayReceive ks progress until busy → KeepsProgress f progress place None s → KeepsSaying busy (cond busy [] f.follows) progress s → AllZip KeepsMine ks s.each → AllZip Longer ks ls → (busy ≡ false → map whose ls ≡ map whose ks) → Receives (cond busy 0 f.wanted) (cond busy [] f.follows) (map whose ls) s until
receives_of busy f place ks ls progress s until may st sy k g same = record {
  none_owed = st.owed_is;
  waits = waits_of busy f place ks ls progress s until may.waits st sy k same;
  asked = subst (λ n. AllHaveAsked n (map whose ls) s.each) (sym st.receives) (all_asked progress.receives ks ls s.each may.in_turn k g);
}

-- what is left of the follow-ups stays, and where no lookup is open no round goes on
saying_on : (busy : Bool) (follows : List FollowUp) (progress progress' : Progress) (s t : Shown) → KeepsSaying busy follows progress s → t.followed ≡ s.followed → progress'.unsaid ≡ progress.unsaid → (busy ≡ false → progress'.receives ≡ 0) → KeepsSaying busy follows progress' t
saying_on busy follows progress progress' s t sy same unsaid over =
    let within = sy.within in
    let left = sy.left in
    record { within = omega (arith, within, same); left = omega (arith, left, same, unsaid); some = λ idle one. absurd (one (over idle)) }

-- ---- where no query is open nothing of a lookup changes

same_whose : (a b : Whose) → a.setting ≡ b.setting → a.quest ≡ b.quest → a.journal ≡ b.journal → a ≡ b
same_whose a b s q j =
    ap (λ x. record { setting = x; quest = a.quest; journal = a.journal }) s ∙ ap (λ x. record { setting = b.setting; quest = x; journal = a.journal }) q ∙ ap (λ x. record { setting = b.setting; quest = b.quest; journal = x }) j

one_still : (at : ℕ) (old new : Seeker) → Expires at old new → old.lookup.queries ≡ [] → whose new ≡ whose old
one_still at old new e none =
    same_whose (whose new) (whose old) e.loses.setting e.quest
    (e.loses.journal ∙ ap (λ qs. old.lookup.book.journal ++ closed_at at (map (as_open old.lookup.book.journal) qs)) none ∙ append-nil old.lookup.book.journal)

pub all_still : (at : ℕ) (olds news : List Seeker) → AllZip (Expires at) olds news → queries_of olds ≡ [] → map whose news ≡ map whose olds
all_still at [] [] e none = refl
all_still at [] (n ∷ news) e none = absurd e
all_still at (o ∷ olds) [] e none = absurd e
all_still at (o ∷ olds) (n ∷ news) e none =
    ap (λ w. w ∷ map whose news) (one_still at o n e.0 (none_front o.lookup.queries (queries_of olds) none)) ∙ ap (λ ws. whose o ∷ ws) (all_still at olds news e.1 (none_back o.lookup.queries (queries_of olds) none))

-- and none is open afterwards
all_closed : (at : ℕ) (olds news : List Seeker) → AllZip (Expires at) olds news → queries_of olds ≡ [] → queries_of news ≡ []
all_closed at [] [] e none = refl
all_closed at [] (n ∷ news) e none = absurd e
all_closed at (o ∷ olds) [] e none = absurd e
all_closed at (o ∷ olds) (n ∷ news) e none =
    ap (λ l. l ++ queries_of news) (e.0.loses.queries ∙ ap (filter (λ (q : Query). nat_lt at q.deadline)) (none_front o.lookup.queries (queries_of olds) none)) ∙ all_closed at olds news e.1 (none_back o.lookup.queries (queries_of olds) none)

none_open : (ks : List Seeker) (progress : Progress) (until : ℕ) (busy : Bool) → WaitsFor ks progress until busy → busy ≡ false → queries_of ks ≡ []
none_open ks progress until busy (waits_replies is some waits few) idle = (let t : true ≡ false = sym is ∙ idle in absurd cc)
none_open ks progress until busy (waits_follow_ups is none over one waits) idle = none
none_open ks progress until busy (waits_others is none over unsaid round left before waits) idle = none

-- nor of what it gathered
pub gathered_still : (at : ℕ) (olds news : List Seeker) → AllZip (Expires at) olds news → map (λ (k : Seeker). k.gathered) news ≡ map (λ (k : Seeker). k.gathered) olds
gathered_still at [] [] e = refl
gathered_still at [] (n ∷ news) e = absurd e
gathered_still at (o ∷ olds) [] e = absurd e
gathered_still at (o ∷ olds) (n ∷ news) e = ap (λ g. g ∷ map (λ (k : Seeker). k.gathered) news) e.0.gathered ∙ ap (λ gs. o.gathered ∷ gs) (gathered_still at olds news e.1)

-- nobody takes a datagram where no query is open
none_taken : (accepts : Accepts) (from : Addr) (bytes : List ℕ) (old mid : List Seeker) → TakesFirst accepts from bytes old mid → queries_of old ≡ [] → ⊥
none_taken accepts from bytes old mid t none = at_it t.before (subst (λ l. queries_of l ≡ []) t.were none)
  where
    at_it : (before : List Seeker) → queries_of (before ++ t.one ∷ t.behind) ≡ [] → ⊥
    at_it [] e = (let q = none_front t.one.lookup.queries (queries_of t.behind) e in let h = t.takes.matches in none_middle h.before h.query h.behind (sym h.was_open ∙ q))
      where
        none_middle : (before : List Query) (q : Query) (behind : List Query) → before ++ q ∷ behind ≡ [] → ⊥
        none_middle [] q behind e = absurd cc
        none_middle (x ∷ before) q behind e = absurd cc
    at_it (k ∷ before) e = at_it before (none_back k.lookup.queries (queries_of (before ++ t.one ∷ t.behind)) e)

-- ---- a datagram

-- what a step leaves: the lookups, and what is read of it
pub record GotOn (accepts : Accepts) (tags : Tags) (server : ServeSetting) (busy : Bool) (from : Addr) (bytes : List ℕ) (at : ℕ) (old new : List Seeker) (progress progress' : Progress) (until : ℕ) (host host' : Hands) (owed : Option Owed) : Type 0 where
  pub more : Reading
  pub owners_are : more.owners ≡ []
  pub none_told : more.told ≡ []
  pub goes : (f : Frame) (count place : ℕ) (read : Reading) (events : List Event) → f.accepts ≡ accepts → f.tags ≡ tags → f.server ≡ server → ManyShow busy f count old progress place None read events
      → ManyShow busy f count new progress' place owed (and_then read more) (events ++ Got from bytes until at ∷ [])
  pub ran : Ran host host' more.did more.lost

progress_got : (f : Frame) (progress progress' : Progress) (place at foreign foreign' : ℕ) (owed : Option Owed) (s : Shown) (ns : List Mine) (ls : List Seeker) → KeepsProgress f progress place None s → foreign ≡ foreign' → progress' ≡ record { moment = at; receives = goes_on progress.receives (length (queries_of ls)); foreign = foreign'; left = progress.left - 1; end = progress.end; received = progress.received + 1; replied = progress.replied; unsaid = progress.unsaid } → AllZip KeepsMine ls ns
    → KeepsProgress f progress' place owed (after_got s at foreign owed ns)
progress_got f progress progress' place at foreign foreign' owed s ns ls st same is k =
    let left = st.left in
    subst (λ (l : Progress). KeepsProgress f l place owed (after_got s at foreign owed ns)) (sym is)
    (record { moment = refl; ends = st.ends; sends = st.sends; got = ap (λ n. n + 1) st.got; foreign = same; replied = st.replied; receives = ap (λ n. goes_on n (length (open_of ns))) st.receives ∙ ap (goes_on progress.receives) (same_count ls ns k); left = omega (arith, left); owed_is = refl })

-- what is read of a receive
lost_read : List Did → List Contact → Reading
lost_read did lost = record { owners = []; did = did; lost = lost; told = [] }

read_is_of : (did : List Did) (lost : List Contact) (ns : List Mine) → flat_map (λ (n : Mine). n.lost) ns ≡ lost → lost_read did lost ≡ read_of did ns
unfolding lost_read
read_is_of did lost ns e = same_reading (lost_read did lost) (read_of did ns) refl refl (sym e) refl

-- while a query is open the one more isn't the last that is taken
few_more : (ks : List Seeker) (progress counted : Progress) (until : ℕ) (busy : Bool) → WaitsFor ks progress until busy → Counts busy progress counted → queries_of ks ≢ [] → progress.foreign + 1 < max_strays
few_more ks progress counted until busy (waits_replies is some waits few) counts any =
    let is_more : counted.foreign ≡ progress.foreign + 1 = ap (λ (l : Progress). l.foreign) counts.0 in
    subst (λ n. n < max_strays) is_more (counts.1 is)
few_more ks progress counted until busy (waits_follow_ups is none over one waits) counts any = absurd (any none)
few_more ks progress counted until busy (waits_others is none over unsaid round left before waits) counts any = absurd (any none)

module _ (accepts : Accepts) (tags : Tags) (server : ServeSetting) (busy : Bool) (from : Addr) (bytes : List ℕ) (until at : ℕ) (old new : List Seeker) (progress progress' : Progress) (host host' : Hands) where
  -- where a lookup takes it
  got_taken : (c : Comes accepts tags server busy from bytes at old new progress progress' host host' None) → MayReceive old progress until busy → TakesFirst accepts from bytes old c.mid → c.counted ≡ progress → c.between ≡ host → GotOn accepts tags server busy from bytes at old new progress progress' until host host' None
  unfolding lost_read
  got_taken c may t counted between = record {
    more = lost_read [] (all_lapsed at c.mid);
    owners_are = refl;
    none_told = refl;
    goes = λ f count place read events ea et es h.
        let s = h.end in
        let st = h.keeps_progress in
        let first = first_on accepts from bytes at old c.mid new s.each may.holds h.keeps_each t c.expires in
        let on = first.on in
        let same : busy ≡ false → map whose new ≡ map whose old = (λ idle. absurd (none_taken accepts from bytes old c.mid t (none_open old progress until busy may.waits idle))) in
        let same_foreign : s.foreign ≡ c.counted.foreign = st.foreign ∙ sym (ap (λ (l : Progress). l.foreign) counted) in
        shows_more busy f count place place None None read (lost_read [] (all_lapsed at c.mid)) old new progress progress' (Got from bytes until at) events h (after_got s at s.foreign None first.after) on.longer same (
          receives_of busy f place old new progress s until may st h.keeps_saying h.keeps_each on.longer same,
          inl (record {
            each = first.after;
            first = subst (λ a. FirstTakes a from bytes at (map whose new) s.each first.after) (sym ea) (first_longer accepts from bytes at old new s.each first.after on.longer first.first);
            read_is = read_is_of [] (all_lapsed at c.mid) first.after on.lost;
            after = refl;
          }),
        )
        (progress_got f progress progress' place at s.foreign c.counted.foreign None s first.after new st same_foreign c.progress_is on.keeps) on.keeps
        (saying_on busy (cond busy [] f.follows) progress progress' s (after_got s at s.foreign None first.after) h.keeps_saying refl (ap (λ (l : Progress). l.unsaid) c.progress_is) (λ idle. absurd (none_taken accepts from bytes old c.mid t (none_open old progress until busy may.waits idle))));
    ran = subst (λ h. Ran h host' [] (all_lapsed at c.mid)) between c.ran;
  }

  -- where it is for none
  got_foreign : (owed : Option Owed) (c : Comes accepts tags server busy from bytes at old new progress progress' host host' owed) → MayReceive old progress until busy → AllByRecursion (λ k. IsNotFor accepts from bytes k) old → c.mid ≡ old → Counts busy progress c.counted → Answers tags server from bytes at owed host c.between
      → GotOn accepts tags server busy from bytes at old new progress progress' until host host' owed
  unfolding lost_read
  got_foreign owed c may none mid counts answers = record {
    more = lost_read answers.did (all_lapsed at old);
    owners_are = refl;
    none_told = refl;
    goes = λ f count place read events ea et es h.
        let s = h.end in
        let st = h.keeps_progress in
        let expires : AllZip (Expires at) old new = subst (λ l. AllZip (Expires at) l new) mid c.expires in
        let on = all_wait at old new s.each may.holds h.keeps_each expires in
        let same : busy ≡ false → map whose new ≡ map whose old = (λ idle. all_still at old new expires (none_open old progress until busy may.waits idle)) in
        let few : open_of s.each ≢ [] → s.foreign + 1 < max_strays = (λ some. subst (λ n. n + 1 < max_strays) (sym st.foreign) (few_more old progress c.counted until busy may.waits counts (λ none. some (none_shown old s.each h.keeps_each none)))) in
        let more_foreign : s.foreign + 1 ≡ c.counted.foreign = ap (λ n. n + 1) st.foreign ∙ sym (ap (λ (l : Progress). l.foreign) counts.0) in
        shows_more busy f count place place None owed read (lost_read answers.did (all_lapsed at old)) old new progress progress' (Got from bytes until at) events h (after_got s at (s.foreign + 1) owed (map (waited at) s.each)) on.longer same (
          receives_of busy f place old new progress s until may st h.keeps_saying h.keeps_each on.longer same,
          inr (record {
            foreign = subst (λ a. IsForeign a from bytes (map whose new) s.each) (sym ea) (foreign_longer accepts from bytes old new s.each on.longer (all_stray accepts from bytes old s.each h.keeps_each none));
            did = answers.did;
            read_is = read_is_of answers.did (all_lapsed at old) (map (waited at) s.each) on.lost;
            few = few;
            owed = owed;
            owes = subst (λ t. Owes t f.server from bytes at answers.did owed) (sym et) (subst (λ v. Owes tags v from bytes at answers.did owed) (sym es) answers.owes);
            after = refl;
          }),
        )
        (progress_got f progress progress' place at (s.foreign + 1) c.counted.foreign owed s (map (waited at) s.each) new st more_foreign c.progress_is on.keeps) on.keeps
        (saying_on busy (cond busy [] f.follows) progress progress' s (after_got s at (s.foreign + 1) owed (map (waited at) s.each)) h.keeps_saying refl (ap (λ (l : Progress). l.unsaid) c.progress_is)
        (λ idle. ap (λ (l : Progress). l.receives) c.progress_is ∙ ap (λ qs. goes_on progress.receives (length qs)) (all_closed at old new expires (none_open old progress until busy may.waits idle))));
    ran = subst (λ d. Ran host host' d (all_lapsed at old)) (append-nil answers.did) (ran_then host c.between host' answers.did [] [] (all_lapsed at old) answers.same (ran_answer host c.between answers.did answers.grew (had_memory tags server from bytes at answers.did owed answers.owes)) (subst (λ l. Ran c.between host' [] (all_lapsed at l)) mid c.ran));
  }

  pub got_on : (owed : Option Owed) (c : Comes accepts tags server busy from bytes at old new progress progress' host host' owed) → MayReceive old progress until busy → GotOn accepts tags server busy from bytes at old new progress progress' until host host' owed
  got_on owed c may = pick owed c c.handles
    where
      pick : (owed : Option Owed) (c : Comes accepts tags server busy from bytes at old new progress progress' host host' owed) → Handles accepts tags server busy from bytes at old c.mid progress c.counted host c.between owed → GotOn accepts tags server busy from bytes at old new progress progress' until host host' owed
      pick None c (is_taken t counted between nothing) = got_taken c may t counted between
      pick (Some o) c (is_taken t counted between nothing) = absurd cc
      pick owed c (is_foreign none mid counts answers) = got_foreign owed c may none mid counts answers

-- ---- its reply

pub same_longer : (k : Seeker) → Longer k k
same_longer k = record { more = []; quest = refl; setting = refl; journal = sym (append-nil k.lookup.book.journal); gathered = λ is. refl }

pub all_longer : (ks : List Seeker) → AllZip Longer ks ks
all_longer [] = tt
all_longer (k ∷ ks) = (same_longer k, all_longer ks)

paid : (busy : Bool) (f : Frame) (count place : ℕ) (read : Reading) (ks : List Seeker) (progress : Progress) (owed : Owed) (es : List Event) (was_sent : Bool) → ManyShow busy f count ks progress place (Some owed) read es
    → ManyShow busy f count ks (after_paid progress was_sent) place None (and_then read nothing_read) (es ++ tried was_sent owed.to owed.reply ∷ [])
paid busy f count place read ks progress owed es true h =
    let st = h.keeps_progress in
    let t : Shown = record h.end { owed = None; replied = h.end.replied + 1 } in
    shows_more busy f count place place (Some owed) None read nothing_read ks ks progress (after_paid progress true) (Sent owed.to owed.reply) es h t (all_longer ks) (λ idle. refl) (inr (inl (record { owes = st.owed_is; nothing = refl; after = refl })))
    (record { moment = st.moment; ends = st.ends; sends = st.sends; got = st.got; foreign = st.foreign; replied = ap (λ n. n + 1) st.replied; receives = st.receives; left = st.left; owed_is = refl }) h.keeps_each
    (record { within = h.keeps_saying.within; left = h.keeps_saying.left; some = h.keeps_saying.some })
paid busy f count place read ks progress owed es false h =
    let st = h.keeps_progress in
    let t : Shown = record h.end { owed = None } in
    shows_more busy f count place place (Some owed) None read nothing_read ks ks progress progress (Unsent owed.to owed.reply) es h t (all_longer ks) (λ idle. refl) (inr (inl (record { owes = st.owed_is; nothing = refl; after = refl })))
    (record { moment = st.moment; ends = st.ends; sends = st.sends; got = st.got; foreign = st.foreign; replied = st.replied; receives = st.receives; left = st.left; owed_is = refl }) h.keeps_each
    (record { within = h.keeps_saying.within; left = h.keeps_saying.left; some = h.keeps_saying.some })

-- the reply that is owed is sent, and then none is
pays_on : (busy : Bool) (f : Frame) (count place : ℕ) (read : Reading) (ks : List Seeker) (progress : Progress) (owed : Option Owed) (was_sent : Bool) (es fs : List Event) → Pays owed was_sent fs → ManyShow busy f count ks progress place owed read es → ManyShow busy f count ks (after_paid progress was_sent) place None read (es ++ fs)
pays_on busy f count place read ks progress None was_sent es fs is h =
    subst (λ b. ManyShow busy f count ks (after_paid progress b) place None read (es ++ fs)) (sym is.0) (subst (ManyShow busy f count ks progress place None read) (sym (ap (λ l. es ++ l) is.1 ∙ append-nil es)) h)
pays_on busy f count place read ks progress (Some owed) was_sent es fs is h =
    subst (λ l. ManyShow busy f count ks (after_paid progress was_sent) place None read (es ++ l)) (sym is) (subst (λ r. ManyShow busy f count ks (after_paid progress was_sent) place None r (es ++ tried was_sent owed.to owed.reply ∷ [])) (nothing_after read) (paid busy f count place read ks progress owed es was_sent h))

-- ---- whatever was told since any beginning

-- a datagram, and what it was owed
pub got_advances : (accepts : Accepts) (tags : Tags) (server : ServeSetting) (busy : Bool) (from : Addr) (bytes : List ℕ) (until at : ℕ) (old new : List Seeker) (progress progress' after : Progress) (host host' : Hands) (owed : Option Owed) (was_sent : Bool) (words : WordsState) (told mid told' : Option (List Event)) → after ≡ after_paid progress' was_sent
    → GotOn accepts tags server busy from bytes at old new progress progress' until host host' owed → Grows told mid (λ es. es ≡ Got from bytes until at ∷ []) → Grows mid told' (Pays owed was_sent) → Advances busy [] accepts tags server (stand old progress words host told) (stand new after words host' told')
got_advances accepts tags server busy from bytes until at old new progress progress' after host host' owed was_sent words told mid told' paid on got pays = record {
  more = on.more;
  owners_are = on.owners_are;
  none_told = on.none_told;
  goes = λ f count read began is h.
      grows_then began mid told' _ _ _
      (grows_then began told mid _ _ _ h got (λ es fs shows e. subst (λ l. ManyShow busy f count new progress' words.place owed (and_then read on.more) (es ++ l)) (sym e) (on.goes f count words.place read es is.accepts_is is.tags_is is.server_is shows)))
      pays (λ es fs shows p. subst (λ (l : Progress). ManyShow busy f count new l words.place None (and_then read on.more) (es ++ fs)) (sym paid) (pays_on busy f count words.place (and_then read on.more) new progress' owed was_sent es fs p shows));
  ran = on.ran;
  seed = refl;
}

-- no datagram
quiet_on : (busy : Bool) (until at : ℕ) (old new : List Seeker) (progress progress' : Progress) (host host' : Hands) (f : Frame) (count place : ℕ) (read : Reading) (es : List Event) → MayReceive old progress until busy → Passes at old new progress progress' host host' → ManyShow busy f count old progress place None read es
    → ManyShow busy f count new progress' place None (and_then read (lost_read [] (all_lapsed at old))) (es ++ Quiet until at ∷ [])
quiet_on busy until at old new progress progress' host host' f count place read es may c h =
    let s = h.end in
    let st = h.keeps_progress in
    let left = st.left in
    let on = all_wait at old new s.each may.holds h.keeps_each c.expires in
    let same : busy ≡ false → map whose new ≡ map whose old = (λ idle. all_still at old new c.expires (none_open old progress until busy may.waits idle)) in
    shows_more busy f count place place None None read (lost_read [] (all_lapsed at old)) old new progress progress' (Quiet until at) es h (after_quiet s at) on.longer same
    (receives_of busy f place old new progress s until may st h.keeps_saying h.keeps_each on.longer same, read_is_of [] (all_lapsed at old) (map (waited at) s.each) on.lost, refl)
    (subst (λ (l : Progress). KeepsProgress f l place None (after_quiet s at)) (sym c.progress_is) (record { moment = refl; ends = st.ends; sends = st.sends; got = st.got; foreign = st.foreign; replied = st.replied; receives = refl; left = omega (arith, left); owed_is = refl })) on.keeps
    (saying_on busy (cond busy [] f.follows) progress progress' s (after_quiet s at) h.keeps_saying refl (ap (λ (l : Progress). l.unsaid) c.progress_is) (λ idle. ap (λ (l : Progress). l.receives) c.progress_is))

pub quiet_advances : (accepts : Accepts) (tags : Tags) (server : ServeSetting) (busy : Bool) (until at : ℕ) (old new : List Seeker) (progress progress' : Progress) (host host' : Hands) (words : WordsState) (told told' : Option (List Event))
    → MayReceive old progress until busy → Passes at old new progress progress' host host' → Grows told told' (λ es. es ≡ Quiet until at ∷ []) → Advances busy [] accepts tags server (stand old progress words host told) (stand new progress' words host' told')
unfolding lost_read
quiet_advances accepts tags server busy until at old new progress progress' host host' words told told' may c quiet = record {
  more = lost_read [] (all_lapsed at old);
  owners_are = refl;
  none_told = refl;
  goes = λ f count read began is h. grows_then began told told' _ _ _ h quiet (λ es fs shows e. subst (λ l. ManyShow busy f count new progress' words.place None (and_then read (lost_read [] (all_lapsed at old))) (es ++ l)) (sym e) (quiet_on busy until at old new progress progress' host host' f count words.place read es may c shows));
  ran = c.ran;
  seed = refl;
}

-- ---- what a receive leaves

-- how a round goes on
record GoesMore (n k : ℕ) : Type 0 where
  some : k ≢ 0
  next : goes_on n k ≡ n + 1
  few : n + 1 < max_round_receives

goes_more : (n k : ℕ) → goes_on n k ≢ 0 → GoesMore n k
goes_more n zero h = absurd (h refl)
goes_more n (suc k) h =
    elim (nat_lt (n + 1) max_round_receives) as (λ b. nat_lt (n + 1) max_round_receives ≡ b → cond b (n + 1) 0 ≢ 0 → GoesMore n (suc k)) [
      | true ↦ λ e x. record { some = λ z. absurd (omega (arith, z)); next = ap (λ b. cond b (n + 1) 0) e; few = below_last n e }
      | false ↦ λ e x. absurd (x refl)
    ] refl h

next_in : (n k : ℕ) → (goes_on n k ≡ 0) ⊎ (goes_on n k ≡ n + 1)
next_in n zero = inl refl
next_in n (suc k) = elim (nat_lt (n + 1) max_round_receives) as (λ b. (cond b (n + 1) 0 ≡ 0) ⊎ (cond b (n + 1) 0 ≡ n + 1)) [ true ↦ inr refl | false ↦ inl refl ]

few_next : (n k : ℕ) → goes_on n k < max_round_receives
few_next n k = elim (next_in n k) [
  | inl z ↦ subst (λ m. m < max_round_receives) (sym z) (omega arith)
  | inr e ↦ (let more = goes_more n k (λ z. absurd (omega (arith, z, e))) in let few = more.few in subst (λ m. m < max_round_receives) (sym e) few)
]

-- the count of foreign datagrams after it
record Counted (busy : Bool) (old mid : List Seeker) (progress counted : Progress) : Type 0 where
  most : counted.foreign ≤ progress.foreign + 1
  few : busy ≡ true → counted.foreign < max_strays
  closes : length (queries_of mid) + progress.foreign + 1 ≡ length (queries_of old) + counted.foreign

few_while : (ks : List Seeker) (progress : Progress) (until : ℕ) (busy : Bool) → WaitsFor ks progress until busy → busy ≡ true → progress.foreign < max_strays
few_while ks progress until busy (waits_replies is some waits few) is_busy = few
few_while ks progress until busy (waits_follow_ups is none over one waits) is_busy = (let t : true ≡ false = sym is_busy ∙ is in absurd cc)
few_while ks progress until busy (waits_others is none over unsaid round left before waits) is_busy = (let t : true ≡ false = sym is_busy ∙ is in absurd cc)

counted_of : (accepts : Accepts) (tags : Tags) (server : ServeSetting) (busy : Bool) (from : Addr) (bytes : List ℕ) (at : ℕ) (old mid : List Seeker) (progress counted : Progress) (host between : Hands) (owed : Option Owed) → (busy ≡ true → progress.foreign < max_strays) → Handles accepts tags server busy from bytes at old mid progress counted host between owed → Counted busy old mid progress counted
counted_of accepts tags server busy from bytes at old mid progress counted host between owed few (is_taken t is b o) =
    let one = closes_one accepts from bytes old mid t in
    subst (Counted busy old mid progress) (sym is) (record { most = omega arith; few = few; closes = omega (arith, one) })
counted_of accepts tags server busy from bytes at old mid progress counted host between owed few (is_foreign none m counts answers) =
    let is : counted.foreign ≡ progress.foreign + 1 = ap (λ (l : Progress). l.foreign) counts.0 in
    let same : length (queries_of mid) ≡ length (queries_of old) = ap (λ l. length (queries_of l)) m in
    record { most = omega (arith, is); few = counts.1; closes = omega (arith, is, same) }

mid_longer : (at : ℕ) (olds mids news : List Seeker) → AllZip Longer olds mids → AllZip (Expires at) mids news → AllZip Longer olds news
mid_longer at [] [] [] g e = tt
mid_longer at [] [] (n ∷ news) g e = absurd e
mid_longer at [] (m ∷ mids) news g e = absurd g
mid_longer at (o ∷ olds) [] news g e = absurd g
mid_longer at (o ∷ olds) (m ∷ mids) [] g e = absurd e
mid_longer at (o ∷ olds) (m ∷ mids) (n ∷ news) g e = (
  record {
    more = g.0.more ++ closed_at at (opens m);
    quest = e.0.quest ∙ g.0.quest;
    setting = e.0.loses.setting ∙ g.0.setting;
    journal = e.0.loses.journal ∙ ap (λ J. J ++ closed_at at (opens m)) g.0.journal ∙ append_assoc o.lookup.book.journal g.0.more (closed_at at (opens m));
    gathered = λ is. e.0.gathered ∙ g.0.gathered is;
  },
  mid_longer at olds mids news g.1 e.1,
)

taken_longer : (accepts : Accepts) (from : Addr) (bytes : List ℕ) (before behind : List Seeker) (one after : Seeker) → IsMatchFor accepts from bytes one after → AllZip Longer (before ++ one ∷ behind) (before ++ after ∷ behind)
taken_longer accepts from bytes [] behind one after m =
    let h = m.matches in
    (record { more = h.hears.entry ∷ []; quest = m.quest; setting = ap (λ (b : BookState). b.setting) h.hears.after; journal = ap (λ (b : BookState). b.journal) h.hears.after; gathered = λ is. kept_find one.quest.kind m.heard one.gathered after.gathered is m.gathers }, all_longer behind)
taken_longer accepts from bytes (k ∷ before) behind one after m = (same_longer k, taken_longer accepts from bytes before behind one after m)

handled_longer : (accepts : Accepts) (tags : Tags) (server : ServeSetting) (busy : Bool) (from : Addr) (bytes : List ℕ) (at : ℕ) (old mid : List Seeker) (progress counted : Progress) (host between : Hands) (owed : Option Owed) → Handles accepts tags server busy from bytes at old mid progress counted host between owed → AllZip Longer old mid
handled_longer accepts tags server busy from bytes at old mid progress counted host between owed (is_taken t is b o) =
    subst (λ l. AllZip Longer l mid) (sym t.were) (subst (AllZip Longer (t.before ++ t.one ∷ t.behind)) (sym t.are) (taken_longer accepts from bytes t.before t.behind t.one t.after t.takes))
handled_longer accepts tags server busy from bytes at old mid progress counted host between owed (is_foreign none m counts answers) = subst (AllZip Longer old) (sym m) (all_longer old)

-- where no query is open the datagram changes no lookup
handled_idle : (accepts : Accepts) (tags : Tags) (server : ServeSetting) (busy : Bool) (from : Addr) (bytes : List ℕ) (at : ℕ) (old mid : List Seeker) (progress counted : Progress) (host between : Hands) (owed : Option Owed) → Handles accepts tags server busy from bytes at old mid progress counted host between owed → queries_of old ≡ [] → mid ≡ old
handled_idle accepts tags server busy from bytes at old mid progress counted host between owed (is_taken t is b o) none = absurd (none_taken accepts from bytes old mid t none)
handled_idle accepts tags server busy from bytes at old mid progress counted host between owed (is_foreign none m counts answers) idle = m

handled_only : (accepts : Accepts) (tags : Tags) (server : ServeSetting) (busy : Bool) (from : Addr) (bytes : List ℕ) (at : ℕ) (old mid : List Seeker) (progress counted : Progress) (host between : Hands) (owed : Option Owed) → Handles accepts tags server busy from bytes at old mid progress counted host between owed → AllZip OnlyHeard old mid
handled_only accepts tags server busy from bytes at old mid progress counted host between owed (is_taken t is b o) = first_taken accepts from bytes old mid t
handled_only accepts tags server busy from bytes at old mid progress counted host between owed (is_foreign none m counts answers) = subst (AllZip OnlyHeard old) (sym m) (only_same_all old)

handled_driven : (accepts : Accepts) (tags : Tags) (server : ServeSetting) (busy : Bool) (from : Addr) (bytes : List ℕ) (at : ℕ) (old mid : List Seeker) (progress counted : Progress) (host between : Hands) (owed : Option Owed) → Handles accepts tags server busy from bytes at old mid progress counted host between owed → AllZip DrivenOn old mid
handled_driven accepts tags server busy from bytes at old mid progress counted host between owed (is_taken t is b o) = first_driven accepts from bytes old mid t
handled_driven accepts tags server busy from bytes at old mid progress counted host between owed (is_foreign none m counts answers) = subst (AllZip DrivenOn old) (sym m) (same_driven old)

handled_seats : (accepts : Accepts) (tags : Tags) (server : ServeSetting) (busy : Bool) (from : Addr) (bytes : List ℕ) (at : ℕ) (old mid : List Seeker) (progress counted : Progress) (host between : Hands) (owed : Option Owed) → Handles accepts tags server busy from bytes at old mid progress counted host between owed → AllZip SameSeat old mid
handled_seats accepts tags server busy from bytes at old mid progress counted host between owed (is_taken t is b o) = first_seats accepts from bytes old mid t
handled_seats accepts tags server busy from bytes at old mid progress counted host between owed (is_foreign none m counts answers) = subst (AllZip SameSeat old) (sym m) (same_seats old)

come_received : (accepts : Accepts) (tags : Tags) (server : ServeSetting) (busy : Bool) (from : Addr) (bytes : List ℕ) (until at : ℕ) (old new : List Seeker) (progress progress' : Progress) (host host' : Hands) (owed : Option Owed) → MayReceive old progress until busy → Comes accepts tags server busy from bytes at old new progress progress' host host' owed → Received busy old new progress progress'
come_received accepts tags server busy from bytes until at old new progress progress' host host' owed may c =
    let n = progress.receives in
    let k = length (queries_of new) in
    let counted = counted_of accepts tags server busy from bytes at old c.mid progress c.counted host c.between owed (few_while old progress until busy may.waits) c.handles in
    let most = counted.most in
    let closes = counted.closes in
    let fewer = fewer_expired at c.mid new c.expires in
    let only = all_then old c.mid new (handled_only accepts tags server busy from bytes at old c.mid progress c.counted host c.between owed c.handles) (all_expired at c.mid new c.expires) in
    let more : progress'.received ≡ progress.received + 1 = ap (λ (l : Progress). l.received) c.progress_is in
    let same_replied : progress'.replied ≡ progress.replied = ap (λ (l : Progress). l.replied) c.progress_is in
    let receives : progress'.receives ≡ goes_on n k = ap (λ (l : Progress). l.receives) c.progress_is in
    let same_foreign : progress'.foreign ≡ c.counted.foreign = ap (λ (l : Progress). l.foreign) c.progress_is in
    let expires_idle : busy ≡ false → AllZip (Expires at) old new =
    (λ idle. subst (λ l. AllZip (Expires at) l new) (handled_idle accepts tags server busy from bytes at old c.mid progress c.counted host c.between owed c.handles (none_open old progress until busy may.waits idle)) c.expires) in
    record {
      holds = expired_hold at c.mid new c.expires;
      longer = mid_longer at old c.mid new (handled_longer accepts tags server busy from bytes at old c.mid progress c.counted host c.between owed c.handles) c.expires;
      only_heard = only;
      driven_on = driven_then old c.mid new (handled_driven accepts tags server busy from bytes at old c.mid progress c.counted host c.between owed c.handles) (expired_driven at c.mid new c.expires);
      seats = seats_then old c.mid new (handled_seats accepts tags server busy from bytes at old c.mid progress c.counted host c.between owed c.handles) (expired_seats at c.mid new c.expires);
      counted = counts_on old new progress progress' may.counted (same_asks old new only) (omega (arith, closes, fewer, more, same_foreign)) same_replied (omega (arith, more));
      round = subst (λ m. (m ≡ 0) ⊎ (m ≡ n + 1)) (sym receives) (next_in n k);
      few_receives = subst (λ m. m < max_round_receives) (sym receives) (few_next n k);
      still = λ some none. (goes_more n k (λ z. some (receives ∙ z))).some (ap length none);
      left = ap (λ (l : Progress). l.left) c.progress_is;
      unsaid = ap (λ (l : Progress). l.unsaid) c.progress_is;
      foreign = omega (arith, same_foreign, most);
      few_foreign = λ is_busy. subst (λ m. m < max_strays) (sym same_foreign) (counted.few is_busy);
      same = λ idle. all_still at old new (expires_idle idle) (none_open old progress until busy may.waits idle);
      same_gathered = λ idle. gathered_still at old new (expires_idle idle);
      none_open = λ idle. all_closed at old new (expires_idle idle) (none_open old progress until busy may.waits idle);
    }

-- and after its reply
pub got_received : (accepts : Accepts) (tags : Tags) (server : ServeSetting) (busy : Bool) (from : Addr) (bytes : List ℕ) (until at : ℕ) (old new : List Seeker) (progress progress' after : Progress) (host host' : Hands) (owed : Option Owed) (was_sent : Bool) → after ≡ after_paid progress' was_sent → MayReceive old progress until busy → Comes accepts tags server busy from bytes at old new progress progress' host host' owed → Received busy old new progress after
got_received accepts tags server busy from bytes until at old new progress progress' after host host' owed was_sent paid may c =
    let more : progress'.received ≡ progress.received + 1 = ap (λ (l : Progress). l.received) c.progress_is in
    let same : progress'.replied ≡ progress.replied = ap (λ (l : Progress). l.replied) c.progress_is in
    let replied = may.counted.replied in
    subst (Received busy old new progress) (sym paid) (paid_received busy old new progress progress' was_sent (omega (arith, more, same, replied)) (come_received accepts tags server busy from bytes until at old new progress progress' host host' owed may c))

-- there is room to count it
pub got_may_count : (accepts : Accepts) (tags : Tags) (server : ServeSetting) (busy : Bool) (from : Addr) (bytes : List ℕ) (until at : ℕ) (old new : List Seeker) (progress progress' : Progress) (host host' : Hands) (owed : Option Owed) → MayReceive old progress until busy → Comes accepts tags server busy from bytes at old new progress progress' host host' owed → progress'.replied + 1 < 2 ^ 64
got_may_count accepts tags server busy from bytes until at old new progress progress' host host' owed may c = may_count_reply old progress progress' until busy may (ap (λ (l : Progress). l.replied) c.progress_is)

pub quiet_received : (busy : Bool) (until at : ℕ) (old new : List Seeker) (progress progress' : Progress) (host host' : Hands) → MayReceive old progress until busy → Passes at old new progress progress' host host' → Received busy old new progress progress'
quiet_received busy until at old new progress progress' host host' may c =
    let receives : progress'.receives ≡ 0 = ap (λ (l : Progress). l.receives) c.progress_is in
    let same_foreign : progress'.foreign ≡ progress.foreign = ap (λ (l : Progress). l.foreign) c.progress_is in
    let same_received : progress'.received ≡ progress.received = ap (λ (l : Progress). l.received) c.progress_is in
    let same_replied : progress'.replied ≡ progress.replied = ap (λ (l : Progress). l.replied) c.progress_is in
    let fewer = fewer_expired at old new c.expires in
    let only = all_expired at old new c.expires in
    record {
      holds = expired_hold at old new c.expires;
      longer = mid_longer at old old new (all_longer old) c.expires;
      only_heard = only;
      driven_on = expired_driven at old new c.expires;
      seats = expired_seats at old new c.expires;
      counted = counts_on old new progress progress' may.counted (same_asks old new only) (omega (arith, fewer, same_received, same_foreign)) same_replied (omega (arith, same_received));
      round = inl receives;
      few_receives = omega (arith, receives);
      still = λ some none. absurd (some receives);
      left = ap (λ (l : Progress). l.left) c.progress_is;
      unsaid = ap (λ (l : Progress). l.unsaid) c.progress_is;
      foreign = omega (arith, same_foreign);
      few_foreign = λ is_busy. subst (λ m. m < max_strays) (sym same_foreign) (few_while old progress until busy may.waits is_busy);
      same = λ idle. all_still at old new c.expires (none_open old progress until busy may.waits idle);
      same_gathered = λ idle. gathered_still at old new c.expires;
      none_open = λ idle. all_closed at old new c.expires (none_open old progress until busy may.waits idle);
    }

-- a reply changes no moment
pub paid_moment : (progress : Progress) (was_sent : Bool) → (after_paid progress was_sent).moment ≡ progress.moment
paid_moment progress true = refl
paid_moment progress false = refl

-- no moment is before the last
pub got_later : (accepts : Accepts) (tags : Tags) (server : ServeSetting) (busy : Bool) (from : Addr) (bytes : List ℕ) (at : ℕ) (old new : List Seeker) (progress progress' after : Progress) (host host' : Hands) (owed : Option Owed) (was_sent : Bool) → after ≡ after_paid progress' was_sent → Comes accepts tags server busy from bytes at old new progress progress' host host' owed → progress.moment ≤ at → progress.moment ≤ after.moment
got_later accepts tags server busy from bytes at old new progress progress' after host host' owed was_sent paid c later = subst (λ m. progress.moment ≤ m) (sym (ap (λ (l : Progress). l.moment) paid ∙ paid_moment progress' was_sent ∙ ap (λ (l : Progress). l.moment) c.progress_is)) later

pub quiet_later : (at : ℕ) (old new : List Seeker) (progress progress' : Progress) (host host' : Hands) → Passes at old new progress progress' host host' → progress.moment ≤ at → progress.moment ≤ progress'.moment
quiet_later at old new progress progress' host host' c later = subst (λ m. progress.moment ≤ m) (sym (ap (λ (l : Progress). l.moment) c.progress_is)) later

-- ---- ended early

abbrev pub IsEarly : ManyFault → List Event → Type 0
IsEarly fault more = (more ≡ []) ⊎ ((fault ≢ LinkFault) × (from : Addr) × (bytes : List ℕ) × (until : ℕ) × (at : ℕ) × (more ≡ Got from bytes until at ∷ []))

early_of : (busy : Bool) (fault : ManyFault) (f : Frame) (count : ℕ) (old : Stand) (read : Reading) (es fs : List Event) → ManyShow busy f count old.seekers old.progress old.words.place None read es → IsEarly fault fs → ShowsEarly busy fault f count old read (es ++ fs)
early_of busy fault f count old read es fs h (inl is) = record { front = es; shows = h; whole = inl (ap (λ l. es ++ l) is ∙ append-nil es) }
early_of busy fault f count old read es fs h (inr got) = record { front = es; shows = h; whole = inr (got.0, got.1, got.2, got.3, got.4, ap (λ l. es ++ l) got.5) }

pub stops_early : (busy : Bool) (fault : ManyFault) (accepts : Accepts) (tags : Tags) (server : ServeSetting) (old : Stand) (told' : Option (List Event)) → Grows old.told told' (IsEarly fault) → Stops busy fault accepts tags server old told'
stops_early busy fault accepts tags server old told' grows f count read began is h = grows_then began old.told told' _ _ _ h grows (λ es fs shows e. early_of busy fault f count old read es fs shows e)

pub ends_by_foreign : (busy : Bool) (accepts : Accepts) (tags : Tags) (server : ServeSetting) (from : Addr) (bytes : List ℕ) (until at : ℕ) (old : Stand) (told' : Option (List Event)) → MayReceive old.seekers old.progress until busy → IsLastForeign accepts from bytes busy old.seekers old.progress
    → Grows old.told told' (λ es. es ≡ Got from bytes until at ∷ []) → EndsByForeign busy accepts tags server old told'
ends_by_foreign busy accepts tags server from bytes until at old told' may last grows f count read began is h =
    grows_then began old.told told' _ _ _ h grows (λ es fs shows e. record {
      front = es;
      shows = shows;
      from = from;
      bytes = bytes;
      until = until;
      at = at;
      last = ap (λ l. es ++ l) e;
      some_open = some_shown old.seekers shows.end.each shows.keeps_each (some_waits old.seekers old.progress until busy may.waits last.is_open);
      foreign = subst (λ a. IsForeign a from bytes (map whose old.seekers) shows.end.each) (sym is.accepts_is) (all_stray accepts from bytes old.seekers shows.end.each shows.keeps_each last.none);
      number_is = ap (λ n. n + 1) shows.keeps_progress.foreign ∙ last.last;
    })
  where
    some_waits : (ks : List Seeker) (progress : Progress) (until : ℕ) (busy : Bool) → WaitsFor ks progress until busy → busy ≡ true → queries_of ks ≢ []
    some_waits ks progress until busy (waits_replies is some waits few) is_busy = some
    some_waits ks progress until busy (waits_follow_ups is none over one waits) is_busy = (let t : true ≡ false = sym is_busy ∙ is in absurd cc)
    some_waits ks progress until busy (waits_others is none over unsaid round left before waits) is_busy = (let t : true ≡ false = sym is_busy ∙ is in absurd cc)

-- what holds of each lookup before the time passes
pub handled_hold : (accepts : Accepts) (tags : Tags) (server : ServeSetting) (busy : Bool) (from : Addr) (bytes : List ℕ) (at : ℕ) (old mid : List Seeker) (progress counted : Progress) (host between : Hands) (owed : Option Owed) → AllByRecursion Holding old → Handles accepts tags server busy from bytes at old mid progress counted host between owed → AllByRecursion Holding mid
handled_hold accepts tags server busy from bytes at old mid progress counted host between owed holds (is_taken t is b o) = first_holds accepts from bytes old mid holds t
handled_hold accepts tags server busy from bytes at old mid progress counted host between owed holds (is_foreign none m counts answers) = subst (AllByRecursion Holding) (sym m) holds

-- a fault that is passed on is that of the call
pub err_moved : {T U : Type 0} (x fault : ManyFault) → IsErrOf {T = T} {E = ManyFault} (Err x) fault → IsErrOf {T = U} {E = ManyFault} (Err x) fault
err_moved {T} {U} x fault is =
    let there : ◌≡◌ {A = Result T ManyFault} (Err x) (Err fault) = is in
    let same : x ≡ fault = cc in
    let here : ◌≡◌ {A = Result U ManyFault} (Err x) (Err fault) = cc in
    here

pub not_fault : {T : Type 0} (x fault : ManyFault) → ¬ IsErrOf {T = T} {E = ManyFault} (Err x) fault → x ≢ fault
not_fault {T} x fault is_not same =
    let here : ◌≡◌ {A = Result T ManyFault} (Err x) (Err fault) = ap (λ (y : ManyFault). Err y) same in
    is_not here
