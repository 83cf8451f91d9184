-- From where all lookups stand to what the events tell of their journals.
use Rattle.std.proofs.Common.{◌≡◌, ◌⊎◌, ℕ, List, [], ◌∷◌, None, Bool, true, false, inl, inr, refl, sym, ap, subst, ◌∙◌, arith}
use Rattle.std.specs.Prelude.{length, map, replicate}
use Rattle.std.specs.List.{AllByRecursion, AllZip}
use Rattle.kad_base.specs.declared.types.Id.{Id}
use Rattle.kad_base.specs.declared.types.Event.{Event}
use Rattle.kad_base.specs.declared.types.Event.TheVariants.{Now, Sent, Unsent, Got, Quiet}
use Rattle.lookup_core.specs.LookupSteps.{as_open}
use Rattle.lookup_core.proofs.Gathering.{begun_keeping, gathers_of}
use Rattle.node_serve.specs.Lasting.{end_of, is_over}
use Rattle.lookup_crowd.specs.declared.due.FollowUp.{FollowUp}
use Rattle.lookup_crowd.specs.declared.seeker.Seeker.{Seeker}
use Rattle.lookup_crowd.specs.declared.seeker.Progress.{Progress}
use Rattle.lookup_crowd.specs.declared.seeker.ManyFault.{ManyFault}
use Rattle.lookup_crowd.specs.Mine.{Mine, Whose, driven}
use Rattle.lookup_crowd.specs.Many.{Frame, Shown, Reading, nothing_read, MayWait, for_replies, for_follow_ups, for_others, Receives, IsTaken, IsAnsweredFor, Gives, GivesFrom, fresh, begun, ManyTellSoFar, ManyTell, EndsAtForeign}
use Rattle.lookup_crowd.specs.inner.Crowd.{whose, queries_of, KeepsMine, framed, ManyShow, Stand}
use Rattle.lookup_crowd.specs.inner.ManySteps.{ShowsEarly, ShowsForeign}
use Rattle.lookup_crowd.proofs.Walking.{none_due}
use Rattle.lookup_crowd.proofs.Telling.{none_shown}
use Rattle.look_many.specs.declared.found.One.{One}
use Rattle.look_many.specs.declared.job.Job.{Job}
use Rattle.look_many.specs.ManyLooked.{AllGather, AreSent, ManyTold, TellsEarly}
use Rattle.look_many.specs.inner.Seats.{IsFresh, count_of, IsHanded}
use Rattle.look_many.specs.inner.Serving.{HasEnough}
use Rattle.look_many.specs.Planned.{follows_read}
use Rattle.look_many.specs.inner.Kept.{follows_kept}
use Rattle.look_many.proofs.Planning.{IsOfKind, kept_read}

-- ---- the beginning

each_fresh : (ks : List Seeker) → AllByRecursion IsFresh ks → AllZip KeepsMine ks (replicate (count_of ks) fresh)
each_fresh [] h = tt
each_fresh (k ∷ ks) h = (record { queries = sym (ap (map (as_open k.lookup.book.journal)) h.0.none_open); given = sym h.0.none_driven; gathered = begun_keeping k.quest.kind k.gathered h.0.bare.no_peers h.0.bare.no_tokens h.0.bare.no_items }, each_fresh ks h.1)

pub begins : (f : Frame) (at : ℕ) (ks : List Seeker) → AllByRecursion IsFresh ks → ManyShow true f (count_of ks) ks (record { moment = at; receives = 0; foreign = 0; left = f.wanted; end = end_of at f.minutes; received = 0; replied = 0; unsaid = 0 }) f.place None nothing_read (Now at ∷ [])
begins f at ks h = record {
  at = at;
  rest = [];
  first = refl;
  end = begun f.minutes (count_of ks) at;
  walk = (refl, refl);
  keeps_progress = record { moment = refl; ends = refl; sends = omega arith; got = refl; foreign = refl; replied = refl; receives = refl; left = omega arith; owed_is = refl };
  keeps_each = each_fresh ks h;
  keeps_saying = record { within = omega arith; left = refl; some = λ e. absurd cc };
}

-- ---- more receives may be wanted

waits_more : (wanted : ℕ) (follows : List FollowUp) (ws : List Whose) (s : Shown) (until : ℕ) → MayWait 0 [] ws s until → MayWait wanted follows ws s until
waits_more wanted follows ws s until (for_replies some waits) = for_replies some waits
waits_more wanted follows ws s until (for_follow_ups some none over one is) = absurd (omega (arith, some))
waits_more wanted follows ws s until (for_others none over said round fewer before is) = absurd (omega (arith, fewer))

receives_more : (wanted : ℕ) (follows : List FollowUp) (ws : List Whose) (s : Shown) (until : ℕ) → Receives 0 [] ws s until → Receives wanted follows ws s until
receives_more wanted follows ws s until h = record { none_owed = h.none_owed; waits = waits_more wanted follows ws s until h.waits; asked = h.asked }

gives_more : (f : Frame) (ws : List Whose) (s t : Shown) (e : Event) (read : Reading) → Gives (framed true f) ws s e read t → Gives f ws s e read t
gives_more f ws s t (Now at) read h = h
gives_more f ws s t (Sent to bytes) read (inl h) = inl h
gives_more f ws s t (Sent to bytes) read (inr (inl h)) = inr (inl h)
gives_more f ws s t (Sent to bytes) read (inr (inr h)) = absurd (none_due f ws s t to bytes true read h)
gives_more f ws s t (Unsent to bytes) read (inl h) = inl h
gives_more f ws s t (Unsent to bytes) read (inr (inl h)) = inr (inl h)
gives_more f ws s t (Unsent to bytes) read (inr (inr h)) = absurd (none_due f ws s t to bytes false read h)
gives_more f ws s t (Got from bytes until at) read h = (receives_more f.wanted f.follows ws s until h.0, again h.1)
  where
    again : IsTaken (framed true f) ws s from bytes at read t ⊎ IsAnsweredFor (framed true f) ws s from bytes at read t → IsTaken f ws s from bytes at read t ⊎ IsAnsweredFor f ws s from bytes at read t
    again (inl x) = inl (record { each = x.each; first = x.first; read_is = x.read_is; after = x.after })
    again (inr x) = inr (record { foreign = x.foreign; did = x.did; read_is = x.read_is; few = x.few; owed = x.owed; owes = x.owes; after = x.after })
gives_more f ws s t (Quiet until at) read h = (receives_more f.wanted f.follows ws s until h.0, h.1, h.2)

walk_more : (f : Frame) (ws : List Whose) (s : Shown) (es : List Event) (t : Shown) (read : Reading) → GivesFrom (framed true f) ws s es t read → GivesFrom f ws s es t read
walk_more f ws s [] t read h = h
walk_more f ws s (e ∷ es) t read h = (h.0, h.1, h.2, gives_more f ws s h.0 e h.1 h.3, walk_more f ws h.0 es t h.2 h.4, h.5)

walk_whole : (busy : Bool) (f : Frame) (ws : List Whose) (s : Shown) (es : List Event) (t : Shown) (read : Reading) → GivesFrom (framed busy f) ws s es t read → GivesFrom f ws s es t read
walk_whole true f ws s es t read h = walk_more f ws s es t read h
walk_whole false f ws s es t read h = h

-- all lookups are over, and all follow-ups have still to go out
pub goes_on_with : (f : Frame) (count place : ℕ) (ks : List Seeker) (progress : Progress) (read : Reading) (events : List Event) → progress.receives ≡ 0 → ManyShow true f count ks progress place None read events → ManyShow false f count ks (record progress { unsaid = length f.follows }) place None read events
goes_on_with f count place ks progress read events round h =
    let st = h.keeps_progress in
    let none = h.keeps_saying.within in
    record {
      at = h.at;
      rest = h.rest;
      first = h.first;
      end = h.end;
      walk = walk_more f (map whose ks) (begun f.minutes count h.at) h.rest h.end read h.walk;
      keeps_progress = record { moment = st.moment; ends = st.ends; sends = st.sends; got = st.got; foreign = st.foreign; replied = st.replied; receives = st.receives; left = st.left; owed_is = st.owed_is };
      keeps_each = h.keeps_each;
      keeps_saying = record { within = omega (arith, none); left = omega (arith, none); some = λ e one. absurd (one round) };
    }

-- ---- the ends

each_given : (ks : List Seeker) (ms : List Mine) → AllZip KeepsMine ks ms → AllZip (λ (w : Whose) (m : Mine). m.given ≡ driven w.journal) (map whose ks) ms
each_given [] [] h = tt
each_given [] (m ∷ ms) h = absurd h
each_given (k ∷ ks) [] h = absurd h
each_given (k ∷ ks) (m ∷ ms) h = (h.0.given, each_given ks ms h.1)

pub tells_so_far : (busy : Bool) (f : Frame) (place : ℕ) (ks : List Seeker) (progress : Progress) (read : Reading) (events : List Event) (h : ManyShow busy f (count_of ks) ks progress place None read events) → ManyTellSoFar f (map whose ks) events read h.end
tells_so_far busy f place ks progress read events h =
    subst (λ l. ManyTellSoFar f (map whose ks) l read h.end) (sym h.first)
    (walk_whole busy f (map whose ks) (begun f.minutes (count_of ks) h.at) h.rest h.end read h.walk, each_given ks h.end.each h.keeps_each, h.keeps_progress.owed_is)

pub tells_whole : (f : Frame) (place : ℕ) (ks : List Seeker) (progress : Progress) (read : Reading) (events : List Event) → ManyShow false f (count_of ks) ks progress place None read events → queries_of ks ≡ [] → progress.unsaid ≡ 0 → HasEnough progress → ManyTell f (map whose ks) events read
tells_whole f place ks progress read events h none said over = record {
  end = h.end;
  so_far = tells_so_far false f place ks progress read events h;
  none_open = none_shown ks h.end.each h.keeps_each none;
  followed = (let within = h.keeps_saying.within in let left = h.keeps_saying.left in omega (arith, within, left, said));
  enough = elim over [
    | inl none_left ↦ inl (let left = h.keeps_progress.left in omega (arith, left, none_left))
    | inr past ↦ inr (subst (λ m. is_over h.end.ends m ≡ true) (sym h.keeps_progress.moment) (subst (λ o. is_over o progress.moment ≡ true) (sym h.keeps_progress.ends) past))
  ];
}

-- what each found is what it heard
all_gather : (ks : List Seeker) (ms : List Mine) (ones : List One) → AllZip KeepsMine ks ms → AllZip (λ (k : Seeker) (one : One). IsHanded k.gathered one) ks ones → AllGather (map whose ks) ms ones
all_gather [] [] [] k h = tt
all_gather [] [] (o ∷ ones) k h = absurd h
all_gather [] (m ∷ ms) ones k h = absurd k
all_gather (x ∷ ks) [] ones k h = absurd k
all_gather (x ∷ ks) (m ∷ ms) [] k h = absurd h
all_gather (x ∷ ks) (m ∷ ms) (o ∷ ones) k h = (gathers_of x.quest.kind m.heard x.gathered o.peers o.tokens o.items k.0.gathered h.0.peers h.0.tokens h.0.items, all_gather ks ms ones k.1 h.1)

pub told_whole : (f : Frame) (place : ℕ) (ks : List Seeker) (ones : List One) (progress : Progress) (read : Reading) (events : List Event) → ManyShow false f (count_of ks) ks progress place None read events → queries_of ks ≡ [] → progress.unsaid ≡ 0 → HasEnough progress → AllZip (λ (k : Seeker) (one : One). IsHanded k.gathered one) ks ones → AreSent read.told 0 ones
    → ManyTold f (map whose ks) read ones progress.received progress.replied events
unfolding tells_whole
told_whole f place ks ones progress read events h none said over handed sent = record { tell = tells_whole f place ks progress read events h none said over; gathers = all_gather ks h.end.each ones h.keeps_each handed; received_are = sym h.keeps_progress.got; replied_are = sym h.keeps_progress.replied; sent_are = sent }

-- while lookups are open no follow-up went out, and afterwards only those that are owed
owed_early : (busy : Bool) (own : Id) (jobs : List Job) (f : Frame) (place : ℕ) (ks : List Seeker) (progress : Progress) (read : Reading) (events : List Event) (h : ManyShow busy f (count_of ks) ks progress place None read events) → AllZip IsOfKind jobs ks → (busy ≡ true) ⊎ (f.follows ≡ follows_kept own 0 jobs ks)
    → (h.end.followed ≡ 0) ⊎ (f.follows ≡ follows_read own 0 jobs (map whose ks) h.end.each)
owed_early true own jobs f place ks progress read events h kinds planned = inl (let within = h.keeps_saying.within in omega (arith, within))
owed_early false own jobs f place ks progress read events h kinds (inl is) = absurd cc
owed_early false own jobs f place ks progress read events h kinds (inr planned) = inr (planned ∙ kept_read own 0 jobs ks h.end.each kinds h.keeps_each)

pub tells_early : (busy : Bool) (fault : ManyFault) (own : Id) (jobs : List Job) (f : Frame) (old : Stand) (read : Reading) (events : List Event) → AllZip IsOfKind jobs old.seekers → (busy ≡ true) ⊎ (f.follows ≡ follows_kept own 0 jobs old.seekers) → ShowsEarly busy fault f (count_of old.seekers) old read events → TellsEarly fault own jobs f (map whose old.seekers) read events
tells_early busy fault own jobs f old read events kinds planned h = record { front = h.front; end = h.shows.end; so_far = tells_so_far busy f old.words.place old.seekers old.progress read h.front h.shows; owed = owed_early busy own jobs f old.words.place old.seekers old.progress read h.front h.shows kinds planned; whole = h.whole }

pub ends_at_foreign : (busy : Bool) (f : Frame) (old : Stand) (read : Reading) (number : ℕ) (events : List Event) → ShowsForeign busy f (count_of old.seekers) old read number events → EndsAtForeign f (map whose old.seekers) events read number
ends_at_foreign busy f old read number events h = record {
  before = h.front;
  end = h.shows.end;
  from = h.from;
  bytes = h.bytes;
  until = h.until;
  at = h.at;
  so_far = tells_so_far busy f old.words.place old.seekers old.progress read h.front h.shows;
  last = h.last;
  some_open = h.some_open;
  foreign = h.foreign;
  count = h.number_is;
}
