-- The receives of a round of all lookups, one after another.
use Rattle.std.proofs.Common.{◌≡◌, ◌≢◌, ◌⊎◌, ℕ, zero, suc, ◌+◌, ◌<◌, ◌≤◌, List, [], ◌∷◌, ◌++◌, Option, None, Bool, true, false, inl, inr, refl, sym, ap, subst, ◌∙◌, arith}
use Rattle.std.specs.Prelude.{map}
use Rattle.std.specs.List.{AllByRecursion, AllZip}
use Rattle.std.proofs.lemmas.List.{append_assoc}
use Rattle.kad_base.specs.declared.types.Event.{Event}
use Rattle.kad_base.specs.Limits.{max_round_receives}
use Rattle.kad_base.specs.Outside.{Grows}
use Rattle.query_book.specs.declared.Query.{Query}
use Rattle.lookup_core.specs.Sealed.{Accepts}
use Rattle.lookup_core.proofs.Waiting.{still_to}
use Rattle.node_serve.specs.declared.setting.ServeSetting.{ServeSetting}
use Rattle.node_serve.specs.Sealing.{Tags}
use Rattle.serve_crew.specs.Hands.{Hands, SameHands}
use Rattle.serve_crew.proofs.Growing.{same_none, same_more}
use Rattle.lookup_core.specs.declared.quest.Quest.{Quest}
use Rattle.lookup_crowd.specs.declared.seeker.Seeker.{Seeker}
use Rattle.lookup_crowd.specs.declared.seeker.Progress.{Progress}
use Rattle.lookup_crowd.specs.declared.seeker.ManyFault.{ManyFault}
use Rattle.lookup_crowd.specs.Many.{nothing_read, and_then, WaitsUntil}
use Rattle.lookup_crowd.specs.inner.Crowd.{whose, IsLegal, Longer, DrivenOn, SameSeat, queries_of, ManyShow, Stand, Advances}
use Rattle.lookup_crowd.specs.inner.ManySteps.{for_replies, MayReceive, MayAwait, Received, ReceivedAll, Stops, EndsByForeign, RanOn, EndsEarly, EndsLast}
use Rattle.lookup_crowd.proofs.Heard.{all_then, same_driven, driven_then, same_seats, seats_then}
use Rattle.lookup_crowd.proofs.Hosting.{ran_none, ran_then}
use Rattle.lookup_crowd.proofs.Telling.{all_longer}
use Rattle.lookup_crowd.proofs.Walking.{nothing_after, then_assoc}

pub may_receive : (ks : List Seeker) (progress : Progress) (until : ℕ) → MayAwait ks progress → WaitsUntil progress.receives progress.moment (map (λ (q : Query). q.deadline) (queries_of ks)) until → MayReceive ks progress until true
may_receive ks progress until may waits = record {
  holds = may.holds;
  waits = for_replies refl may.some_open waits may.few_foreign;
  in_turn = may.in_turn;
  few_receives = may.few_receives;
  room = (let few = may.few_foreign in omega (arith, few));
  counted = may.counted;
}

-- the next of the round
pub may_go_on : (old new : List Seeker) (progress progress' : Progress) → Received true old new progress progress' → progress'.receives ≢ 0 → MayAwait new progress'
may_go_on old new progress progress' r some = record { holds = r.holds; some_open = r.still some; in_turn = λ z. absurd (some z); few_receives = r.few_receives; few_foreign = r.few_foreign refl; counted = r.counted }

-- ---- one after the other

longer_one : (a b c : Seeker) → Longer a b → Longer b c → Longer a c
longer_one a b c g h = record {
  more = g.more ++ h.more;
  quest = h.quest ∙ g.quest;
  setting = h.setting ∙ g.setting;
  journal = h.journal ∙ ap (λ J. J ++ h.more) g.journal ∙ append_assoc a.lookup.book.journal g.more h.more;
  gathered = λ is. h.gathered (ap (λ (q : Quest). q.kind) g.quest ∙ is) ∙ g.gathered is;
}

pub longer_then : (olds mids news : List Seeker) → AllZip Longer olds mids → AllZip Longer mids news → AllZip Longer olds news
longer_then [] [] [] g h = tt
longer_then [] [] (n ∷ news) g h = absurd h
longer_then [] (m ∷ mids) news g h = absurd g
longer_then (o ∷ olds) [] news g h = absurd g
longer_then (o ∷ olds) (m ∷ mids) [] g h = absurd h
longer_then (o ∷ olds) (m ∷ mids) (n ∷ news) g h = (longer_one o m n g.0 h.0, longer_then olds mids news g.1 h.1)

pub received_next : (old mid new : List Seeker) (progress between progress' : Progress) → ReceivedAll old mid progress between → Received true mid new between progress' → between.moment ≤ progress'.moment → ReceivedAll old new progress progress'
received_next old mid new progress between progress' a r later = record { holds = r.holds; longer = longer_then old mid new a.longer r.longer; only_heard = all_then old mid new a.only_heard r.only_heard; driven_on = driven_then old mid new a.driven_on r.driven_on; seats = seats_then old mid new a.seats r.seats; counted = r.counted; later = (let before = a.later in omega (arith, before, later)); left = (let l = r.left in let m = a.left in omega (arith, l, m)); few_foreign = r.few_foreign refl }

pub advances_none : (busy : Bool) (accepts : Accepts) (tags : Tags) (server : ServeSetting) (s : Stand) → Advances busy [] accepts tags server s s
advances_none busy accepts tags server s = record {
  more = nothing_read;
  owners_are = refl;
  none_told = refl;
  goes = λ f count read began is h. subst (λ r. Grows began s.told (λ events. ManyShow busy f count s.seekers s.progress s.words.place None r events)) (sym (nothing_after read)) h;
  ran = ran_none s.host;
  seed = refl;
}

pub advances_then : (busy : Bool) (m n : List ℕ) (accepts : Accepts) (tags : Tags) (server : ServeSetting) (a b c : Stand) → SameHands a.host b.host → Advances busy m accepts tags server a b → Advances busy n accepts tags server b c → Advances busy (m ++ n) accepts tags server a c
advances_then busy m n accepts tags server a b c same g h = record {
  more = and_then g.more h.more;
  owners_are = ap (λ l. l ++ h.more.owners) g.owners_are ∙ ap (λ l. m ++ l) h.owners_are;
  none_told = ap (λ l. l ++ h.more.told) g.none_told ∙ h.none_told;
  goes = λ f count read began is x.
      subst (λ r. Grows began c.told (λ events. ManyShow busy f count c.seekers c.progress c.words.place None r events)) (then_assoc read g.more h.more)
      (h.goes f count (and_then read g.more) began (record { accepts_is = is.accepts_is; tags_is = is.tags_is; server_is = is.server_is; seed_is = is.seed_is ∙ sym g.seed }) (g.goes f count read began is x));
  ran = ran_then a.host b.host c.host g.more.did g.more.lost h.more.did h.more.lost same g.ran h.ran;
  seed = h.seed ∙ g.seed;
}

-- ---- ended early

-- what stayed of the lookups as far as their last stand
pub record Stays (old new : List Seeker) : Type 0 where
  pub longer : AllZip Longer old new
  pub driven_on : AllZip DrivenOn old new
  pub seats : AllZip SameSeat old new

pub stays_none : (ks : List Seeker) → Stays ks ks
stays_none ks = record { longer = all_longer ks; driven_on = same_driven ks; seats = same_seats ks }

pub stays_then : (olds mids news : List Seeker) → Stays olds mids → Stays mids news → Stays olds news
stays_then olds mids news g h = record { longer = longer_then olds mids news g.longer h.longer; driven_on = driven_then olds mids news g.driven_on h.driven_on; seats = seats_then olds mids news g.seats h.seats }

-- after receives of a round
pub stays_received : (old new : List Seeker) (progress progress' : Progress) → ReceivedAll old new progress progress' → Stays old new
stays_received old new progress progress' r = record { longer = r.longer; driven_on = r.driven_on; seats = r.seats }

pub ends_now : (busy : Bool) (fault : ManyFault) (accepts : Accepts) (tags : Tags) (server : ServeSetting) (s : Stand) (host' : Hands) (told' : Option (List Event)) → AllByRecursion IsLegal s.seekers → Stops busy fault accepts tags server s told' → RanOn s.host host' → EndsEarly busy fault accepts tags server s host' told'
ends_now busy fault accepts tags server s host' told' legal stops ran =
    let k = stays_none s.seekers in
    record { last = s; advances = advances_none busy accepts tags server s; same = same_none s.host; legal = legal; longer = k.longer; driven_on = k.driven_on; seats = k.seats; same_whose = λ idle. refl; same_gathered = λ idle. refl; stops = stops; ran_on = ran }

pub ends_last_now : (accepts : Accepts) (tags : Tags) (server : ServeSetting) (s : Stand) (host' : Hands) (told' : Option (List Event)) → AllByRecursion IsLegal s.seekers → EndsByForeign true accepts tags server s told' → RanOn s.host host' → EndsLast accepts tags server s host' told'
ends_last_now accepts tags server s host' told' legal ends ran =
    let k = stays_none s.seekers in
    record { last = s; advances = advances_none true accepts tags server s; same = same_none s.host; legal = legal; longer = k.longer; driven_on = k.driven_on; seats = k.seats; ends = ends; ran_on = ran }

pub ends_after : (busy : Bool) (fault : ManyFault) (accepts : Accepts) (tags : Tags) (server : ServeSetting) (s t : Stand) (host' : Hands) (told' : Option (List Event)) → SameHands s.host t.host → Stays s.seekers t.seekers → (busy ≡ false → map whose t.seekers ≡ map whose s.seekers) → (busy ≡ false → map (λ (k : Seeker). k.gathered) t.seekers ≡ map (λ (k : Seeker). k.gathered) s.seekers) → Advances busy [] accepts tags server s t → EndsEarly busy fault accepts tags server t host' told' → EndsEarly busy fault accepts tags server s host' told'
ends_after busy fault accepts tags server s t host' told' same stays journals gathered a e =
    let k = stays_then s.seekers t.seekers e.last.seekers stays (record { longer = e.longer; driven_on = e.driven_on; seats = e.seats }) in
    record { last = e.last; advances = advances_then busy [] [] accepts tags server s t e.last same a e.advances; same = same_more s.host t.host e.last.host same e.same; legal = e.legal; longer = k.longer; driven_on = k.driven_on; seats = k.seats; same_whose = λ idle. e.same_whose idle ∙ journals idle; same_gathered = λ idle. e.same_gathered idle ∙ gathered idle; stops = e.stops; ran_on = e.ran_on }

pub ends_last_after : (accepts : Accepts) (tags : Tags) (server : ServeSetting) (s t : Stand) (host' : Hands) (told' : Option (List Event)) → SameHands s.host t.host → Stays s.seekers t.seekers → Advances true [] accepts tags server s t → EndsLast accepts tags server t host' told' → EndsLast accepts tags server s host' told'
ends_last_after accepts tags server s t host' told' same stays a e =
    let k = stays_then s.seekers t.seekers e.last.seekers stays (record { longer = e.longer; driven_on = e.driven_on; seats = e.seats }) in
    record { last = e.last; advances = advances_then true [] [] accepts tags server s t e.last same a e.advances; same = same_more s.host t.host e.last.host same e.same; legal = e.legal; longer = k.longer; driven_on = k.driven_on; seats = k.seats; ends = e.ends; ran_on = e.ran_on }

-- ---- how many receives a round may still have

pub fewer_left : (n m : ℕ) → n ≢ 0 → n < max_round_receives → (m ≡ 0) ⊎ (m ≡ n + 1) → still_to m < still_to n
fewer_left zero m some few next = absurd (some refl)
fewer_left (suc n) m some few (inl z) = subst (λ k. still_to k < still_to (suc n)) (sym z) (omega (arith, few))
fewer_left (suc n) m some few (inr e) = (let is : m ≡ suc (suc n) = omega (arith, e) in subst (λ k. still_to k < still_to (suc n)) (sym is) (omega (arith, few)))
