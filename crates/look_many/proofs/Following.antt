-- The follow-ups, one after another, each with the receive behind it.
use Rattle.std.proofs.Common.{◌≡◌, ℕ, zero, suc, ◌+◌, ◌-◌, ◌<◌, ◌≤◌, List, [], ◌∷◌, ◌++◌, length, Option, Some, None, Bool, true, false, cond, inl, inr, refl, sym, ap, subst, ◌∙◌, arith}
use Rattle.std.specs.Prelude.{map, slice_get, reverse, drop}
use Rattle.std.specs.List.{AllByRecursion, AllZip}
use Rattle.std.proofs.lemmas.List.{append-nil, append_assoc, length-append, length-reverse}
use Rattle.std.proofs.lemmas.Option.{slice_get_within}
use Rattle.kad_base.specs.declared.types.Event.{Event}
use Rattle.kad_base.specs.declared.types.Event.TheVariants.{Sent, Unsent}
use Rattle.kad_base.specs.Outside.{Grows}
use Rattle.kad_base.specs.Words.{word}
use Rattle.kad_base.proofs.Grown.{grows_then, grows_none}
use Rattle.id_puzzles.specs.Drawn.{WordsState}
use Rattle.lookup_core.specs.Sealed.{Accepts}
use Rattle.node_serve.specs.declared.setting.ServeSetting.{ServeSetting}
use Rattle.node_serve.specs.Receives.{tried}
use Rattle.node_serve.specs.Sealing.{Tags}
use Rattle.serve_crew.specs.Hands.{Hands, SameHands}
use Rattle.lookup_crowd.specs.declared.due.FollowUp.{FollowUp}
use Rattle.lookup_crowd.specs.declared.seeker.Seeker.{Seeker}
use Rattle.lookup_crowd.specs.declared.seeker.Progress.{Progress}
use Rattle.lookup_crowd.specs.declared.seeker.ManyFault.{ManyFault}
use Rattle.lookup_crowd.specs.declared.seeker.ManyFault.TheVariants.{NoMemory}
use Rattle.lookup_crowd.specs.Many.{Frame, Shown, Reading, nothing_read, said_by, and_then, follow_bytes, SaysNext}
use Rattle.lookup_crowd.specs.inner.Crowd.{whose, IsLegal, SameSeat, KeepsProgress, ManyShow, Stand, stand, Advances}
use Rattle.lookup_crowd.specs.inner.ManySteps.{for_follow_ups, MayReceive, Received, RanOn, Stops, EndsEarly}
use Rattle.lookup_crowd.proofs.Heard.{same_seats, seats_then}
use Rattle.lookup_crowd.proofs.Hosting.{ran_none, ran_then, ran_on_none}
use Rattle.lookup_crowd.proofs.Walking.{nothing_after, then_assoc, shows_more}
use Rattle.lookup_crowd.proofs.Telling.{none_shown, each_over, all_longer, stops_early, IsEarly}
use Rattle.lookup_crowd.proofs.Rounding.{stays_none, stays_then}
use Rattle.lookup_crowd.proofs.Gone.{hands_then, hands_same, drawn_none, drawn_then}
use Rattle.look_many.specs.inner.Following.{Follows, CarriesOf, IsNext, Says, EndsSaying}
use Rattle.look_many.specs.inner.Serving.{MayServe}
use Rattle.look_many.proofs.Lists.{turned}
use Rattle.look_many.proofs.ServingOn.{over_next, stays_same}

-- after a follow-up one less is left, and it began a round
abbrev pub said_once : Progress → Progress
said_once progress = record progress { receives = 1; unsaid = progress.unsaid - 1 }

-- ---- what the events show

module _ (f : Frame) (count place : ℕ) (read : Reading) (ks : List Seeker) (progress : Progress) (follows : List FollowUp) (follow : FollowUp) (es : List Event) (known : f.follows ≡ follows) (may : MayServe ks progress) (is_next : IsNext follows progress follow) (h : ManyShow false f count ks progress place None read es) where
  after : Shown
  after = record h.end { sends = h.end.sends + 1; receives = 1; followed = h.end.followed + 1 }

  next : slice_get f.follows h.end.followed ≡ Some follow
  next =
      let within = h.keeps_saying.within in
      let left = h.keeps_saying.left in
      let same = ap length known in
      let at : h.end.followed ≡ length follows - progress.unsaid = omega (arith, within, left, same) in
      ap (λ n. slice_get f.follows n) at ∙ ap (λ (l : List FollowUp). slice_get l (length follows - progress.unsaid)) known ∙ is_next

  says_next : (was_sent : Bool) → SaysNext f (map whose ks) h.end follow.to (follow_bytes f.server.proof (word f.seed place) follow.ask) was_sent (said_by follow.owner was_sent) after
  unfolding after
  says_next was_sent = record {
    due = follow;
    none_owed = h.keeps_progress.owed_is;
    none_open = none_shown ks h.end.each h.keeps_each may.none_open;
    over = each_over ks h.end.each may.over h.keeps_each;
    round_over = h.keeps_progress.receives ∙ may.round_over;
    next = next;
    to_is = refl;
    bytes_are = ap (λ n. follow_bytes f.server.proof (word f.seed n) follow.ask) (sym h.keeps_progress.sends);
    read_is = refl;
    after = refl;
  }

  keeps_on : KeepsProgress f (said_once progress) (place + 1) None after
  unfolding after
  keeps_on =
      let st = h.keeps_progress in
      record { moment = st.moment; ends = st.ends; sends = (let e = st.sends in omega (arith, e)); got = st.got; foreign = st.foreign; replied = st.replied; receives = refl; left = st.left; owed_is = st.owed_is }

  pub said_on : (was_sent : Bool) → ManyShow false f count ks (said_once progress) (place + 1) None (and_then read (said_by follow.owner was_sent)) (es ++ tried was_sent follow.to (follow_bytes f.server.proof (word f.seed place) follow.ask) ∷ [])
  unfolding after
  said_on true =
      let lt = slice_get_within f.follows h.end.followed follow next in
      let left = h.keeps_saying.left in
      shows_more false f count place (place + 1) None None read (said_by follow.owner true) ks ks progress (said_once progress) (Sent follow.to (follow_bytes f.server.proof (word f.seed place) follow.ask)) es h after (all_longer ks) (λ idle. refl) (inr (inr (says_next true))) keeps_on h.keeps_each
      (record { within = omega (arith, lt); left = omega (arith, left); some = λ idle one. omega (arith, lt) })
  said_on false =
      let lt = slice_get_within f.follows h.end.followed follow next in
      let left = h.keeps_saying.left in
      shows_more false f count place (place + 1) None None read (said_by follow.owner false) ks ks progress (said_once progress) (Unsent follow.to (follow_bytes f.server.proof (word f.seed place) follow.ask)) es h after (all_longer ks) (λ idle. refl) (inr (inr (says_next false))) keeps_on h.keeps_each
      (record { within = omega (arith, lt); left = omega (arith, left); some = λ idle one. omega (arith, lt) })

-- ---- going on

module _ (follows : List FollowUp) (accepts : Accepts) (tags : Tags) (server : ServeSetting) where
  follows_none : (s : Stand) → Follows follows [] [] accepts tags server s s
  follows_none s = record {
    more = nothing_read;
    owners_are = refl;
    told_are = refl;
    goes = λ f count read began is known h. subst (λ r. Grows began s.told (λ events. ManyShow false f count s.seekers s.progress s.words.place None r events)) (sym (nothing_after read)) h;
    ran = ran_none s.host;
    seed = refl;
  }

  follows_then : (m n p q : List ℕ) (a b c : Stand) → SameHands a.host b.host → Follows follows m p accepts tags server a b → Follows follows n q accepts tags server b c → Follows follows (m ++ n) (p ++ q) accepts tags server a c
  follows_then m n p q a b c same g h = record {
    more = and_then g.more h.more;
    owners_are = ap (λ l. l ++ h.more.owners) g.owners_are ∙ ap (λ l. m ++ l) h.owners_are;
    told_are = ap (λ l. l ++ h.more.told) g.told_are ∙ ap (λ l. p ++ l) h.told_are;
    goes = λ f count read began is known x.
        subst (λ r. Grows began c.told (λ events. ManyShow false f count c.seekers c.progress c.words.place None r events)) (then_assoc read g.more h.more)
        (h.goes f count (and_then read g.more) began (record { accepts_is = is.accepts_is; tags_is = is.tags_is; server_is = is.server_is; seed_is = is.seed_is ∙ sym g.seed }) known (g.goes f count read began is known x));
    ran = ran_then a.host b.host c.host g.more.did g.more.lost h.more.did h.more.lost same g.ran h.ran;
    seed = h.seed ∙ g.seed;
  }

  -- calls that send no follow-up
  follows_of : (made : List ℕ) (s t : Stand) → Advances false made accepts tags server s t → Follows follows made [] accepts tags server s t
  follows_of made s t a = record { more = a.more; owners_are = a.owners_are; told_are = a.none_told; goes = λ f count read began is known h. a.goes f count read began is h; ran = a.ran; seed = a.seed }

  -- one follow-up
  follows_one : (follow : FollowUp) (was_sent : Bool) (ks : List Seeker) (progress progress' : Progress) (words words' : WordsState) (host : Hands) (told told' : Option (List Event)) → MayServe ks progress → IsNext follows progress follow → progress' ≡ said_once progress → words' ≡ record words { place = words.place + 1 }
      → Grows told told' (λ es. es ≡ tried was_sent follow.to (follow_bytes server.proof (word words.seed words.place) follow.ask) ∷ [])
      → Follows follows (follow.owner ∷ []) (cond was_sent (follow.owner ∷ []) []) accepts tags server (stand ks progress words host told) (stand ks progress' words' host told')
  follows_one follow was_sent ks progress progress' words words' host told told' may is_next is drawn grows = record {
    more = said_by follow.owner was_sent;
    owners_are = refl;
    told_are = refl;
    goes = λ f count read began frame known h.
        let now = and_then read (said_by follow.owner was_sent) in
        grows_then began told told' _ _ _ h grows (λ es fs shows e.
        subst (λ (p : Progress). ManyShow false f count ks p words'.place None now (es ++ fs)) (sym is)
        (subst (λ (w : WordsState). ManyShow false f count ks (said_once progress) w.place None now (es ++ fs)) (sym drawn)
        (subst (λ l. ManyShow false f count ks (said_once progress) (words.place + 1) None now (es ++ l)) (sym e)
        (subst (λ (x : List ℕ). ManyShow false f count ks (said_once progress) (words.place + 1) None now (es ++ tried was_sent follow.to (follow_bytes server.proof (word x words.place) follow.ask) ∷ [])) frame.seed_is
        (subst (λ (s : ServeSetting). ManyShow false f count ks (said_once progress) (words.place + 1) None now (es ++ tried was_sent follow.to (follow_bytes s.proof (word f.seed words.place) follow.ask) ∷ [])) frame.server_is
        (said_on f count words.place read ks progress follows follow es known may is_next shows was_sent))))));
    ran = ran_none host;
    seed = ap (λ (w : WordsState). w.seed) drawn;
  }

-- the receive behind it may be made
pub may_follow : (ks : List Seeker) (progress progress' : Progress) (until : ℕ) → MayServe ks progress → 0 < progress.unsaid → progress' ≡ said_once progress → until ≡ progress'.moment → MayReceive ks progress' until false
may_follow ks progress progress' until may some is now = subst (λ (p : Progress). until ≡ p.moment → MayReceive ks p until false) (sym is) (λ at. made at) now
  where
    made : until ≡ progress.moment → MayReceive ks (said_once progress) until false
    made at = record {
      holds = may.holds;
      waits = for_follow_ups refl may.none_open may.over (λ z. absurd (omega (arith, z))) at;
      in_turn = λ z. may.none_asks;
      few_receives = omega arith;
      room = (let room = may.room in omega (arith, room, some));
      counted = record { received = may.counted.received; replied = may.counted.replied; asks = may.counted.asks };
    }

pub over_after : (old new : List Seeker) (progress between progress' : Progress) → MayServe old progress → 0 < progress.unsaid → between ≡ said_once progress → Received false old new between progress' → MayServe new progress'
over_after old new progress between progress' may some is r =
    let unsaid : between.unsaid ≡ progress.unsaid - 1 = ap (λ (p : Progress). p.unsaid) is in
    let same_left : between.left ≡ progress.left = ap (λ (p : Progress). p.left) is in
    let same_foreign : between.foreign ≡ progress.foreign = ap (λ (p : Progress). p.foreign) is in
    let left = r.left in
    let more = r.foreign in
    let still = r.unsaid in
    over_next old new progress between progress' may r (omega (arith, unsaid, same_left, same_foreign, left, more, still, some))

pub unsaid_after : (old new : List Seeker) (progress between progress' : Progress) → between ≡ said_once progress → Received false old new between progress' → progress'.unsaid ≡ progress.unsaid - 1
unsaid_after old new progress between progress' is r = r.unsaid ∙ ap (λ (p : Progress). p.unsaid) is

module _ (follows : List FollowUp) (accepts : Accepts) (tags : Tags) (server : ServeSetting) where
  -- a follow-up, and the receive behind it
  pub says_one : (follow : FollowUp) (was_sent : Bool) (ks ls : List Seeker) (progress between progress' : Progress) (words words' : WordsState) (host host' : Hands) (told mid told' : Option (List Event)) (owners owners' said said' : List ℕ) → MayServe ks progress → 0 < progress.unsaid → IsNext follows progress follow → between ≡ said_once progress → words' ≡ record words { place = words.place + 1 }
      → Grows told mid (λ es. es ≡ tried was_sent follow.to (follow_bytes server.proof (word words.seed words.place) follow.ask) ∷ []) → owners' ≡ owners ++ follow.owner ∷ [] → said' ≡ said ++ cond was_sent (follow.owner ∷ []) [] → SameHands host host' → Received false ks ls between progress'
      → Advances false [] accepts tags server (stand ks between words' host mid) (stand ls progress' words' host' told') → Says follows accepts tags server (stand ks progress words host told) (stand ls progress' words' host' told') owners owners' said said'
  says_one follow was_sent ks ls progress between progress' words words' host host' told mid told' owners owners' said said' may some is_next is drawn grows owned told_too same r a =
      let one = cond was_sent (follow.owner ∷ []) [] in
      record {
        made = follow.owner ∷ [];
        told = one ++ [];
        advances = follows_then follows accepts tags server (follow.owner ∷ []) [] one [] (stand ks progress words host told) (stand ks between words' host mid) (stand ls progress' words' host' told') (hands_same host)
            (follows_one follows accepts tags server follow was_sent ks progress between words words' host told mid may is_next is drawn grows) (follows_of follows accepts tags server [] (stand ks between words' host mid) (stand ls progress' words' host' told') a);
        owners_are = owned;
        said_are = told_too ∙ ap (λ l. said ++ l) (sym (append-nil one));
        drawn = drawn;
        same = same;
        may = over_after ks ls progress between progress' may some is r;
        journals = r.same refl;
        gathered = r.same_gathered refl;
        seats = r.seats;
      }

  pub says_none : (s : Stand) (owners said : List ℕ) → MayServe s.seekers s.progress → Says follows accepts tags server s s owners owners said said
  says_none s owners said may = record {
    made = [];
    told = [];
    advances = follows_none follows accepts tags server s;
    owners_are = sym (append-nil owners);
    said_are = sym (append-nil said);
    drawn = drawn_none s.words;
    same = hands_same s.host;
    may = may;
    journals = refl;
    gathered = refl;
    seats = same_seats s.seekers;
  }

  pub says_then : (a b c : Stand) (o p q t u v : List ℕ) → Says follows accepts tags server a b o p t u → Says follows accepts tags server b c p q u v → Says follows accepts tags server a c o q t v
  says_then a b c o p q t u v g h = record {
    made = g.made ++ h.made;
    told = g.told ++ h.told;
    advances = follows_then follows accepts tags server g.made h.made g.told h.told a b c g.same g.advances h.advances;
    owners_are = h.owners_are ∙ ap (λ l. l ++ h.made) g.owners_are ∙ append_assoc o g.made h.made;
    said_are = h.said_are ∙ ap (λ l. l ++ h.told) g.said_are ∙ append_assoc t g.told h.told;
    drawn = drawn_then a.words b.words c.words g.made h.made g.drawn h.drawn;
    same = hands_then a.host b.host c.host g.same h.same;
    may = h.may;
    journals = h.journals ∙ g.journals;
    gathered = h.gathered ∙ g.gathered;
    seats = seats_then a.seekers b.seekers c.seekers g.seats h.seats;
  }

  -- and then the node serves on
  pub says_served : (a b c : Stand) (o p t u : List ℕ) → Says follows accepts tags server a b o p t u → c.words ≡ b.words → SameHands b.host c.host → Advances false [] accepts tags server b c → MayServe c.seekers c.progress → map whose c.seekers ≡ map whose b.seekers → map (λ (k : Seeker). k.gathered) c.seekers ≡ map (λ (k : Seeker). k.gathered) b.seekers → AllZip SameSeat b.seekers c.seekers → Says follows accepts tags server a c o p t u
  says_served a b c o p t u g words same adv may journals gathered seats = says_then a b c o p p t u u g (record {
    made = [];
    told = [];
    advances = follows_of follows accepts tags server [] b c adv;
    owners_are = sym (append-nil p);
    said_are = sym (append-nil u);
    drawn = words ∙ drawn_none b.words;
    same = same;
    may = may;
    journals = journals;
    gathered = gathered;
    seats = seats;
  })

  -- ---- ended early

  -- before the follow-up went out
  pub ends_unsaid : (ks : List Seeker) (progress : Progress) (words words' : WordsState) (host : Hands) (told told' : Option (List Event)) → AllByRecursion IsLegal ks → words' ≡ words → told' ≡ told → EndsSaying NoMemory follows accepts tags server (stand ks progress words host told) words' host told'
  ends_unsaid ks progress words words' host told told' legal same_words same_told =
      let s = stand ks progress words host told in
      let k = stays_none ks in
      record {
        last = s;
        made = [];
        told = [];
        advances = follows_none follows accepts tags server s;
        drawn = same_words ∙ drawn_none words;
        same = hands_same host;
        legal = legal;
        longer = k.longer;
        driven_on = k.driven_on;
        seats = k.seats;
        journals = refl;
        gathered = refl;
        stops = stops_early false NoMemory accepts tags server s told' (subst (λ (x : Option (List Event)). Grows told x (IsEarly NoMemory)) (sym same_told) (grows_none told (IsEarly NoMemory) (inl refl)));
        ran_on = ran_on_none host;
      }

  -- in the receive behind it
  pub ends_said : (fault : ManyFault) (follow : FollowUp) (was_sent : Bool) (ks : List Seeker) (progress between : Progress) (words words' : WordsState) (host host' : Hands) (told mid told' : Option (List Event)) → MayServe ks progress → IsNext follows progress follow → between ≡ said_once progress → words' ≡ record words { place = words.place + 1 }
      → Grows told mid (λ es. es ≡ tried was_sent follow.to (follow_bytes server.proof (word words.seed words.place) follow.ask) ∷ []) → AllByRecursion IsLegal ks → Stops false fault accepts tags server (stand ks between words' host mid) told' → RanOn host host' → EndsSaying fault follows accepts tags server (stand ks progress words host told) words' host' told'
  ends_said fault follow was_sent ks progress between words words' host host' told mid told' may is_next is drawn grows legal stops ran =
      let k = stays_none ks in
      record {
        last = stand ks between words' host mid;
        made = follow.owner ∷ [];
        told = cond was_sent (follow.owner ∷ []) [];
        advances = follows_one follows accepts tags server follow was_sent ks progress between words words' host told mid may is_next is drawn grows;
        drawn = drawn;
        same = hands_same host;
        legal = legal;
        longer = k.longer;
        driven_on = k.driven_on;
        seats = k.seats;
        journals = refl;
        gathered = refl;
        stops = stops;
        ran_on = ran;
      }

  -- after some had gone out
  pub ends_saying_after : (fault : ManyFault) (a b : Stand) (o p t u : List ℕ) (words' : WordsState) (host' : Hands) (told' : Option (List Event)) → Says follows accepts tags server a b o p t u → EndsSaying fault follows accepts tags server b words' host' told' → EndsSaying fault follows accepts tags server a words' host' told'
  ends_saying_after fault a b o p t u words' host' told' g e =
      let k = stays_then a.seekers b.seekers e.last.seekers (stays_same a.seekers b.seekers g.journals g.gathered g.seats) (record { longer = e.longer; driven_on = e.driven_on; seats = e.seats }) in
      record {
        last = e.last;
        made = g.made ++ e.made;
        told = g.told ++ e.told;
        advances = follows_then follows accepts tags server g.made e.made g.told e.told a b e.last g.same g.advances e.advances;
        drawn = drawn_then a.words b.words words' g.made e.made g.drawn e.drawn;
        same = hands_then a.host b.host e.last.host g.same e.same;
        legal = e.legal;
        longer = k.longer;
        driven_on = k.driven_on;
        seats = k.seats;
        journals = e.journals ∙ g.journals;
        gathered = e.gathered ∙ g.gathered;
        stops = e.stops;
        ran_on = e.ran_on;
      }

  -- as the node served on
  pub ends_served : (fault : ManyFault) (b : Stand) (words' : WordsState) (host' : Hands) (told' : Option (List Event)) → words' ≡ b.words → EndsEarly false fault accepts tags server b host' told' → EndsSaying fault follows accepts tags server b words' host' told'
  ends_served fault b words' host' told' words e = record {
    last = e.last;
    made = [];
    told = [];
    advances = follows_of follows accepts tags server [] b e.last e.advances;
    drawn = words ∙ drawn_none b.words;
    same = e.same;
    legal = e.legal;
    longer = e.longer;
    driven_on = e.driven_on;
    seats = e.seats;
    journals = e.same_whose refl;
    gathered = e.same_gathered refl;
    stops = e.stops;
    ran_on = e.ran_on;
  }

-- ---- the list

front_of : {A : Type 0} (n : ℕ) (xs rest : List A) (x : A) → drop n xs ≡ x ∷ rest → slice_get xs n ≡ Some x
front_of n [] rest x e = absurd (no_front n e)
  where
    no_front : {A : Type 0} {x : A} {rest : List A} (n : ℕ) → drop n [] ≡ x ∷ rest → ⊥
    no_front zero e = absurd cc
    no_front (suc n) e = absurd cc
front_of zero (y ∷ xs) rest x e = (let same : y ≡ x = cc in ap (λ z. Some z) same)
front_of (suc n) (y ∷ xs) rest x e = front_of n xs rest x e

behind_of : {A : Type 0} (n m : ℕ) (xs rest : List A) (x : A) → suc n ≡ m → drop n xs ≡ x ∷ rest → drop m xs ≡ rest
behind_of n m xs rest x is e = ap (λ k. drop k xs) (sym is) ∙ next n xs rest x e
  where
    next : {A : Type 0} (n : ℕ) (xs rest : List A) (x : A) → drop n xs ≡ x ∷ rest → drop (suc n) xs ≡ rest
    next zero [] rest x e = absurd cc
    next (suc n) [] rest x e = absurd cc
    next zero (y ∷ xs) rest x e = cc
    next (suc n) (y ∷ xs) rest x e = next n xs rest x e

-- which of them are left, the first one last
pub record AreLeft (plan left : List FollowUp) (unsaid : ℕ) : Type 0 where
  pub are : reverse left ≡ drop (length plan - unsaid) plan
  pub count : length left ≡ unsaid
  pub within : unsaid ≤ length plan
  pub carried : AllByRecursion CarriesOf (reverse left)

pub left_first : (plan left : List FollowUp) (unsaid : ℕ) → reverse left ≡ plan → unsaid ≡ length plan → AllByRecursion CarriesOf plan → AreLeft plan left unsaid
left_first plan left unsaid are count carried =
    let none : length plan - unsaid ≡ 0 = omega (arith, count) in
    record {
      are = are ∙ ap (λ n. drop n plan) (sym none);
      count = sym (length-reverse left) ∙ ap length are ∙ sym count;
      within = omega (arith, count);
      carried = subst (AllByRecursion CarriesOf) (sym are) carried;
    }

module _ (plan left rest : List FollowUp) (follow : FollowUp) (unsaid : ℕ) (h : AreLeft plan left unsaid) (is : left ≡ rest ++ follow ∷ []) where
  pub left_some : 0 < unsaid
  left_some = (let count = h.count in let l = ap length is ∙ length-append rest (follow ∷ []) in omega (arith, count, l))

  pub left_carries : CarriesOf follow
  left_carries = (subst (AllByRecursion CarriesOf) (turned left rest follow is) h.carried).0

  pub left_next : (progress : Progress) → progress.unsaid ≡ unsaid → IsNext plan progress follow
  left_next progress same = ap (λ n. slice_get plan (length plan - n)) same ∙ front_of (length plan - unsaid) plan (reverse rest) follow (sym h.are ∙ turned left rest follow is)

  pub left_after : (unsaid' : ℕ) → unsaid' ≡ unsaid - 1 → AreLeft plan rest unsaid'
  left_after unsaid' less =
      let some = left_some in
      let count = h.count in
      let within = h.within in
      let l = ap length is ∙ length-append rest (follow ∷ []) in
      record {
        are = sym (behind_of (length plan - unsaid) (length plan - unsaid') plan (reverse rest) follow (omega (arith, some, less, within)) (sym h.are ∙ turned left rest follow is));
        count = omega (arith, count, l, less);
        within = omega (arith, within, less);
        carried = (subst (AllByRecursion CarriesOf) (turned left rest follow is) h.carried).1;
      }
