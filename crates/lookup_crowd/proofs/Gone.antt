-- Rounds of several lookups, one after another, from where they began.
use Rattle.std.proofs.Common.{◌≡◌, ℕ, ◌+◌, ◌*◌, ◌<◌, ◌≤◌, List, [], ◌∷◌, ◌++◌, length, Option, Some, None, true, inl, inr, refl, sym, ap, subst, ◌∙◌, arith}
use Rattle.std.specs.Prelude.{Contains}
use Rattle.std.specs.List.{AllByRecursion, AllZip}
use Rattle.std.proofs.lemmas.List.{append-nil, append_assoc, length-append}
use Rattle.kad_base.specs.declared.types.Event.{Event}
use Rattle.kad_base.specs.Limits.{max_strays, max_paths, max_open, max_path_contacts}
use Rattle.kad_base.proofs.Grown.{grows_weaker}
use Rattle.id_puzzles.specs.Drawn.{WordsState}
use Rattle.turn_book.specs.Turns.{TurnState}
use Rattle.contact_table.specs.TableState.{TableState}
use Rattle.kad_base.specs.declared.types.Contact.{Contact}
use Rattle.query_book.specs.declared.Query.{Query}
use Rattle.claim_book.specs.declared.types.Setting.{Setting}
use Rattle.lookup_core.specs.declared.quest.Quest.{Quest}
use Rattle.lookup_core.proofs.Lists.{in_cons, in_first, in_rest}
use Rattle.lookup_core.specs.Sealed.{Accepts}
use Rattle.lookup_core.specs.Timeouts.{deadline_of}
use Rattle.node_serve.specs.declared.setting.ServeSetting.{ServeSetting}
use Rattle.node_serve.specs.Sealing.{Tags}
use Rattle.serve_crew.specs.Hands.{Hands, SameHands, SamePass}
use Rattle.lookup_crowd.specs.declared.seeker.Seeker.{Seeker}
use Rattle.lookup_crowd.specs.declared.seeker.Progress.{Progress}
use Rattle.lookup_crowd.specs.declared.seeker.ManyFault.{ManyFault}
use Rattle.lookup_crowd.specs.declared.seeker.ManyFault.TheVariants.{LinkFault, Strays, NoMemory}
use Rattle.lookup_crowd.specs.Errands.{drawn_by}
use Rattle.lookup_crowd.specs.inner.Crowd.{IsLegal, NoneAsks, Longer, DrivenOn, OnlyHeard, SameSeat, queries_of, asks_of, Stand, Advances}
use Rattle.lookup_crowd.specs.inner.ManySteps.{IsReady, MayAskAll, AsksAll, MayAwait, ReceivedAll, IsSoonest, IsSeated, SettlesSome, SettlesWhole, Stops, EndsEarly, EndsLast, EndsByForeign}
use Rattle.lookup_crowd.specs.inner.Going.{Lives, Goes, HaveGone, Begins, HaveReceived, AreOver, EndGoing, SameSeats}
use Rattle.lookup_crowd.proofs.Counting.{same_asks}
use Rattle.lookup_crowd.proofs.Rounding.{advances_none, advances_then}
use Rattle.lookup_crowd.proofs.Hosting.{ran_on_none}
use Rattle.lookup_crowd.proofs.Settled.{settled_may_ask}
use Rattle.lookup_crowd.proofs.Zips.{zip_weaker, zip_both, zip_then, zip_right, zip_same, zip_length, each_weaker}
use Rattle.lookup_crowd.proofs.Living.{same_pass, lives_driven, goes_driven, lives_settled, goes_settled, goes_same, lives_then, goes_then}

-- ---- whole steps

pub hands_then : (a b c : Hands) → SameHands a b → SameHands b c → SameHands a c
hands_then a b c g h = record {
  table = record { turn = h.table.turn ∙ g.table.turn; role = h.table.role ∙ g.table.role };
  peers = record { turn = h.peers.turn ∙ g.peers.turn; role = h.peers.role ∙ g.peers.role };
  items = record { turn = h.items.turn ∙ g.items.turn; role = h.items.role ∙ g.items.role };
}

pub hands_same : (a : Hands) → SameHands a a
hands_same a = record { table = record { turn = refl; role = refl }; peers = record { turn = refl; role = refl }; items = record { turn = refl; role = refl } }

pub each_driven : (ks ls : List Seeker) → AllZip Longer ks ls → AllZip DrivenOn ks ls → AllZip SameSeat ks ls → AllZip Goes ks ls
each_driven ks ls l d s = zip_both (λ k x. Longer k x × DrivenOn k x) SameSeat Goes (λ k x p e. goes_driven k x p.0 p.1 e) ks ls (zip_both Longer DrivenOn (λ k x. Longer k x × DrivenOn k x) (λ k x a b. (a, b)) ks ls l d) s

pub each_lives : (ks ls : List Seeker) → AllZip Longer ks ls → AllZip DrivenOn ks ls → AllZip SameSeat ks ls → AllZip Lives ks ls
each_lives ks ls l d s = zip_both (λ k x. Longer k x × DrivenOn k x) SameSeat Lives (λ k x p e. lives_driven k x p.0 p.1 e) ks ls (zip_both Longer DrivenOn (λ k x. Longer k x × DrivenOn k x) (λ k x a b. (a, b)) ks ls l d) s

-- ---- words

pub drawn_none : (w : WordsState) → w ≡ drawn_by w []
drawn_none w = ap (λ n. record { seed = w.seed; place = n }) (place w.place)
  where
    place : (n : ℕ) → n ≡ n + 0
    place n = omega arith

pub drawn_then : (a b c : WordsState) (m n : List ℕ) → b ≡ drawn_by a m → c ≡ drawn_by b n → c ≡ drawn_by a (m ++ n)
drawn_then a b c m n g h = h ∙ ap (λ w. drawn_by w n) g ∙ ap (λ k. record { seed = a.seed; place = k }) (sum a.place)
  where
    sum : (p : ℕ) → p + length m + length n ≡ p + length (m ++ n)
    sum p = let l = length-append m n in omega (arith, l)

-- ---- from a state to one that it has gone to

module _ (accepts : Accepts) (tags : Tags) (server : ServeSetting) where
  pub gone_none : (s : Stand) (owners : List ℕ) → HaveGone accepts tags server s s owners owners
  gone_none s owners = record { made = []; advances = advances_none true accepts tags server s; owners_are = sym (append-nil owners); drawn = drawn_none s.words; same = hands_same s.host; each = zip_same Goes goes_same s.seekers }

  pub gone_then : (a b c : Stand) (o p q : List ℕ) → HaveGone accepts tags server a b o p → HaveGone accepts tags server b c p q → HaveGone accepts tags server a c o q
  gone_then a b c o p q g h = record {
    made = g.made ++ h.made;
    advances = advances_then true g.made h.made accepts tags server a b c g.same g.advances h.advances;
    owners_are = h.owners_are ∙ ap (λ l. l ++ h.made) g.owners_are ∙ append_assoc o g.made h.made;
    drawn = drawn_then a.words b.words c.words g.made h.made g.drawn h.drawn;
    same = hands_then a.host b.host c.host g.same h.same;
    each = zip_then Goes Goes Goes goes_then a.seekers b.seekers c.seekers g.each h.each;
  }

  pub gone_asked : (s t : Stand) (o p : List ℕ) → s.host ≡ t.host → AsksAll accepts tags server s t o p → HaveGone accepts tags server s t o p
  gone_asked s t o p host a = record {
    made = a.made;
    advances = a.advances;
    owners_are = a.owners_are;
    drawn = a.drawn;
    same = subst (SameHands s.host) host (hands_same s.host);
    each = each_driven s.seekers t.seekers a.longer a.driven_on a.seats;
  }

  pub gone_received : (s t : Stand) (o : List ℕ) → t.words ≡ s.words → SameHands s.host t.host → Advances true [] accepts tags server s t → ReceivedAll s.seekers t.seekers s.progress t.progress → HaveGone accepts tags server s t o o
  gone_received s t o words same a r = record {
    made = [];
    advances = a;
    owners_are = sym (append-nil o);
    drawn = words ∙ drawn_none s.words;
    same = same;
    each = each_driven s.seekers t.seekers r.longer r.driven_on r.seats;
  }

  pub gone_settled : (s t : Stand) (o : List ℕ) → t.words ≡ s.words → s.host ≡ t.host → Advances true [] accepts tags server s t → AllZip SettlesWhole s.seekers t.seekers → HaveGone accepts tags server s t o o
  gone_settled s t o words host a w = record {
    made = [];
    advances = a;
    owners_are = sym (append-nil o);
    drawn = words ∙ drawn_none s.words;
    same = subst (SameHands s.host) host (hands_same s.host);
    each = zip_weaker SettlesWhole Goes goes_settled s.seekers t.seekers w;
  }

  -- ---- ended early

  pub ends_behind : (fault : ManyFault) (a b : Stand) (o p : List ℕ) (words' : WordsState) (host' : Hands) (told' : Option (List Event)) → HaveGone accepts tags server a b o p → EndGoing fault accepts tags server b words' host' told' → EndGoing fault accepts tags server a words' host' told'
  ends_behind fault a b o p words' host' told' g e = record {
    last = e.last;
    made = g.made ++ e.made;
    advances = advances_then true g.made e.made accepts tags server a b e.last g.same g.advances e.advances;
    drawn = drawn_then a.words b.words words' g.made e.made g.drawn e.drawn;
    same = hands_then a.host b.host e.last.host g.same e.same;
    legal = e.legal;
    each = zip_then Lives Lives Lives lives_then a.seekers b.seekers e.last.seekers (zip_weaker Goes Lives (λ x y h. h.lives) a.seekers b.seekers g.each) e.each;
    stops = e.stops;
    strays = e.strays;
    ran_on = e.ran_on;
  }

  -- the events show where they stand, and nothing came after it
  stops_here : (fault : ManyFault) (s : Stand) → Stops true fault accepts tags server s s.told
  stops_here fault s f count read began is h = grows_weaker began s.told _ _ h (λ es shows. record { front = es; shows = shows; whole = inl refl })

  -- there was no memory
  pub ends_here : (a s : Stand) (made : List ℕ) → Advances true made accepts tags server a s → s.words ≡ drawn_by a.words made → SameHands a.host s.host → AllByRecursion IsLegal s.seekers → AllZip Lives a.seekers s.seekers → EndGoing NoMemory accepts tags server a s.words s.host s.told
  ends_here a s made advances drawn same legal each = record {
    last = s;
    made = made;
    advances = advances;
    drawn = drawn;
    same = same;
    legal = legal;
    each = each;
    stops = stops_here NoMemory s;
    strays = λ e. absurd cc;
    ran_on = ran_on_none s.host;
  }

  pub ends_asked : (s t : Stand) (o p : List ℕ) → s.host ≡ t.host → AsksAll accepts tags server s t o p → AllByRecursion IsLegal t.seekers → EndGoing NoMemory accepts tags server s t.words t.host t.told
  ends_asked s t o p host a legal = ends_here s t a.made a.advances a.drawn (subst (SameHands s.host) host (hands_same s.host)) legal (each_lives s.seekers t.seekers a.longer a.driven_on a.seats)

  pub ends_settled : (s t : Stand) → t.words ≡ s.words → s.host ≡ t.host → Advances true [] accepts tags server s t → AllZip SettlesSome s.seekers t.seekers → AllByRecursion IsLegal t.seekers → EndGoing NoMemory accepts tags server s t.words t.host t.told
  ends_settled s t words host a w legal = ends_here s t [] a (words ∙ drawn_none s.words) (subst (SameHands s.host) host (hands_same s.host)) legal (zip_weaker SettlesSome Lives lives_settled s.seekers t.seekers w)

  -- where the last foreign datagram that is taken came, the events before it show where they stood
  foreign_early : (s : Stand) (told' : Option (List Event)) → EndsByForeign true accepts tags server s told' → Stops true Strays accepts tags server s told'
  foreign_early s told' ends f count read began is h =
      grows_weaker began told' _ _ (ends f count read began is h) (λ es x. record { front = x.front; shows = x.shows; whole = inr ((λ e. absurd cc), x.from, x.bytes, x.until, x.at, x.last) })

  ends_other : (fault : ManyFault) (s : Stand) (host' : Hands) (told' : Option (List Event)) → (fault ≡ Strays → ⊥) → EndsEarly true fault accepts tags server s host' told' → EndGoing fault accepts tags server s s.words host' told'
  ends_other fault s host' told' other e = record {
    last = e.last;
    made = [];
    advances = e.advances;
    drawn = drawn_none s.words;
    same = e.same;
    legal = e.legal;
    each = each_lives s.seekers e.last.seekers e.longer e.driven_on e.seats;
    stops = e.stops;
    strays = λ is. absurd (other is);
    ran_on = e.ran_on;
  }

  pub ends_received : (fault : ManyFault) (s : Stand) (host' : Hands) (told' : Option (List Event)) → (fault ≡ Strays → EndsLast accepts tags server s host' told') → EndsEarly true fault accepts tags server s host' told' → EndGoing fault accepts tags server s s.words host' told'
  ends_received LinkFault s host' told' strays e = ends_other LinkFault s host' told' (λ is. absurd cc) e
  ends_received NoMemory s host' told' strays e = ends_other NoMemory s host' told' (λ is. absurd cc) e
  ends_received Strays s host' told' strays e =
      let l = strays refl in
      record {
        last = l.last;
        made = [];
        advances = l.advances;
        drawn = drawn_none s.words;
        same = l.same;
        legal = l.legal;
        each = each_lives s.seekers l.last.seekers l.longer l.driven_on l.seats;
        stops = foreign_early l.last told' l.ends;
        strays = λ is. l.ends;
        ran_on = l.ran_on;
      }

-- ---- where a round begins, and goes on

pub begins_asked : (accepts : Accepts) (tags : Tags) (server : ServeSetting) (s t : Stand) (o p : List ℕ) → AsksAll accepts tags server s t o p → Begins s → Begins t
begins_asked accepts tags server s t o p a b = record {
  may = a.may;
  round_over = ap (λ (l : Progress). l.receives) a.progress ∙ b.round_over;
  few_foreign = subst (λ (l : Progress). l.foreign < max_strays) (sym a.progress) b.few_foreign;
}

pub over_of : (s : Stand) → Begins s → AllByRecursion NoneAsks s.seekers → IsSoonest None (queries_of s.seekers) → AreOver s
over_of s b none none_open = record { begins = b; none_open = none_open; none_asks = none }

pub await_of : (s : Stand) (deadline : ℕ) → Begins s → AllByRecursion NoneAsks s.seekers → IsSoonest (Some deadline) (queries_of s.seekers) → MayAwait s.seekers s.progress
await_of s deadline b none soonest = record {
  holds = b.may.holds;
  some_open = λ none_open. nobody (queries_of s.seekers) soonest none_open;
  in_turn = λ z. none;
  few_receives = (let z = b.round_over in omega (arith, z));
  few_foreign = b.few_foreign;
  counted = b.may.counted;
}
  where
    nobody : (qs : List Query) → IsSoonest (Some deadline) qs → qs ≡ [] → ⊥
    nobody [] h e = absurd (empty h.one)
      where
        empty : Contains [] deadline → ⊥
        empty (k, lt, e) = absurd (omega (arith, lt))
    nobody (q ∷ qs) h e = absurd cc

-- ---- a lookup after receives

later_deadline : (a b t : ℕ) → a ≤ b → deadline_of a t ≤ deadline_of b t
later_deadline a b t le = grind arith

module _ (moment later : ℕ) (le : moment ≤ later) where
  deadlines_of : (timeout : ℕ) (qs ls : List Query) → ((q : Query) → Contains ls q → Contains qs q) → AllByRecursion (λ (q : Query). q.deadline ≤ deadline_of moment timeout) qs → AllByRecursion (λ (q : Query). q.deadline ≤ deadline_of later timeout) ls
  deadlines_of timeout qs [] fewer h = tt
  deadlines_of timeout qs (q ∷ ls) fewer h = (
    (let d = within qs q (fewer q (in_first q ls)) h in let l = later_deadline moment later timeout le in omega (arith, d, l)),
    deadlines_of timeout qs ls (λ x k. fewer x (in_rest q ls x k)) h,
  )
    where
      within : (ks : List Query) (x : Query) → Contains ks x → AllByRecursion (λ (k : Query). k.deadline ≤ deadline_of moment timeout) ks → x.deadline ≤ deadline_of moment timeout
      within [] x (k, lt, e) all = absurd (omega (arith, lt))
      within (k ∷ ks) x has all = elim (in_cons k ks x has) [
        | inl e ↦ subst (λ (y : Query). y.deadline ≤ deadline_of moment timeout) (sym e) all.0
        | inr rest ↦ within ks x rest all.1
      ]

  ready_on : (old new : Seeker) → IsReady moment old → Longer old new × OnlyHeard old new → IsReady later new
  ready_on old new r h = record {
    some_path = subst (λ (s : Setting). 0 < s.paths) (sym h.0.setting) r.some_path;
    few_paths = subst (λ (s : Setting). s.paths ≤ max_paths) (sym h.0.setting) r.few_paths;
    few = subst (λ (s : Setting). s.alpha * s.paths ≤ max_open) (sym h.0.setting) r.few;
    small = subst (λ (s : Setting). s.k < 256) (sym h.0.setting) r.small;
    policy = ap (λ (q : Quest). q.policy) h.0.quest ∙ r.policy ∙ ap (λ (s : Setting). s.policy) (sym h.0.setting);
    deadlines = subst (λ (q : Quest). AllByRecursion (λ (x : Query). x.deadline ≤ deadline_of later q.timeout) new.lookup.queries) (sym h.0.quest) (deadlines_of old.quest.timeout old.lookup.queries new.lookup.queries h.1.fewer r.deadlines);
    few_asks = subst (λ (l : List Contact). length l ≤ max_paths * max_path_contacts) (sym h.1.same_asks) r.few_asks;
  }

  pub all_ready_on : (ks ls : List Seeker) → AllByRecursion (IsReady moment) ks → AllZip Longer ks ls → AllZip OnlyHeard ks ls → AllByRecursion (IsReady later) ls
  all_ready_on ks ls r l o = zip_right (IsReady moment) (λ a b. Longer a b × OnlyHeard a b) (IsReady later) ready_on ks ls r (zip_both Longer OnlyHeard (λ a b. Longer a b × OnlyHeard a b) (λ a b x y. (x, y)) ks ls l o)

pub received_of : (s t : Stand) → Begins s → t.words ≡ s.words → ReceivedAll s.seekers t.seekers s.progress t.progress → t.progress.receives ≡ 0 → HaveReceived t
received_of s t b words r over =
    let asks : asks_of t.seekers ≡ asks_of s.seekers = same_asks s.seekers t.seekers r.only_heard in
    record {
      holds = r.holds;
      ready = all_ready_on s.progress.moment t.progress.moment r.later s.seekers t.seekers b.may.ready r.longer r.only_heard;
      few = (let n = zip_length Longer s.seekers t.seekers r.longer in let few = b.may.few in omega (arith, n, few));
      has_words = (let w = b.may.has_words in let p = ap (λ (x : WordsState). x.place) words in omega (arith, w, p, asks));
      counted = r.counted;
      round_over = over;
      few_foreign = r.few_foreign;
    }

pub begins_settled : (s t : Stand) → HaveReceived s → t.words ≡ s.words → t.progress ≡ s.progress → length t.seekers ≡ length s.seekers → AllZip SettlesSome s.seekers t.seekers → AllZip SettlesWhole s.seekers t.seekers → Begins t
begins_settled s t h words progress len some whole = record {
  may = subst (λ (l : Progress). MayAskAll t.seekers l t.words) (sym progress) (subst (MayAskAll t.seekers s.progress) (sym words) (settled_may_ask s.seekers t.seekers s.progress s.words h.ready h.few h.has_words h.counted len some whole));
  round_over = ap (λ (l : Progress). l.receives) progress ∙ h.round_over;
  few_foreign = subst (λ (l : Progress). l.foreign < max_strays) (sym progress) h.few_foreign;
}

-- ---- whose passes are whose

pub seats_of : (ks ls : List Seeker) → AllZip SameSeat ks ls → SameSeats ks ls
seats_of ks ls h = zip_weaker SameSeat (λ a b. SamePass a.pass b.pass) (λ a b e. same_pass a b e) ks ls h

pub seats_settled : (ks ls : List Seeker) → AllZip SettlesSome ks ls → SameSeats ks ls
seats_settled ks ls h = zip_weaker SettlesSome (λ a b. SamePass a.pass b.pass) (λ a b s. s.same) ks ls h

pub seats_then : (ks ls ms : List Seeker) → SameSeats ks ls → SameSeats ls ms → SameSeats ks ms
seats_then ks ls ms g h = zip_then (λ (a b : Seeker). SamePass a.pass b.pass) (λ a b. SamePass a.pass b.pass) (λ a b. SamePass a.pass b.pass) (λ a b c x y. record { turn = y.turn ∙ x.turn; role = y.role ∙ x.role }) ks ls ms g h

pub seated_still : (turn : TurnState TableState) (ks ls : List Seeker) → AllByRecursion (IsSeated turn) ks → SameSeats ks ls → AllByRecursion (IsSeated turn) ls
seated_still turn ks ls h s = zip_right (IsSeated turn) (λ a b. SamePass a.pass b.pass) (IsSeated turn) (λ a b x y. y.turn ∙ x) ks ls h s

pub seats_stay : (ks : List Seeker) → SameSeats ks ks
seats_stay ks = zip_same (λ (a b : Seeker). SamePass a.pass b.pass) (λ a. record { turn = refl; role = refl }) ks

-- what settling asks of each
pub ready_policy : (moment : ℕ) (ks : List Seeker) → AllByRecursion (IsReady moment) ks → AllByRecursion (λ (k : Seeker). k.quest.policy ≡ k.lookup.book.setting.policy) ks
ready_policy moment ks h = each_weaker (IsReady moment) (λ (k : Seeker). k.quest.policy ≡ k.lookup.book.setting.policy) (λ k r. r.policy) ks h

pub ready_paths : (moment : ℕ) (ks : List Seeker) → AllByRecursion (IsReady moment) ks → AllByRecursion (λ (k : Seeker). k.lookup.book.setting.paths ≤ max_paths) ks
ready_paths moment ks h = each_weaker (IsReady moment) (λ (k : Seeker). k.lookup.book.setting.paths ≤ max_paths) (λ k r. r.few_paths) ks h
