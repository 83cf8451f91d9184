-- From the rounds of several lookups to where all are over, and as many receives were made as are wanted or the end has come.
use Rattle.std.proofs.Common.{◌≡◌, ℕ, ◌+◌, ◌^◌, ◌<◌, ◌≤◌, List, [], ◌∷◌, ◌++◌, Option, None, true, false, inl, inr, refl, sym, ap, subst, ◌∙◌, arith}
use Rattle.std.specs.Prelude.{length, map, IsSome}
use Rattle.std.specs.List.{AllByRecursion, AllZip}
use Rattle.kad_base.specs.declared.types.Event.{Event}
use Rattle.kad_base.proofs.Grown.{grows_weaker}
use Rattle.id_puzzles.specs.Drawn.{WordsState}
use Rattle.query_book.specs.declared.Query.{Query}
use Rattle.claim_book.specs.declared.types.Setting.{Setting}
use Rattle.claim_book.specs.Journal.{open_any}
use Rattle.claim_book.specs.RunOut.{RunOut}
use Rattle.claim_book.proofs.Ends.{over_or_ask}
use Rattle.lookup_core.specs.Sealed.{Accepts}
use Rattle.lookup_core.proofs.Others.{none_on}
use Rattle.node_serve.specs.declared.setting.ServeSetting.{ServeSetting}
use Rattle.node_serve.specs.Sealing.{Tags}
use Rattle.serve_crew.specs.Hands.{Hands}
use Rattle.lookup_crowd.specs.declared.due.FollowUp.{FollowUp}
use Rattle.lookup_crowd.specs.declared.seeker.Seeker.{Seeker}
use Rattle.lookup_crowd.specs.declared.seeker.ManyFault.{ManyFault}
use Rattle.lookup_crowd.specs.declared.seeker.ManyFault.TheVariants.{NoMemory, Strays}
use Rattle.lookup_crowd.specs.Many.{Frame, nothing_read, and_then}
use Rattle.lookup_crowd.specs.Errands.{drawn_by}
use Rattle.lookup_crowd.specs.inner.Crowd.{Holding, IsLegal, NoneAsks, NothingLeft, queries_of, ManyShow, Stand, stand, IsFrame, Advances}
use Rattle.lookup_crowd.specs.inner.ManySteps.{IsReady, IsRunOut}
use Rattle.lookup_crowd.specs.inner.Going.{Lives, Goes, HaveGone, AreOver, EndGoing}
use Rattle.lookup_crowd.proofs.Lists.{none_front, none_back}
use Rattle.lookup_crowd.proofs.Hosting.{ran_then, ran_on_none}
use Rattle.lookup_crowd.proofs.Zips.{zip_weaker, zip_then, zip_right}
use Rattle.lookup_crowd.proofs.Living.{lives_then, goes_then}
use Rattle.lookup_crowd.proofs.Gone.{each_driven, each_lives, hands_then, drawn_then}
use Rattle.look_many.specs.declared.job.Job.{Job}
use Rattle.look_many.specs.inner.Serving.{HasEnough, MayServe}
use Rattle.look_many.specs.inner.Following.{Says, EndsSaying}
use Rattle.look_many.specs.inner.Going.{WentWhole, EndsWhole, SinceBegun}
use Rattle.look_many.specs.inner.Kept.{follows_kept}
use Rattle.look_many.proofs.Planning.{follows_still}
use Rattle.look_many.proofs.ServingOn.{stays_same}
use Rattle.look_many.proofs.Whole.{goes_on_with}

-- ---- where all are over

one_over : (k : Seeker) → IsLegal k → 1 ≤ k.lookup.book.setting.alpha → Holding k → NothingLeft k → NoneAsks k → k.lookup.queries ≡ [] → IsRunOut k
one_over k legal some holds left none idle = record { run_out = over }
  where
    is_idle : open_any k.lookup.book.journal ≡ []
    is_idle = sym holds.is_open ∙ ap (map (λ (q : Query). q.contact)) idle

    over : (p : ℕ) → p < k.lookup.book.setting.paths → RunOut k.lookup.book.setting p k.lookup.book.journal
    over p lt =
        elim (over_or_ask k.lookup.book.setting k.lookup.book.journal p legal some (none_on p k.lookup.book.journal is_idle) (left p lt)) [
          | inl o ↦ o
          | inr asks ↦ (let no_one : false ≡ true = subst IsSome (none p lt) asks in absurd cc)
        ]

pub all_over : (ks : List Seeker) → AllByRecursion IsLegal ks → AllByRecursion (λ (k : Seeker). 1 ≤ k.lookup.book.setting.alpha) ks → AllByRecursion Holding ks → AllByRecursion NothingLeft ks → AllByRecursion NoneAsks ks → queries_of ks ≡ [] → AllByRecursion IsRunOut ks
all_over [] legal some holds left none idle = tt
all_over (k ∷ ks) legal some holds left none idle = (
  one_over k legal.0 some.0 holds.0 left.0 none.0 (none_front k.lookup.queries (queries_of ks) idle),
  all_over ks legal.1 some.1 holds.1 left.1 none.1 (none_back k.lookup.queries (queries_of ks) idle),
)

-- the settings stay
pub some_still : (ks ls : List Seeker) → AllByRecursion (λ (k : Seeker). 1 ≤ k.lookup.book.setting.alpha) ks → AllZip Goes ks ls → AllByRecursion (λ (k : Seeker). 1 ≤ k.lookup.book.setting.alpha) ls
some_still ks ls h g = zip_right (λ (k : Seeker). 1 ≤ k.lookup.book.setting.alpha) Goes (λ (k : Seeker). 1 ≤ k.lookup.book.setting.alpha) (λ a b x y. subst (λ (s : Setting). 1 ≤ s.alpha) (sym y.lives.setting) x) ks ls h g

-- each is of few contacts
pub all_small : (moment : ℕ) (ks : List Seeker) → AllByRecursion (IsReady moment) ks → AllByRecursion (λ (k : Seeker). k.lookup.book.setting.k < 256) ks
all_small moment [] h = tt
all_small moment (k ∷ ks) h = (h.0.small, all_small moment ks h.1)

pub may_serve_on : (s : Stand) (n : ℕ) → AreOver s → AllByRecursion IsLegal s.seekers → AllByRecursion (λ (k : Seeker). 1 ≤ k.lookup.book.setting.alpha) s.seekers → s.progress.left < 2 ^ 32 → n ≤ 65536 → MayServe s.seekers (record s.progress { unsaid = n })
may_serve_on s n o legal some left few_said = record {
  holds = o.begins.may.holds;
  none_open = o.none_open;
  over = all_over s.seekers legal some o.begins.may.holds o.begins.may.settled o.none_asks o.none_open;
  none_asks = o.none_asks;
  round_over = o.begins.round_over;
  room = (let few = o.begins.few_foreign in omega (arith, few, left, few_said));
  counted = record { received = o.begins.may.counted.received; replied = o.begins.may.counted.replied; asks = o.begins.may.counted.asks };
}

-- there is a word for each follow-up
pub place_on : (s : Stand) (n : ℕ) → AreOver s → n ≤ 65536 → s.words.place + n ≤ 2 ^ 60
place_on s n o few = (let place = o.begins.may.has_words in let asks = o.begins.may.counted.asks in omega (arith, place, asks, few))

-- ---- the whole

module _ (accepts : Accepts) (tags : Tags) (server : ServeSetting) where
  frame_on : (f : Frame) (a b : WordsState) → b.seed ≡ a.seed → IsFrame accepts tags server a.seed f → IsFrame accepts tags server b.seed f
  frame_on f a b same is = record { accepts_is = is.accepts_is; tags_is = is.tags_is; server_is = is.server_is; seed_is = is.seed_is ∙ sym same }

  -- what the rounds show, as nothing was read before them
  since : (follows : List FollowUp) (made : List ℕ) (s t : Stand) (a : Advances true made accepts tags server s t) → SinceBegun accepts tags server follows s t.told (λ f count events. ManyShow true f count t.seekers t.progress t.words.place None a.more events)
  since follows made s t a f count began is known h = a.goes f count nothing_read began is h

  -- the same, and all follow-ups have still to go out
  since_owing : (follows : List FollowUp) (made : List ℕ) (s t : Stand) (a : Advances true made accepts tags server s t) → t.progress.receives ≡ 0 → SinceBegun accepts tags server follows s t.told (λ f count events. ManyShow false f count t.seekers (record t.progress { unsaid = length follows }) t.words.place None a.more events)
  since_owing follows made s t a round f count began is known h =
      grows_weaker began t.told _ _ (since follows made s t a f count began is known h) (λ es y.
      subst (λ (l : List FollowUp). ManyShow false f count t.seekers (record t.progress { unsaid = length l }) t.words.place None a.more es) known (goes_on_with f count t.words.place t.seekers t.progress a.more es round y))

  -- where the rounds are over, and these follow-ups have to go out
  abbrev pub owing : Stand → List FollowUp → Stand
  owing t follows = stand t.seekers (record t.progress { unsaid = length follows }) t.words t.host t.told

  pub went_whole : (jobs : List Job) (follows : List FollowUp) (s t u : Stand) (owners owners' said : List ℕ) → follows ≡ follows_kept server.own 0 jobs t.seekers → HaveGone accepts tags server s t [] owners → AreOver t → Says follows accepts tags server (owing t follows) u owners owners' [] said → u.progress.unsaid ≡ 0 → HasEnough u.progress → AllByRecursion IsLegal u.seekers → WentWhole accepts tags server jobs s u owners' said
  went_whole jobs follows s t u owners owners' said planned h o a unsaid enough legal =
      let stays = stays_same t.seekers u.seekers a.journals a.gathered a.seats in
      let g = h.advances in
      let k = a.advances in
      let owned : owners' ≡ g.more.owners ++ k.more.owners = a.owners_are ∙ ap (λ l. l ++ a.made) (h.owners_are ∙ sym g.owners_are) ∙ ap (λ l. g.more.owners ++ l) (sym k.owners_are) in
      record {
        read = and_then g.more k.more;
        follows = follows;
        planned = planned ∙ sym (follows_still server.own 0 jobs t.seekers u.seekers a.journals a.gathered);
        shows = λ f count began is known x. k.goes f count g.more began (frame_on f s.words t.words g.seed is) known (since_owing follows h.made s t g o.begins.round_over f count began is known x);
        owners_are = owned;
        said_are = a.said_are ∙ sym k.told_are ∙ ap (λ l. l ++ k.more.told) (sym g.none_told);
        drawn = drawn_then s.words t.words u.words g.more.owners k.more.owners (h.drawn ∙ ap (drawn_by s.words) (sym g.owners_are)) (a.drawn ∙ ap (drawn_by t.words) (sym k.owners_are));
        ran = ran_then s.host t.host u.host g.more.did g.more.lost k.more.did k.more.lost h.same g.ran k.ran;
        each = zip_then Goes Goes Goes goes_then s.seekers t.seekers u.seekers h.each (each_driven t.seekers u.seekers stays.longer stays.driven_on stays.seats);
        legal = legal;
        over = a.may.over;
        none_open = a.may.none_open;
        all_said = unsaid;
        enough = enough;
      }

  pub ends_rounds : (jobs : List Job) (fault : ManyFault) (s : Stand) (words' : WordsState) (host' : Hands) (told' : Option (List Event)) → EndGoing fault accepts tags server s words' host' told' → EndsWhole fault accepts tags server jobs s words' host' told'
  ends_rounds jobs fault s words' host' told' e = record {
    busy = true;
    last = e.last;
    read = e.advances.more;
    follows = [];
    planned = inl refl;
    shows = λ f count began is known x. e.stops f count e.advances.more began (frame_on f s.words e.last.words e.advances.seed is) (since [] e.made s e.last e.advances f count began is known x);
    strays = λ is_strays f count began is known x. e.strays is_strays f count e.advances.more began (frame_on f s.words e.last.words e.advances.seed is) (since [] e.made s e.last e.advances f count began is known x);
    drawn = e.drawn ∙ ap (drawn_by s.words) (sym e.advances.owners_are);
    same = e.same;
    ran = e.advances.ran;
    ran_on = e.ran_on;
    legal = e.legal;
    each = e.each;
  }

  -- where there was no memory for the list of the follow-ups
  pub ends_planning : (jobs : List Job) (s t : Stand) (owners : List ℕ) → HaveGone accepts tags server s t [] owners → AllByRecursion IsLegal t.seekers → EndsWhole NoMemory accepts tags server jobs s t.words t.host t.told
  ends_planning jobs s t owners h legal = record {
    busy = true;
    last = t;
    read = h.advances.more;
    follows = [];
    planned = inl refl;
    shows = λ f count began is known x. grows_weaker began t.told _ _ (since [] h.made s t h.advances f count began is known x) (λ es y. record { front = es; shows = y; whole = inl refl });
    strays = λ is. absurd cc;
    drawn = h.drawn ∙ ap (drawn_by s.words) (sym h.advances.owners_are);
    same = h.same;
    ran = h.advances.ran;
    ran_on = ran_on_none t.host;
    legal = legal;
    each = zip_weaker Goes Lives (λ x y g. g.lives) s.seekers t.seekers h.each;
  }

  -- where the rounds were over, as the follow-ups went out or as the node served on
  pub ends_following : (jobs : List Job) (fault : ManyFault) (follows : List FollowUp) (s t : Stand) (owners : List ℕ) (words' : WordsState) (host' : Hands) (told' : Option (List Event)) → follows ≡ follows_kept server.own 0 jobs t.seekers → HaveGone accepts tags server s t [] owners → AreOver t → (fault ≡ Strays → ⊥) → EndsSaying fault follows accepts tags server (owing t follows) words' host' told' → EndsWhole fault accepts tags server jobs s words' host' told'
  ends_following jobs fault follows s t owners words' host' told' planned h o other e =
      let g = h.advances in
      let k = e.advances in
      record {
        busy = false;
        last = e.last;
        read = and_then g.more k.more;
        follows = follows;
        planned = inr (planned ∙ sym (follows_still server.own 0 jobs t.seekers e.last.seekers e.journals e.gathered));
        shows = λ f count began is known x.
            e.stops f count (and_then g.more k.more) began (frame_on f s.words e.last.words (k.seed ∙ g.seed) is)
            (k.goes f count g.more began (frame_on f s.words t.words g.seed is) known (since_owing follows h.made s t g o.begins.round_over f count began is known x));
        strays = λ is_strays. absurd (other is_strays);
        drawn = drawn_then s.words t.words words' g.more.owners k.more.owners (h.drawn ∙ ap (drawn_by s.words) (sym g.owners_are)) (e.drawn ∙ ap (drawn_by t.words) (sym k.owners_are));
        same = hands_then s.host t.host e.last.host h.same e.same;
        ran = ran_then s.host t.host e.last.host g.more.did g.more.lost k.more.did k.more.lost h.same g.ran k.ran;
        ran_on = e.ran_on;
        legal = e.legal;
        each = zip_then Lives Lives Lives lives_then s.seekers t.seekers e.last.seekers (zip_weaker Goes Lives (λ x y g. g.lives) s.seekers t.seekers h.each) (each_lives t.seekers e.last.seekers e.longer e.driven_on e.seats);
      }
