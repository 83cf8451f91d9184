-- What several lookups promise, from what they leave once the turns are closed.
use Rattle.std.proofs.Common.{◌≡◌, ℕ, zero, suc, ◌+◌, ◌<◌, List, [], ◌∷◌, ◌++◌, length, get_or, Option, None, true, false, inl, inr, refl, sym, ap, subst, ◌∙◌, arith, All}
use Rattle.std.specs.Prelude.{map, slice_index_or}
use Rattle.std.specs.List.{AllByRecursion, AllZip, flat_map, range_with_len}
use Rattle.std.proofs.lemmas.List.{append-nil, append_assoc, length-map}
use Rattle.std.proofs.lemmas.List.Elements.{All-nil, All-cons, All-head, All-tail, All-same, All-append}
use Rattle.std.proofs.lemmas.List.Concat.{flat_map-append}
use Rattle.look_many.specs.declared.job.Job.{Job}
use Rattle.kad_base.specs.declared.types.Contact.{Contact}
use Rattle.kad_base.specs.declared.types.Event.{Event}
use Rattle.kad_base.specs.declared.types.Event.TheVariants.{Now}
use Rattle.kad_base.specs.declared.serial.Made.{Made}
use Rattle.kad_base.specs.Limits.{max_strays}
use Rattle.kad_base.specs.Outside.{Grows}
use Rattle.kad_base.specs.Serial.{calls_of}
use Rattle.kad_base.proofs.Grown.{grows_weaker}
use Rattle.id_puzzles.specs.Drawn.{WordsState}
use Rattle.turn_book.specs.Turns.{TurnState, fresh, mine}
use Rattle.contact_table.specs.TableState.{TableState}
use Rattle.contact_table.specs.Told.{HasMemory, calls_in, seen_calls}
use Rattle.contact_table.specs.declared.calls.TableCall.{TableCall}
use Rattle.contact_table.specs.declared.calls.TableReply.{TableReply}
use Rattle.peer_store.specs.declared.calls.PeerCall.{PeerCall}
use Rattle.peer_store.specs.declared.calls.PeerReply.{PeerReply}
use Rattle.item_store.specs.declared.calls.ItemCall.{ItemCall}
use Rattle.item_store.specs.declared.calls.ItemReply.{ItemReply}
use Rattle.claim_book.specs.declared.types.Setting.{Setting}
use Rattle.claim_book.specs.declared.types.Entry.{Entry}
use Rattle.claim_book.specs.Journal.{seeds}
use Rattle.claim_book.specs.declared.types.Entry.TheVariants.{Seed}
use Rattle.claim_book.specs.Legal.{Legal, seeded}
use Rattle.claim_book.specs.Result.{result_of}
use Rattle.claim_book.specs.RunOut.{RunOut}
use Rattle.claim_book.proofs.Descent.{own_answers}
use Rattle.claim_book.proofs.Seeding.{AreSeeds, seeded_seeds}
use Rattle.node_serve.specs.declared.setting.ServeSetting.{ServeSetting}
use Rattle.node_serve.specs.Calls.{Did, HadMemory, HasRoom, HasItemRoom}
use Rattle.serve_crew.specs.Opening.{AreClosed, Opens}
use Rattle.serve_crew.specs.declared.turns.Turns.{Turns}
use Rattle.serve_crew.specs.declared.turns.Rows.{Rows}
use Rattle.serve_crew.specs.Hands.{Hands, SameHands, Grew, TablePass, at_table, at_peers, at_items}
use Rattle.serve_crew.proofs.Remembering.{did_table, did_peers, did_items}
use Rattle.lookup_core.specs.declared.gather.Gathered.{Gathered}
use Rattle.lookup_core.specs.declared.quest.AskKind.TheVariants.{FindNode}
use Rattle.lookup_core.specs.declared.quest.Quest.{Quest}
use Rattle.lookup_core.proofs.Gathering.{each_of_none}
use Rattle.lookup_core.proofs.Received.{seeds_append}
use Rattle.lookup_crowd.specs.declared.due.FollowUp.{FollowUp}
use Rattle.lookup_crowd.specs.declared.seeker.Seeker.{Seeker}
use Rattle.lookup_crowd.specs.declared.seeker.Progress.{Progress}
use Rattle.lookup_crowd.specs.declared.seeker.ManyFault.{ManyFault}
use Rattle.lookup_crowd.specs.declared.seeker.ManyFault.TheVariants.{NoMemory}
use Rattle.lookup_crowd.specs.Many.{Frame, nothing_read, EndsAtForeign}
use Rattle.lookup_crowd.specs.Errands.{note_of, noted, Errand, answering, losing, did_of, answer_in, drawn_by}
use Rattle.lookup_crowd.specs.inner.Crowd.{whose, IsLegal, ManyShow, Stand, IsFrame}
use Rattle.lookup_crowd.specs.inner.ManySteps.{ShowsEarly, ShowsForeign}
use Rattle.lookup_crowd.specs.inner.Going.{Lives, Goes}
use Rattle.lookup_crowd.proofs.Zips.{zip_both, zip_length, zip_then, zip_weaker}
use Rattle.lookup_crowd.proofs.Hosting.{ran_on_none}
use Rattle.look_many.specs.declared.found.ManySetting.{ManySetting}
use Rattle.look_many.specs.declared.found.One.{One}
use Rattle.look_many.specs.declared.found.Many.{Many}
use Rattle.look_many.specs.Job.{kind_of}
use Rattle.look_many.specs.ManyLooked.{setting_for, quest_for, seeds_for, reads_for, all_read, IsJournalFor, IsFound, frame_for, seeks, AreSent, ManyTold, journals_of, ManyLooked, TellsEarly, ManyBegan, IsWithinLimits}
use Rattle.look_many.specs.inner.Seats.{count_of, IsSeekerFor, IsDone, IsHanded}
use Rattle.look_many.specs.inner.Going.{WentWhole, EndsWhole}
use Rattle.look_many.specs.inner.Ends.{Task, Starts, FoundBack, StoppedBack}
use Rattle.look_many.proofs.Lists.{first_same, rest_same}
use Rattle.look_many.proofs.Planning.{IsOfKind, kept_found}
use Rattle.look_many.proofs.Starting.{begin_seeds, all_fresh_of}
use Rattle.look_many.proofs.Whole.{begins, told_whole, tells_early, ends_at_foreign}
use Rattle.look_many.proofs.Ending.{Remembers, ended_ran, ended_of_driver, ended_memory, driver_calls_are, lookup_calls}

-- ---- one lookup

all_noted : (J : List Entry) → AreSeeds J → noted J ≡ []
all_noted [] h = refl
all_noted (Seed q c ∷ J) h = all_noted J h.1
all_noted (x ∷ J) h = absurd h.0

seeds_noted : (limit paths : ℕ) (cs : List Contact) → noted (seeded limit paths cs) ≡ []
seeds_noted limit paths cs = all_noted (seeded limit paths cs) (seeded_seeds limit paths cs)

module _ (server : ServeSetting) (setting : ManySetting) (table : TableState) (limits : IsWithinLimits setting) (small : server.k < 256) where
  -- a lookup that lived on since it began
  live_setting : (job : Job) (old new : Seeker) → IsSeekerFor server setting table job old → Lives old new → new.lookup.book.setting ≡ setting_for server setting job
  live_setting job old new s l = l.setting ∙ s.book.setting_is

  live_seeds : (job : Job) (old new : Seeker) → IsSeekerFor server setting table job old → Lives old new → seeds new.lookup.book.journal ≡ seeded setting.per_address setting.paths (seeds_for server table job)
  live_seeds job old new s l = ap seeds l.journal ∙ seeds_append old.lookup.book.journal l.more ∙ ap (λ x. seeds old.lookup.book.journal ++ x) l.no_seeds ∙ append-nil (seeds old.lookup.book.journal) ∙ begin_seeds server setting table limits small job old s

  live_notes : (job : Job) (old new : Seeker) → IsSeekerFor server setting table job old → (l : Lives old new) → noted new.lookup.book.journal ≡ noted l.more
  live_notes job old new s l = ap noted l.journal ∙ flat_map-append note_of old.lookup.book.journal l.more ∙ ap (λ x. x ++ noted l.more) (ap noted s.book.journal ∙ seeds_noted setting.per_address setting.paths (seeds_for server table job))

  journal_for : (job : Job) (old new : Seeker) → IsSeekerFor server setting table job old → Lives old new → IsLegal new → IsJournalFor server setting table job new.lookup.book.journal
  journal_for job old new s l legal = record {
    legal = subst (λ (x : Setting). Legal x new.lookup.book.journal) (live_setting job old new s l) legal;
    seeds_are = live_seeds job old new s l;
  }

  found_bare : (job : Job) (old new : Seeker) (one : One) → IsSeekerFor server setting table job old → Lives old new → IsHanded new.gathered one → kind_of job ≡ FindNode → (one.peers ≡ []) × (one.tokens ≡ []) × (one.items ≡ [])
  found_bare job old new one s l h is =
      let same = l.gathered (ap (λ (q : Quest). q.kind) s.quest ∙ is) in
      (each_of_none new.gathered.peers one.peers (ap (λ (g : Gathered). g.peers) same ∙ s.bare.no_peers) h.peers, h.tokens ∙ ap (λ (g : Gathered). g.tokens) same ∙ s.bare.no_tokens, h.items ∙ ap (λ (g : Gathered). g.items) same ∙ s.bare.no_items)

  found_for : (job : Job) (old new : Seeker) (one : One) → IsSeekerFor server setting table job old → Lives old new → IsDone new.lookup.book one → IsHanded new.gathered one → IsFound server setting table job one
  found_for job old new one s l d h =
      let at = live_setting job old new s l in
      let legal : Legal (setting_for server setting job) one.journal = subst (λ (x : Setting). Legal x one.journal) at d.legal in
      record {
        journal = record { legal = legal; seeds_are = ap seeds d.journal ∙ live_seeds job old new s l };
        run_out = λ p lt. subst (λ (x : Setting). RunOut x p one.journal) at (d.run_out p (subst (λ (x : Setting). p < x.paths) (sym at) lt));
        found = d.found ∙ ap (λ (x : Setting). result_of x one.journal) at;
        counted = d.counted;
        own_answers = own_answers (setting_for server setting job) one.journal legal;
        in_order = h.peers.in_order;
        bare = λ is. found_bare job old new one s l h is;
      }

  same_whose : (job : Job) (old new : Seeker) (J : List Entry) → IsSeekerFor server setting table job old → Lives old new → J ≡ new.lookup.book.journal → whose new ≡ reads_for server setting job J
  same_whose job old new J s l is =
      ap (λ (x : Setting). record { setting = x; quest = new.quest; journal = new.lookup.book.journal }) (live_setting job old new s l)
      ∙ ap (λ q. record { setting = setting_for server setting job; quest = q; journal = new.lookup.book.journal }) (l.quest ∙ s.quest)
      ∙ ap (λ j. record { setting = setting_for server setting job; quest = quest_for server setting job; journal = j }) (sym is)

  -- ---- all of them

  pub all_found : (ts : List Job) (olds news : List Seeker) (ones : List One) → AllZip (IsSeekerFor server setting table) ts olds → AllZip Goes olds news → AllZip (λ k one. IsDone k.lookup.book one) news ones → AllZip (λ k one. IsHanded k.gathered one) news ones → AllZip (IsFound server setting table) ts ones
  all_found ts olds news ones s g d h =
      zip_then (λ t (k : Seeker). (old : Seeker) × IsSeekerFor server setting table t old × Lives old k) (λ (k : Seeker) (one : One). IsDone k.lookup.book one × IsHanded k.gathered one) (IsFound server setting table) (λ t k one x y. found_for t x.0 k one x.1 x.2 y.0 y.1) ts news ones
      (zip_then (IsSeekerFor server setting table) Goes (λ t (k : Seeker). (old : Seeker) × IsSeekerFor server setting table t old × Lives old k) (λ t o k x y. (o, x, y.lives)) ts olds news s g)
      (zip_both (λ (k : Seeker) (one : One). IsDone k.lookup.book one) (λ (k : Seeker) (one : One). IsHanded k.gathered one) (λ (k : Seeker) (one : One). IsDone k.lookup.book one × IsHanded k.gathered one) (λ k one x y. (x, y)) news ones d h)

  all_whose : (ts : List Job) (olds news : List Seeker) (ones : List One) → AllZip (IsSeekerFor server setting table) ts olds → AllZip Goes olds news → AllZip (λ k one. IsDone k.lookup.book one) news ones → map whose news ≡ all_read server setting ts (journals_of ones)
  all_whose [] [] [] [] s g d = refl
  all_whose [] [] [] (o ∷ ones) s g d = absurd d
  all_whose [] [] (n ∷ news) ones s g d = absurd g
  all_whose [] (k ∷ olds) news ones s g d = absurd s
  all_whose (t ∷ ts) [] news ones s g d = absurd s
  all_whose (t ∷ ts) (k ∷ olds) [] ones s g d = absurd g
  all_whose (t ∷ ts) (k ∷ olds) (n ∷ news) [] s g d = absurd d
  all_whose (t ∷ ts) (k ∷ olds) (n ∷ news) (o ∷ ones) s g d =
      ap (λ w. w ∷ map whose news) (same_whose t k n o.journal s.0 g.0.lives d.0.journal) ∙ ap (λ ws. reads_for server setting t o.journal ∷ ws) (all_whose ts olds news ones s.1 g.1 d.1)

  each_journal : (ts : List Job) (olds lasts : List Seeker) → AllZip (IsSeekerFor server setting table) ts olds → AllZip Lives olds lasts → AllByRecursion IsLegal lasts → AllZip (IsJournalFor server setting table) ts (map (λ (k : Seeker). k.lookup.book.journal) lasts)
  each_journal [] [] [] s l legal = tt
  each_journal [] [] (n ∷ lasts) s l legal = absurd l
  each_journal [] (k ∷ olds) lasts s l legal = absurd s
  each_journal (t ∷ ts) [] lasts s l legal = absurd s
  each_journal (t ∷ ts) (k ∷ olds) [] s l legal = absurd l
  each_journal (t ∷ ts) (k ∷ olds) (n ∷ lasts) s l legal = (journal_for t k n s.0 l.0 legal.0, each_journal ts olds lasts s.1 l.1 legal.1)

  last_whose : (ts : List Job) (olds lasts : List Seeker) → AllZip (IsSeekerFor server setting table) ts olds → AllZip Lives olds lasts → map whose lasts ≡ all_read server setting ts (map (λ (k : Seeker). k.lookup.book.journal) lasts)
  last_whose [] [] [] s l = refl
  last_whose [] [] (n ∷ lasts) s l = absurd l
  last_whose [] (k ∷ olds) lasts s l = absurd s
  last_whose (t ∷ ts) [] lasts s l = absurd s
  last_whose (t ∷ ts) (k ∷ olds) [] s l = absurd l
  last_whose (t ∷ ts) (k ∷ olds) (n ∷ lasts) s l = ap (λ w. w ∷ map whose lasts) (same_whose t k n n.lookup.book.journal s.0 l.0 refl) ∙ ap (λ ws. reads_for server setting t n.lookup.book.journal ∷ ws) (last_whose ts olds lasts s.1 l.1)

  -- whom the table was told of for the i-th lookup
  pub worker_calls : (ts : List Job) (olds news : List Seeker) (ones : List One) → AllZip (IsSeekerFor server setting table) ts olds → AllByRecursion (λ (k : Seeker). mine k.pass ≡ []) olds → AllZip Goes olds news → AllZip (λ k one. IsDone k.lookup.book one) news ones
      → (i : ℕ) (k : Seeker) (o : One) → i < length ts → calls_in (mine (get_or news i k).pass) ≡ seen_calls (noted (get_or ones i o).journal)
  worker_calls [] olds news ones s m g d i k o lt = absurd (omega (arith, lt))
  worker_calls (t ∷ ts) [] news ones s m g d i k o lt = absurd s
  worker_calls (t ∷ ts) (x ∷ olds) [] ones s m g d i k o lt = absurd g
  worker_calls (t ∷ ts) (x ∷ olds) (n ∷ news) [] s m g d i k o lt = absurd d
  worker_calls (t ∷ ts) (x ∷ olds) (n ∷ news) (y ∷ ones) s m g d zero k o lt =
      ap calls_in (g.0.grew ∙ ap (λ l. l ++ g.0.told) m.0) ∙ g.0.calls ∙ ap seen_calls (sym (live_notes t x n s.0 g.0.lives) ∙ ap noted (sym d.0.journal))
  worker_calls (t ∷ ts) (x ∷ olds) (n ∷ news) (y ∷ ones) s m g d (suc i) k o lt = worker_calls ts olds news ones s.1 m.1 g.1 d.1 i k o (omega (arith, lt))

-- ---- memory

seat_memory : (olds news : List Seeker) → AllByRecursion (λ (k : Seeker). mine k.pass ≡ []) olds → AllZip Goes olds news → All (λ (k : Seeker). All (λ (m : Made TableCall TableReply). HasMemory m.reply) (mine k.pass)) news
seat_memory [] [] m g = All-nil (λ (k : Seeker). All (λ (m : Made TableCall TableReply). HasMemory m.reply) (mine k.pass))
seat_memory [] (n ∷ news) m g = absurd g
seat_memory (k ∷ olds) [] m g = absurd g
seat_memory (k ∷ olds) (n ∷ news) m g =
    All-cons (λ (x : Seeker). All (λ (y : Made TableCall TableReply). HasMemory y.reply) (mine x.pass)) n news
    (All-same (λ (y : Made TableCall TableReply). HasMemory y.reply) (mine n.pass) g.0.told (g.0.grew ∙ ap (λ l. l ++ g.0.told) m.0) g.0.memory) (seat_memory olds news m.1 g.1)

pub errand_tables : (es : List Errand) → All HadMemory (flat_map answer_in es) → All Remembers (flat_map (at_table 0) (map did_of es))
errand_tables [] h = All-nil Remembers
errand_tables (answering d ∷ es) h =
    All-append Remembers (at_table 0 d) (flat_map (at_table 0) (map did_of es)) (λ j e lt f. one_table d (All-head HadMemory d (flat_map answer_in es) h) j e lt) (errand_tables es (All-tail HadMemory d (flat_map answer_in es) h))
  where
    one_table : (x : Did) → HadMemory x → All (λ (m : Made TableCall TableReply). HasMemory m.reply) (at_table 0 x)
    one_table x k = All-same (λ (m : Made TableCall TableReply). HasMemory m.reply) (at_table 0 x) (at_table 0 x ++ []) (sym (append-nil (at_table 0 x))) (did_table 0 (x ∷ []) (All-cons HadMemory x [] k (All-nil HadMemory)))
errand_tables (losing c reply ∷ es) h = All-cons Remembers _ (flat_map (at_table 0) (map did_of es)) (λ f. f tt) (errand_tables es h)

errand_peers : (es : List Errand) → All HadMemory (flat_map answer_in es) → All (λ (m : Made PeerCall PeerReply). HasRoom m.reply) (flat_map (at_peers 0) (map did_of es))
errand_peers [] h = All-nil (λ (m : Made PeerCall PeerReply). HasRoom m.reply)
errand_peers (answering d ∷ es) h =
    All-append (λ (m : Made PeerCall PeerReply). HasRoom m.reply) (at_peers 0 d) (flat_map (at_peers 0) (map did_of es))
    (All-same (λ (m : Made PeerCall PeerReply). HasRoom m.reply) (at_peers 0 d) (at_peers 0 d ++ []) (sym (append-nil (at_peers 0 d))) (did_peers 0 (d ∷ []) (All-cons HadMemory d [] (All-head HadMemory d (flat_map answer_in es) h) (All-nil HadMemory))))
    (errand_peers es (All-tail HadMemory d (flat_map answer_in es) h))
errand_peers (losing c reply ∷ es) h = errand_peers es h

errand_items : (es : List Errand) → All HadMemory (flat_map answer_in es) → All (λ (m : Made ItemCall ItemReply). HasItemRoom m.reply) (flat_map (at_items 0) (map did_of es))
errand_items [] h = All-nil (λ (m : Made ItemCall ItemReply). HasItemRoom m.reply)
errand_items (answering d ∷ es) h =
    All-append (λ (m : Made ItemCall ItemReply). HasItemRoom m.reply) (at_items 0 d) (flat_map (at_items 0) (map did_of es))
    (All-same (λ (m : Made ItemCall ItemReply). HasItemRoom m.reply) (at_items 0 d) (at_items 0 d ++ []) (sym (append-nil (at_items 0 d))) (did_items 0 (d ∷ []) (All-cons HadMemory d [] (All-head HadMemory d (flat_map answer_in es) h) (All-nil HadMemory))))
    (errand_items es (All-tail HadMemory d (flat_map answer_in es) h))
errand_items (losing c reply ∷ es) h = errand_items es h

fresh_seats : (turn : TurnState TableState) (r : ℕ) (ks : List Seeker) (ps : List TablePass) → map (λ (k : Seeker). k.pass) ks ≡ ps → AllByRecursion (λ (p : TablePass). mine p ≡ []) ps → AllByRecursion (λ (k : Seeker). mine k.pass ≡ []) ks
fresh_seats turn r [] ps is h = tt
fresh_seats turn r (k ∷ ks) [] is h = absurd cc
fresh_seats turn r (k ∷ ks) (p ∷ ps) is h = (ap mine (first_same is) ∙ h.0, fresh_seats turn r ks ps (rest_same is) h.1)

fresh_made : (turn : TurnState TableState) (r n : ℕ) → AllByRecursion (λ (p : TablePass). mine p ≡ []) (map (fresh turn.id) (range_with_len r n))
fresh_made turn r zero = tt
fresh_made turn r (suc n) = (refl, fresh_made turn (r + 1) n)

-- ---- the whole

module _ (k : Task) (turns : Turns) (rows : Rows) (before after : TableState) (opened : Opens before turns) (closed : AreClosed turns rows after) (limits : IsWithinLimits k.setting) (small : k.server.k < 256)
    (words words' : WordsState) (told told' : Option (List Event)) where
  seekers_for : (s : Stand) → Starts k turns words told s → AllZip (IsSeekerFor k.server k.setting before) k.jobs s.seekers
  seekers_for s b = subst (λ table. AllZip (IsSeekerFor k.server k.setting table) k.jobs s.seekers) opened.table b.seekers

  no_calls : (s : Stand) → Starts k turns words told s → AllByRecursion (λ (x : Seeker). mine x.pass ≡ []) s.seekers
  no_calls s b = fresh_seats turns.table 1 s.seekers (map (fresh turns.table.id) (range_with_len 1 (length k.jobs))) b.passes (fresh_made turns.table 1 (length k.jobs))

  frame : List FollowUp → Frame
  frame follows = frame_for k.accepts k.tags k.server words k.lasting follows

  is_frame : (follows : List FollowUp) (s : Stand) → Starts k turns words told s → IsFrame k.accepts k.tags k.server s.words.seed (frame follows)
  unfolding frame
  is_frame follows s b = record { accepts_is = refl; tags_is = refl; server_is = refl; seed_is = ap (λ (w : WordsState). w.seed) (sym b.words_are) }

  -- the first event shows where they begin
  shown_first : (follows : List FollowUp) (s : Stand) → Starts k turns words told s → Grows told s.told (λ events. ManyShow true (frame follows) (count_of s.seekers) s.seekers s.progress s.words.place None nothing_read events)
  unfolding frame
  shown_first follows s b =
      grows_weaker told s.told _ _ b.now_told (λ es e.
      subst (λ l. ManyShow true (frame follows) (count_of s.seekers) s.seekers s.progress s.words.place None nothing_read l) (sym e)
      (subst (λ (w : WordsState). ManyShow true (frame follows) (count_of s.seekers) s.seekers s.progress w.place None nothing_read (Now s.progress.moment ∷ [])) (sym b.words_are)
      (subst (λ (l : Progress). ManyShow true (frame follows) (count_of s.seekers) s.seekers l words.place None nothing_read (Now s.progress.moment ∷ [])) (sym b.progress)
      (begins (frame follows) s.progress.moment s.seekers (all_fresh_of k.server k.setting before limits small k.jobs s.seekers (seekers_for s b))))))

  host_table : (s : Stand) → Starts k turns words told s → mine s.host.table ≡ []
  host_table s b = ap (λ (h : Hands). mine h.table) b.host

  host_peers : (s : Stand) → Starts k turns words told s → mine s.host.peers ≡ []
  host_peers s b = ap (λ (h : Hands). mine h.peers) b.host

  host_items : (s : Stand) → Starts k turns words told s → mine s.host.items ≡ []
  host_items s b = ap (λ (h : Hands). mine h.items) b.host

  -- the driver's own calls, from none
  made_table : (s : Stand) (h : Hands) (did : List Did) → Starts k turns words told s → Grew s.host h did → mine h.table ≡ flat_map (at_table 0) did
  made_table s h did b g = g.table ∙ ap (λ l. l ++ flat_map (at_table s.host.table.role) did) (host_table s b) ∙ ap (λ (x : Hands). flat_map (at_table x.table.role) did) b.host

  made_peers : (s : Stand) (h : Hands) (did : List Did) → Starts k turns words told s → Grew s.host h did → mine h.peers ≡ flat_map (at_peers 0) did
  made_peers s h did b g = g.peers ∙ ap (λ l. l ++ flat_map (at_peers s.host.peers.role) did) (host_peers s b) ∙ ap (λ (x : Hands). flat_map (at_peers x.peers.role) did) b.host

  made_items : (s : Stand) (h : Hands) (did : List Did) → Starts k turns words told s → Grew s.host h did → mine h.items ≡ flat_map (at_items 0) did
  made_items s h did b g = g.items ∙ ap (λ l. l ++ flat_map (at_items s.host.items.role) did) (host_items s b) ∙ ap (λ (x : Hands). flat_map (at_items x.items.role) did) b.host

  grew_on : (a b c : Hands) (d e : List Did) → SameHands a b → Grew a b d → Grew b c e → Grew a c (d ++ e)
  grew_on a b c d e same g h = record {
    table = h.table ∙ ap (λ l. l ++ flat_map (at_table b.table.role) e) g.table ∙ append_assoc (mine a.table) (flat_map (at_table a.table.role) d) (flat_map (at_table b.table.role) e)
        ∙ ap (λ n. mine a.table ++ (flat_map (at_table a.table.role) d ++ flat_map (at_table n) e)) same.table.role ∙ ap (λ l. mine a.table ++ l) (sym (flat_map-append (at_table a.table.role) d e));
    peers = h.peers ∙ ap (λ l. l ++ flat_map (at_peers b.peers.role) e) g.peers ∙ append_assoc (mine a.peers) (flat_map (at_peers a.peers.role) d) (flat_map (at_peers b.peers.role) e)
        ∙ ap (λ n. mine a.peers ++ (flat_map (at_peers a.peers.role) d ++ flat_map (at_peers n) e)) same.peers.role ∙ ap (λ l. mine a.peers ++ l) (sym (flat_map-append (at_peers a.peers.role) d e));
    items = h.items ∙ ap (λ l. l ++ flat_map (at_items b.items.role) e) g.items ∙ append_assoc (mine a.items) (flat_map (at_items a.items.role) d) (flat_map (at_items b.items.role) e)
        ∙ ap (λ n. mine a.items ++ (flat_map (at_items a.items.role) d ++ flat_map (at_items n) e)) same.items.role ∙ ap (λ l. mine a.items ++ l) (sym (flat_map-append (at_items a.items.role) d e));
  }

  pub many_looked : (many : Many) → FoundBack k turns rows words words' told told' many → ManyLooked k.accepts k.tags k.server k.setting k.jobs k.lasting before after words words' told told' many
  unfolding frame
  many_looked many b =
      let s = b.old in
      let u = b.new in
      let st = b.starts in
      let w = b.went in
      let olds = seekers_for s st in
      let count = zip_length Goes s.seekers u.seekers w.each ∙ zip_length (IsSeekerFor k.server k.setting before) k.jobs s.seekers olds in
      let same_count : count_of s.seekers ≡ count_of u.seekers = length-map s.seekers whose ∙ sym (zip_length Goes s.seekers u.seekers w.each) ∙ sym (length-map u.seekers whose) in
      let errands = w.ran.errands in
      let grew = w.ran.grew in
      let had : All HadMemory (flat_map answer_in errands) = subst (All HadMemory) (sym w.ran.answers) w.ran.memory in
      let at_t = made_table s u.host (map did_of errands) st grew in
      let at_p = made_peers s u.host (map did_of errands) st grew in
      let at_i = made_items s u.host (map did_of errands) st grew in
      record {
        each = all_found k.server k.setting before limits small k.jobs s.seekers u.seekers many.outcomes olds w.each b.found b.handed;
        read = w.read;
        owners_are = b.owners_are ∙ w.owners_are;
        follows = w.follows;
        follows_are = w.planned ∙ kept_found k.server.own 0 k.jobs u.seekers many.outcomes b.found b.handed;
        tells = subst (λ out. Grows told out (ManyTold (frame w.follows) (all_read k.server k.setting k.jobs (journals_of many.outcomes)) w.read many.outcomes many.received many.replied)) b.told_is
            (grows_weaker told u.told _ _ (w.shows (frame w.follows) (count_of s.seekers) told (is_frame w.follows s st) refl (shown_first w.follows s st)) (λ es x.
            subst (λ ws. ManyTold (frame w.follows) ws w.read many.outcomes many.received many.replied es) (all_whose k.server k.setting before limits small k.jobs s.seekers u.seekers many.outcomes olds w.each b.found)
            (subst (λ n. ManyTold (frame w.follows) (map whose u.seekers) w.read many.outcomes n many.replied es) (sym b.received_are)
            (subst (λ n. ManyTold (frame w.follows) (map whose u.seekers) w.read many.outcomes u.progress.received n es) (sym b.replied_are)
            (told_whole (frame w.follows) u.words.place u.seekers many.outcomes u.progress w.read es (subst (λ n. ManyShow false (frame w.follows) n u.seekers u.progress u.words.place None w.read es) same_count x) w.none_open w.all_said w.enough b.handed
            (subst (λ l. AreSent l 0 many.outcomes) w.said_are b.sent_are))))));
        drawn = sym b.words_are ∙ w.drawn ∙ ap (λ x. drawn_by x w.read.owners) st.words_are;
        ran = ended_ran k.server k.jobs turns rows before after opened closed u.host u.seekers b.back count;
        memory = ended_memory k.server k.jobs turns rows before after opened closed u.host u.seekers b.back count
            (All-same Remembers (mine u.host.table) (flat_map (at_table 0) (map did_of errands)) at_t (errand_tables errands had))
            (seat_memory s.seekers u.seekers (no_calls s st) w.each)
            (All-same (λ (m : Made PeerCall PeerReply). HasRoom m.reply) (mine u.host.peers) (flat_map (at_peers 0) (map did_of errands)) at_p (errand_peers errands had))
            (All-same (λ (m : Made ItemCall ItemReply). HasItemRoom m.reply) (mine u.host.items) (flat_map (at_items 0) (map did_of errands)) at_i (errand_items errands had));
        errands = errands;
        are = record { answers = w.ran.answers; losses = w.ran.losses };
        driver = driver_calls_are k.server k.jobs turns rows before after opened closed u.host u.seekers b.back count (map did_of errands) at_t at_p at_i;
        of_driver = ended_of_driver k.server k.jobs turns rows before after opened closed u.host u.seekers b.back count;
        workers = λ n o lt. workers n o lt;
      }
    where
      first_of : (ks : List Seeker) → 0 < length ks → Seeker
      first_of [] lt = absurd (omega (arith, lt))
      first_of (x ∷ ks) lt = x

      workers : (n : ℕ) (o : One) → n < length k.jobs → calls_in (calls_of (suc n) (ended_ran k.server k.jobs turns rows before after opened closed b.new.host b.new.seekers b.back (zip_length Goes b.old.seekers b.new.seekers b.went.each ∙ zip_length (IsSeekerFor k.server k.setting before) k.jobs b.old.seekers (seekers_for b.old b.starts))).tables) ≡ seen_calls (noted (slice_index_or many.outcomes n o).journal)
      workers n o lt =
          let count = zip_length Goes b.old.seekers b.new.seekers b.went.each ∙ zip_length (IsSeekerFor k.server k.setting before) k.jobs b.old.seekers (seekers_for b.old b.starts) in
          let d : Seeker = first_of b.new.seekers (omega (arith, lt, count)) in
          ap calls_in (lookup_calls k.server k.jobs turns rows before after opened closed b.new.host b.new.seekers b.back count n d lt)
          ∙ worker_calls k.server k.setting before limits small k.jobs b.old.seekers b.new.seekers many.outcomes (seekers_for b.old b.starts) (no_calls b.old b.starts) b.went.each b.found n d o lt

  pub many_began : (fault : ManyFault) → StoppedBack k turns rows words words' told told' fault → ManyBegan k.accepts k.tags k.server k.setting k.jobs k.lasting before after words words' told told' fault
  unfolding frame
  many_began fault b =
      let s = b.old in
      let st = b.starts in
      let e = b.ends in
      let l = e.last in
      let olds = seekers_for s st in
      let same_count : count_of s.seekers ≡ count_of l.seekers = length-map s.seekers whose ∙ sym (zip_length Lives s.seekers l.seekers e.each) ∙ sym (length-map l.seekers whose) in
      let kinds = zip_then (IsSeekerFor k.server k.setting before) Lives IsOfKind (λ j x y a g. ap (λ (q : Quest). q.kind) (g.quest ∙ a.quest)) k.jobs s.seekers l.seekers olds e.each in
      let whose_are = last_whose k.server k.setting before limits small k.jobs s.seekers l.seekers olds e.each in
      let count = b.len ∙ zip_length (IsSeekerFor k.server k.setting before) k.jobs s.seekers olds in
      let did = map did_of e.ran.errands in
      let on = e.ran_on.0 in
      let grew : Grew s.host b.host (did ++ on) = grew_on s.host l.host b.host did on e.same e.ran.grew e.ran_on.1 in
      let are = driver_calls_are k.server k.jobs turns rows before after opened closed b.host b.seekers b.back count (did ++ on) (made_table s b.host (did ++ on) st grew) (made_peers s b.host (did ++ on) st grew) (made_items s b.host (did ++ on) st grew) in
      let calls = map (seeks k.server before) k.jobs in
      let split = sym (append_assoc calls did on) in
      record {
        journals = map (λ (x : Seeker). x.lookup.book.journal) l.seekers;
        each = each_journal k.server k.setting before limits small k.jobs s.seekers l.seekers olds e.each e.legal;
        read = e.read;
        follows = e.follows;
        tells = grows_weaker told told' _ _ (e.shows (frame e.follows) (count_of s.seekers) told (is_frame e.follows s st) refl (shown_first e.follows s st)) (λ es x.
            subst (λ ws. TellsEarly fault k.server.own k.jobs (frame e.follows) ws e.read es) whose_are (tells_early e.busy fault k.server.own k.jobs (frame e.follows) l e.read es kinds e.planned (subst (λ n. ShowsEarly e.busy fault (frame e.follows) n l e.read es) same_count x)));
        strays = λ is. grows_weaker told told' _ _ (e.strays is (frame e.follows) (count_of s.seekers) told (is_frame e.follows s st) refl (shown_first e.follows s st)) (λ es x.
            subst (λ ws. EndsAtForeign (frame e.follows) ws es e.read max_strays) whose_are (ends_at_foreign e.busy (frame e.follows) l e.read max_strays es (subst (λ n. ShowsForeign e.busy (frame e.follows) n l e.read max_strays es) same_count x)));
        drawn = e.drawn ∙ ap (λ x. drawn_by x e.read.owners) st.words_are;
        ran = ended_ran k.server k.jobs turns rows before after opened closed b.host b.seekers b.back count;
        errands = e.ran.errands;
        are = record { answers = e.ran.answers; losses = e.ran.losses };
        driver = record {
          tables = (flat_map (at_table 0) on, are.tables ∙ ap (flat_map (at_table 0)) split ∙ flat_map-append (at_table 0) (calls ++ did) on);
          stores = (flat_map (at_peers 0) on, are.stores ∙ ap (flat_map (at_peers 0)) split ∙ flat_map-append (at_peers 0) (calls ++ did) on);
          shelves = (flat_map (at_items 0) on, are.shelves ∙ ap (flat_map (at_items 0)) split ∙ flat_map-append (at_items 0) (calls ++ did) on);
        };
        of_driver = ended_of_driver k.server k.jobs turns rows before after opened closed b.host b.seekers b.back count;
      }

-- where all are over, and there was no memory to say what was found
pub ends_finished : (k : Task) (s u : Stand) (owners said : List ℕ) → SameHands s.host u.host → WentWhole k.accepts k.tags k.server k.jobs s u owners said → EndsWhole NoMemory k.accepts k.tags k.server k.jobs s u.words u.host u.told
ends_finished k s u owners said same w = record {
  busy = false;
  last = u;
  read = w.read;
  follows = w.follows;
  planned = inr w.planned;
  shows = λ f count began is known x. grows_weaker began u.told _ _ (w.shows f count began is known x) (λ es y. record { front = es; shows = y; whole = inl refl });
  strays = λ is. absurd cc;
  drawn = w.drawn;
  same = same;
  ran = w.ran;
  ran_on = ran_on_none u.host;
  legal = w.legal;
  each = zip_weaker Goes Lives (λ x y g. g.lives) s.seekers u.seekers w.each;
}
