-- What settling leaves: the events show the longer journal, and the table was told of whom it notes.
use Rattle.std.proofs.Common.{◌≡◌, ℕ, zero, suc, ◌+◌, ◌^◌, ◌<◌, ◌≤◌, List, [], ◌∷◌, ◌++◌, length, Option, true, inl, inr, refl, sym, ap, subst, ◌∙◌, arith}
use Rattle.std.specs.Prelude.{map}
use Rattle.std.specs.List.{All, AllByRecursion, flat_map}
use Rattle.std.proofs.lemmas.Bool.{cases_lt, eqb-true, false≢true}
use Rattle.std.proofs.lemmas.List.{append-nil, append_assoc, map-append}
use Rattle.std.proofs.lemmas.List.Elements.{All-head, All-tail}
use Rattle.kad_base.specs.declared.types.Contact.{Contact}
use Rattle.kad_base.specs.declared.types.Event.{Event}
use Rattle.kad_base.specs.declared.serial.Made.{Made}
use Rattle.kad_base.specs.Limits.{max_strays, max_round_receives}
use Rattle.kad_base.specs.Serial.{left_by, IsRun}
use Rattle.kad_base.proofs.Grown.{grows_weaker}
use Rattle.kad_base.proofs.Runs.{left_by-append}
use Rattle.id_puzzles.specs.Drawn.{WordsState}
use Rattle.query_book.specs.declared.Query.{Query}
use Rattle.contact_table.specs.declared.calls.TableCall.{TableCall}
use Rattle.contact_table.specs.declared.calls.TableCall.TheVariants.{Seen as Seen_call}
use Rattle.contact_table.specs.declared.calls.TableReply.{TableReply}
use Rattle.contact_table.specs.TableState.{TableState}
use Rattle.contact_table.specs.TableStep.{TableMay, TableStep, table_after}
use Rattle.claim_book.specs.declared.types.Entry.{Entry}
use Rattle.claim_book.specs.declared.types.Entry.TheVariants.{Seed, Ask, Heard, Lost, Note, Taken, Held, Turned, Rejected, Skipped}
use Rattle.claim_book.specs.Journal.{seeds, asked, open_any, unsettled, settles_on}
use Rattle.claim_book.specs.Legal.{Legal}
use Rattle.path_worker.specs.Settling.{role_of, seen_with, Settling}
use Rattle.lookup_run.specs.declared.types.LookSetting.{LookSetting}
use Rattle.lookup_run.specs.declared.types.LookupState.{LookupState}
use Rattle.lookup_core.specs.Timeouts.{deadline_of}
use Rattle.lookup_run.specs.Tells.{Given, driven, begun}
use Rattle.lookup_run.specs.Rounds.{Scheduling, path_number, SettlesFrom, SettlesIn, AllSettled}
use Rattle.lookup_run.specs.Lookup.{setting_of, given_of, drawn_for, Told, told_of, told_in, table_calls, TableTold, TableToldBy, TableRan}
use Rattle.lookup_core.specs.LookupSteps.{as_open}
use Rattle.lookup_core.specs.Gathered.{IsBare, Keeping}
use Rattle.lookup_run.specs.inner.DriverInvariant.{Keeps, Walk, Shows}
use Rattle.lookup_run.specs.inner.RoundSteps.{SettlesPaths, Stops}
use Rattle.lookup_core.proofs.Received.{driven_append}
use Rattle.lookup_run.proofs.Early.{early_now}
use Rattle.lookup_core.proofs.Opens.{opens_kept, each_asked}
use Rattle.lookup_core.proofs.Settling.{asked_same, open_same}
use Rattle.lookup_run.proofs.Quiet.{IsMute, IsQuiet, each_quiet, each_mute, no_seeds, none_driven, others_same, settles_from, below_more}
use Rattle.lookup_run.proofs.Walking.{walk_longer, seeds_same, told_in_any, table_then, calls_more, IsRun-append}
use Rattle.lookup_core.specs.SendFaults.{unsent}
use Rattle.lookup_run.proofs.Refusing.{unsent_settled}
use Rattle.lookup_core.specs.Sealed.{Accepts}

-- ---- the table

seen_by : ℕ → TableCall → Told
seen_by p call = record { role = p + 1; call = call }

told_entry : (p : ℕ) (e : Entry) → settles_on p e ≡ true → map (λ call. record { role = p + 1; call = call }) (seen_with e) ≡ told_of e
told_entry p (Note q c) h = ap (λ n. record { role = n + 1; call = Seen_call c } ∷ []) (sym (eqb-true q p h))
told_entry p (Taken q c) h = refl
told_entry p (Held q c by) h = refl
told_entry p (Turned q c) h = refl
told_entry p (Rejected q r) h = refl
told_entry p (Skipped q r) h = refl
told_entry p (Seed q c) h = refl
told_entry p (Ask q c) h = refl
told_entry p (Heard q c reports) h = refl
told_entry p (Lost q c cause) h = absurd (false≢true h)

told_entries : (p : ℕ) (es : List Entry) → All (λ e. settles_on p e ≡ true) es → map (λ call. record { role = p + 1; call = call }) (flat_map seen_with es) ≡ flat_map told_of es
told_entries p [] h = refl
told_entries p (e ∷ es) h =
    map-append (λ (call : TableCall). record { role = p + 1; call = call }) (seen_with e) (flat_map seen_with es)
    ∙ ap (λ l. l ++ map (λ call. record { role = p + 1; call = call }) (flat_map seen_with es)) (told_entry p e (All-head (λ e. settles_on p e ≡ true) e es h))
    ∙ ap (λ l. told_of e ++ l) (told_entries p es (All-tail (λ e. settles_on p e ≡ true) e es h))

told_run : (p : ℕ) (run : List (Made TableCall TableReply)) → All (λ m. m.role ≡ role_of p) run → map told_in run ≡ map (λ call. record { role = p + 1; call = call }) (map (λ m. m.call) run)
told_run p [] h = refl
told_run p (m ∷ run) h =
    ap (λ n. record { role = n; call = m.call } ∷ map told_in run) (All-head (λ (m : Made TableCall TableReply). m.role ≡ role_of p) m run h)
    ∙ ap (λ l. record { role = p + 1; call = m.call } ∷ l) (told_run p run (All-tail (λ (m : Made TableCall TableReply). m.role ≡ role_of p) m run h))

settling_told : (p : ℕ) (old new : LookupState) (h : Settling p old.lookup.book new.lookup.book old.table new.table) → TableTold (flat_map told_of h.more) old.table new.table
settling_told p old new h = record {
  run = h.run;
  is_run = h.is_run;
  leaves = h.leaves;
  calls_are = told_run p h.run h.tells.roles ∙ ap (map (λ call. record { role = p + 1; call = call })) h.tells.calls ∙ told_entries p h.more h.settles;
  kept = h.tells.kept;
}

pub ran_then : (t u v : TableState) → TableRan t u → TableRan u v → TableRan t v
ran_then t u v h k = record {
  run = h.run ++ k.run;
  is_run = IsRun-append t h.run k.run h.is_run (subst (λ (s : TableState). IsRun TableMay TableStep table_after s k.run) h.leaves k.is_run);
  leaves = k.leaves ∙ ap (λ (s : TableState). left_by table_after s k.run) h.leaves ∙ sym (left_by-append table_after t h.run k.run);
}

-- a run after calls that were told
ran_after : (scheduling : Scheduling) (calls : List Told) (t u v : TableState) → TableToldBy scheduling calls t u → TableRan u v → TableRan t v
ran_after scheduling calls t u v h k = ran_then t u v (record { run = h.run; is_run = h.is_run; leaves = h.leaves }) k

-- ---- what the events show

-- such entries may stand behind what the first b paths settled, and are of the first b' paths
pub record Continues (scheduling : Scheduling) (b b' : ℕ) (more : List Entry) : Type 0 where
  pub mute : AllByRecursion IsMute more
  pub settles : (front : List Entry) → SettlesFrom scheduling 0 front → AllByRecursion (λ e. path_number e < b) front → SettlesFrom scheduling 0 (front ++ more)
  pub below : (front : List Entry) → AllByRecursion (λ e. path_number e < b) front → AllByRecursion (λ e. path_number e < b') (front ++ more)

-- what was settled, and what stayed as it was
pub record SettlesMore (scheduling : Scheduling) (b b' : ℕ) (old new : LookupState) (more : List Entry) : Type 0 where
  pub setting : new.lookup.book.setting ≡ old.lookup.book.setting
  pub journal : new.lookup.book.journal ≡ old.lookup.book.journal ++ more
  pub continues : Continues scheduling b b' more
  pub tabled : TableToldBy scheduling (flat_map told_of more) old.table new.table
  pub queries : new.lookup.queries ≡ old.lookup.queries
  pub progress : new.progress ≡ old.progress
  pub gathered : new.gathered ≡ old.gathered

-- the round is over, so what settles may stand here
settles_in : (scheduling : Scheduling) (n b b' : ℕ) (front es : List Entry) → n ≡ 0 → Continues scheduling b b' es → SettlesIn scheduling n front → AllByRecursion (λ e. path_number e < b) front → SettlesIn scheduling n (front ++ es)
settles_in scheduling zero b b' front es is c s below = c.settles front s below
settles_in scheduling (suc n) b b' front es is c s below = absurd (omega (arith, is))

shows_settled : (scheduling : Scheduling) (g : Given) (old new : LookupState) (more : List Entry) (place b b' a : ℕ) (es : List Event) → old.progress.receives ≡ 0 → map (λ q. q.contact) old.lookup.queries ≡ open_any old.lookup.book.journal → SettlesMore scheduling b b' old new more
    → Shows scheduling g old place b a es → Shows scheduling g new place b' a es
shows_settled scheduling g old new more place b b' a es over is_open m h =
    let J = old.lookup.book.journal in
    let J' = new.lookup.book.journal in
    let st = h.stands in
    let mute = m.continues.mute in
    let longer : Walk scheduling g J' (seeds J) (begun h.at) h.rest h.end h.last h.heard =
    subst (λ K. Walk scheduling g K (seeds J) (begun h.at) h.rest h.end h.last h.heard) (sym m.journal) (walk_longer scheduling g J more (seeds J) (begun h.at) h.rest h.end h.last h.heard h.walk) in
    let paths : map (as_open J') new.lookup.queries ≡ map (as_open J) old.lookup.queries =
    ap (map (as_open J')) m.queries ∙ ap (λ K. map (as_open K) old.lookup.queries) m.journal ∙ opens_kept J more old.lookup.queries (each_asked J old.lookup.queries is_open) in
    record {
      at = h.at;
      rest = h.rest;
      first = h.first;
      end = h.end;
      last = h.last;
      heard = h.heard;
      walk = subst (λ cs. Walk scheduling g J' cs (begun h.at) h.rest h.end h.last h.heard) (sym (seeds_same J more J' m.journal (no_seeds more mute))) longer;
      behind = h.behind ++ more;
      journal = m.journal ∙ ap (λ l. l ++ more) h.journal ∙ append_assoc h.last h.behind more;
      settles = settles_in scheduling h.end.receives b b' h.behind more (st.receives ∙ over) m.continues h.settles h.below;
      below = m.continues.below h.behind h.below;
      ascends = h.ascends;
      stands = record {
        moment = st.moment ∙ sym (ap (λ x. x.moment) m.progress);
        queries = st.queries ∙ sym paths;
        sends = st.sends;
        strays = st.strays ∙ sym (ap (λ x. x.strays) m.progress);
        receives = st.receives ∙ sym (ap (λ x. x.receives) m.progress);
        given = st.given ∙ sym (ap driven m.journal ∙ driven_append J more ∙ ap (λ l. driven J ++ l) (none_driven more mute) ∙ append-nil (driven J));
      };
      keeping = subst (λ x. Keeping g.quest.kind h.heard x) (sym m.gathered) h.keeping;
    }

drawn_same : (words start : WordsState) (J J' : List Entry) → asked J' ≡ asked J → words ≡ drawn_for start J → words ≡ drawn_for start J'
drawn_same words start J J' same is = is ∙ ap (λ (cs : List Contact). record { seed = start.seed; place = start.place + length cs }) (sym same)

pub settles_more : (scheduling : Scheduling) (look : LookSetting) (b b' : ℕ) (old new : LookupState) (more : List Entry) (told : Option (List Event)) → Keeps look old → old.progress.receives ≡ 0 → SettlesMore scheduling b b' old new more → AllSettled b' new.lookup.book.journal → SettlesPaths scheduling look b b' old new told
settles_more scheduling look b b' old new more told k over m settled =
    let J = old.lookup.book.journal in
    let J' = new.lookup.book.journal in
    let mute = m.continues.mute in
    let same_asked : asked J' ≡ asked J = ap asked m.journal ∙ asked_same J more (none_driven more mute) in
    let same_open : open_any J' ≡ open_any J = ap open_any m.journal ∙ open_same J more (none_driven more mute) in
    record {
      keeps = record {
        setting = m.setting ∙ k.setting;
        is_open = ap (map (λ (q : Query). q.contact)) m.queries ∙ k.is_open ∙ sym same_open;
        ids = subst (AllByRecursion (λ (q : Query). q.tx < 2 ^ 32)) (sym m.queries) k.ids;
        deadlines = subst (λ x. AllByRecursion (λ (q : Query). q.deadline ≤ deadline_of x.moment look.timeout) new.lookup.queries) (sym m.progress) (subst (AllByRecursion (λ (q : Query). q.deadline ≤ deadline_of old.progress.moment look.timeout)) (sym m.queries) k.deadlines);
        few_strays = subst (λ x. x.strays < max_strays) (sym m.progress) k.few_strays;
        few_receives = subst (λ x. x.receives < max_round_receives) (sym m.progress) k.few_receives;
        is_bare = λ e. subst IsBare (sym m.gathered) (k.is_bare e);
      };
      settled = settled;
      progress = m.progress;
      same_asks = ap length same_asked;
      same_unsent = ap unsent m.journal ∙ unsent_settled J more mute;
      queries = m.queries;
      ran = record { run = m.tabled.run; is_run = m.tabled.is_run; leaves = m.tabled.leaves };
      goes = λ words a accepts start table began al. record {
        drawn = drawn_same words start J J' same_asked al.drawn;
        seeds_are = seeds_same J more J' m.journal (no_seeds more mute) ∙ al.seeds_are;
        tabled = subst (λ calls. TableToldBy scheduling calls table new.table) (calls_more look J more J' m.journal) (table_then scheduling (table_calls look J) (flat_map told_of more) table old.table new.table al.tabled m.tabled);
        shows = grows_weaker began told _ _ al.shows (λ es s. shows_settled scheduling (given_of look accepts start) old new more words.place b b' a es over k.is_open m s);
      };
    }

-- ---- one path

settled_more : (p : ℕ) (J more J' : List Entry) → J' ≡ J ++ more → AllByRecursion (IsQuiet p) more → AllSettled p J → unsettled p J' ≡ [] → AllSettled (p + 1) J'
settled_more p J more J' journal quiet below here q lt = elim (cases_lt q p) [
  | inl less ↦ ap (unsettled q) journal ∙ others_same p q J more (λ e. absurd (omega (arith, less, e))) quiet ∙ below q less
  | inr more_than ↦ (let is : q ≡ p = omega (arith, lt, more_than) in ap (λ n. unsettled n J') is ∙ here)
]

path_continues : (scheduling : Scheduling) (p : ℕ) (more : List Entry) → AllByRecursion (IsQuiet p) more → Continues scheduling p (p + 1) more
path_continues scheduling p more quiet = record {
  mute = each_mute p more quiet;
  settles = λ front s below. settles_from scheduling 0 p front more (omega arith) s below quiet;
  below = λ front below. below_more p front more below quiet;
}

pub settles_path : (scheduling : Scheduling) (look : LookSetting) (p : ℕ) (old new : LookupState) (told : Option (List Event)) → Keeps look old → old.progress.receives ≡ 0 → AllSettled p old.lookup.book.journal → (h : Settling p old.lookup.book new.lookup.book old.table new.table) → unsettled p new.lookup.book.journal ≡ []
    → new.lookup.queries ≡ old.lookup.queries → new.progress ≡ old.progress → new.gathered ≡ old.gathered → SettlesPaths scheduling look p (p + 1) old new told
settles_path scheduling look p old new told k over below h here queries progress gathered =
    let quiet = each_quiet p h.more h.settles in
    settles_more scheduling look p (p + 1) old new h.more told k over (record {
      setting = h.setting;
      journal = h.journal;
      continues = path_continues scheduling p h.more quiet;
      tabled = told_in_any scheduling (flat_map told_of h.more) old.table new.table (settling_told p old new h);
      queries = queries;
      progress = progress;
      gathered = gathered;
    }) (settled_more p old.lookup.book.journal h.more new.lookup.book.journal h.journal quiet below here)

-- where it ends early, the journal is that from before, and the table is what some run leaves
pub stops_settling : (look : LookSetting) (accepts : Accepts) (old new : LookupState) (told : Option (List Event)) → Legal (setting_of look) old.lookup.book.journal → old.progress.strays < max_strays → TableRan old.table new.table → (words : WordsState) → Stops look accepts words words old new told told
stops_settling look accepts old new told legal few ran words scheduling start table began b a al sends = record {
  unfinished = λ first refused. record {
    journal = old.lookup.book.journal;
    legal = legal;
    seeds_are = al.seeds_are;
    tells = grows_weaker began told _ _ al.shows (λ es s. early_now scheduling (given_of look accepts start) old words.place b a es few s);
    drawn = al.drawn;
    refused = refused;
  };
  ran = ran_after scheduling (table_calls look old.lookup.book.journal) table old.table new.table al.tabled ran;
}

-- ---- path by path

pub settles_nothing : (scheduling : Scheduling) (look : LookSetting) (work : LookupState) (told : Option (List Event)) → Keeps look work → SettlesPaths scheduling look 0 0 work work told
settles_nothing scheduling look work told k = record {
  keeps = k;
  settled = λ p lt. absurd (omega arith);
  progress = refl;
  same_asks = refl;
  same_unsent = refl;
  queries = refl;
  ran = record { run = []; is_run = tt; leaves = refl };
  goes = λ words a accepts start table began al. al;
}

pub settles_then : (scheduling : Scheduling) (look : LookSetting) (from mid to : ℕ) (a b c : LookupState) (told : Option (List Event)) → SettlesPaths scheduling look from mid a b told → SettlesPaths scheduling look mid to b c told → SettlesPaths scheduling look from to a c told
settles_then scheduling look from mid to a b c told h k = record {
  keeps = k.keeps;
  settled = k.settled;
  progress = k.progress ∙ h.progress;
  same_asks = k.same_asks ∙ h.same_asks;
  same_unsent = k.same_unsent ∙ h.same_unsent;
  queries = k.queries ∙ h.queries;
  ran = ran_then a.table b.table c.table h.ran k.ran;
  goes = λ words n accepts start table began al. k.goes words n accepts start table began (h.goes words n accepts start table began al);
}
