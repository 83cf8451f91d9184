-- What the events show goes on, event by event, while the journal grows.
use Rattle.std.proofs.Common.{◌≡◌, ◌≢◌, ◌==◌, ℕ, zero, suc, ◌≤◌, List, [], ◌∷◌, ◌++◌, Option, refl, sym, ap, subst, ◌∙◌, arith}
use Rattle.std.specs.Prelude.{map}
use Rattle.std.specs.List.{AllByRecursion, flat_map}
use Rattle.std.proofs.lemmas.List.{append-nil, append_assoc, map-append}
use Rattle.lookup_core.proofs.Received.{seeds_append}
use Rattle.std.proofs.lemmas.List.Concat.{flat_map-append}
use Rattle.std.proofs.lemmas.List.Elements.{All-append, filter-append}
use Rattle.kad_base.specs.declared.types.Event.{Event}
use Rattle.kad_base.specs.declared.types.Event.TheVariants.{Now, Sent, Unsent, Got, Quiet}
use Rattle.kad_base.specs.declared.serial.Made.{Made}
use Rattle.kad_base.specs.Outside.{Grows}
use Rattle.kad_base.specs.Serial.{left_by, IsRun}
use Rattle.kad_base.proofs.Grown.{grows_then, grows_weaker}
use Rattle.kad_base.proofs.Runs.{left_by-append}
use Rattle.id_puzzles.specs.Drawn.{WordsState}
use Rattle.contact_table.specs.declared.calls.TableCall.{TableCall}
use Rattle.contact_table.specs.declared.calls.TableReply.{TableReply}
use Rattle.contact_table.specs.declared.calls.TableReply.TheVariants.{NoMemory}
use Rattle.contact_table.specs.TableState.{TableState}
use Rattle.contact_table.specs.TableStep.{TableMay, TableStep, table_after}
use Rattle.claim_book.specs.declared.types.Entry.{Entry}
use Rattle.claim_book.specs.Journal.{seeds}
use Rattle.lookup_core.proofs.Lists.{all_weaker}
use Rattle.lookup_run.specs.declared.types.LookSetting.{LookSetting}
use Rattle.lookup_run.specs.declared.types.LookupState.{LookupState}
use Rattle.lookup_run.specs.Tells.{Given, Seen, HasAsked, HaveAsked, Receives, Gives, begun}
use Rattle.lookup_run.specs.Rounds.{Scheduling, sequential, concurrent, path_number, SettlesIn, InTurn}
use Rattle.lookup_core.specs.Reply.{Answered}
use Rattle.lookup_core.specs.Gathered.{KeepsFor}
use Rattle.lookup_core.proofs.Gathering.{keeping_more}
use Rattle.lookup_run.specs.Gathered.{Hears}
use Rattle.lookup_run.specs.Lookup.{given_of, drawn_for, told_of, table_calls, told_in, told_by, Told, AreCalls, TableTold, TableToldBy}
use Rattle.lookup_run.specs.inner.DriverInvariant.{Step, Walk, KeepsSeen, Shows, TraceInvariant, Preserves}
use Rattle.lookup_core.specs.Sealed.{Accepts}

-- ---- a longer journal

asked_longer : (g : Given) (J more : List Entry) (s : Seen) (p : ℕ) → HasAsked g J s p → HasAsked g (J ++ more) s p
asked_longer g J more s p h = record {
  before = h.before;
  behind = h.behind ++ more;
  later = h.later;
  earlier = h.earlier;
  splits = ap (λ l. l ++ more) h.splits ∙ append_assoc h.before h.behind more;
  none = h.none;
  covers = h.covers;
  since_receive = h.since_receive;
  of_others = h.of_others;
}

have_longer : (n : ℕ) (g : Given) (J more : List Entry) (s : Seen) → HaveAsked n g J s → HaveAsked n g (J ++ more) s
have_longer zero g J more s h = λ p lt. asked_longer g J more s p (h p lt)
have_longer (suc n) g J more s h = tt

receives_longer : (g : Given) (J more : List Entry) (s : Seen) (until : ℕ) → Receives g J s until → Receives g (J ++ more) s until
receives_longer g J more s until h = record { some_open = h.some_open; waits = h.waits; asked = have_longer s.receives g J more s h.asked }

pub gives_longer : (g : Given) (J more : List Entry) (s t : Seen) (e : Event) → Gives g J s e t → Gives g (J ++ more) s e t
gives_longer g J more s t (Now at) h = h
gives_longer g J more s t (Sent to bytes) h = h
gives_longer g J more s t (Unsent to bytes) h = h
gives_longer g J more s t (Got from bytes until at) h = (receives_longer g J more s until h.0, h.1)
gives_longer g J more s t (Quiet until at) h = (receives_longer g J more s until h.0, h.1)

step_longer : (scheduling : Scheduling) (g : Given) (J more P : List Entry) (s : Seen) (e : Event) → Step scheduling g J P s e → Step scheduling g (J ++ more) P s e
step_longer scheduling g J more P s e h = record {
  mid = h.mid;
  between = h.between;
  gave = h.gave;
  found = h.found;
  gives = gives_longer g J more s h.mid e h.gives;
  given = h.given;
  settles = h.settles;
  in_turn = h.in_turn;
  hears = h.hears;
}

pub walk_longer : (scheduling : Scheduling) (g : Given) (J more P : List Entry) (s : Seen) (es : List Event) (t : Seen) (Q : List Entry) (heard : List Answered) → Walk scheduling g J P s es t Q heard → Walk scheduling g (J ++ more) P s es t Q heard
unfolding step_longer
walk_longer scheduling g J more P s [] t Q heard h = h
walk_longer scheduling g J more P s (e ∷ es) t Q heard h = (step_longer scheduling g J more P s e h.0, h.1, walk_longer scheduling g J more ((P ++ h.0.between) ++ h.0.gave) h.0.mid es t Q h.1 h.2, h.3)

-- ---- one event more

pub walk_on : (scheduling : Scheduling) (g : Given) (J P : List Entry) (s : Seen) (es : List Event) (m : Seen) (Q : List Entry) (heard : List Answered) (e : Event) → Walk scheduling g J P s es m Q heard → (step : Step scheduling g J Q m e)
    → Walk scheduling g J P s (es ++ e ∷ []) step.mid ((Q ++ step.between) ++ step.gave) (heard ++ step.found)
walk_on scheduling g J P s [] m Q heard e h =
    let here : (step : Step scheduling g J P s e) → Walk scheduling g J P s (e ∷ []) step.mid ((P ++ step.between) ++ step.gave) ([] ++ step.found) =
    (λ step. (step, [], (refl, refl, refl), sym (append-nil step.found))) in
    let there = subst (λ (l : List Answered). (step : Step scheduling g J P s e) → Walk scheduling g J P s (e ∷ []) step.mid ((P ++ step.between) ++ step.gave) (l ++ step.found)) (sym h.2) here in
    let these = subst (λ (R : List Entry). (step : Step scheduling g J R s e) → Walk scheduling g J P s (e ∷ []) step.mid ((R ++ step.between) ++ step.gave) (heard ++ step.found)) (sym h.1) there in
    subst (λ (x : Seen). (step : Step scheduling g J Q x e) → Walk scheduling g J P s (e ∷ []) step.mid ((Q ++ step.between) ++ step.gave) (heard ++ step.found)) (sym h.0) these
walk_on scheduling g J P s (x ∷ es) m Q heard e h = λ step. (
  h.0,
  h.1 ++ step.found,
  walk_on scheduling g J ((P ++ h.0.between) ++ h.0.gave) h.0.mid es m Q h.1 e h.2 step,
  ap (λ l. l ++ step.found) h.3 ∙ append_assoc h.0.found h.1 step.found,
)

-- what one event owes, where it gives these entries
pub record OneEvent (g : Given) (old new : LookupState) (more : List Entry) (place' a' : ℕ) (s : Seen) (e : Event) : Type 0 where
  pub after : Seen
  pub gives : Gives g new.lookup.book.journal s e after
  pub given : after.given ≡ s.given ++ more
  pub in_turn : InTurn g.setting old.lookup.book.journal s e more
  pub stands : KeepsSeen g new place' after
  pub ascends : AllByRecursion (λ (x : Entry). path_number x ≤ a') after.since
  pub found : List Answered
  pub hears : Hears g.quest g.accepts s e found
  pub keeps : KeepsFor g.quest.kind found old.gathered new.gathered

pub seeds_same : (J more J' : List Entry) → J' ≡ J ++ more → seeds more ≡ [] → seeds J' ≡ seeds J
seeds_same J more J' is none = ap seeds is ∙ seeds_append J more ∙ ap (λ l. seeds J ++ l) none ∙ append-nil (seeds J)

settles_none : (scheduling : Scheduling) (n : ℕ) → SettlesIn scheduling n []
settles_none scheduling zero = tt
settles_none scheduling (suc n) = refl

pub shows_next : (scheduling : Scheduling) (g : Given) (old new : LookupState) (more : List Entry) (place place' b b' a a' : ℕ) (e : Event) (es fs : List Event) → new.lookup.book.journal ≡ old.lookup.book.journal ++ more → seeds more ≡ []
    → ((s : Seen) → KeepsSeen g old place s → AllByRecursion (λ (x : Entry). path_number x ≤ a) s.since → OneEvent g old new more place' a' s e)
    → Shows scheduling g old place b a es → fs ≡ e ∷ [] → Shows scheduling g new place' b' a' (es ++ fs)
shows_next scheduling g old new more place place' b b' a a' e es fs journal no_seeds next h is =
    let J = old.lookup.book.journal in
    let J' = new.lookup.book.journal in
    let on = next h.end h.stands h.ascends in
    let longer : Walk scheduling g J' (seeds J) (begun h.at) h.rest h.end h.last h.heard =
    subst (λ K. Walk scheduling g K (seeds J) (begun h.at) h.rest h.end h.last h.heard) (sym journal) (walk_longer scheduling g J more (seeds J) (begun h.at) h.rest h.end h.last h.heard h.walk) in
    let begins : Walk scheduling g J' (seeds J') (begun h.at) h.rest h.end h.last h.heard =
    subst (λ cs. Walk scheduling g J' cs (begun h.at) h.rest h.end h.last h.heard) (sym (seeds_same J more J' journal no_seeds)) longer in
    let step : Step scheduling g J' h.last h.end e = record {
      mid = on.after;
      between = h.behind;
      gave = more;
      found = on.found;
      gives = on.gives;
      given = on.given;
      settles = h.settles;
      in_turn = subst (λ l. InTurn g.setting l h.end e more) h.journal on.in_turn;
      hears = on.hears;
    } in
    record {
      at = h.at;
      rest = h.rest ++ e ∷ [];
      first = ap (λ l. es ++ l) is ∙ ap (λ l. l ++ e ∷ []) h.first;
      end = on.after;
      last = (h.last ++ h.behind) ++ more;
      heard = h.heard ++ on.found;
      walk = walk_on scheduling g J' (seeds J') (begun h.at) h.rest h.end h.last h.heard e begins step;
      behind = [];
      journal = journal ∙ ap (λ l. l ++ more) h.journal ∙ sym (append-nil ((h.last ++ h.behind) ++ more));
      settles = settles_none scheduling on.after.receives;
      below = tt;
      ascends = on.ascends;
      stands = on.stands;
      keeping = keeping_more g.quest.kind h.heard on.found old.gathered new.gathered h.keeping on.keeps;
    }

-- ---- the table

-- one run after another
told_append : (role : ℕ) (xs ys : List Told) → told_by role (xs ++ ys) ≡ told_by role xs ++ told_by role ys
told_append role xs ys = filter-append (λ t. t.role == role) xs ys

are_both : (scheduling : Scheduling) (xs ys made made' : List Told) → AreCalls scheduling made xs → AreCalls scheduling made' ys → AreCalls scheduling (made ++ made') (xs ++ ys)
are_both sequential xs ys made made' h k = ap (λ l. l ++ made') h ∙ ap (λ l. xs ++ l) k
are_both concurrent xs ys made made' h k = λ role. told_append role made made' ∙ ap (λ l. l ++ told_by role made') (h role) ∙ ap (λ l. told_by role xs ++ l) (k role) ∙ sym (told_append role xs ys)

are_exactly : (scheduling : Scheduling) (calls made : List Told) → made ≡ calls → AreCalls scheduling made calls
are_exactly sequential calls made is = is
are_exactly concurrent calls made is = λ role. ap (told_by role) is

-- what was told in an order was told in whatever scheduling
pub told_in_any : (scheduling : Scheduling) (calls : List Told) (t u : TableState) → TableTold calls t u → TableToldBy scheduling calls t u
told_in_any scheduling calls t u h = record { run = h.run; is_run = h.is_run; leaves = h.leaves; calls_are = are_exactly scheduling calls (map told_in h.run) h.calls_are; kept = h.kept }

pub IsRun-append : (t : TableState) (xs ys : List (Made TableCall TableReply)) → IsRun TableMay TableStep table_after t xs → IsRun TableMay TableStep table_after (left_by table_after t xs) ys → IsRun TableMay TableStep table_after t (xs ++ ys)
IsRun-append t [] ys r q = q
IsRun-append t (x ∷ xs) ys r q = (r.0, r.1, IsRun-append (table_after t x.role x.call x.reply) xs ys r.2 q)

pub table_then : (scheduling : Scheduling) (xs ys : List Told) (t u v : TableState) → TableToldBy scheduling xs t u → TableToldBy scheduling ys u v → TableToldBy scheduling (xs ++ ys) t v
table_then scheduling xs ys t u v h k = record {
  run = h.run ++ k.run;
  is_run = IsRun-append t h.run k.run h.is_run (subst (λ (s : TableState). IsRun TableMay TableStep table_after s k.run) h.leaves k.is_run);
  leaves = k.leaves ∙ ap (λ (s : TableState). left_by table_after s k.run) h.leaves ∙ sym (left_by-append table_after t h.run k.run);
  calls_are = subst (λ made. AreCalls scheduling made (xs ++ ys)) (sym (map-append told_in h.run k.run)) (are_both scheduling xs ys (map told_in h.run) (map told_in k.run) h.calls_are k.calls_are);
  kept = All-append (λ (m : Made TableCall TableReply). m.reply ≢ NoMemory) h.run k.run h.kept k.kept;
}

-- no calls
pub table_same : (t u : TableState) → u ≡ t → TableTold [] t u
table_same t u is = record { run = []; is_run = tt; leaves = is; calls_are = refl; kept = λ k d lt. absurd (omega arith) }

pub calls_more : (look : LookSetting) (J more J' : List Entry) → J' ≡ J ++ more → table_calls look J ++ flat_map told_of more ≡ table_calls look J'
calls_more look J more J' is = sym (ap (table_calls look) is ∙ ap (λ l. table_calls look [] ++ l) (flat_map-append told_of J more))

-- ---- the whole of what is known

-- what a step with one event owes
pub record NextStep (look : LookSetting) (accepts : Accepts) (words words' : WordsState) (old new : LookupState) (a a' : ℕ) (e : Event) : Type 0 where
  pub more : List Entry
  pub journal : new.lookup.book.journal ≡ old.lookup.book.journal ++ more
  pub no_seeds : seeds more ≡ []
  pub drawn : (start : WordsState) → words ≡ drawn_for start old.lookup.book.journal → words' ≡ drawn_for start new.lookup.book.journal
  pub tabled : TableTold (flat_map told_of more) old.table new.table
  pub next : (start : WordsState) → words ≡ drawn_for start old.lookup.book.journal → (s : Seen) → KeepsSeen (given_of look accepts start) old words.place s
      → AllByRecursion (λ (x : Entry). path_number x ≤ a) s.since → OneEvent (given_of look accepts start) old new more words'.place a' s e

pub along_next : (look : LookSetting) (accepts : Accepts) (words words' : WordsState) (old new : LookupState) (b b' a a' : ℕ) (e : Event) (told told' : Option (List Event)) → NextStep look accepts words words' old new a a' e → Grows told told' (λ es. es ≡ e ∷ []) → Preserves look accepts words words' old new b a b' a' told told'
along_next look accepts words words' old new b b' a a' e told told' n grows scheduling start table began h = record {
  drawn = n.drawn start h.drawn;
  seeds_are = seeds_same old.lookup.book.journal n.more new.lookup.book.journal n.journal n.no_seeds ∙ h.seeds_are;
  tabled = subst (λ calls. TableToldBy scheduling calls table new.table) (calls_more look old.lookup.book.journal n.more new.lookup.book.journal n.journal)
      (table_then scheduling (table_calls look old.lookup.book.journal) (flat_map told_of n.more) table old.table new.table h.tabled (told_in_any scheduling (flat_map told_of n.more) old.table new.table n.tabled));
  shows = grows_then began told told' _ _ _ h.shows grows (λ es fs p is. shows_next scheduling (given_of look accepts start) old new n.more words.place words'.place b b' a a' e es fs n.journal n.no_seeds (n.next start h.drawn) p is);
}

-- ---- weaker bounds

shows_later : (scheduling : Scheduling) (g : Given) (work : LookupState) (place b a a' : ℕ) (es : List Event) → a ≤ a' → Shows scheduling g work place b a es → Shows scheduling g work place b a' es
shows_later scheduling g work place b a a' es le h = record {
  at = h.at;
  rest = h.rest;
  first = h.first;
  end = h.end;
  last = h.last;
  heard = h.heard;
  walk = h.walk;
  behind = h.behind;
  journal = h.journal;
  settles = h.settles;
  below = h.below;
  ascends = all_weaker (λ (e : Entry). path_number e ≤ a) (λ (e : Entry). path_number e ≤ a') (λ e x. omega (arith, x, le)) h.end.since h.ascends;
  stands = h.stands;
  keeping = h.keeping;
}

pub along_later : (scheduling : Scheduling) (look : LookSetting) (accepts : Accepts) (start : WordsState) (table : TableState) (began : Option (List Event)) (words : WordsState) (work : LookupState) (b a a' : ℕ) (told : Option (List Event)) → a ≤ a' → TraceInvariant scheduling look accepts start table began words work b a told → TraceInvariant scheduling look accepts start table began words work b a' told
along_later scheduling look accepts start table began words work b a a' told le h = record {
  drawn = h.drawn;
  seeds_are = h.seeds_are;
  tabled = h.tabled;
  shows = grows_weaker began told _ _ h.shows (λ es x. shows_later scheduling (given_of look accepts start) work words.place b a a' es le x);
}
