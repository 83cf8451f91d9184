-- A lookup begins with the seeds of a table, and ends where every path has run out, or early.
use Rattle.std.proofs.Common.{◌≡◌, ◌≢◌, ℕ, zero, suc, ◌+◌, ◌<◌, ◌≤◌, ◌^◌, List, [], ◌∷◌, ◌++◌, length, get_or, Option, true, false, Result, Ok, Err, IfOk, inl, inr, refl, sym, ap, subst, ◌∙◌, arith}
use Rattle.std.specs.Prelude.{map, IsSome}
use Rattle.std.specs.List.{All, AllByRecursion, flat_map}
use Rattle.std.specs.List.Sorted.{IsStrictlySortedBy}
use Rattle.std.proofs.lemmas.List.{append-nil}
use Rattle.std.proofs.lemmas.List.Elements.{All-from_recursion}
use Rattle.kad_base.specs.declared.types.Addr.{Addr}
use Rattle.kad_base.specs.declared.types.Contact.{Contact}
use Rattle.kad_base.specs.declared.types.Event.{Event}
use Rattle.kad_base.specs.declared.types.Event.TheVariants.{Now}
use Rattle.kad_base.specs.declared.serial.Made.{Made}
use Rattle.kad_base.specs.Contacts.{IsUsable}
use Rattle.kad_base.specs.Limits.{max_strays}
use Rattle.kad_base.specs.Outside.{Grows}
use Rattle.kad_base.proofs.Grown.{grows_weaker, grows_none}
use Rattle.kad_distance.specs.Order.{closeness}
use Rattle.kad_distance.proofs.Chosen.{closest_rises, closest_few, closest_among}
use Rattle.id_puzzles.specs.Drawn.{WordsState}
use Rattle.query_book.specs.declared.Query.{Query}
use Rattle.contact_table.specs.TableState.{TableState}
use Rattle.contact_table.specs.declared.calls.TableCall.{TableCall}
use Rattle.contact_table.specs.declared.calls.TableCall.TheVariants.{Closest}
use Rattle.contact_table.specs.declared.calls.TableReply.{TableReply}
use Rattle.contact_table.specs.declared.calls.TableReply.TheVariants.{List as List_reply, NoMemory}
use Rattle.contact_table.specs.TableStep.{TableStep, table_after, contacts_of}
use Rattle.claim_book.specs.declared.types.Setting.{Setting}
use Rattle.claim_book.specs.declared.types.Entry.{Entry}
use Rattle.claim_book.specs.declared.types.Entry.TheVariants.{Seed}
use Rattle.claim_book.specs.Journal.{seeds, asked, open_any, unsettled}
use Rattle.claim_book.specs.Legal.{Legal, seeded}
use Rattle.lookup_core.proofs.Received.{seeds_quiet}
use Rattle.claim_book.specs.RunOut.{RunOut}
use Rattle.claim_book.specs.Result.{result_of}
use Rattle.claim_book.specs.State.{BookState}
use Rattle.claim_book.specs.Calls.{Counted, IsFound}
use Rattle.claim_book.proofs.Ends.{over_or_ask}
use Rattle.claim_book.proofs.Seeding.{AreSeeds, seeded_seeds, legal_seeded}
use Rattle.lookup_core.specs.declared.quest.AskKind.TheVariants.{FindNode}
use Rattle.lookup_run.specs.declared.types.LookSetting.{LookSetting}
use Rattle.lookup_run.specs.declared.types.Outcome.{Outcome}
use Rattle.lookup_run.specs.declared.types.Progress.{Progress}
use Rattle.lookup_core.specs.declared.gather.Token.{Token}
use Rattle.lookup_core.specs.declared.gather.Item.{Item}
use Rattle.lookup_run.specs.declared.types.LookupState.{LookupState}
use Rattle.lookup_core.specs.Timeouts.{deadline_of}
use Rattle.lookup_run.specs.Tells.{Given, Seen, driven, begun, Tells, HasFewStrays, NeverEnds}
use Rattle.lookup_run.specs.Rounds.{Scheduling, SettlesIn, AllSettled, NoneAsks, RoundsFrom, Rounds}
use Rattle.lookup_core.specs.Reply.{Answered}
use Rattle.lookup_core.specs.Gathered.{IsEachOnce}
use Rattle.lookup_core.proofs.Gathering.{begun_keeping, each_of_none, gathers_of}
use Rattle.lookup_run.specs.Gathered.{HearsFrom, Gathers}
use Rattle.lookup_run.specs.Lookup.{setting_of, given_of, seeds_in, seeds_dealt, drawn_for, IsWithinLimits, told_of, table_calls, Finished, Unfinished, TableTold, TableToldBy}
use Rattle.lookup_core.specs.LookupSteps.{as_open}
use Rattle.lookup_run.specs.inner.DriverInvariant.{Keeps, Walk, TraceInvariant}
use Rattle.lookup_run.specs.inner.RoundSteps.{Begins, IsOver, IsDone, IsBookOf, asks_seeds, IsBegun, Ended}
use Rattle.lookup_run.proofs.Early.{so_far_of, early_now, ran_of}
use Rattle.lookup_run.proofs.Fewer.{few_told, never_told}
use Rattle.lookup_run.proofs.Walking.{told_in_any}
use Rattle.lookup_core.specs.declared.quest.AskKind.TheVariants.{FindNode}
use Rattle.lookup_core.proofs.Refusing.{refused_seeded}
use Rattle.lookup_core.specs.Sealed.{Accepts}
use Rattle.lookup_core.proofs.Others.{none_on}
use Rattle.lookup_core.proofs.Seeds.{seeds_stand, seeds_ask, seeds_settled, seeds_open}

-- ---- a journal of seeds alone

all_tell : (J : List Entry) → AreSeeds J → flat_map told_of J ≡ []
all_tell [] h = refl
all_tell (Seed q c ∷ J) h = all_tell J h.1
all_tell (x ∷ J) h = absurd h.0

seeds_tell : (limit paths : ℕ) (cs : List Contact) → flat_map told_of (seeded limit paths cs) ≡ []
seeds_tell limit paths cs = all_tell (seeded limit paths cs) (seeded_seeds limit paths cs)

-- ---- the beginning

-- what a lookup begins with
pub record Opening (look : LookSetting) (words : WordsState) (table table' : TableState) (book : BookState) (moment : ℕ) (work : LookupState) (told told' : Option (List Event)) : Type 0 where
  pub book_of : IsBookOf look table book
  pub tabled : TableTold (asks_seeds look) table table'
  pub begun_at : IsBegun book table' moment work
  pub grows : Grows told told' (λ es. es ≡ Now moment ∷ [])
  pub place : words.place < 2 ^ 59

pub journal_of : (look : LookSetting) (words : WordsState) (table table' : TableState) (book : BookState) (moment : ℕ) (work : LookupState) (told told' : Option (List Event)) → Opening look words table table' book moment work told told' → work.lookup.book.journal ≡ seeds_dealt look table
journal_of look words table table' book moment work told told' o = ap (λ (b : BookState). b.journal) o.begun_at.book_is ∙ o.book_of.journal

pub begins_of : (look : LookSetting) (words : WordsState) (table table' : TableState) (book : BookState) (moment : ℕ) (work : LookupState) (told told' : Option (List Event)) → Opening look words table table' book moment work told told' → Begins look words work
begins_of look words table table' book moment work told told' o =
    let b = o.begun_at in
    let journal = journal_of look words table table' book moment work told told' o in
    let progress = b.progress in
    record {
      keeps = record {
        setting = ap (λ (x : BookState). x.setting) b.book_is ∙ o.book_of.setting;
        is_open = ap (map (λ (q : Query). q.contact)) b.none_open ∙ sym (ap open_any journal ∙ seeds_open look.per_address look.paths (seeds_in look table));
        ids = subst (AllByRecursion (λ (q : Query). q.tx < 2 ^ 32)) (sym b.none_open) tt;
        deadlines = subst (AllByRecursion (λ (q : Query). q.deadline ≤ deadline_of work.progress.moment look.timeout)) (sym b.none_open) tt;
        few_strays = (let z = ap (λ (x : Progress). x.strays) progress in omega (arith, z));
        few_receives = (let z = ap (λ (x : Progress). x.receives) progress in omega (arith, z));
        is_bare = λ e. record { no_peers = b.no_peers; no_tokens = b.no_tokens; no_items = b.no_items };
      };
      has_words = (let lt = o.place in omega (arith, lt));
      round_over = ap (λ (x : Progress). x.receives) progress;
      settled = λ p lt. ap (unsettled p) journal ∙ seeds_settled p look.per_address look.paths (seeds_in look table);
    }

pub along_of : (scheduling : Scheduling) (look : LookSetting) (accepts : Accepts) (words : WordsState) (table table' : TableState) (book : BookState) (moment : ℕ) (work : LookupState) (told told' : Option (List Event)) → Opening look words table table' book moment work told told' → TraceInvariant scheduling look accepts words table told words work look.paths 0 told'
along_of scheduling look accepts words table table' book moment work told told' o =
    let b = o.begun_at in
    let cs = seeds_in look table in
    let journal = journal_of look words table table' book moment work told told' o in
    let begins : seeds work.lookup.book.journal ≡ seeds_dealt look table = ap seeds journal ∙ seeds_stand look.per_address look.paths cs in
    let none : length (asked work.lookup.book.journal) ≡ 0 = ap (λ J. length (asked J)) journal ∙ ap length (seeds_ask look.per_address look.paths cs) in
    let place : words.place ≡ words.place + length (asked work.lookup.book.journal) = omega (arith, none) in
    record {
      drawn = ap (λ n. record { seed = words.seed; place = n }) place;
      seeds_are = begins;
      tabled = subst (λ (t : TableState). TableToldBy scheduling (table_calls look work.lookup.book.journal) table t) (sym b.table_is)
          (subst (λ calls. TableToldBy scheduling calls table table') (sym (ap (table_calls look) journal ∙ ap (λ l. asks_seeds look ++ l) (seeds_tell look.per_address look.paths cs))) (told_in_any scheduling (asks_seeds look) table table' o.tabled));
      shows = grows_weaker told told' _ _ o.grows (λ es is. record {
        at = moment;
        rest = [];
        first = is;
        end = begun moment;
        last = seeds work.lookup.book.journal;
        heard = [];
        walk = (refl, refl, refl);
        behind = [];
        journal = journal ∙ sym begins ∙ sym (append-nil (seeds work.lookup.book.journal));
        settles = tt;
        below = tt;
        ascends = tt;
        stands = record {
          moment = sym (ap (λ (x : Progress). x.moment) b.progress);
          queries = sym (ap (map (as_open work.lookup.book.journal)) b.none_open);
          sends = omega arith;
          strays = sym (ap (λ (x : Progress). x.strays) b.progress);
          receives = sym (ap (λ (x : Progress). x.receives) b.progress);
          given = sym (ap driven journal ∙ seeds_quiet look.per_address look.paths cs);
        };
        keeping = begun_keeping look.kind work.gathered b.no_peers b.no_tokens b.no_items;
      });
    }

-- ---- an end before the first event

usable_seeds : (look : LookSetting) (table : TableState) → All (IsUsable look.own) (contacts_of table) → All (IsUsable look.own) (seeds_in look table)
usable_seeds look table usable k d lt =
    let c = get_or (seeds_in look table) k d in
    let there = closest_among look.target look.k (contacts_of table) c (k, lt, get_or_any (seeds_in look table) k d c lt) in
    subst (IsUsable look.own) there.2 (usable there.0 c there.1)
  where
    get_or_any : (xs : List Contact) (k : ℕ) (d e : Contact) → k < length xs → get_or xs k e ≡ get_or xs k d
    get_or_any [] k d e lt = absurd (omega (arith, lt))
    get_or_any (x ∷ xs) zero d e lt = refl
    get_or_any (x ∷ xs) (suc k) d e lt = get_or_any xs k d e (omega (arith, lt))

pub record SeedsFit (look : LookSetting) (table : TableState) : Type 0 where
  pub few : length (seeds_in look table) ≤ look.k
  pub in_order : IsStrictlySortedBy (closeness look.target) (seeds_in look table)
  pub usable : All (IsUsable look.own) (seeds_in look table)

pub seeds_fit : (look : LookSetting) (table : TableState) → All (IsUsable look.own) (contacts_of table) → SeedsFit look table
seeds_fit look table usable = record {
  few = closest_few look.target look.k (contacts_of table);
  in_order = closest_rises look.target look.k (contacts_of table);
  usable = usable_seeds look table usable;
}

pub never_began : (look : LookSetting) (accepts : Accepts) (table : TableState) (words : WordsState) (told : Option (List Event)) → 0 < look.paths → All (IsUsable look.own) (contacts_of table) → (sends : ℕ) → Unfinished look accepts table words words told told sends sends
never_began look accepts table words told some usable sends =
    let cs = seeds_in look table in
    let J = seeded look.per_address look.paths cs in
    let fit = seeds_fit look table usable in
    let none : length (asked J) ≡ 0 = ap length (seeds_ask look.per_address look.paths cs) in
    let place : words.place ≡ words.place + length (asked J) = omega (arith, none) in
    record {
      journal = J;
      legal = legal_seeded (setting_of look) cs some fit.few fit.in_order fit.usable;
      seeds_are = seeds_stand look.per_address look.paths cs;
      tells = grows_none told _ (record { front = []; end = begun 0; so_far = (seeds_quiet look.per_address look.paths cs, refl); few = omega arith; whole = inl refl });
      drawn = ap (λ n. record { seed = words.seed; place = n }) place;
      refused = refused_seeded look.per_address look.paths cs sends;
    }

-- ---- the end

rounds_of : (scheduling : Scheduling) (g : Given) (J P : List Entry) (s : Seen) (es : List Event) (t : Seen) (Q behind : List Entry) (heard : List Answered) → Walk scheduling g J P s es t Q heard → J ≡ Q ++ behind → SettlesIn scheduling t.receives behind → RoundsFrom scheduling g J P s es
rounds_of scheduling g J P s [] t Q behind heard h is settles = (behind, is ∙ ap (λ l. l ++ behind) h.1, subst (λ (x : Seen). SettlesIn scheduling x.receives behind) h.0 settles)
rounds_of scheduling g J P s (e ∷ es) t Q behind heard h is settles = (
  record { mid = h.0.mid; between = h.0.between; gave = h.0.gave; gives = h.0.gives; given = h.0.given; settles = h.0.settles; in_turn = h.0.in_turn },
  rounds_of scheduling g J ((P ++ h.0.between) ++ h.0.gave) h.0.mid es t Q behind h.1 h.2 is settles,
)

hears_of : (scheduling : Scheduling) (g : Given) (J P : List Entry) (s : Seen) (es : List Event) (t : Seen) (Q : List Entry) (heard : List Answered) → Walk scheduling g J P s es t Q heard → HearsFrom g J s es t heard
hears_of scheduling g J P s [] t Q heard h = (h.0, h.2)
hears_of scheduling g J P s (e ∷ es) t Q heard h = (record { mid = h.0.mid; gives = h.0.gives; found = h.0.found; hears = h.0.hears }, h.1, hears_of scheduling g J ((P ++ h.0.between) ++ h.0.gave) h.0.mid es t Q h.1 h.2, h.3)

-- every path has run out
pub all_over : (scheduling : Scheduling) (look : LookSetting) (accepts : Accepts) (words words' : WordsState) (old new : LookupState) (told told' : Option (List Event)) → IsWithinLimits look → IsOver scheduling look accepts words words' old new told told' → Legal new.lookup.book.setting new.lookup.book.journal → (p : ℕ) → p < new.lookup.book.setting.paths → RunOut new.lookup.book.setting p new.lookup.book.journal
all_over scheduling look accepts words words' old new told told' limits over legal p lt =
    let k = over.keeps in
    let J = new.lookup.book.journal in
    let less : p < look.paths = (let e = ap (λ (s : Setting). s.paths) k.setting in omega (arith, lt, e)) in
    let none : open_any J ≡ [] = sym k.is_open ∙ ap (map (λ (q : Query). q.contact)) over.none_open in
    let l = subst (λ (s : Setting). Legal s J) k.setting legal in
    subst (λ (s : Setting). RunOut s p J) (sym k.setting)
    (elim (over_or_ask (setting_of look) J p l limits.some_query (none_on p J none) (over.settled p less)) [
      | inl o ↦ o
      | inr some ↦ (let no_one : false ≡ true = subst IsSome (over.none_asks p less) some in absurd cc)
    ])

-- where contacts alone are asked for, there is nothing else
pub none_gathered : (look : LookSetting) (work : LookupState) (peers : List Addr) (tokens : List Token) (items : List Item) → Keeps look work → IsEachOnce work.gathered.peers peers → tokens ≡ work.gathered.tokens → items ≡ work.gathered.items → look.kind ≡ FindNode
    → (peers ≡ []) × (tokens ≡ []) × (items ≡ [])
none_gathered look work peers tokens items k once is are kind = (let none = k.is_bare kind in (each_of_none work.gathered.peers peers none.no_peers once, is ∙ none.no_tokens, are ∙ none.no_items))

-- what a lookup that is over has
pub record Done (scheduling : Scheduling) (look : LookSetting) (accepts : Accepts) (start words' : WordsState) (table : TableState) (work : LookupState) (began told' : Option (List Event)) (o : Outcome) : Type 0 where
  pub keeps : Keeps look work
  pub none_open : work.lookup.queries ≡ []
  pub settled : AllSettled look.paths work.lookup.book.journal
  pub none_asks : NoneAsks (setting_of look) look.paths work.lookup.book.journal
  pub along : TraceInvariant scheduling look accepts start table began words' work look.paths look.paths told'
  pub done : IsDone work.lookup.book o

pub looks_up : (scheduling : Scheduling) (look : LookSetting) (accepts : Accepts) (start words' : WordsState) (table : TableState) (work : LookupState) (began told' : Option (List Event)) (o : Outcome) → Done scheduling look accepts start words' table work began told' o → Finished look accepts table start words' began told' o
looks_up scheduling look accepts start words' table work began told' o d =
    let k = d.keeps in
    let a = d.along in
    let J = work.lookup.book.journal in
    record {
      legal = subst (λ (s : Setting). Legal s o.journal) k.setting d.done.legal;
      seeds_are = ap seeds d.done.journal ∙ a.seeds_are;
      tells = subst (λ K. Grows began told' (λ events. Tells (given_of look accepts start) K events)) (sym d.done.journal)
          (grows_weaker began told' _ _ a.shows (λ es h. record {
            end = h.end;
            so_far = so_far_of scheduling (given_of look accepts start) work words'.place look.paths look.paths es h;
            none_open = h.stands.queries ∙ ap (map (as_open J)) d.none_open;
          }));
      run_out = subst (λ (s : Setting). (p : ℕ) → p < s.paths → RunOut s p o.journal) k.setting d.done.run_out;
      found = d.done.found ∙ ap (λ (s : Setting). result_of s o.journal) k.setting;
      counted = d.done.counted;
      drawn = a.drawn ∙ ap (drawn_for start) (sym d.done.journal);
    }

pub goes_by_rounds : (scheduling : Scheduling) (look : LookSetting) (accepts : Accepts) (start words' : WordsState) (table : TableState) (work : LookupState) (began told' : Option (List Event)) (o : Outcome) → Done scheduling look accepts start words' table work began told' o → Grows began told' (λ events. Rounds scheduling (given_of look accepts start) o.journal events)
goes_by_rounds scheduling look accepts start words' table work began told' o d =
    let J = work.lookup.book.journal in
    subst (λ K. Grows began told' (λ events. Rounds scheduling (given_of look accepts start) K events)) (sym d.done.journal)
    (grows_weaker began told' _ _ d.along.shows (λ es h. record {
      at = h.at;
      rest = h.rest;
      first = h.first;
      goes = rounds_of scheduling (given_of look accepts start) J (seeds J) (begun h.at) h.rest h.end h.last h.behind h.heard h.walk h.journal h.settles;
      settled = d.settled;
      none_asks = d.none_asks;
    }))

pub gathered_all : (scheduling : Scheduling) (look : LookSetting) (accepts : Accepts) (start words' : WordsState) (table : TableState) (work : LookupState) (began told' : Option (List Event)) (o : Outcome) → Done scheduling look accepts start words' table work began told' o → IsEachOnce work.gathered.peers o.peers → o.tokens ≡ work.gathered.tokens → o.items ≡ work.gathered.items
    → Grows began told' (λ events. Gathers (given_of look accepts start) o.journal events o.peers o.tokens o.items)
gathered_all scheduling look accepts start words' table work began told' o d once tokens items =
    let J = work.lookup.book.journal in
    subst (λ K. Grows began told' (λ events. Gathers (given_of look accepts start) K events o.peers o.tokens o.items)) (sym d.done.journal)
    (grows_weaker began told' _ _ d.along.shows (λ es h. record {
      at = h.at;
      rest = h.rest;
      first = h.first;
      heard = h.heard;
      end = h.end;
      hears = hears_of scheduling (given_of look accepts start) J (seeds J) (begun h.at) h.rest h.end h.last h.heard h.walk;
      tells = h.stands.given;
      gathers = gathers_of look.kind h.heard work.gathered o.peers o.tokens o.items h.keeping once tokens items;
    }))

pub table_told : (scheduling : Scheduling) (look : LookSetting) (accepts : Accepts) (start words' : WordsState) (table : TableState) (work : LookupState) (began told' : Option (List Event)) (o : Outcome) → Done scheduling look accepts start words' table work began told' o → TableToldBy scheduling (table_calls look o.journal) table work.table
table_told scheduling look accepts start words' table work began told' o d = subst (λ K. TableToldBy scheduling (table_calls look K) table work.table) (sym d.done.journal) d.along.tabled

-- a lookup that is over, and for which there was no memory
pub over_ended : (scheduling : Scheduling) (look : LookSetting) (accepts : Accepts) (start words' : WordsState) (table : TableState) (work : LookupState) (began told' : Option (List Event)) (b a : ℕ) → Legal (setting_of look) work.lookup.book.journal → work.progress.strays < max_strays → TraceInvariant scheduling look accepts start table began words' work b a told' → (sends : ℕ) → Ended look accepts start table began words' work.table told' work.lookup.book.journal sends sends
over_ended scheduling look accepts start words' table work began told' b a legal few h sends = record {
  unfinished = λ first refused. record {
    journal = work.lookup.book.journal;
    legal = legal;
    seeds_are = h.seeds_are;
    tells = grows_weaker began told' _ _ h.shows (λ es x. early_now scheduling (given_of look accepts start) work words'.place b a es few x);
    drawn = h.drawn;
    refused = refused;
  };
  ran = ran_of scheduling (table_calls look work.lookup.book.journal) table work.table work.table refl h.tabled;
}

pub ok_then : {T F : Type 0} (r : Result T F) (P Q : T → Type 0) → IfOk r P → ((x : T) → P x → Q x) → IfOk r Q
ok_then (Ok x) P Q h k = k x h
ok_then (Err e) P Q h k = tt

-- ---- parts

pub seeds_told : (look : LookSetting) (t u : TableState) (list : List Contact) → TableStep t 0 (Closest look.target look.k) (List_reply list) → u ≡ table_after t 0 (Closest look.target look.k) (List_reply list) → TableTold (asks_seeds look) t u
seeds_told look t u list step after =
    let m : Made TableCall TableReply = record { role = 0; call = Closest look.target look.k; reply = List_reply list } in
    record {
      run = m ∷ [];
      is_run = (tt, step, tt);
      leaves = after;
      calls_are = refl;
      kept = All-from_recursion (λ (x : Made TableCall TableReply). x.reply ≢ NoMemory) (m ∷ []) ((λ e. absurd cc), tt);
    }

pub few_seeds : (look : LookSetting) (table : TableState) (xs : List Contact) (s : Setting) → All (IsUsable look.own) (contacts_of table) → xs ≡ seeds_in look table → s ≡ setting_of look → length xs ≤ s.k
few_seeds look table xs s usable is set = (let few = (seeds_fit look table usable).few in let n = ap length is in let k = ap (λ (x : Setting). x.k) set in omega (arith, few, n, k))

pub ordered_seeds : (look : LookSetting) (table : TableState) (xs : List Contact) (s : Setting) → All (IsUsable look.own) (contacts_of table) → xs ≡ seeds_in look table → s ≡ setting_of look → IsStrictlySortedBy (closeness s.target) xs
ordered_seeds look table xs s usable is set = subst (λ (x : Setting). IsStrictlySortedBy (closeness x.target) xs) (sym set) (subst (IsStrictlySortedBy (closeness look.target)) (sym is) (seeds_fit look table usable).in_order)

pub all_usable : (look : LookSetting) (table : TableState) (xs : List Contact) (s : Setting) → All (IsUsable look.own) (contacts_of table) → xs ≡ seeds_in look table → s ≡ setting_of look → All (IsUsable s.own) xs
all_usable look table xs s usable is set = subst (λ (x : Setting). All (IsUsable x.own) xs) (sym set) (subst (All (IsUsable look.own)) (sym is) (seeds_fit look table usable).usable)

pub is_done : (book after : BookState) (o : Outcome) → after ≡ book → IsFound book.setting book.journal o.found o.counts → o.journal ≡ after.journal → Legal after.setting after.journal → IsDone book o
is_done book after o same found journal legal =
    let is : o.journal ≡ book.journal = journal ∙ ap (λ (b : BookState). b.journal) same in
    record {
      journal = is;
      legal = subst (λ (s : Setting). Legal s o.journal) (ap (λ (b : BookState). b.setting) same) (subst (Legal after.setting) (sym journal) legal);
      run_out = subst (λ J. (p : ℕ) → p < book.setting.paths → RunOut book.setting p J) (sym is) found.run_out;
      found = found.is_result ∙ ap (result_of book.setting) (sym is);
      counted = subst (λ J. Counted J o.counts) (sym is) found.counted;
    }

-- ---- the whole

pub opening_of : (look : LookSetting) (words : WordsState) (table table' : TableState) (book : BookState) (moment : ℕ) (work : LookupState) (told told' : Option (List Event)) → IsBookOf look table book → TableTold (asks_seeds look) table table' → IsBegun book table' moment work → Grows told told' (λ es. es ≡ Now moment ∷ []) → words.place < 2 ^ 59
    → Opening look words table table' book moment work told told'
opening_of look words table table' book moment work told told' b t w g lt = record { book_of = b; tabled = t; begun_at = w; grows = g; place = lt }

-- what a lookup that is over leaves, whether or not there is memory for what it found
pub record Ends (scheduling : Scheduling) (look : LookSetting) (accepts : Accepts) (words words' : WordsState) (table : TableState) (work : LookupState) (told told' : Option (List Event)) : Type 0 where
  pub done : (o : Outcome) → IsDone work.lookup.book o → Done scheduling look accepts words words' table work told told' o
  pub left : (sends : ℕ) → Ended look accepts words table told words' work.table told' work.lookup.book.journal sends sends
  pub few : Grows told told' (λ events. HasFewStrays (given_of look accepts words) work.lookup.book.journal events max_strays)
  pub never : look.sealed ≡ false → Grows told told' (NeverEnds (given_of look accepts words) max_strays)

-- it went its rounds from its opening
pub ends_of : (scheduling : Scheduling) (look : LookSetting) (accepts : Accepts) (words words' : WordsState) (table table' : TableState) (book : BookState) (moment : ℕ) (begun_ work : LookupState) (told mid told' : Option (List Event)) → Opening look words table table' book moment begun_ told mid → IsOver scheduling look accepts words words' begun_ work mid told'
    → Legal work.lookup.book.setting work.lookup.book.journal → Ends scheduling look accepts words words' table work told told'
ends_of scheduling look accepts words words' table table' book moment begun_ work told mid told' opening over legal =
    let along = over.goes words table told (along_of scheduling look accepts words table table' book moment begun_ told mid opening) in
    record {
      done = λ o d. record { keeps = over.keeps; none_open = over.none_open; settled = over.settled; none_asks = over.none_asks; along = along; done = d };
      left = over_ended scheduling look accepts words words' table work told told' look.paths look.paths (subst (λ (s : Setting). Legal s work.lookup.book.journal) over.keeps.setting legal) over.keeps.few_strays along;
      few = few_told scheduling look accepts words table told words' work look.paths look.paths told' over.keeps.few_strays along;
      never = λ plain. never_told scheduling look accepts words table told words' work look.paths look.paths told' plain over.keeps.few_strays along;
    }
