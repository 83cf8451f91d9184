-- One contact more is asked: its query is open, or it is lost at once.
use Rattle.std.proofs.Common.{◌≡◌, ℕ, ◌+◌, ◌*◌, ◌<◌, ◌≤◌, List, [], ◌∷◌, ◌++◌, length, Option, Some, None, true, inl, inr, refl, sym, ap, subst, ◌∙◌, arith}
use Rattle.std.specs.Prelude.{map}
use Rattle.std.specs.List.{AllByRecursion}
use Rattle.std.proofs.Math.Nat.{mul-le-mul_left, mul-le-mul_right}
use Rattle.std.proofs.lemmas.Bool.{cases_lt}
use Rattle.std.proofs.lemmas.List.{append-nil, append_assoc, length-append}
use Rattle.kad_base.specs.declared.types.Contact.{Contact}
use Rattle.kad_base.specs.declared.types.Event.{Event}
use Rattle.kad_base.specs.declared.types.Event.TheVariants.{Sent, Unsent}
use Rattle.kad_base.specs.Contacts.{among}
use Rattle.kad_base.specs.Limits.{max_open}
use Rattle.kad_base.specs.Outside.{Grows}
use Rattle.kad_base.specs.Words.{word}
use Rattle.kad_krpc.specs.Form.{form}
use Rattle.id_puzzles.specs.Drawn.{WordsState}
use Rattle.query_book.specs.declared.Query.{Query}
use Rattle.query_book.specs.Queries.{IsFirstFree}
use Rattle.claim_book.specs.declared.types.Setting.{Setting}
use Rattle.claim_book.specs.declared.types.Cause.TheVariants.{SendFault}
use Rattle.claim_book.specs.declared.types.Entry.{Entry}
use Rattle.claim_book.specs.declared.types.Entry.TheVariants.{Ask, Lost}
use Rattle.claim_book.specs.Journal.{seeds, path, asked, may_ask}
use Rattle.claim_book.specs.Legal.{Legal}
use Rattle.claim_book.specs.State.{BookState, added}
use Rattle.claim_book.proofs.More.{path_more, legal_more}
use Rattle.claim_book.proofs.Bounds.{asked_few}
use Rattle.claim_book.proofs.Claims.{may_ask_says}
use Rattle.lookup_run.specs.declared.types.LookSetting.{LookSetting}
use Rattle.lookup_run.specs.declared.types.Progress.{Progress}
use Rattle.lookup_run.specs.declared.types.LookupState.{LookupState}
use Rattle.lookup_core.specs.Matching.{OpenQuery, query_of}
use Rattle.lookup_core.specs.Timeouts.{deadline_of}
use Rattle.lookup_core.specs.Quest.{query_message}
use Rattle.lookup_run.specs.Tells.{Seen, driven, gives}
use Rattle.lookup_run.specs.Rounds.{path_number, AllSettled, NoneAsks}
use Rattle.lookup_run.specs.Lookup.{setting_of, given_of, drawn_for, IsWithinLimits, quest_of}
use Rattle.lookup_core.specs.LookupSteps.{as_open, AsksNext, CanAsk, Holds}
use Rattle.lookup_run.specs.inner.DriverInvariant.{Keeps, HasWords, max_asks, weight_of, KeepsSeen}
use Rattle.lookup_run.specs.inner.RoundSteps.{Asks, AsksNone}
use Rattle.lookup_run.proofs.Walking.{OneEvent, NextStep, along_next, along_later, table_same}
use Rattle.lookup_core.proofs.Opening.{ask_counts, lost_counts}
use Rattle.lookup_core.proofs.Opens.{opens_kept, each_asked, asker_new}
use Rattle.lookup_core.proofs.Others.{asked_opens, none_after_ask, none_after_lost, settled_after_ask, settled_after_lost}
use Rattle.lookup_core.proofs.Received.{query_back}
use Rattle.lookup_core.specs.Gathered.{IsBare}
use Rattle.lookup_core.proofs.Gathering.{keeps_none}
use Rattle.lookup_run.proofs.Driven.{driven_more, map_push, all_push}
use Rattle.lookup_core.specs.declared.state.Lookup.{Lookup}
use Rattle.lookup_core.specs.declared.ask.Asked.{Asked}
use Rattle.lookup_core.specs.Sealed.{Accepts}

-- nothing but the book and the open queries changed
pub record SameRest (old new : LookupState) : Type 0 where
  pub table : new.table ≡ old.table
  pub progress : new.progress ≡ old.progress
  pub gathered : new.gathered ≡ old.gathered

-- what an ask depends on
pub record Asking (look : LookSetting) (p : ℕ) (c : Contact) (tx : ℕ) (words words' : WordsState) (old : LookupState) : Type 0 where
  pub limits : IsWithinLimits look
  pub path : p < look.paths
  pub keeps : Keeps look old
  pub has_words : HasWords words old.lookup.book.journal
  pub round_over : old.progress.receives ≡ 0
  pub settled : AllSettled look.paths old.lookup.book.journal
  pub none_below : NoneAsks (setting_of look) p old.lookup.book.journal
  pub legal : Legal (setting_of look) old.lookup.book.journal
  pub may : may_ask (setting_of look) p old.lookup.book.journal ≡ Some c
  pub id : IsFirstFree old.lookup.queries (word words.seed words.place) tx
  pub drawn : words' ≡ record words { place = words.place + 1 }

abbrev query_bytes : LookSetting → ℕ → List ℕ
query_bytes look tx = form (query_message (quest_of look) tx)

abbrev the_query : LookSetting → Contact → ℕ → LookupState → Query
the_query look c tx old = record { tx = tx; contact = c; deadline = deadline_of old.progress.moment look.timeout }

no_seeds_asked : (p : ℕ) (c : Contact) → seeds (Ask p c ∷ []) ≡ []
unfolding seeds
no_seeds_asked p c = refl

no_seeds_lost : (p : ℕ) (c : Contact) → seeds (Ask p c ∷ Lost p c SendFault ∷ []) ≡ []
unfolding seeds
no_seeds_lost p c = refl

drawn_more : (words words' start : WordsState) (J J' : List Entry) → words' ≡ record words { place = words.place + 1 } → length (asked J') ≡ length (asked J) + 1 → words ≡ drawn_for start J → words' ≡ drawn_for start J'
drawn_more words words' start J J' next one is =
    let place : words.place + 1 ≡ start.place + length (asked J') = (let p = ap (λ (w : WordsState). w.place) is in omega (arith, p, one)) in
    next ∙ ap (λ n. record { seed = words.seed; place = n }) place ∙ ap (λ (w : WordsState). record { seed = w.seed; place = start.place + length (asked J') }) is

id_of : (look : LookSetting) (accepts : Accepts) (p : ℕ) (c : Contact) (tx : ℕ) (words words' start : WordsState) (old : LookupState) (s : Seen) → Asking look p c tx words words' old → words ≡ drawn_for start old.lookup.book.journal → KeepsSeen (given_of look accepts start) old words.place s
    → IsFirstFree (map query_of s.queries) (word start.seed (start.place + s.sends)) tx
id_of look accepts p c tx words words' start old s a is st =
    let J = old.lookup.book.journal in
    let queries : map query_of s.queries ≡ old.lookup.queries = ap (map query_of) st.queries ∙ query_back J old.lookup.queries in
    let drawn : word start.seed (start.place + s.sends) ≡ word words.seed words.place = ap (word start.seed) st.sends ∙ ap (λ (w : WordsState). word w.seed words.place) (sym is) in
    subst (λ l. IsFirstFree l (word start.seed (start.place + s.sends)) tx) (sym queries) (subst (λ w. IsFirstFree old.lookup.queries w tx) (sym drawn) a.id)

-- the query is open
sent_event : (look : LookSetting) (accepts : Accepts) (p : ℕ) (c : Contact) (tx : ℕ) (words words' start : WordsState) (old new : LookupState) (s : Seen) → Asking look p c tx words words' old → SameRest old new → new.lookup.book ≡ added old.lookup.book (Ask p c) → new.lookup.queries ≡ old.lookup.queries ++ the_query look c tx old ∷ []
    → words ≡ drawn_for start old.lookup.book.journal → KeepsSeen (given_of look accepts start) old words.place s → AllByRecursion (λ (x : Entry). path_number x ≤ p) s.since → OneEvent (given_of look accepts start) old new (Ask p c ∷ []) words'.place p s (Sent c.addr (query_bytes look tx))
sent_event look accepts p c tx words words' start old new s a rest book queries is st asc =
    let J = old.lookup.book.journal in
    let J' = J ++ Ask p c ∷ [] in
    let journal : new.lookup.book.journal ≡ J' = ap (λ (b : BookState). b.journal) book in
    let q = the_query look c tx old in
    let oq : OpenQuery = record { path = p; contact = c; tx = tx; deadline = deadline_of s.moment look.timeout } in
    let after : Seen = record (gives s (Ask p c ∷ [])) { queries = s.queries ++ oq ∷ []; sends = s.sends + 1 } in
    let new_path : as_open J' q ≡ oq = ap (λ n. record { path = n; contact = c; tx = tx; deadline = deadline_of old.progress.moment look.timeout }) (asker_new p J c (may_ask_says (setting_of look) p J c a.may).new)
    ∙ ap (λ m. record { path = p; contact = c; tx = tx; deadline = deadline_of m look.timeout }) (sym st.moment) in
    let opens : s.queries ++ oq ∷ [] ≡ map (as_open new.lookup.book.journal) new.lookup.queries =
    ap (λ l. l ++ oq ∷ []) (st.queries ∙ sym (opens_kept J (Ask p c ∷ []) old.lookup.queries (each_asked J old.lookup.queries a.keeps.is_open))) ∙ ap (λ x. map (as_open J') old.lookup.queries ++ x ∷ []) (sym new_path)
    ∙ sym (map_push (as_open J') old.lookup.queries q) ∙ ap (map (as_open J')) (sym queries) ∙ ap (λ K. map (as_open K) new.lookup.queries) (sym journal) in
    record {
      after = after;
      gives = record { path = p; contact = c; tx = tx; is_query = record { address = refl; id = id_of look accepts p c tx words words' start old s a is st; form = refl }; after = refl };
      given = refl;
      in_turn = record { path = p; contact = c; rest = []; asks = refl; begins = st.receives ∙ a.round_over; settled = a.settled; none_before = a.none_below; ascends = asc };
      stands = record {
        moment = st.moment ∙ ap (λ (x : Progress). x.moment) (sym rest.progress);
        queries = opens;
        sends = (let h = st.sends in let d = ap (λ (w : WordsState). w.place) a.drawn in omega (arith, h, d));
        strays = st.strays ∙ ap (λ (x : Progress). x.strays) (sym rest.progress);
        receives = st.receives ∙ ap (λ (x : Progress). x.receives) (sym rest.progress);
        given = ap (λ l. l ++ Ask p c ∷ []) st.given ∙ sym (driven_more J (Ask p c) refl) ∙ ap driven (sym journal);
      };
      ascends = all_push (λ (x : Entry). path_number x ≤ p) s.since (Ask p c) asc (omega arith);
      found = [];
      hears = refl;
      keeps = keeps_none look.kind old.gathered new.gathered rest.gathered;
    }

pub sent_step : (look : LookSetting) (accepts : Accepts) (p : ℕ) (c : Contact) (tx : ℕ) (words words' : WordsState) (old new : LookupState) → Asking look p c tx words words' old → SameRest old new → new.lookup.book ≡ added old.lookup.book (Ask p c) → new.lookup.queries ≡ old.lookup.queries ++ the_query look c tx old ∷ []
    → NextStep look accepts words words' old new p p (Sent c.addr (query_bytes look tx))
sent_step look accepts p c tx words words' old new a rest book queries =
    let J = old.lookup.book.journal in
    let journal : new.lookup.book.journal ≡ J ++ Ask p c ∷ [] = ap (λ (b : BookState). b.journal) book in
    record {
      more = Ask p c ∷ [];
      journal = journal;
      no_seeds = no_seeds_asked p c;
      drawn = λ start is. drawn_more words words' start J new.lookup.book.journal a.drawn (ap (λ K. length (asked K)) journal ∙ ask_counts p J c) is;
      tabled = table_same old.table new.table rest.table;
      next = λ start is s st asc. sent_event look accepts p c tx words words' start old new s a rest book queries is st asc;
    }

-- it could not be sent
unsent_event : (look : LookSetting) (accepts : Accepts) (p : ℕ) (c : Contact) (tx : ℕ) (words words' start : WordsState) (old new : LookupState) (s : Seen) → Asking look p c tx words words' old → SameRest old new → new.lookup.book ≡ added (added old.lookup.book (Ask p c)) (Lost p c SendFault) → new.lookup.queries ≡ old.lookup.queries
    → words ≡ drawn_for start old.lookup.book.journal → KeepsSeen (given_of look accepts start) old words.place s → AllByRecursion (λ (x : Entry). path_number x ≤ p) s.since → OneEvent (given_of look accepts start) old new (Ask p c ∷ Lost p c SendFault ∷ []) words'.place p s (Unsent c.addr (query_bytes look tx))
unsent_event look accepts p c tx words words' start old new s a rest book queries is st asc =
    let J = old.lookup.book.journal in
    let J' = (J ++ Ask p c ∷ []) ++ Lost p c SendFault ∷ [] in
    let journal : new.lookup.book.journal ≡ J' = ap (λ (b : BookState). b.journal) book in
    let longer : new.lookup.book.journal ≡ J ++ Ask p c ∷ Lost p c SendFault ∷ [] = journal ∙ append_assoc J (Ask p c ∷ []) (Lost p c SendFault ∷ []) in
    let after : Seen = record (gives s (Ask p c ∷ Lost p c SendFault ∷ [])) { sends = s.sends + 1 } in
    let opens : s.queries ≡ map (as_open new.lookup.book.journal) new.lookup.queries =
    st.queries ∙ sym (opens_kept J (Ask p c ∷ Lost p c SendFault ∷ []) old.lookup.queries (each_asked J old.lookup.queries a.keeps.is_open)) ∙ ap (λ K. map (as_open K) old.lookup.queries) (sym longer) ∙ ap (map (as_open new.lookup.book.journal)) (sym queries) in
    record {
      after = after;
      gives = record { path = p; contact = c; tx = tx; is_query = record { address = refl; id = id_of look accepts p c tx words words' start old s a is st; form = refl }; after = refl };
      given = refl;
      in_turn = record { path = p; contact = c; rest = Lost p c SendFault ∷ []; asks = refl; begins = st.receives ∙ a.round_over; settled = a.settled; none_before = a.none_below; ascends = asc };
      stands = record {
        moment = st.moment ∙ ap (λ (x : Progress). x.moment) (sym rest.progress);
        queries = opens;
        sends = (let h = st.sends in let d = ap (λ (w : WordsState). w.place) a.drawn in omega (arith, h, d));
        strays = st.strays ∙ ap (λ (x : Progress). x.strays) (sym rest.progress);
        receives = st.receives ∙ ap (λ (x : Progress). x.receives) (sym rest.progress);
        given = ap (λ l. l ++ Ask p c ∷ Lost p c SendFault ∷ []) st.given ∙ sym (append_assoc (driven J) (Ask p c ∷ []) (Lost p c SendFault ∷ [])) ∙ ap (λ l. l ++ Lost p c SendFault ∷ []) (sym (driven_more J (Ask p c) refl)) ∙ sym (driven_more (J ++ Ask p c ∷ []) (Lost p c SendFault) refl) ∙ ap driven (sym journal);
      };
      ascends = subst (AllByRecursion (λ (x : Entry). path_number x ≤ p)) (append_assoc s.since (Ask p c ∷ []) (Lost p c SendFault ∷ []))
          (all_push (λ (x : Entry). path_number x ≤ p) (s.since ++ Ask p c ∷ []) (Lost p c SendFault) (all_push (λ (x : Entry). path_number x ≤ p) s.since (Ask p c) asc (omega arith)) (omega arith));
      found = [];
      hears = refl;
      keeps = keeps_none look.kind old.gathered new.gathered rest.gathered;
    }

unsent_step : (look : LookSetting) (accepts : Accepts) (p : ℕ) (c : Contact) (tx : ℕ) (words words' : WordsState) (old new : LookupState) → Asking look p c tx words words' old → SameRest old new → new.lookup.book ≡ added (added old.lookup.book (Ask p c)) (Lost p c SendFault) → new.lookup.queries ≡ old.lookup.queries
    → NextStep look accepts words words' old new p p (Unsent c.addr (query_bytes look tx))
unsent_step look accepts p c tx words words' old new a rest book queries =
    let J = old.lookup.book.journal in
    let journal : new.lookup.book.journal ≡ (J ++ Ask p c ∷ []) ++ Lost p c SendFault ∷ [] = ap (λ (b : BookState). b.journal) book in
    record {
      more = Ask p c ∷ Lost p c SendFault ∷ [];
      journal = journal ∙ append_assoc J (Ask p c ∷ []) (Lost p c SendFault ∷ []);
      no_seeds = no_seeds_lost p c;
      drawn = λ start is. drawn_more words words' start J new.lookup.book.journal a.drawn (ap (λ K. length (asked K)) journal ∙ lost_counts p p J c c) is;
      tabled = table_same old.table new.table rest.table;
      next = λ start is s st asc. unsent_event look accepts p c tx words words' start old new s a rest book queries is st asc;
    }

few_asks : (look : LookSetting) (J : List Entry) → IsWithinLimits look → Legal (setting_of look) J → length (asked J) ≤ max_asks
few_asks look J limits l =
    let few = asked_few (setting_of look) J (let a = limits.some_path in omega arith) (let a = limits.few in omega arith) l in
    let paths = limits.few_paths in
    omega (arith, few, paths)

all_settled : (look : LookSetting) (p : ℕ) (J : List Entry) (c : Contact) → Legal (setting_of look) J → AllSettled look.paths J → AllSettled look.paths (J ++ Ask p c ∷ [])
all_settled look p J c l h = λ q lt. settled_after_ask (setting_of look) p q J c l ∙ h q lt

none_ask : (look : LookSetting) (p : ℕ) (J : List Entry) (c : Contact) → may_ask (setting_of look) p J ≡ Some c → NoneAsks (setting_of look) p J → NoneAsks (setting_of look) p (J ++ Ask p c ∷ [])
none_ask look p J c may h = λ q lt. none_after_ask (setting_of look) p q J c (λ e. absurd (omega (arith, lt, e))) may (h q lt)

pub sent_asks : (look : LookSetting) (p : ℕ) (c : Contact) (tx : ℕ) (words words' : WordsState) (old new : LookupState) (told told' : Option (List Event)) → Asking look p c tx words words' old → SameRest old new → new.lookup.book ≡ added old.lookup.book (Ask p c) → new.lookup.queries ≡ old.lookup.queries ++ the_query look c tx old ∷ [] → Holds new.lookup
    → Grows told told' (λ es. es ≡ Sent c.addr (query_bytes look tx) ∷ []) → Asks look p p words words' old new told told' × (weight_of new < weight_of old)
sent_asks look p c tx words words' old new told told' a rest book queries holds grows =
    let J = old.lookup.book.journal in
    let J' = J ++ Ask p c ∷ [] in
    let journal : new.lookup.book.journal ≡ J' = ap (λ (b : BookState). b.journal) book in
    let q = the_query look c tx old in
    let k = a.keeps in
    let one : length (asked new.lookup.book.journal) ≡ length (asked J) + 1 = ap (λ K. length (asked K)) journal ∙ ask_counts p J c in
    let few : length (asked new.lookup.book.journal) ≤ max_asks = subst (λ K. length (asked K) ≤ max_asks) (sym journal) (few_asks look J' a.limits (legal_more (setting_of look) J (Ask p c) a.legal a.may)) in
    let longer : length new.lookup.queries ≡ length old.lookup.queries + 1 = ap length queries ∙ length-append old.lookup.queries (q ∷ []) in
    let same_strays : new.progress.strays ≡ old.progress.strays = ap (λ (x : Progress). x.strays) rest.progress in
    let less : weight_of new < weight_of old = omega (arith, one, few, longer, same_strays) in
    let same_deadline : deadline_of new.progress.moment look.timeout ≡ deadline_of old.progress.moment look.timeout = ap (λ (x : Progress). deadline_of x.moment look.timeout) rest.progress in (
      record {
        keeps = record {
          setting = ap (λ (b : BookState). b.setting) book ∙ k.setting;
          is_open = holds.is_open;
          ids = holds.ids;
          deadlines = subst (λ d. AllByRecursion (λ (x : Query). x.deadline ≤ d) new.lookup.queries) (sym same_deadline)
              (subst (AllByRecursion (λ (x : Query). x.deadline ≤ deadline_of old.progress.moment look.timeout)) (sym queries) (all_push (λ (x : Query). x.deadline ≤ deadline_of old.progress.moment look.timeout) old.lookup.queries q k.deadlines (omega arith)));
          few_strays = (let n = k.few_strays in omega (arith, n, same_strays));
          few_receives = (let n = k.few_receives in let e = ap (λ (x : Progress). x.receives) rest.progress in omega (arith, n, e));
          is_bare = λ e. subst IsBare (sym rest.gathered) (k.is_bare e);
        };
        has_words = (let h = a.has_words in let d = ap (λ (w : WordsState). w.place) a.drawn in omega (arith, h, d, one));
        settled = subst (AllSettled look.paths) (sym journal) (all_settled look p J c a.legal a.settled);
        none_below = subst (NoneAsks (setting_of look) p) (sym journal) (none_ask look p J c a.may a.none_below);
        progress = rest.progress;
        lighter = omega (arith, less);
        goes = λ b accepts. along_next look accepts words words' old new b b p p (Sent c.addr (query_bytes look tx)) told told' (sent_step look accepts p c tx words words' old new a rest book queries) grows;
      },
      less,
    )

on_path_still : (p : ℕ) (J : List Entry) (c : Contact) → among (path p J) c ≡ true → among (path p (J ++ Ask p c ∷ [])) c ≡ true
on_path_still p J c h = ap (λ l. among l c) (path_more p J (Ask p c) ∙ append-nil (path p J)) ∙ h

pub unsent_asks : (look : LookSetting) (p : ℕ) (c : Contact) (tx : ℕ) (words words' : WordsState) (old new : LookupState) (told told' : Option (List Event)) → Asking look p c tx words words' old → SameRest old new → new.lookup.book ≡ added (added old.lookup.book (Ask p c)) (Lost p c SendFault) → new.lookup.queries ≡ old.lookup.queries → Holds new.lookup
    → Grows told told' (λ es. es ≡ Unsent c.addr (query_bytes look tx) ∷ []) → Asks look p p words words' old new told told' × (weight_of new < weight_of old)
unsent_asks look p c tx words words' old new told told' a rest book queries holds grows =
    let J = old.lookup.book.journal in
    let J1 = J ++ Ask p c ∷ [] in
    let J' = J1 ++ Lost p c SendFault ∷ [] in
    let journal : new.lookup.book.journal ≡ J' = ap (λ (b : BookState). b.journal) book in
    let k = a.keeps in
    let l1 = legal_more (setting_of look) J (Ask p c) a.legal a.may in
    let one : length (asked new.lookup.book.journal) ≡ length (asked J) + 1 = ap (λ K. length (asked K)) journal ∙ lost_counts p p J c c in
    let few : length (asked new.lookup.book.journal) ≤ max_asks = (let x = few_asks look J1 a.limits l1 in let y = ask_counts p J c in omega (arith, x, y, one)) in
    let same_queries : length new.lookup.queries ≡ length old.lookup.queries = ap length queries in
    let same_strays : new.progress.strays ≡ old.progress.strays = ap (λ (x : Progress). x.strays) rest.progress in
    let less : weight_of new < weight_of old = omega (arith, one, few, same_queries, same_strays) in
    let same_deadline : deadline_of new.progress.moment look.timeout ≡ deadline_of old.progress.moment look.timeout = ap (λ (x : Progress). deadline_of x.moment look.timeout) rest.progress in (
      record {
        keeps = record {
          setting = ap (λ (b : BookState). b.setting) book ∙ k.setting;
          is_open = holds.is_open;
          ids = holds.ids;
          deadlines = subst (λ d. AllByRecursion (λ (x : Query). x.deadline ≤ d) new.lookup.queries) (sym same_deadline)
              (subst (AllByRecursion (λ (x : Query). x.deadline ≤ deadline_of old.progress.moment look.timeout)) (sym queries) k.deadlines);
          few_strays = (let n = k.few_strays in omega (arith, n, same_strays));
          few_receives = (let n = k.few_receives in let e = ap (λ (x : Progress). x.receives) rest.progress in omega (arith, n, e));
          is_bare = λ e. subst IsBare (sym rest.gathered) (k.is_bare e);
        };
        has_words = (let h = a.has_words in let d = ap (λ (w : WordsState). w.place) a.drawn in omega (arith, h, d, one));
        settled = subst (AllSettled look.paths) (sym journal) (λ q lt. settled_after_lost (setting_of look) p q J1 c SendFault l1 ∙ all_settled look p J c a.legal a.settled q lt);
        none_below = subst (NoneAsks (setting_of look) p) (sym journal) (λ q lt. none_after_lost (setting_of look) p q J1 c SendFault l1 (asked_opens (setting_of look) p J c a.legal a.may) (λ e. absurd (omega (arith, lt, e))) (none_ask look p J c a.may a.none_below q lt));
        progress = rest.progress;
        lighter = omega (arith, less);
        goes = λ b accepts. along_next look accepts words words' old new b b p p (Unsent c.addr (query_bytes look tx)) told told' (unsent_step look accepts p c tx words words' old new a rest book queries) grows;
      },
      less,
    )

-- what the path asked is an ask of the lookup
pub asking_of : (look : LookSetting) (p : ℕ) (words words' : WordsState) (old : LookupState) (mid : Lookup) (asked : Asked) → IsWithinLimits look → p < look.paths → Keeps look old → HasWords words old.lookup.book.journal → old.progress.receives ≡ 0 → AllSettled look.paths old.lookup.book.journal → NoneAsks (setting_of look) p old.lookup.book.journal
    → AsksNext (word words.seed words.place) (deadline_of old.progress.moment look.timeout) p old.lookup mid asked → words' ≡ record words { place = words.place + 1 } → Asking look p asked.contact asked.tx words words' old
asking_of look p words words' old mid asked limits lt keeps has begins settled none a drawn = record {
  limits = limits;
  path = lt;
  keeps = keeps;
  has_words = has;
  round_over = begins;
  settled = settled;
  none_below = none;
  legal = subst (λ (s : Setting). Legal s old.lookup.book.journal) keeps.setting a.legal;
  may = ap (λ (s : Setting). may_ask s p old.lookup.book.journal) (sym keeps.setting) ∙ a.may;
  id = a.id;
  drawn = drawn;
}

-- the lookup can be asked for more
pub can_ask : (look : LookSetting) (words : WordsState) (old : LookupState) → IsWithinLimits look → Keeps look old → HasWords words old.lookup.book.journal → Legal old.lookup.book.setting old.lookup.book.journal → CanAsk (quest_of look) old.progress.moment words old.lookup
can_ask look words old limits keeps has l =
    let few = few_asks look old.lookup.book.journal limits (subst (λ (s : Setting). Legal s old.lookup.book.journal) keeps.setting l) in
    record {
      holds = record { is_open = keeps.is_open; ids = keeps.ids };
      some_path = subst (λ (s : Setting). 0 < s.paths) (sym keeps.setting) (let a = limits.some_path in omega arith);
      few = subst (λ (s : Setting). s.alpha * s.paths ≤ max_open) (sym keeps.setting) (at_most look.alpha look.paths limits.few_queries limits.few_paths);
      deadlines = keeps.deadlines;
      place = omega (arith, few, has);
    }
  where
    at_most : (a n : ℕ) → a ≤ 4 → n ≤ 8 → a * n ≤ 32
    at_most a n ha hn = (let x = mul-le-mul_left a hn in let y = mul-le-mul_right 8 ha in omega (arith, x, y))

-- nothing was asked so far
pub asks_not : (look : LookSetting) (p : ℕ) (words : WordsState) (work : LookupState) (told : Option (List Event)) → Keeps look work → HasWords words work.lookup.book.journal → AllSettled look.paths work.lookup.book.journal → NoneAsks (setting_of look) p work.lookup.book.journal → Asks look p p words words work work told told
asks_not look p words work told keeps has settled none = record {
  keeps = keeps;
  has_words = has;
  settled = settled;
  none_below = none;
  progress = refl;
  lighter = omega arith;
  goes = λ b accepts scheduling start table began h. h;
}

none_more : (s : Setting) (p : ℕ) (J : List Entry) → NoneAsks s p J → may_ask s p J ≡ None → NoneAsks s (p + 1) J
none_more s p J below here q lt = elim (cases_lt q p) [ inl less ↦ below q less | inr more ↦ (let is : q ≡ p = omega (arith, lt, more) in ap (λ n. may_ask s n J) is ∙ here) ]

-- asks after asks
pub asks_then : (look : LookSetting) (p q r : ℕ) (words words' words'' : WordsState) (old mid new : LookupState) (a b c : Option (List Event)) → Asks look p q words words' old mid a b → Asks look q r words' words'' mid new b c → Asks look p r words words'' old new a c
asks_then look p q r words words' words'' old mid new a b c h k = record {
  keeps = k.keeps;
  has_words = k.has_words;
  settled = k.settled;
  none_below = k.none_below;
  progress = k.progress ∙ h.progress;
  lighter = (let x = h.lighter in let y = k.lighter in omega (arith, x, y));
  goes = λ d accepts scheduling start table began x. k.goes d accepts scheduling start table began (h.goes d accepts scheduling start table began x);
}

-- the path may ask nothing more
pub asks_over : (look : LookSetting) (p : ℕ) (words words' words'' : WordsState) (old mid new : LookupState) (a b c : Option (List Event)) → Asks look p p words words' old mid a b → AsksNone look p words' words'' mid new b c → Asks look p (p + 1) words words'' old new a c
asks_over look p words words' words'' old mid new a b c h k =
    let none : NoneAsks (setting_of look) (p + 1) mid.lookup.book.journal = none_more (setting_of look) p mid.lookup.book.journal h.none_below k.none in
    let over : Asks look p (p + 1) words words' old mid a b = record {
      keeps = h.keeps;
      has_words = h.has_words;
      settled = h.settled;
      none_below = none;
      progress = h.progress;
      lighter = h.lighter;
      goes = λ d accepts scheduling start table began x. along_later scheduling look accepts start table began words' mid d p (p + 1) b (omega arith) (h.goes d accepts scheduling start table began x);
    } in
    subst (λ (w : WordsState). Asks look p (p + 1) words w old new a c) (sym k.same_words)
    (subst (λ (x : LookupState). Asks look p (p + 1) words words' old x a c) (sym k.same_work)
    (subst (λ (o : Option (List Event)). Asks look p (p + 1) words words' old mid a o) (sym k.same_told) over))
