-- All lookups settle what they have: the events show the longer journals, and what the driver owes at the next round is kept.
use Rattle.std.proofs.Common.{◌≡◌, ℕ, zero, suc, ◌+◌, ◌*◌, ◌<◌, ◌≤◌, List, [], ◌∷◌, ◌++◌, length, get_or, set, Option, None, true, inl, inr, refl, sym, ap, subst, ◌∙◌, arith, Result, Ok, Err}
use Rattle.std.specs.Prelude.{map, IsOk, OnOk}
use Rattle.kad_base.specs.declared.types.NoMemory.{NoMemory}
use Rattle.std.specs.List.{All, AllByRecursion, AllZip}
use Rattle.std.proofs.lemmas.Bool.{cases_lt}
use Rattle.std.proofs.lemmas.List.{length-set, get_or-set_other, get_or_default}
use Rattle.std.proofs.lemmas.Grind.{get_or-set_at}
use Rattle.kad_base.specs.declared.types.Event.{Event}
use Rattle.kad_base.specs.Limits.{max_lookups, max_paths, max_path_contacts}
use Rattle.kad_base.proofs.Grown.{grows_weaker}
use Rattle.id_puzzles.specs.Drawn.{WordsState}
use Rattle.turn_book.specs.Turns.{TurnState}
use Rattle.contact_table.specs.TableState.{TableState}
use Rattle.claim_book.specs.Journal.{asked}
use Rattle.claim_book.specs.declared.types.Setting.{Setting}
use Rattle.lookup_core.specs.declared.quest.Quest.{Quest}
use Rattle.lookup_core.specs.Gathered.{Keeping}
use Rattle.lookup_core.specs.LookupSteps.{as_open}
use Rattle.lookup_core.specs.Sealed.{Accepts}
use Rattle.lookup_core.proofs.Opens.{opens_kept, each_asked}
use Rattle.node_serve.specs.declared.setting.ServeSetting.{ServeSetting}
use Rattle.node_serve.specs.Sealing.{Tags}
use Rattle.serve_crew.specs.Hands.{Hands}
use Rattle.lookup_crowd.specs.declared.seeker.Seeker.{Seeker}
use Rattle.lookup_crowd.specs.declared.seeker.Progress.{Progress}
use Rattle.lookup_crowd.specs.Mine.{Mine, driven}
use Rattle.lookup_crowd.specs.Many.{Frame, Reading, nothing_read, begun}
use Rattle.lookup_crowd.specs.inner.Crowd.{Holding, NothingLeft, Longer, asks_of, queries_of, KeepsMine, ManyShow, Advances, stand}
use Rattle.lookup_crowd.specs.inner.ManySteps.{HasCounted, HasWords, IsReady, MayAskAll, IsSeated, SettlesSome, SettlesWhole}
use Rattle.lookup_crowd.specs.inner.SettleSteps.{CanSettle, Settles, EachSettles}
use Rattle.lookup_crowd.proofs.Hosting.{ran_none}
use Rattle.lookup_crowd.proofs.Lists.{all_at}
use Rattle.lookup_crowd.proofs.Walking.{nothing_after, walk_still}
use Rattle.lookup_core.proofs.Settling.{asked_same, driven_same}
use Rattle.lookup_crowd.proofs.Settling.{whole_where}

-- ---- what the events show

some_longer : (k l : Seeker) → SettlesSome k l → Longer k l
some_longer k l s = record { more = s.more; quest = s.quest; setting = s.setting; journal = s.journal; gathered = λ is. s.gathered }

pub settled_longer : (ks ls : List Seeker) → AllZip SettlesSome ks ls → AllZip Longer ks ls
settled_longer [] [] s = tt
settled_longer [] (l ∷ ls) s = absurd s
settled_longer (k ∷ ks) [] s = absurd s
settled_longer (k ∷ ks) (l ∷ ls) s = (some_longer k l s.0, settled_longer ks ls s.1)

one_keeps : (k l : Seeker) (m : Mine) → Holding k → SettlesSome k l → KeepsMine k m → KeepsMine l m
one_keeps k l m holds s keeps =
    let J = k.lookup.book.journal in
    let qs = k.lookup.queries in
    record {
      queries = keeps.queries ∙ sym (opens_kept J s.more qs (each_asked J qs holds.is_open)) ∙ ap (λ K. map (as_open K) qs) (sym s.journal) ∙ ap (map (as_open l.lookup.book.journal)) (sym s.queries);
      given = keeps.given ∙ sym (driven_same J s.more s.none_driven) ∙ ap driven (sym s.journal);
      gathered = subst (λ (q : Quest). Keeping q.kind m.heard l.gathered) (sym s.quest) (subst (Keeping k.quest.kind m.heard) (sym s.gathered) keeps.gathered);
    }

each_keeps : (ks ls : List Seeker) (ms : List Mine) → AllByRecursion Holding ks → AllZip SettlesSome ks ls → AllZip KeepsMine ks ms → AllZip KeepsMine ls ms
each_keeps [] [] ms h s k = k
each_keeps [] (l ∷ ls) ms h s k = absurd s
each_keeps (x ∷ ks) [] ms h s k = absurd s
each_keeps (x ∷ ks) (l ∷ ls) [] h s k = absurd k
each_keeps (x ∷ ks) (l ∷ ls) (m ∷ ms) h s k = (one_keeps x l m h.0 s.0 k.0, each_keeps ks ls ms h.1 s.1 k.1)

shows_settled : (f : Frame) (count place : ℕ) (old new : List Seeker) (progress : Progress) (read : Reading) (es : List Event) → AllByRecursion Holding old → AllZip SettlesSome old new → ManyShow true f count old progress place None read es → ManyShow true f count new progress place None read es
shows_settled f count place old new progress read es holds s h = record {
  at = h.at;
  rest = h.rest;
  first = h.first;
  end = h.end;
  walk = walk_still true f old new (begun f.minutes count h.at) h.rest h.end read (settled_longer old new s) (λ e. absurd cc) h.walk;
  keeps_progress = h.keeps_progress;
  keeps_each = each_keeps old new h.end.each holds s h.keeps_each;
  keeps_saying = h.keeps_saying;
}

-- whatever was told since any beginning they go on to tell, and nothing more is read of it
pub settled_goes : (accepts : Accepts) (tags : Tags) (server : ServeSetting) (progress : Progress) (words : WordsState) (host : Hands) (told : Option (List Event)) (old new : List Seeker) → AllByRecursion Holding old → AllZip SettlesSome old new
    → Advances true [] accepts tags server (stand old progress words host told) (stand new progress words host told)
settled_goes accepts tags server progress words host told old new holds s = record {
  more = nothing_read;
  owners_are = refl;
  none_told = refl;
  goes = λ f count read began is h. grows_weaker began told _ _ h (λ es shows.
      subst (λ r. ManyShow true f count new progress words.place None r es) (sym (nothing_after read)) (shows_settled f count words.place old new progress read es holds s shows));
  ran = ran_none host;
  seed = refl;
}

-- ---- what is kept of each

pub settled_hold : (ks ls : List Seeker) → AllZip SettlesSome ks ls → AllByRecursion Holding ls
settled_hold [] [] s = tt
settled_hold [] (l ∷ ls) s = absurd s
settled_hold (k ∷ ks) [] s = absurd s
settled_hold (k ∷ ks) (l ∷ ls) s = (s.0.holds, settled_hold ks ls s.1)

one_asks : (k l : Seeker) → SettlesSome k l → length (asked l.lookup.book.journal) ≡ length (asked k.lookup.book.journal)
one_asks k l s = ap length (ap asked s.journal ∙ asked_same k.lookup.book.journal s.more s.none_driven)

one_ready : (moment : ℕ) (k l : Seeker) → IsReady moment k → SettlesSome k l → IsReady moment l
one_ready moment k l h s =
    let within : IsReady moment (record l { lookup = record { book = record { setting = k.lookup.book.setting; journal = l.lookup.book.journal }; queries = k.lookup.queries }; quest = k.quest }) = record {
      some_path = h.some_path;
      few_paths = h.few_paths;
      few = h.few;
      small = h.small;
      policy = h.policy;
      deadlines = h.deadlines;
      few_asks = subst (λ n. n ≤ max_paths * max_path_contacts) (sym (one_asks k l s)) h.few_asks;
    } in
    subst (λ q. IsReady moment (record l { quest = q })) (sym s.quest)
    (subst (λ qs. IsReady moment (record l { lookup = record l.lookup { queries = qs }; quest = k.quest })) (sym s.queries)
    (subst (λ (x : Setting). IsReady moment (record l { lookup = record { book = record { setting = x; journal = l.lookup.book.journal }; queries = k.lookup.queries }; quest = k.quest })) (sym s.setting) within))

pub settled_ready : (moment : ℕ) (ks ls : List Seeker) → AllByRecursion (IsReady moment) ks → AllZip SettlesSome ks ls → AllByRecursion (IsReady moment) ls
settled_ready moment [] [] h s = tt
settled_ready moment [] (l ∷ ls) h s = absurd s
settled_ready moment (k ∷ ks) [] h s = absurd s
settled_ready moment (k ∷ ks) (l ∷ ls) h s = (one_ready moment k l h.0 s.0, settled_ready moment ks ls h.1 s.1)

pub settled_left : (ks ls : List Seeker) → AllZip SettlesWhole ks ls → AllByRecursion NothingLeft ls
settled_left [] [] s = tt
settled_left [] (l ∷ ls) s = absurd s
settled_left (k ∷ ks) [] s = absurd s
settled_left (k ∷ ks) (l ∷ ls) s = (s.0.left, settled_left ks ls s.1)

-- nobody more was asked
pub settled_asks : (ks ls : List Seeker) → AllZip SettlesSome ks ls → asks_of ls ≡ asks_of ks
settled_asks [] [] s = refl
settled_asks [] (l ∷ ls) s = absurd s
settled_asks (k ∷ ks) [] s = absurd s
settled_asks (k ∷ ks) (l ∷ ls) s =
    ap (λ n. n + asks_of ls) (one_asks k l s.0) ∙ ap (λ n. length (asked k.lookup.book.journal) + n) (settled_asks ks ls s.1)

-- the same queries are open
pub settled_queries : (ks ls : List Seeker) → AllZip SettlesSome ks ls → queries_of ls ≡ queries_of ks
settled_queries [] [] s = refl
settled_queries [] (l ∷ ls) s = absurd s
settled_queries (k ∷ ks) [] s = absurd s
settled_queries (k ∷ ks) (l ∷ ls) s = ap (λ qs. qs ++ queries_of ls) s.0.queries ∙ ap (λ qs. k.lookup.queries ++ qs) (settled_queries ks ls s.1)

pub settled_counted : (ks ls : List Seeker) (progress : Progress) → HasCounted ks progress → AllZip SettlesSome ks ls → HasCounted ls progress
settled_counted ks ls progress h s =
    let asks = settled_asks ks ls s in
    let queries = ap length (settled_queries ks ls s) in
    record {
      received = (let r = h.received in omega (arith, r, asks, queries));
      replied = h.replied;
      asks = (let a = h.asks in omega (arith, a, asks));
    }

pub settled_words : (ks ls : List Seeker) (words : WordsState) → HasWords words ks → AllZip SettlesSome ks ls → HasWords words ls
settled_words ks ls words h s = (let asks = settled_asks ks ls s in omega (arith, h, asks))

-- so the next round may begin
pub settled_may_ask : (ks ls : List Seeker) (progress : Progress) (words : WordsState) → AllByRecursion (IsReady progress.moment) ks → length ks ≤ max_lookups → HasWords words ks → HasCounted ks progress → length ls ≡ length ks → AllZip SettlesSome ks ls → AllZip SettlesWhole ks ls → MayAskAll ls progress words
settled_may_ask ks ls progress words ready few has_words counted len s whole = record {
  holds = settled_hold ks ls s;
  ready = settled_ready progress.moment ks ls ready s;
  settled = settled_left ks ls whole;
  few = omega (arith, few, len);
  has_words = settled_words ks ls words has_words s;
  counted = settled_counted ks ls progress counted s;
}

-- ---- each, and all

pub all_can : (tables : TurnState TableState) (ks : List Seeker) → AllByRecursion (IsSeated tables) ks → AllByRecursion Holding ks → AllByRecursion (λ k. k.quest.policy ≡ k.lookup.book.setting.policy) ks → AllByRecursion (λ k. k.lookup.book.setting.paths ≤ max_paths) ks → All (CanSettle tables) ks
all_can tables ks own holds policy few i d lt = record {
  own = all_at (IsSeated tables) ks i d own lt;
  holds = all_at Holding ks i d holds lt;
  policy = all_at (λ (k : Seeker). k.quest.policy ≡ k.lookup.book.setting.policy) ks i d policy lt;
  few_paths = all_at (λ (k : Seeker). k.lookup.book.setting.paths ≤ max_paths) ks i d few lt;
}

zip_each : {A : Type 0} (R : A → A → Type 0) (xs ys : List A) → length ys ≡ length xs → ((i : ℕ) (d : A) → i < length xs → R (get_or xs i d) (get_or ys i d)) → AllZip R xs ys
zip_each R [] [] len h = tt
zip_each R [] (y ∷ ys) len h = absurd (omega (arith, len))
zip_each R (x ∷ xs) [] len h = absurd (omega (arith, len))
zip_each R (x ∷ xs) (y ∷ ys) len h = (h zero x (omega arith), zip_each R xs ys (omega (arith, len)) (λ i d lt. h (suc i) d (omega (arith, lt))))

pub each_some : (old new : List Seeker) → length new ≡ length old → EachSettles old new → AllZip SettlesSome old new
each_some old new len h = zip_each SettlesSome old new len (λ i d lt. (h i d lt).some)

each_whole : (old new : List Seeker) → length new ≡ length old → EachSettles old new → All (λ (k : Seeker). IsOk k.settled) new → AllZip SettlesWhole old new
each_whole old new len h ok = zip_each SettlesWhole old new len (λ i d lt. whole_where (get_or old i d) (get_or new i d) (h i d lt) (ok i d (omega (arith, lt, len))))

pub whole_if_ok : (r : Result (Unit {0}) NoMemory) (old new : List Seeker) → length new ≡ length old → EachSettles old new → (IsOk r → All (λ (k : Seeker). IsOk k.settled) new) → OnOk r (AllZip SettlesWhole old new)
whole_if_ok (Ok u) old new len h all = each_whole old new len h (all refl)
whole_if_ok (Err e) old new len h all = tt

-- ---- one after another

-- as far as the loop has come
pub record SettlingTo (i : ℕ) (old now : List Seeker) : Type 0 where
  pub len : length now ≡ length old
  pub done : (j : ℕ) (d : Seeker) → j < i → Settles (get_or old j d) (get_or now j d)
  pub left : (j : ℕ) (d : Seeker) → i ≤ j → get_or now j d ≡ get_or old j d

pub settling_begins : (old : List Seeker) → SettlingTo 0 old old
settling_begins old = record { len = refl; done = λ j d lt. absurd (omega (arith, lt)); left = λ j d le. refl }

pub settling_next : (i : ℕ) (old now : List Seeker) (d after : Seeker) → SettlingTo i old now → i < length old → Settles (get_or now i d) after → SettlingTo (i + 1) old (set now i after)
settling_next i old now d after h lt s =
    let lt' : i < length now = (let len = h.len in omega (arith, lt, len)) in
    record {
      len = length-set now i after ∙ h.len;
      done = λ j e before. elim (cases_lt j i) [
        | inl less ↦ subst (Settles (get_or old j e)) (sym (get_or-set_other now i j after e (λ is. absurd (omega (arith, less, is))))) (h.done j e less)
        | inr not_less ↦
            (let is : j ≡ i = omega (arith, before, not_less) in
            let there : get_or old j e ≡ get_or now i d = ap (λ n. get_or old n e) is ∙ get_or_default old i e d lt ∙ sym (h.left i d (omega arith)) in
            subst (λ k. Settles k (get_or (set now i after) j e)) (sym there) (subst (Settles (get_or now i d)) (sym (get_or-set_at now i j after e is lt')) s))
      ];
      left = λ j e le. get_or-set_other now i j after e (λ is. absurd (omega (arith, le, is))) ∙ h.left j e (omega (arith, le));
    }

pub settling_can : (tables : TurnState TableState) (i : ℕ) (old now : List Seeker) (d : Seeker) → SettlingTo i old now → i < length old → All (CanSettle tables) old → CanSettle tables (get_or now i d)
settling_can tables i old now d h lt can = subst (CanSettle tables) (sym (h.left i d (omega arith))) (can i d lt)
