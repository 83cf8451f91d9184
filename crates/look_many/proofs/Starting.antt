-- Where several lookups begin: each with its seeds alone, and the moment was told.
use Rattle.std.proofs.Common.{◌≡◌, ℕ, suc, ◌+◌, ◌*◌, ◌^◌, ◌<◌, ◌≤◌, List, [], ◌∷◌, ◌++◌, length, refl, sym, ap, subst, ◌∙◌, arith}
use Rattle.std.specs.Prelude.{map}
use Rattle.std.specs.List.{AllByRecursion, AllZip, range_with_len}
use Rattle.look_many.specs.declared.job.Job.{Job}
use Rattle.kad_base.specs.Limits.{max_lookups, max_paths, max_alpha, max_open}
use Rattle.query_book.specs.declared.Query.{Query}
use Rattle.turn_book.specs.Turns.{TurnState, fresh}
use Rattle.contact_table.specs.TableState.{TableState}
use Rattle.claim_book.specs.declared.types.Setting.{Setting}
use Rattle.claim_book.specs.Journal.{seeds, asked, open_any, unsettled}
use Rattle.claim_book.specs.Legal.{seeded}
use Rattle.lookup_core.proofs.Received.{seeds_quiet}
use Rattle.lookup_core.specs.Timeouts.{deadline_of}
use Rattle.lookup_core.proofs.Seeds.{seeds_stand, seeds_ask, seeds_settled, seeds_open}
use Rattle.node_serve.specs.declared.setting.ServeSetting.{ServeSetting}
use Rattle.lookup_crowd.specs.declared.seeker.Seeker.{Seeker}
use Rattle.lookup_crowd.specs.Mine.{driven}
use Rattle.lookup_crowd.specs.inner.Crowd.{Holding, NothingLeft, queries_of, asks_of, Stand}
use Rattle.lookup_crowd.specs.inner.ManySteps.{IsReady, IsSeated}
use Rattle.lookup_crowd.specs.inner.Going.{Begins}
use Rattle.lookup_crowd.proofs.Zips.{zip_length}
use Rattle.look_many.specs.declared.found.ManySetting.{ManySetting}
use Rattle.look_many.specs.ManyLooked.{IsWithinLimits, setting_for, seeds_for}
use Rattle.look_many.specs.inner.Seats.{IsFresh, IsSeekerFor, RolesFrom}
use Rattle.look_many.proofs.Lists.{first_same, rest_same}

-- ---- one lookup

module _ (server : ServeSetting) (setting : ManySetting) (table : TableState) (limits : IsWithinLimits setting) (small : server.k < 256) (job : Job) (k : Seeker) (s : IsSeekerFor server setting table job k) where
  at_setting : (P : Setting → Type 0) → P (setting_for server setting job) → P k.lookup.book.setting
  at_setting P p = subst P (sym s.book.setting_is) p

  begin_asks : length (asked k.lookup.book.journal) ≡ 0
  begin_asks = ap (λ J. length (asked J)) s.book.journal ∙ ap length (seeds_ask setting.per_address setting.paths (seeds_for server table job))

  begin_holds : Holding k
  begin_holds = record {
    is_open = ap (map (λ (q : Query). q.contact)) s.none_open ∙ sym (ap open_any s.book.journal ∙ seeds_open setting.per_address setting.paths (seeds_for server table job));
    ids = subst (AllByRecursion (λ (q : Query). q.tx < 2 ^ 32)) (sym s.none_open) tt;
  }

  begin_ready : (moment : ℕ) → IsReady moment k
  begin_ready moment = record {
    some_path = at_setting (λ x. 0 < x.paths) limits.some_path;
    few_paths = at_setting (λ x. x.paths ≤ max_paths) limits.few_paths;
    few = at_setting (λ x. x.alpha * x.paths ≤ max_open) (most setting.alpha setting.paths limits.few_queries limits.few_paths);
    small = at_setting (λ x. x.k < 256) small;
    policy = ap (λ q. q.policy) s.quest ∙ sym (ap (λ (x : Setting). x.policy) s.book.setting_is);
    deadlines = subst (AllByRecursion (λ (q : Query). q.deadline ≤ deadline_of moment k.quest.timeout)) (sym s.none_open) tt;
    few_asks = (let z = begin_asks in omega (arith, z));
  }
    where
      most : (a p : ℕ) → a ≤ max_alpha → p ≤ max_paths → a * p ≤ max_open
      most a p x y = grind arith

  begin_left : NothingLeft k
  begin_left = λ p lt. ap (unsettled p) s.book.journal ∙ seeds_settled p setting.per_address setting.paths (seeds_for server table job)

  begin_fresh : IsFresh k
  begin_fresh = record { bare = s.bare; none_open = s.none_open; none_driven = ap driven s.book.journal ∙ seeds_quiet setting.per_address setting.paths (seeds_for server table job) }

  begin_some : 1 ≤ k.lookup.book.setting.alpha
  begin_some = at_setting (λ x. 1 ≤ x.alpha) limits.some_query

  pub begin_seeds : seeds k.lookup.book.journal ≡ seeded setting.per_address setting.paths (seeds_for server table job)
  begin_seeds = ap seeds s.book.journal ∙ seeds_stand setting.per_address setting.paths (seeds_for server table job)

-- ---- all of them

module _ (server : ServeSetting) (setting : ManySetting) (table : TableState) (limits : IsWithinLimits setting) (small : server.k < 256) where
  abbrev All_for : List Job → List Seeker → Type 0
  All_for jobs ks = AllZip (IsSeekerFor server setting table) jobs ks

  each_of : (Q : Seeker → Type 0) → ((t : Job) (k : Seeker) → IsSeekerFor server setting table t k → Q k) → (ts : List Job) (ks : List Seeker) → All_for ts ks → AllByRecursion Q ks
  each_of Q f [] [] h = tt
  each_of Q f [] (k ∷ ks) h = absurd h
  each_of Q f (t ∷ ts) [] h = absurd h
  each_of Q f (t ∷ ts) (k ∷ ks) h = (f t k h.0, each_of Q f ts ks h.1)

  no_queries : (ts : List Job) (ks : List Seeker) → All_for ts ks → queries_of ks ≡ []
  no_queries [] [] h = refl
  no_queries [] (k ∷ ks) h = absurd h
  no_queries (t ∷ ts) [] h = absurd h
  no_queries (t ∷ ts) (k ∷ ks) h = ap (λ l. l ++ queries_of ks) h.0.none_open ∙ no_queries ts ks h.1

  no_asks : (ts : List Job) (ks : List Seeker) → All_for ts ks → asks_of ks ≡ 0
  no_asks [] [] h = refl
  no_asks [] (k ∷ ks) h = absurd h
  no_asks (t ∷ ts) [] h = absurd h
  no_asks (t ∷ ts) (k ∷ ks) h = (let one = begin_asks server setting table limits small t k h.0 in let rest = no_asks ts ks h.1 in omega (arith, one, rest))

  pub all_fresh_of : (ts : List Job) (ks : List Seeker) → All_for ts ks → AllByRecursion IsFresh ks
  all_fresh_of ts ks h = each_of IsFresh (begin_fresh server setting table limits small) ts ks h

  pub all_some : (ts : List Job) (ks : List Seeker) → All_for ts ks → AllByRecursion (λ (k : Seeker). 1 ≤ k.lookup.book.setting.alpha) ks
  all_some ts ks h = each_of (λ (k : Seeker). 1 ≤ k.lookup.book.setting.alpha) (begin_some server setting table limits small) ts ks h

  pub all_begin_at : (ts : List Job) (s : Stand) → All_for ts s.seekers → length ts ≤ max_lookups → s.words.place < 2 ^ 59 → s.progress.receives ≡ 0 → s.progress.foreign ≡ 0 → s.progress.received ≡ 0 → s.progress.replied ≡ 0 → Begins s
  all_begin_at ts s h few place receives foreign received replied =
      let none = ap length (no_queries ts s.seekers h) in
      let asks = no_asks ts s.seekers h in
      let n = zip_length (IsSeekerFor server setting table) ts s.seekers h in
      record {
        may = record {
          holds = each_of Holding (begin_holds server setting table limits small) ts s.seekers h;
          ready = each_of (IsReady s.progress.moment) (λ t k x. begin_ready server setting table limits small t k x s.progress.moment) ts s.seekers h;
          settled = each_of NothingLeft (begin_left server setting table limits small) ts s.seekers h;
          few = omega (arith, n, few);
          has_words = omega (arith, place, asks);
          counted = record { received = omega (arith, received, none); replied = omega (arith, replied, received); asks = omega (arith, asks) };
        };
        round_over = receives;
        few_foreign = omega (arith, foreign);
      }

-- ---- their passes

pub seated_at : (turn : TurnState TableState) (r : ℕ) (ks : List Seeker) → map (λ (k : Seeker). k.pass) ks ≡ map (fresh turn.id) (range_with_len r (length ks)) → AllByRecursion (IsSeated turn) ks
seated_at turn r [] h = tt
seated_at turn r (k ∷ ks) h = ((ap (λ p. p.turn) (first_same h)), seated_at turn (r + 1) ks (rest_same h))

pub roles_at : (turn : TurnState TableState) (r : ℕ) (ks : List Seeker) → map (λ (k : Seeker). k.pass) ks ≡ map (fresh turn.id) (range_with_len r (length ks)) → RolesFrom r ks
roles_at turn r [] h = tt
roles_at turn r (k ∷ ks) h = (ap (λ p. p.role) (first_same h), subst (λ n. RolesFrom n ks) (up r) (roles_at turn (r + 1) ks (rest_same h)))
  where
    up : (n : ℕ) → n + 1 ≡ suc n
    up n = omega arith
