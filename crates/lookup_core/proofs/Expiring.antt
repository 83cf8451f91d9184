-- The overdue queries are lost, oldest first.
use Rattle.std.proofs.Common.{◌≡◌, ℕ, ◌^◌, ◌<◌, ◌≤◌, List, [], ◌∷◌, ◌++◌, true, false, not, cond, refl, sym, ap, subst, ◌∙◌, arith}
use Rattle.std.specs.Prelude.{map, filter, nat_lt}
use Rattle.std.specs.List.{All, AllByRecursion}
use Rattle.std.proofs.lemmas.Bool.Decides.{nat_tests}
use Rattle.std.proofs.lemmas.List.{append-nil, append_assoc}
use Rattle.std.proofs.lemmas.List.Elements.{All-head, All-tail}
use Rattle.kad_base.specs.declared.types.Contact.{Contact}
use Rattle.kad_base.specs.Contacts.{among}
use Rattle.query_book.specs.declared.Query.{Query}
use Rattle.query_book.specs.Queries.{ClosesOldest}
use Rattle.claim_book.specs.declared.types.Cause.TheVariants.{Timeout}
use Rattle.claim_book.specs.declared.types.Entry.{Entry}
use Rattle.claim_book.specs.declared.types.Entry.TheVariants.{Lost}
use Rattle.claim_book.specs.Journal.{asked, open_any}
use Rattle.claim_book.specs.Calls.{asker}
use Rattle.claim_book.specs.State.{BookState}
use Rattle.lookup_core.specs.declared.state.Lookup.{Lookup}
use Rattle.lookup_core.specs.Timeouts.{is_overdue, timed_out, closed_at}
use Rattle.lookup_core.specs.LookupSteps.{as_open, Holds, LosesOldest, LosesOverdue}
use Rattle.lookup_core.proofs.Lists.{map_append, all_append}
use Rattle.lookup_core.proofs.Holding.{among_middle, one_closed}
use Rattle.lookup_core.proofs.Opens.{opens_lost, opens_distinct, asker_kept, each_asked}

-- the oldest is open
pub oldest_open : (at : ℕ) (c : Contact) (qs rest : List Query) (J : List Entry) → ClosesOldest at c qs rest → map (λ (q : Query). q.contact) qs ≡ open_any J → among (open_any J) c ≡ true
oldest_open at c qs rest J closes is =
    ap (λ l. among l c) (sym is) ∙ ap (λ x. among (map (λ (q : Query). q.contact) qs) x) closes.contact_is ∙ ap (λ l. among (map (λ (q : Query). q.contact) l) closes.oldest.contact) closes.others ∙ among_middle [] closes.oldest rest

-- what is open then
pub oldest_holds : (at : ℕ) (c : Contact) (old new : Lookup) → Holds old → LosesOldest at c old new → Holds new
oldest_holds at c old new holds l =
    let J = old.book.journal in
    record {
      is_open = one_closed c J new.book.journal [] new.queries old.queries new.queries l.closes.oldest (sym l.closes.contact_is) l.closes.others refl holds.is_open (opens_distinct old.book.setting J l.legal)
          (ap (λ (b : BookState). open_any b.journal) l.book ∙ opens_lost (asker c J) J c Timeout);
      ids = (subst (AllByRecursion (λ (q : Query). q.tx < 2 ^ 32)) l.closes.others holds.ids).1;
    }

-- ---- one after another

-- those before these were overdue and are lost
pub record Expiring (at : ℕ) (old new : Lookup) : Type 0 where
  pub gone : List Query
  pub were : old.queries ≡ gone ++ new.queries
  pub overdue : AllByRecursion (λ (q : Query). q.deadline ≤ at) gone
  pub setting : new.book.setting ≡ old.book.setting
  pub journal : new.book.journal ≡ old.book.journal ++ map timed_out (map (as_open old.book.journal) gone)
  pub was_open : map (λ q. q.contact) old.queries ≡ open_any old.book.journal
  pub holds : Holds new

-- the entries of those that are lost so far
abbrev pub lost_so_far : (at : ℕ) (old new : Lookup) → Expiring at old new → List Entry
lost_so_far at old new h = map timed_out (map (as_open old.book.journal) h.gone)

pub none_expired : (at : ℕ) (k : Lookup) → Holds k → Expiring at k k
none_expired at k holds = record {
  gone = [];
  were = refl;
  overdue = tt;
  setting = refl;
  journal = sym (append-nil k.book.journal);
  was_open = holds.is_open;
  holds = holds;
}

pub none_lost : (at : ℕ) (k : Lookup) (holds : Holds k) → lost_so_far at k k (none_expired at k holds) ≡ []
unfolding none_expired
none_lost at k holds = refl

-- one more
pub record OneMore (at : ℕ) (c : Contact) (old w v : Lookup) (h : Expiring at old w) : Type 0 where
  pub expiring : Expiring at old v
  pub path : ℕ
  pub lost : lost_so_far at old v expiring ≡ lost_so_far at old w h ++ Lost path c Timeout ∷ []

pub oldest_expires : (at : ℕ) (c : Contact) (old w v : Lookup) (h : Expiring at old w) → LosesOldest at c w v → OneMore at c old w v h
oldest_expires at c old w v h l =
    let J = old.book.journal in
    let q = l.closes.oldest in
    let first = l.closes.others in
    let is : c ≡ q.contact = l.closes.contact_is in
    let were : old.queries ≡ h.gone ++ q ∷ v.queries = h.were ∙ ap (λ l. h.gone ++ l) first in
    let was_asked : among (asked J) q.contact ≡ true = each_asked J old.queries h.was_open q.contact (ap (λ l. among (map (λ (x : Query). x.contact) l) q.contact) were ∙ among_middle h.gone q v.queries) in
    let by : asker c w.book.journal ≡ asker q.contact J = ap (λ x. asker x w.book.journal) is ∙ ap (asker q.contact) h.journal ∙ asker_kept J (map timed_out (map (as_open J) h.gone)) q.contact was_asked in
    let closed : map timed_out (map (as_open J) (h.gone ++ q ∷ [])) ≡ map timed_out (map (as_open J) h.gone) ++ timed_out (as_open J q) ∷ [] =
    ap (map timed_out) (map_append (as_open J) h.gone (q ∷ [])) ∙ map_append timed_out (map (as_open J) h.gone) (as_open J q ∷ []) in
    record {
      expiring = record {
        gone = h.gone ++ q ∷ [];
        were = were ∙ sym (append_assoc h.gone (q ∷ []) v.queries);
        overdue = all_append (λ (x : Query). x.deadline ≤ at) h.gone (q ∷ []) h.overdue (l.closes.due, tt);
        setting = ap (λ (b : BookState). b.setting) l.book ∙ h.setting;
        journal = ap (λ (b : BookState). b.journal) l.book ∙ ap (λ l. l ++ Lost (asker c w.book.journal) c Timeout ∷ []) h.journal ∙ ap (λ p. (J ++ map timed_out (map (as_open J) h.gone)) ++ Lost p c Timeout ∷ []) by
            ∙ ap (λ x. (J ++ map timed_out (map (as_open J) h.gone)) ++ Lost (asker q.contact J) x Timeout ∷ []) is
            ∙ append_assoc J (map timed_out (map (as_open J) h.gone)) (timed_out (as_open J q) ∷ []) ∙ ap (λ l. J ++ l) (sym closed);
        was_open = h.was_open;
        holds = oldest_holds at c w v h.holds l;
      };
      path = asker q.contact J;
      lost = closed ∙ ap (λ x. map timed_out (map (as_open J) h.gone) ++ Lost (asker q.contact J) x Timeout ∷ []) (sym is);
    }

-- ---- its end

pub late : (at d : ℕ) → d ≤ at → nat_lt at d ≡ false
late at d le = grind (arith, nat_tests)

soon : (at d : ℕ) → at < d → nat_lt at d ≡ true
soon at d lt = grind (arith, nat_tests)

all_soon : (at : ℕ) (qs : List Query) → All (λ (q : Query). at < q.deadline) qs → filter (λ (q : Query). nat_lt at q.deadline) qs ≡ qs
all_soon at [] h = refl
all_soon at (q ∷ qs) h =
    ap (λ b. cond b (q ∷ filter (λ (q : Query). nat_lt at q.deadline) qs) (filter (λ (q : Query). nat_lt at q.deadline) qs)) (soon at q.deadline (All-head (λ (q : Query). at < q.deadline) q qs h))
    ∙ ap (λ l. q ∷ l) (all_soon at qs (All-tail (λ (q : Query). at < q.deadline) q qs h))

kept_are : (at : ℕ) (gone qs : List Query) → AllByRecursion (λ (q : Query). q.deadline ≤ at) gone → All (λ (q : Query). at < q.deadline) qs → filter (λ (q : Query). nat_lt at q.deadline) (gone ++ qs) ≡ qs
kept_are at [] qs h k = all_soon at qs k
kept_are at (q ∷ gone) qs h k =
    ap (λ b. cond b (q ∷ filter (λ (q : Query). nat_lt at q.deadline) (gone ++ qs)) (filter (λ (q : Query). nat_lt at q.deadline) (gone ++ qs))) (late at q.deadline h.0) ∙ kept_are at gone qs h.1 k

none_closed : (at : ℕ) (J : List Entry) (qs : List Query) → All (λ (q : Query). at < q.deadline) qs → closed_at at (map (as_open J) qs) ≡ []
none_closed at J [] h = refl
none_closed at J (q ∷ qs) h =
    ap (λ b. map timed_out (cond (not b) (as_open J q ∷ filter (is_overdue at) (map (as_open J) qs)) (filter (is_overdue at) (map (as_open J) qs)))) (soon at q.deadline (All-head (λ (q : Query). at < q.deadline) q qs h))
    ∙ none_closed at J qs (All-tail (λ (q : Query). at < q.deadline) q qs h)

closed_are : (at : ℕ) (J : List Entry) (gone qs : List Query) → AllByRecursion (λ (q : Query). q.deadline ≤ at) gone → All (λ (q : Query). at < q.deadline) qs → closed_at at (map (as_open J) (gone ++ qs)) ≡ map timed_out (map (as_open J) gone)
closed_are at J [] qs h k = none_closed at J qs k
closed_are at J (q ∷ gone) qs h k =
    ap (λ b. map timed_out (cond (not b) (as_open J q ∷ filter (is_overdue at) (map (as_open J) (gone ++ qs))) (filter (is_overdue at) (map (as_open J) (gone ++ qs))))) (late at q.deadline h.0)
    ∙ ap (λ l. timed_out (as_open J q) ∷ l) (closed_are at J gone qs h.1 k)

-- all that are overdue
pub closed_all : (at : ℕ) (old new : Lookup) (h : Expiring at old new) → All (λ (q : Query). at < q.deadline) new.queries → closed_at at (map (as_open old.book.journal) old.queries) ≡ lost_so_far at old new h
closed_all at old new h none = ap (λ l. closed_at at (map (as_open old.book.journal) l)) h.were ∙ closed_are at old.book.journal h.gone new.queries h.overdue none

pub all_expired : (at : ℕ) (old new : Lookup) → Expiring at old new → All (λ (q : Query). at < q.deadline) new.queries → LosesOverdue at old new
all_expired at old new h none = record {
  setting = h.setting;
  journal = h.journal ∙ ap (λ l. old.book.journal ++ l) (sym (closed_all at old new h none));
  queries = sym (ap (filter (λ (q : Query). nat_lt at q.deadline)) h.were ∙ kept_are at h.gone new.queries h.overdue none);
  is_open = h.holds.is_open;
}
