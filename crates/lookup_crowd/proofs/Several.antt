-- All lookups at one receive: what holds of each goes on to hold of each, by one induction over their list.
use Rattle.std.proofs.Common.{◌≡◌, ℕ, suc, ◌+◌, ◌<◌, List, [], ◌∷◌, ◌++◌, length, get_or, take, drop, set, inl, inr, refl, sym, ap, subst, ◌∙◌}
use Rattle.std.specs.Prelude.{map}
use Rattle.std.specs.List.{AllByRecursion, AllZip, flat_map}
use Rattle.std.proofs.lemmas.Option.{slice_get_within, get_or_from_slice_get}
use Rattle.std.proofs.lemmas.List.{set_split, take_more}
use Rattle.kad_base.specs.declared.types.Addr.{Addr}
use Rattle.lookup_core.specs.Sealed.{Accepts}
use Rattle.lookup_core.specs.LookupSteps.{handed}
use Rattle.lookup_core.specs.Reply.{Said}
use Rattle.lookup_core.specs.Says.{IsReply, IsNoReply}
use Rattle.lookup_core.proofs.Lists.{all_append, all_front, split_at}
use Rattle.lookup_core.proofs.Matching.{matched_at, silent, unknown}
use Rattle.lookup_crowd.specs.declared.seeker.Seeker.{Seeker}
use Rattle.lookup_crowd.specs.Mine.{Mine, waited}
use Rattle.lookup_crowd.specs.Many.{FirstTakes, IsForeign}
use Rattle.lookup_crowd.specs.inner.Crowd.{whose, Holding, Longer, KeepsMine, SameSeat}
use Rattle.lookup_crowd.specs.inner.ManySteps.{IsMatchFor, IsNotFor, IsUnasked, FirstWaits, Hears, TakesFirst, Expires, all_lapsed}
use Rattle.lookup_crowd.proofs.Lists.{all_back}
use Rattle.lookup_crowd.proofs.OneReceive.{waits_on, stray_for, matches_on}

-- what goes on to hold of each, and whom all lost
pub record EachOn (at : ℕ) (olds mids news : List Seeker) (ns : List Mine) : Type 0 where
  pub keeps : AllZip KeepsMine news ns
  pub longer : AllZip Longer olds news
  pub lost : flat_map (λ (n : Mine). n.lost) ns ≡ all_lapsed at mids

-- whom the one and all others lost
lost_both : (n : Mine) (ns : List Mine) (xs ys : List _) → n.lost ≡ xs → flat_map (λ (m : Mine). m.lost) ns ≡ ys → n.lost ++ flat_map (λ (m : Mine). m.lost) ns ≡ xs ++ ys
lost_both n ns xs ys h k = ap (λ l. l ++ flat_map (λ (m : Mine). m.lost) ns) h ∙ ap (λ l. xs ++ l) k

-- where the receive is for none of them
pub all_wait : (at : ℕ) (olds news : List Seeker) (ms : List Mine) → AllByRecursion Holding olds → AllZip KeepsMine olds ms → AllZip (Expires at) olds news → EachOn at olds olds news (map (waited at) ms)
all_wait at [] [] [] h k e = record { keeps = tt; longer = tt; lost = refl }
all_wait at [] [] (m ∷ ms) h k e = absurd k
all_wait at [] (n ∷ news) ms h k e = absurd e
all_wait at (o ∷ olds) [] ms h k e = absurd e
all_wait at (o ∷ olds) (n ∷ news) [] h k e = absurd k
all_wait at (o ∷ olds) (n ∷ news) (m ∷ ms) h k e =
    let one = waits_on at o n m h.0 k.0 e.0 in
    let rest = all_wait at olds news ms h.1 k.1 e.1 in
    record { keeps = (one.keeps, rest.keeps); longer = (one.longer, rest.longer); lost = lost_both (waited at m) (map (waited at) ms) _ _ one.lost rest.lost }

-- where the first that it replies to takes it
pub record FirstOn (accepts : Accepts) (from : Addr) (bytes : List ℕ) (at : ℕ) (olds mids news : List Seeker) (ms : List Mine) : Type 0 where
  pub after : List Mine
  pub first : FirstTakes accepts from bytes at (map whose olds) ms after
  pub on : EachOn at olds mids news after

takes_on : (accepts : Accepts) (from : Addr) (bytes : List ℕ) (at : ℕ) (before : List Seeker) (one after : Seeker) (behind news : List Seeker) (ms : List Mine) → AllByRecursion Holding (before ++ one ∷ behind) → AllZip KeepsMine (before ++ one ∷ behind) ms
    → AllByRecursion (λ k. IsNotFor accepts from bytes k) before → IsMatchFor accepts from bytes one after → AllZip (Expires at) (before ++ after ∷ behind) news → FirstOn accepts from bytes at (before ++ one ∷ behind) (before ++ after ∷ behind) news ms
takes_on accepts from bytes at [] one after behind [] ms h k none takes e = absurd e
takes_on accepts from bytes at [] one after behind (n ∷ news) [] h k none takes e = absurd k
takes_on accepts from bytes at [] one after behind (n ∷ news) (m ∷ ms) h k none takes e =
    let here = matches_on accepts from bytes at one after n m h.0 k.0 takes e.0 in
    let rest = all_wait at behind news ms h.1 k.1 e.1 in
    record {
      after = here.after ∷ map (waited at) ms;
      first = inl (here.gives, refl);
      on = record { keeps = (here.on.keeps, rest.keeps); longer = (here.on.longer, rest.longer); lost = lost_both here.after (map (waited at) ms) _ _ here.on.lost rest.lost };
    }
takes_on accepts from bytes at (o ∷ before) one after behind [] ms h k none takes e = absurd e
takes_on accepts from bytes at (o ∷ before) one after behind (n ∷ news) [] h k none takes e = absurd k
takes_on accepts from bytes at (o ∷ before) one after behind (n ∷ news) (m ∷ ms) h k none takes e =
    let here = waits_on at o n m h.0 k.0 e.0 in
    let rest = takes_on accepts from bytes at before one after behind news ms h.1 k.1 none.1 takes e.1 in
    record {
      after = waited at m ∷ rest.after;
      first = inr (stray_for accepts o m from bytes k.0 none.0, refl, rest.first);
      on = record { keeps = (here.keeps, rest.on.keeps); longer = (here.longer, rest.on.longer); lost = lost_both (waited at m) rest.after _ _ here.lost rest.on.lost };
    }

pub first_on : (accepts : Accepts) (from : Addr) (bytes : List ℕ) (at : ℕ) (old mid new : List Seeker) (ms : List Mine) → AllByRecursion Holding old → AllZip KeepsMine old ms → TakesFirst accepts from bytes old mid → AllZip (Expires at) mid new → FirstOn accepts from bytes at old mid new ms
first_on accepts from bytes at old mid new ms h k t e =
    subst (λ l. FirstOn accepts from bytes at old l new ms) (sym t.are)
    (subst (λ l. FirstOn accepts from bytes at l (t.before ++ t.after ∷ t.behind) new ms) (sym t.were)
    (takes_on accepts from bytes at t.before t.one t.after t.behind new ms (subst (AllByRecursion Holding) t.were h) (subst (λ l. AllZip KeepsMine l ms) t.were k) t.none_before t.takes (subst (λ l. AllZip (Expires at) l new) t.are e)))

-- where it replies to none
pub all_stray : (accepts : Accepts) (from : Addr) (bytes : List ℕ) (ks : List Seeker) (ms : List Mine) → AllZip KeepsMine ks ms → AllByRecursion (λ k. IsNotFor accepts from bytes k) ks → IsForeign accepts from bytes (map whose ks) ms
all_stray accepts from bytes [] [] k none = tt
all_stray accepts from bytes [] (m ∷ ms) k none = absurd k
all_stray accepts from bytes (x ∷ ks) [] k none = absurd k
all_stray accepts from bytes (x ∷ ks) (m ∷ ms) k none = (stray_for accepts x m from bytes k.0 none.0, all_stray accepts from bytes ks ms k.1 none.1)

-- what holds of each before the time passes
pub first_holds : (accepts : Accepts) (from : Addr) (bytes : List ℕ) (old mid : List Seeker) → AllByRecursion Holding old → TakesFirst accepts from bytes old mid → AllByRecursion Holding mid
first_holds accepts from bytes old mid h t =
    let were = subst (AllByRecursion Holding) t.were h in
    let rest = all_back Holding t.before (t.one ∷ t.behind) were in
    subst (AllByRecursion Holding) (sym t.are) (all_append Holding t.before (t.after ∷ t.behind) (all_front Holding t.before (t.one ∷ t.behind) were) (t.takes.holds, rest.1))

-- and afterwards
pub expired_hold : (at : ℕ) (old new : List Seeker) → AllZip (Expires at) old new → AllByRecursion Holding new
expired_hold at [] [] e = tt
expired_hold at [] (n ∷ new) e = absurd e
expired_hold at (o ∷ old) [] e = absurd e
expired_hold at (o ∷ old) (n ∷ new) e = (e.0.holds, expired_hold at old new e.1)

-- what comes from where no query was sent is for none of them
pub unasked_all : (accepts : Accepts) (from : Addr) (bytes : List ℕ) (ks : List Seeker) → AllByRecursion (IsUnasked from) ks → AllByRecursion (λ k. IsNotFor accepts from bytes k) ks
unasked_all accepts from bytes [] h = tt
unasked_all accepts from bytes (k ∷ ks) h = (unknown k.quest accepts k.lookup from bytes h.0, unasked_all accepts from bytes ks h.1)

-- nor is what is no reply
pub silent_all : (accepts : Accepts) (from : Addr) (bytes : List ℕ) (ks : List Seeker) → AllByRecursion Holding ks → IsNoReply bytes → AllByRecursion (λ k. IsNotFor accepts from bytes k) ks
silent_all accepts from bytes [] h none = tt
silent_all accepts from bytes (k ∷ ks) h none = (silent k.quest accepts k.lookup from bytes h.0 none, silent_all accepts from bytes ks h.1 none)

-- the first that waits hears it
pub first_hears : (accepts : Accepts) (from : Addr) (bytes : List ℕ) (said : Said) (old : List Seeker) (found : ℕ × ℕ) (d after : Seeker) → IsReply bytes said → FirstWaits accepts from bytes said old found → Hears found.1 said.reply (get_or old found.0 d) after → SameSeat (get_or old found.0 d) after → TakesFirst accepts from bytes old (set old found.0 after)
first_hears accepts from bytes said old found d after reads w h seat =
    let one : get_or old found.0 d ≡ w.one = get_or_from_slice_get old found.0 w.one d w.here in
    let lt = slice_get_within old found.0 w.one w.here in
    let hears = subst (λ k. Hears found.1 said.reply k after) one h in
    record {
      before = take found.0 old;
      one = w.one;
      behind = drop (suc found.0) old;
      after = after;
      were = split_at old found.0 w.one w.here;
      none_before = w.none_before;
      takes = record {
        heard = handed hears.out;
        matches = matched_at w.one.quest accepts from bytes said found.1 w.one.lookup after.lookup hears.out reads w.waits hears.hears;
        gathers = hears.gathers;
        quest = hears.quest;
        holds = hears.holds;
        seat = subst (λ k. SameSeat k after) one seat;
      };
      are = set_split old found.0 after lt;
    }

-- nor is it for the i-th
pub none_more : (accepts : Accepts) (from : Addr) (bytes : List ℕ) (old now : List Seeker) (i : ℕ) (d : Seeker) → now ≡ old → i < length old → AllByRecursion (λ k. IsNotFor accepts from bytes k) (take i old) → IsNotFor accepts from bytes (get_or now i d) → AllByRecursion (λ k. IsNotFor accepts from bytes k) (take (i + 1) old)
none_more accepts from bytes old now i d same lt none here =
    subst (AllByRecursion (λ k. IsNotFor accepts from bytes k)) (sym (take_more old i d lt))
    (all_append (λ k. IsNotFor accepts from bytes k) (take i old) (get_or old i d ∷ []) none (subst (λ l. IsNotFor accepts from bytes (get_or l i d)) same here, tt))
