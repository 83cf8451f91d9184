-- Each datagram that came was foreign or closed a query: so the counts stay within what was asked.
use Rattle.std.proofs.Common.{◌≡◌, ℕ, suc, ◌+◌, ◌<◌, ◌≤◌, ◌^◌, List, [], ◌∷◌, ◌++◌, length, Bool, true, false, refl, sym, ap, subst, ◌∙◌, arith}
use Rattle.std.specs.List.{AllZip}
use Rattle.std.proofs.lemmas.List.{length-append}
use Rattle.kad_base.specs.declared.types.Addr.{Addr}
use Rattle.lookup_core.specs.Sealed.{Accepts}
use Rattle.lookup_core.proofs.Received.{fewer_still}
use Rattle.lookup_crowd.specs.declared.seeker.Seeker.{Seeker}
use Rattle.lookup_crowd.specs.declared.seeker.Progress.{Progress}
use Rattle.lookup_crowd.specs.inner.Crowd.{OnlyHeard, asks_of, queries_of}
use Rattle.lookup_crowd.specs.inner.ManySteps.{IsMatchFor, TakesFirst, Expires, HasCounted, MayReceive, Received, after_paid}

-- ---- how many queries are open

pub fewer_expired : (at : ℕ) (olds news : List Seeker) → AllZip (Expires at) olds news → length (queries_of news) ≤ length (queries_of olds)
fewer_expired at [] [] e = omega arith
fewer_expired at [] (n ∷ news) e = absurd e
fewer_expired at (o ∷ olds) [] e = absurd e
fewer_expired at (o ∷ olds) (n ∷ news) e =
    let one : length n.lookup.queries ≤ length o.lookup.queries = subst (λ qs. length qs ≤ length o.lookup.queries) (sym e.0.loses.queries) (fewer_still at o.lookup.queries) in
    let rest = fewer_expired at olds news e.1 in
    let are = length-append n.lookup.queries (queries_of news) in
    let were = length-append o.lookup.queries (queries_of olds) in
    omega (arith, one, rest, are, were)

open_apart : (before : List Seeker) (k : Seeker) (behind : List Seeker) → length (queries_of (before ++ k ∷ behind)) ≡ length (queries_of before) + (length k.lookup.queries + length (queries_of behind))
open_apart [] k behind = (let all = length-append k.lookup.queries (queries_of behind) in omega (arith, all))
open_apart (x ∷ before) k behind =
    let all = length-append x.lookup.queries (queries_of (before ++ k ∷ behind)) in
    let rest = open_apart before k behind in
    let front = length-append x.lookup.queries (queries_of before) in
    omega (arith, all, rest, front)

one_fewer : (accepts : Accepts) (from : Addr) (bytes : List ℕ) (one after : Seeker) → IsMatchFor accepts from bytes one after → length after.lookup.queries + 1 ≡ length one.lookup.queries
one_fewer accepts from bytes one after m =
    let h = m.matches in
    let were : length one.lookup.queries ≡ length h.before + suc (length h.behind) = ap length h.was_open ∙ length-append h.before (h.query ∷ h.behind) in
    let are : length after.lookup.queries ≡ length h.before + length h.behind = ap length h.closes ∙ length-append h.before h.behind in
    omega (arith, were, are)

-- what is taken closes one
pub closes_one : (accepts : Accepts) (from : Addr) (bytes : List ℕ) (old mid : List Seeker) → TakesFirst accepts from bytes old mid → length (queries_of mid) + 1 ≡ length (queries_of old)
closes_one accepts from bytes old mid t =
    let were : length (queries_of old) ≡ length (queries_of t.before) + (length t.one.lookup.queries + length (queries_of t.behind)) = ap (λ l. length (queries_of l)) t.were ∙ open_apart t.before t.one t.behind in
    let are : length (queries_of mid) ≡ length (queries_of t.before) + (length t.after.lookup.queries + length (queries_of t.behind)) = ap (λ l. length (queries_of l)) t.are ∙ open_apart t.before t.after t.behind in
    let one = one_fewer accepts from bytes t.one t.after t.takes in
    omega (arith, were, are, one)

-- ---- how many contacts were asked

pub same_asks : (olds news : List Seeker) → AllZip OnlyHeard olds news → asks_of news ≡ asks_of olds
same_asks [] [] h = refl
same_asks [] (n ∷ news) h = absurd h
same_asks (o ∷ olds) [] h = absurd h
same_asks (o ∷ olds) (n ∷ news) h =
    let one = ap length h.0.same_asks in
    let rest = same_asks olds news h.1 in
    omega (arith, one, rest)

-- ---- the counts

-- so many more datagrams came, of which each was foreign or closed a query
pub counts_on : (old new : List Seeker) (progress progress' : Progress) → HasCounted old progress → asks_of new ≡ asks_of old → progress'.received + length (queries_of new) + progress.foreign ≤ progress.received + length (queries_of old) + progress'.foreign → progress'.replied ≡ progress.replied → progress.received ≤ progress'.received → HasCounted new progress'
counts_on old new progress progress' h asks more same later =
    let received = h.received in
    let replied = h.replied in
    let few = h.asks in
    record { received = omega (arith, received, asks, more); replied = omega (arith, replied, same, later); asks = omega (arith, few, asks) }

-- there is room to count one datagram more
pub may_count : (ks : List Seeker) (progress : Progress) (until : ℕ) (busy : Bool) → MayReceive ks progress until busy → progress.received + 1 < 2 ^ 64
may_count ks progress until busy may =
    let received = may.counted.received in
    let asks = may.counted.asks in
    let room = may.room in
    omega (arith, received, asks, room)

pub may_count_foreign : (ks : List Seeker) (progress : Progress) (until : ℕ) (busy : Bool) → MayReceive ks progress until busy → progress.foreign + 1 < 2 ^ 64
may_count_foreign ks progress until busy may = (let room = may.room in omega (arith, room))

-- and one reply more
pub may_count_reply : (ks : List Seeker) (progress progress' : Progress) (until : ℕ) (busy : Bool) → MayReceive ks progress until busy → progress'.replied ≡ progress.replied → progress'.replied + 1 < 2 ^ 64
may_count_reply ks progress progress' until busy may same =
    let received = may_count ks progress until busy may in
    let replied = may.counted.replied in
    omega (arith, received, replied, same)

-- after the reply
pub paid_received : (busy : Bool) (old new : List Seeker) (progress progress' : Progress) (was_sent : Bool) → progress'.replied + 1 ≤ progress'.received → Received busy old new progress progress' → Received busy old new progress (after_paid progress' was_sent)
paid_received busy old new progress progress' true room r = record {
  holds = r.holds;
  longer = r.longer;
  only_heard = r.only_heard;
  driven_on = r.driven_on;
  seats = r.seats;
  counted = record { received = r.counted.received; replied = room; asks = r.counted.asks };
  round = r.round;
  few_receives = r.few_receives;
  still = r.still;
  left = r.left;
  unsaid = r.unsaid;
  foreign = r.foreign;
  few_foreign = r.few_foreign;
  same = r.same;
  same_gathered = r.same_gathered;
  none_open = r.none_open;
}
paid_received busy old new progress progress' false room r = r
