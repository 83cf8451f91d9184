-- The receives that wait for others than the lookups, which are over.
use Rattle.std.proofs.Common.{◌≡◌, ◌≢◌, ℕ, zero, suc, ◌+◌, ◌<◌, ◌≤◌, List, [], ◌∷◌, ◌++◌, false, refl, sym, ap, subst, ◌∙◌, arith}
use Rattle.std.specs.Prelude.{map, None}
use Rattle.std.specs.List.{AllByRecursion, AllZip}
use Rattle.std.proofs.lemmas.List.{append-nil}
use Rattle.claim_book.specs.Journal.{may_ask}
use Rattle.claim_book.specs.RunOut.{RunOut}
use Rattle.node_serve.specs.Lasting.{waits_to}
use Rattle.lookup_crowd.specs.declared.seeker.Seeker.{Seeker}
use Rattle.lookup_crowd.specs.declared.seeker.Progress.{Progress}
use Rattle.lookup_crowd.specs.Mine.{Whose}
use Rattle.lookup_crowd.specs.inner.Crowd.{whose, NoneAsks, Longer, DrivenOn, SameSeat, queries_of}
use Rattle.lookup_crowd.specs.inner.ManySteps.{IsRunOut, for_others, MayReceive, Received}
use Rattle.look_many.specs.inner.Serving.{MayServe, WantsMore}
use Rattle.lookup_core.proofs.Received.{none_driven}
use Rattle.lookup_crowd.proofs.Rounding.{Stays}
use Rattle.look_many.proofs.Lists.{first_same, rest_same}

pub may_serve : (ks : List Seeker) (progress : Progress) (until : ℕ) → MayServe ks progress → progress.unsaid ≡ 0 → WantsMore progress → until ≡ waits_to progress.end progress.moment → MayReceive ks progress until false
may_serve ks progress until may unsaid more waits = record {
  holds = may.holds;
  waits = for_others refl may.none_open may.over unsaid may.round_over more.some_left more.before_end waits;
  in_turn = λ z. may.none_asks;
  few_receives = (let z = may.round_over in omega (arith, z));
  room = (let room = may.room in let left = more.some_left in omega (arith, room, left));
  counted = may.counted;
}

-- lookups that are read alike are over alike, and ask alike
over_same : (olds news : List Seeker) → map whose news ≡ map whose olds → AllByRecursion IsRunOut olds → AllByRecursion IsRunOut news
over_same [] [] same h = tt
over_same [] (n ∷ news) same h = absurd cc
over_same (o ∷ olds) [] same h = absurd cc
over_same (o ∷ olds) (n ∷ news) same h =
    let head : whose n ≡ whose o = cc in
    let tail : map whose news ≡ map whose olds = cc in
    (record { run_out = subst (λ (w : Whose). (p : ℕ) → p < w.setting.paths → RunOut w.setting p w.journal) (sym head) h.0.run_out }, over_same olds news tail h.1)

none_same : (olds news : List Seeker) → map whose news ≡ map whose olds → AllByRecursion NoneAsks olds → AllByRecursion NoneAsks news
none_same [] [] same h = tt
none_same [] (n ∷ news) same h = absurd cc
none_same (o ∷ olds) [] same h = absurd cc
none_same (o ∷ olds) (n ∷ news) same h =
    let head : whose n ≡ whose o = cc in
    let tail : map whose news ≡ map whose olds = cc in
    (subst (λ (w : Whose). (p : ℕ) → p < w.setting.paths → may_ask w.setting p w.journal ≡ None) (sym head) h.0, none_same olds news tail h.1)

-- they have the same journals, and the same passes
pub stays_same : (olds news : List Seeker) → map whose news ≡ map whose olds → map (λ (k : Seeker). k.gathered) news ≡ map (λ (k : Seeker). k.gathered) olds → AllZip SameSeat olds news → Stays olds news
stays_same olds news same gathered seats = record { longer = longer_same olds news same gathered; driven_on = driven_same olds news same; seats = seats }
  where
    nothing_more : (o n : Seeker) → whose n ≡ whose o → n.lookup.book.journal ≡ o.lookup.book.journal ++ []
    nothing_more o n head = ap (λ (w : Whose). w.journal) head ∙ sym (append-nil o.lookup.book.journal)

    longer_same : (olds news : List Seeker) → map whose news ≡ map whose olds → map (λ (k : Seeker). k.gathered) news ≡ map (λ (k : Seeker). k.gathered) olds → AllZip Longer olds news
    longer_same [] [] same gathered = tt
    longer_same [] (n ∷ news) same gathered = absurd cc
    longer_same (o ∷ olds) [] same gathered = absurd cc
    longer_same (o ∷ olds) (n ∷ news) same gathered =
        let head : whose n ≡ whose o = cc in
        let tail : map whose news ≡ map whose olds = cc in
        let kept : n.gathered ≡ o.gathered = first_same gathered in
        let others : map (λ (k : Seeker). k.gathered) news ≡ map (λ (k : Seeker). k.gathered) olds = rest_same gathered in
        (record { more = []; quest = ap (λ (w : Whose). w.quest) head; setting = ap (λ (w : Whose). w.setting) head; journal = nothing_more o n head; gathered = λ is. kept }, longer_same olds news tail others)

    driven_same : (olds news : List Seeker) → map whose news ≡ map whose olds → AllZip DrivenOn olds news
    driven_same [] [] same = tt
    driven_same [] (n ∷ news) same = absurd cc
    driven_same (o ∷ olds) [] same = absurd cc
    driven_same (o ∷ olds) (n ∷ news) same =
        let head : whose n ≡ whose o = cc in
        let tail : map whose news ≡ map whose olds = cc in
        (record { more = []; journal = nothing_more o n head; all_driven = none_driven }, driven_same olds news tail)

-- no round goes on where no query is open
none_on : (n : ℕ) (P : Type 0) → (n ≢ 0 → P → ⊥) → P → n ≡ 0
none_on zero P some none = refl
none_on (suc n) P some none = absurd (some (λ z. absurd (omega (arith, z))) none)

-- after a receive the lookups are over as before
pub over_next : (old new : List Seeker) (progress between progress' : Progress) → MayServe old progress → Received false old new between progress' → progress'.foreign + progress'.left + progress'.unsaid ≤ progress.foreign + progress.left + progress.unsaid → MayServe new progress'
over_next old new progress between progress' may r no_more = record {
  holds = r.holds;
  none_open = r.none_open refl;
  over = over_same old new (r.same refl) may.over;
  none_asks = none_same old new (r.same refl) may.none_asks;
  round_over = none_on progress'.receives (queries_of new ≡ []) r.still (r.none_open refl);
  room = (let room = may.room in omega (arith, room, no_more));
  counted = r.counted;
}

pub serve_next : (old new : List Seeker) (progress progress' : Progress) → MayServe old progress → WantsMore progress → Received false old new progress progress' → MayServe new progress'
serve_next old new progress progress' may more r = over_next old new progress progress progress' may r (let left = r.left in let foreign = r.foreign in let unsaid = r.unsaid in let some = more.some_left in omega (arith, left, foreign, unsaid, some))
