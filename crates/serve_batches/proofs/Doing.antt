-- Shifts that are worked out, by whoever does it.
use borrow.Author.Count.{below_more}
use Rattle.std.proofs.Common.{◌≡◌, ℕ, zero, suc, ◌+◌, ◌≤◌, ◌<◌, List, [], ◌∷◌, length, take, get_or, set, Option, Some, None, refl, sym, ap, subst, ◌∙◌, arith, All}
use Rattle.std.proofs.lemmas.List.{get_or-set_same, get_or-set_other, get_or_default}
use Rattle.node_serve.specs.Calls.{IsSetting}
use Rattle.node_serve.specs.Sealing.{Tags}
use Rattle.node_serve.specs.declared.setting.ServeSetting.{ServeSetting}
use Rattle.serve_crew.specs.Hands.{CanWork, SameHands}
use Rattle.work_desk.specs.Rule.{AllDid, AllMay}
use Rattle.serve_batches.specs.Crew.{Worked, AllWorked, HasShares}
use Rattle.serve_batches.specs.Deeds.{Known, MayWork, DidWork, IsTold, AllTold, Serves, HasSetting}
use Rattle.serve_batches.specs.Ring.{share}
use Rattle.serve_batches.specs.Slots.{AnswersAll}
use Rattle.serve_batches.specs.declared.place.Place.{Place}
use Rattle.serve_batches.specs.declared.shift.Shift.{Shift}

all_may : {J : Type 0} (may : J → Type 0) (js : List J) → ((w : ℕ) (d : J) → w < length js → may (get_or js w d)) → AllMay may js
all_may may [] h = tt
all_may may (j ∷ js) h = (h 0 j (omega arith), all_may may js (λ w d lt. h (suc w) d (omega (arith, lt))))

did_at : {J : Type 0} (did : J → J → Type 0) (js ks : List J) → AllDid did js ks → (w : ℕ) (d : J) → w < length js → did (get_or js w d) (get_or ks w d)
did_at did [] [] all w d lt = absurd (omega (arith, lt))
did_at did (j ∷ js) (k ∷ ks) all zero d lt = all.0
did_at did (j ∷ js) (k ∷ ks) all (suc w) d lt = did_at did js ks all.1 w d (omega (arith, lt))
did_at did [] (k ∷ ks) all w d lt = absurd all
did_at did (j ∷ js) [] all w d lt = absurd all

abbrev known_of : Known → Option Known → Known
known_of d None = d
known_of d (Some k) = k

worked_told : (tag_of : Tags) (s : ServeSetting) (given : ℕ) (old mid new : Shift) → IsTold given old mid → Worked tag_of s mid.given mid new → Worked tag_of s given old new
worked_told tag_of s given old mid new t u =
    let a = subst (λ h. AnswersAll tag_of s h new.worker (take mid.given mid.slots.items) (take mid.given new.slots.items)) t.worker u.answers in
    let b = subst (λ l. AnswersAll tag_of s old.worker new.worker (take mid.given l.items) (take mid.given new.slots.items)) t.slots a in
    record {
      same = subst (λ h. SameHands h new.worker) t.worker u.same;
      len = u.len ∙ ap (λ l. length l.items) t.slots;
      answers = subst (λ n. AnswersAll tag_of s old.worker new.worker (take n old.slots.items) (take n new.slots.items)) t.given_is b;
    }

module _ (o : Option Known) (k : Known) (is : o ≡ Some k) (p : Place) (old mid : List Shift) (len : length mid ≡ length old) (told : AllTold p old mid) where
  pub may_all : IsSetting k.setting → All (λ (s : Shift). CanWork k.turns s.worker) old → HasShares p old → AllMay (MayWork o) mid
  may_all set can shares = all_may (MayWork o) mid (λ w d lt. at_one w d (omega (arith, lt, len)))
    where
      at_one : (w : ℕ) (d : Shift) → w < length old → MayWork o (get_or mid w d)
      at_one w d lt =
          let t = told w d lt in (
            k,
            is,
            set,
            subst (λ h. CanWork k.turns h) (sym t.worker) (can w d lt),
            subst (λ l. (get_or mid w d).given ≤ length l.items) (sym t.slots) (subst (λ n. n ≤ length (get_or old w d).slots.items) (sym t.given_is) (shares w d lt)),
          )

  pub worked_all : (new : List Shift) → AllDid (DidWork o) mid new → AllWorked k.tag_of k.setting p old new
  worked_all new all w d lt = worked_told k.tag_of k.setting (share p w) (get_or old w d) (get_or mid w d) (get_or new w d) (told w d lt) (did_at (DidWork o) mid new all w d (omega (arith, lt, len)) k is)

module _ (p : Place) (old : List Shift) where
  -- the first so many are told, and the others are as they were
  pub record ToldFirst (n : ℕ) (now : List Shift) : Type 0 where
    pub rest : (w : ℕ) (d : Shift) → n ≤ w → get_or now w d ≡ get_or old w d
    pub told : (w : ℕ) (d : Shift) → w < n → IsTold (share p w) (get_or old w d) (get_or now w d)

  pub told_none : ToldFirst 0 old
  told_none = record { rest = λ w d h. refl; told = λ w d lt. absurd (omega (arith, lt)) }

  pub told_more : (n : ℕ) (now : List Shift) (d : Shift) (y : Shift) → n < length now → ToldFirst n now → IsTold (share p n) (get_or now n d) y → ToldFirst (n + 1) (set now n y)
  told_more n now d y lt begun is = record {
    rest = λ w e h. get_or-set_other now n w y e (λ q. omega (arith, h, q)) ∙ begun.rest w e (omega (arith, h));
    told = λ w e h. below_more (λ i. IsTold (share p i) (get_or old i e) (get_or (set now n y) i e)) n
        (λ i u. subst (IsTold (share p i) (get_or old i e)) (sym (get_or-set_other now n i y e (λ q. omega (arith, u, q)))) (begun.told i e u))
        (subst (IsTold (share p n) (get_or old n e)) (sym (get_or-set_same now n y e lt)) (subst (λ x. IsTold (share p n) x y) (get_or_default now n d e lt ∙ begun.rest n e (omega (arith))) is))
        w h;
  }

pub setting_known : (o : Option Known) (j : Known) → o ≡ Some j → HasSetting o j.setting
setting_known o j is k is' = ap (λ (x : Known). x.setting) (ap (known_of j) (sym is ∙ is'))

pub serves_known : (o : Option Known) (j : Known) → o ≡ Some j → Serves o j.tag_of j.turns
serves_known o j is k is' =
    let same : j ≡ k = ap (known_of j) (sym is ∙ is') in
    (ap (λ (x : Known). x.tag_of) same, ap (λ (x : Known). x.turns) same)
