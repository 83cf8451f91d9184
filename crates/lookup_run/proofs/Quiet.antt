-- What entries that settle leave as it was.
use Rattle.std.proofs.Common.{◌≡◌, ◌≢◌, ℕ, ◌+◌, ◌<◌, ◌≤◌, List, [], ◌∷◌, ◌++◌, true, refl, sym, ap, subst, ◌∙◌, arith}
use Rattle.std.specs.List.{All, AllByRecursion, flat_map}
use Rattle.std.proofs.lemmas.Bool.{eqb-true, false≢true}
use Rattle.std.proofs.lemmas.List.Elements.{All-head, All-tail}
use Rattle.claim_book.specs.declared.types.Entry.{Entry}
use Rattle.claim_book.specs.declared.types.Entry.TheVariants.{Note, Taken, Held, Turned, Rejected, Skipped}
use Rattle.claim_book.specs.Journal.{seed_of, settles_on, seeds, unsettled}
use Rattle.lookup_core.proofs.Settling.{IsSilent, no_seed, settles_silent, silent_driven, unsettled_same}
use Rattle.lookup_run.specs.Tells.{driven}
use Rattle.lookup_run.specs.Rounds.{Scheduling, sequential, concurrent, MayFollow, path_number, is_settling, SettlesFrom}

-- an entry that settles something shows nothing else
pub record IsMute (e : Entry) : Type 0 where
  pub no_seed : seed_of e ≡ []
  pub quiet : IsSilent e
  pub settles : is_settling e ≡ true

-- it settles on path p
pub record IsQuiet (p : ℕ) (e : Entry) : Type 0 where
  pub mute : IsMute e
  pub number : path_number e ≡ p
  pub on : settles_on p e ≡ true

number_of : (p : ℕ) (e : Entry) → settles_on p e ≡ true → path_number e ≡ p
number_of p (Note q c) h = eqb-true q p h
number_of p (Taken q c) h = eqb-true q p h
number_of p (Held q c by) h = eqb-true q p h
number_of p (Turned q c) h = eqb-true q p h
number_of p (Rejected q r) h = eqb-true q p h
number_of p (Skipped q r) h = eqb-true q p h
number_of p other h = absurd (false≢true h)

pub quiet_entry : (p : ℕ) (e : Entry) → settles_on p e ≡ true → IsQuiet p e
quiet_entry p e h =
    let number = number_of p e h in
    record { mute = record { no_seed = no_seed p e h; quiet = settles_silent p e h; settles = subst (λ n. settles_on n e ≡ true) (sym number) h }; number = number; on = h }

pub each_quiet : (p : ℕ) (es : List Entry) → All (λ e. settles_on p e ≡ true) es → AllByRecursion (IsQuiet p) es
each_quiet p [] h = tt
each_quiet p (e ∷ es) h = (quiet_entry p e (All-head (λ e. settles_on p e ≡ true) e es h), each_quiet p es (All-tail (λ e. settles_on p e ≡ true) e es h))

-- entries that settle on path p are mute
pub each_mute : (p : ℕ) (es : List Entry) → AllByRecursion (IsQuiet p) es → AllByRecursion IsMute es
each_mute p [] h = tt
each_mute p (e ∷ es) h = (h.0.mute, each_mute p es h.1)

pub no_seeds : (es : List Entry) → AllByRecursion IsMute es → seeds es ≡ []
unfolding seeds
no_seeds [] h = refl
no_seeds (e ∷ es) h = ap (λ l. l ++ flat_map seed_of es) h.0.no_seed ∙ no_seeds es h.1

pub none_driven : (es : List Entry) → AllByRecursion IsMute es → driven es ≡ []
none_driven es h = silent_driven es (each_silent es h)
  where
    each_silent : (es : List Entry) → AllByRecursion IsMute es → AllByRecursion IsSilent es
    each_silent [] h = tt
    each_silent (e ∷ es) h = (h.0.quiet, each_silent es h.1)

each_on : (p : ℕ) (es : List Entry) → AllByRecursion (IsQuiet p) es → AllByRecursion (λ e. settles_on p e ≡ true) es
each_on p [] h = tt
each_on p (e ∷ es) h = (h.0.on, each_on p es h.1)

-- the other paths have as much to settle as before
pub others_same : (p q : ℕ) (J es : List Entry) → q ≢ p → AllByRecursion (IsQuiet p) es → unsettled q (J ++ es) ≡ unsettled q J
others_same p q J es ne h = unsettled_same p q J es ne (each_on p es h)

-- ---- in the scheduling of the rounds

may_follow : (scheduling : Scheduling) (p q : ℕ) → p ≤ q → MayFollow scheduling p q
may_follow sequential p q le = le
may_follow concurrent p q le = tt

-- in ascending path, and so in whatever scheduling
pub settles_from : (scheduling : Scheduling) (n p : ℕ) (front es : List Entry) → n ≤ p → SettlesFrom scheduling n front → AllByRecursion (λ e. path_number e < p) front → AllByRecursion (IsQuiet p) es → SettlesFrom scheduling n (front ++ es)
settles_from scheduling n p [] [] le s b h = tt
settles_from scheduling n p [] (e ∷ es) le s b h =
    (may_follow scheduling n (path_number e) (omega (arith, le, h.0.number)), h.0.mute.settles, settles_from scheduling (path_number e) p [] es (omega (arith, h.0.number)) tt tt h.1)
settles_from scheduling n p (f ∷ front) es le s b h = (s.0, s.1, settles_from scheduling (path_number f) p front es (omega (arith, b.0)) s.2 b.1 h)

-- in any order of paths
pub settles_mixed : (n : ℕ) (front es : List Entry) → SettlesFrom concurrent n front → AllByRecursion IsMute es → SettlesFrom concurrent n (front ++ es)
settles_mixed n [] [] s h = tt
settles_mixed n [] (e ∷ es) s h = (tt, h.0.settles, settles_mixed (path_number e) [] es tt h.1)
settles_mixed n (f ∷ front) es s h = (tt, s.1, settles_mixed (path_number f) front es s.2 h)

pub below_more : (p : ℕ) (front es : List Entry) → AllByRecursion (λ e. path_number e < p) front → AllByRecursion (IsQuiet p) es → AllByRecursion (λ e. path_number e < p + 1) (front ++ es)
below_more p [] [] b h = tt
below_more p [] (e ∷ es) b h = (omega (arith, h.0.number), below_more p [] es tt h.1)
below_more p (f ∷ front) es b h = (omega (arith, b.0), below_more p front es b.1 h)
