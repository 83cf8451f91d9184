-- Whom all lookups lose to refused sends, and what their link counts of it.
use Rattle.std.proofs.Common.{◌≡◌, ℕ, zero, suc, ◌+◌, ◌<◌, ◌≤◌, List, [], ◌∷◌, length, get_or, set, inl, refl, ap, ◌∙◌, arith}
use Rattle.std.specs.List.{AllZip}
use Rattle.lookup_core.specs.SendFaults.{unsent, Refuses}
use Rattle.lookup_core.proofs.Refusing.{both_counted, unsent_quiet}
use Rattle.lookup_crowd.specs.declared.seeker.Seeker.{Seeker}
use Rattle.lookup_crowd.specs.inner.Crowd.{OnlyHeard, lost_of, LosesMore}
use Rattle.lookup_crowd.specs.inner.ManySteps.{SettlesSome}

-- nobody was lost so, whatever else the link refused
pub loses_none : (olds news : List Seeker) (a b : ℕ) → lost_of news ≡ lost_of olds → a ≤ b → LosesMore olds news a b
loses_none olds news a b same le = record { number = 0; more = omega (arith, same); counted = inl (omega (arith, le)); no_less = le }

pub loses_then : (olds mids news : List Seeker) (a b c : ℕ) → LosesMore olds mids a b → LosesMore mids news b c → LosesMore olds news a c
loses_then olds mids news a b c h k = record {
  number = h.number + k.number;
  more = (let x = h.more in let y = k.more in omega (arith, x, y));
  counted = both_counted h.number k.number a b c k.no_less h.counted k.counted;
  no_less = (let x = h.no_less in let y = k.no_less in omega (arith, x, y));
}

-- one of them alone asked
lost_set : (ks : List Seeker) (i : ℕ) (d new : Seeker) (n : ℕ) → i < length ks → length (unsent new.lookup.book.journal) ≡ length (unsent (get_or ks i d).lookup.book.journal) + n → lost_of (set ks i new) ≡ lost_of ks + n
lost_set [] i d new n lt more = absurd (omega (arith, lt))
lost_set (k ∷ ks) zero d new n lt more = omega (arith, more)
lost_set (k ∷ ks) (suc i) d new n lt more = (let rest = lost_set ks i d new n (omega (arith, lt)) more in omega (arith, rest))

pub loses_one : (ks : List Seeker) (i : ℕ) (d new : Seeker) (a b : ℕ) → i < length ks → Refuses (get_or ks i d).lookup.book.journal new.lookup.book.journal a b → LosesMore ks (set ks i new) a b
loses_one ks i d new a b lt h = record { number = h.number; more = lost_set ks i d new h.number lt h.more; counted = h.refused.counted; no_less = h.refused.no_less }

-- ---- nobody is lost so

pub lost_heard : (olds news : List Seeker) → AllZip OnlyHeard olds news → lost_of news ≡ lost_of olds
lost_heard [] [] h = refl
lost_heard [] (n ∷ news) h = absurd h
lost_heard (o ∷ olds) [] h = absurd h
lost_heard (o ∷ olds) (n ∷ news) h =
    let one = ap length h.0.same_unsent in
    let rest = lost_heard olds news h.1 in
    omega (arith, one, rest)

pub lost_settled : (olds news : List Seeker) → AllZip SettlesSome olds news → lost_of news ≡ lost_of olds
lost_settled [] [] h = refl
lost_settled [] (n ∷ news) h = absurd h
lost_settled (o ∷ olds) [] h = absurd h
lost_settled (o ∷ olds) (n ∷ news) h =
    let one = ap (λ J. length (unsent J)) h.0.journal ∙ ap length (unsent_quiet o.lookup.book.journal h.0.more h.0.none_driven) in
    let rest = lost_settled olds news h.1 in
    omega (arith, one, rest)
