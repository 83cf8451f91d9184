-- Whom all lookups lost to refused sends, from where they begin to what they found.
use Rattle.std.proofs.Common.{◌≡◌, ℕ, ◌+◌, List, [], ◌∷◌, length, refl, sym, ap, subst, ◌∙◌, arith}
use Rattle.std.specs.Prelude.{map}
use Rattle.std.specs.List.{AllZip}
use Rattle.look_many.specs.declared.job.Job.{Job}
use Rattle.contact_table.specs.TableState.{TableState}
use Rattle.lookup_core.specs.SendFaults.{unsent, IsCounted}
use Rattle.lookup_core.proofs.Refusing.{unsent_seeded}
use Rattle.node_serve.specs.declared.setting.ServeSetting.{ServeSetting}
use Rattle.lookup_crowd.specs.declared.seeker.Seeker.{Seeker}
use Rattle.lookup_crowd.specs.Mine.{Whose}
use Rattle.lookup_crowd.specs.inner.Crowd.{whose, lost_of, LosesMore}
use Rattle.look_many.specs.declared.found.ManySetting.{ManySetting}
use Rattle.look_many.specs.declared.found.One.{One}
use Rattle.look_many.specs.ManyLooked.{journals_of, seeds_for, unsent_in_all, CountsUnsent}
use Rattle.look_many.specs.inner.Seats.{IsDone, IsSeekerFor}

-- by their journals alone
abbrev lost_by : List Whose → ℕ
lost_by [] = 0
lost_by (w ∷ ws) = length (unsent w.journal) + lost_by ws

lost_is : (ks : List Seeker) → lost_of ks ≡ lost_by (map whose ks)
lost_is [] = refl
lost_is (k ∷ ks) = (let rest = lost_is ks in omega (arith, rest))

pub lost_still : (olds news : List Seeker) → map whose news ≡ map whose olds → lost_of news ≡ lost_of olds
lost_still olds news same = lost_is news ∙ ap lost_by same ∙ sym (lost_is olds)

-- ---- from where they begin to what they found

fresh_lost : (server : ServeSetting) (setting : ManySetting) (table : TableState) (jobs : List Job) (ks : List Seeker) → AllZip (IsSeekerFor server setting table) jobs ks → lost_of ks ≡ 0
fresh_lost server setting table [] [] h = refl
fresh_lost server setting table [] (k ∷ ks) h = absurd h
fresh_lost server setting table (t ∷ ts) [] h = absurd h
fresh_lost server setting table (t ∷ ts) (k ∷ ks) h =
    let one = ap (λ J. length (unsent J)) h.0.book.journal ∙ ap length (unsent_seeded setting.per_address setting.paths (seeds_for server table t)) in
    let rest = fresh_lost server setting table ts ks h.1 in
    omega (arith, one, rest)

found_lost : (ks : List Seeker) (ones : List One) → AllZip (λ k one. IsDone k.lookup.book one) ks ones → unsent_in_all (journals_of ones) ≡ lost_of ks
found_lost [] [] h = refl
found_lost [] (o ∷ ones) h = absurd h
found_lost (k ∷ ks) [] h = absurd h
found_lost (k ∷ ks) (o ∷ ones) h =
    let one = ap (λ J. length (unsent J)) h.0.journal in
    let rest = found_lost ks ones h.1 in
    omega (arith, one, rest)

pub counts_unsent : (server : ServeSetting) (setting : ManySetting) (table : TableState) (jobs : List Job) (olds news : List Seeker) (ones : List One) (a b c : ℕ) → AllZip (IsSeekerFor server setting table) jobs olds → b ≡ a → LosesMore olds news b c → AllZip (λ k one. IsDone k.lookup.book one) news ones → CountsUnsent (journals_of ones) a c
counts_unsent server setting table jobs olds news ones a b c begins same loses done =
    let none = fresh_lost server setting table jobs olds begins in
    let more = loses.more in
    let found = found_lost news ones done in
    let number : loses.number ≡ unsent_in_all (journals_of ones) = omega (arith, none, more, found) in
    record {
      counted = subst (λ n. IsCounted n a c) number (subst (λ x. IsCounted loses.number x c) same loses.counted);
      no_less = (let le = loses.no_less in omega (arith, same, le));
    }
