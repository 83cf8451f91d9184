-- How long a receive waits, and whether its round goes on.
use Rattle.std.proofs.Common.{◌≡◌, ℕ, zero, suc, ◌+◌, ◌-◌, ◌<◌, ◌≤◌, true, List, [], ◌∷◌, Option, Some, None, refl, sym, subst, arith}
use Rattle.std.specs.Prelude.{Contains, map, nat_lt, slice_get, IfSome, IsNone, ◌↔◌}
use Rattle.std.specs.Option.{option_map}
use Rattle.std.specs.List.{All, AllByRecursion}
use Rattle.std.proofs.lemmas.Bool.Decides.{nat_tests}
use Rattle.std.proofs.lemmas.List.Elements.{recursion_from_All}
use Rattle.kad_base.specs.Limits.{max_round_receives}
use Rattle.query_book.specs.declared.Query.{Query}
use Rattle.lookup_core.specs.Receiving.{IsSoonest}
use Rattle.lookup_core.proofs.Lists.{in_first}

least_map : (d : ℕ) (qs : List Query) → AllByRecursion (λ (q : Query). d ≤ q.deadline) qs → AllByRecursion (λ (n : ℕ). d ≤ n) (map (λ (q : Query). q.deadline) qs)
least_map d [] h = tt
least_map d (q ∷ qs) h = (h.0, least_map d qs h.1)

pub soonest_of : (o : Option ℕ) (qs : List Query) → o ≡ option_map (λ (q : Query). q.deadline) (slice_get qs 0) → IfSome o (λ d. All (λ (q : Query). d ≤ q.deadline) qs) → (IsNone o ↔ (qs ≡ [])) → IsSoonest o qs
soonest_of None qs oldest least none = none.0 refl
soonest_of (Some d) [] oldest least none = absurd cc
soonest_of (Some d) (q ∷ qs) oldest least none =
    let same : d ≡ q.deadline = cc in
    record {
      one = subst (λ n. Contains (map (λ (x : Query). x.deadline) (q ∷ qs)) n) (sym same) (in_first q.deadline (map (λ (x : Query). x.deadline) qs));
      least = least_map d (q ∷ qs) (recursion_from_All (λ (x : Query). d ≤ x.deadline) (q ∷ qs) least);
    }

-- how many receives a round may still have
abbrev pub still_to : ℕ → ℕ
still_to zero = 0
still_to (suc n) = max_round_receives - suc n

pub below_last : (n : ℕ) → nat_lt (n + 1) max_round_receives ≡ true → n + 1 < max_round_receives
below_last n e = grind (arith, nat_tests)
