-- A call that failed, and nothing after it.
use Rattle.std.proofs.Common.{◌≡◌, ℕ, List, [], ◌++◌, Option, Some, None, refl, sym, ap, ◌∙◌}
use Rattle.std.specs.Prelude.{IfSome}
use Rattle.std.proofs.lemmas.List.{append-nil}
use Rattle.kad_base.specs.Outside.{Grows, Rose}
use Rattle.kad_base.specs.Failing.{FailsLast}

-- nothing was added
pub none_added : {A : Type 0} (old new : Option (List A)) → Grows old new (λ t. t ≡ []) → IfSome new (λ held. old ≡ Some held)
none_added old None g = tt
none_added old (Some held) g = g.was ∙ ap Some (sym (g.sum_is ∙ ap (λ l. g.before ++ l) g.holds ∙ append-nil g.before))

-- the one call that was made failed
pub fails_here : {X A : Type 0} (told : X → Option (List A)) (faults : X → ℕ) (old new : X) → Rose (faults old) (faults new) → Grows (told old) (told new) (λ t. t ≡ []) → FailsLast told faults old new
fails_here told faults old new failed grows = record { at = old; well = refl; failed = failed; nothing_more = none_added (told old) (told new) grows }

-- none of those before failed
pub fails_later : {X A : Type 0} (told : X → Option (List A)) (faults : X → ℕ) (old mid new : X) → faults mid ≡ faults old → FailsLast told faults mid new → FailsLast told faults old new
fails_later told faults old mid new well h = record { at = h.at; well = h.well ∙ well; failed = h.failed; nothing_more = h.nothing_more }
