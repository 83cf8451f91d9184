-- Runs of a serial object go on, and join.
use Rattle.std.proofs.Common.{◌≡◌, ℕ, List, [], ◌∷◌, ◌++◌, refl}
use Rattle.kad_base.specs.declared.serial.Made.{Made}
use Rattle.kad_base.specs.Serial.{left_by, IsRun}

module _ {S C R : Type 0} (after : S → ℕ → C → R → S) where
  pub left_by-append : (s : S) (xs ys : List (Made C R)) → left_by after s (xs ++ ys) ≡ left_by after (left_by after s xs) ys
  left_by-append s [] ys = refl
  left_by-append s (x ∷ xs) ys = left_by-append (after s x.role x.call x.reply) xs ys

module _ {S C R : Type 0} (may : ℕ → C → Type 0) (step : S → ℕ → C → R → Type 0) (after : S → ℕ → C → R → S) where
  pub IsRun-push : (s : S) (xs : List (Made C R)) (e : Made C R) → IsRun may step after s xs → may e.role e.call → step (left_by after s xs) e.role e.call e.reply → IsRun may step after s (xs ++ e ∷ [])
  IsRun-push s [] e r m t = (m, t, tt)
  IsRun-push s (x ∷ xs) e r m t = (r.0, r.1, IsRun-push (after s x.role x.call x.reply) xs e r.2 m t)
