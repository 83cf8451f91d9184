-- Runs of a serial object: the calls that were made, in order, each with its role and its reply.
use Rattle.std.specs.Prelude.{ℕ, ◌==◌, List, [], ◌∷◌, filter}
use Rattle.kad_base.specs.declared.serial.Made.{Made}

abbrev pub made : {C R : Type 0} → ℕ → C → R → Made C R
made role call reply = record { role = role; call = call; reply = reply }

-- the calls of one role
abbrev pub calls_of : {C R : Type 0} → ℕ → List (Made C R) → List (Made C R)
calls_of role run = filter (λ e. e.role == role) run

module _ {S C R : Type 0} (after : S → ℕ → C → R → S) where
  -- the state that a run leaves
  abbrev pub left_by : S → List (Made C R) → S
  left_by s [] = s
  left_by s (e ∷ run) = left_by (after s e.role e.call e.reply) run

module _ {S C R : Type 0} (may : ℕ → C → Type 0) (step : S → ℕ → C → R → Type 0) (after : S → ℕ → C → R → S) where
  -- each call is one that its role may make, and a step from the state that those before it leave
  abbrev pub IsRun : S → List (Made C R) → Type 0
  IsRun s [] = Unit {0}
  IsRun s (e ∷ run) = may e.role e.call × step s e.role e.call e.reply × IsRun (after s e.role e.call e.reply) run
