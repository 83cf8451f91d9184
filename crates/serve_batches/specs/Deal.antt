-- Which worker answers which datagram of a batch: they are dealt in turn, as cards are.
use Rattle.std.specs.Prelude.{ℕ, ◌+◌, ◌%◌, ◌==◌, cond, List, [], ◌∷◌}

-- of items from place j on, those at the places k with k mod n = w, in order
abbrev pub dealt_from : {A : Type 0} → ℕ → ℕ → ℕ → List A → List A
dealt_from n w j [] = []
dealt_from n w j (x ∷ xs) = cond (j % n == w) (x ∷ dealt_from n w (j + 1) xs) (dealt_from n w (j + 1) xs)

abbrev pub dealt : {A : Type 0} → ℕ → ℕ → List A → List A
dealt n w xs = dealt_from n w 0 xs
