-- The calls that a query makes of whoever holds a node's table, its peers and its items, one after another.
use Rattle.std.specs.Prelude.{◌≡◌, List, [], ◌∷◌}
use Rattle.node_serve.specs.Calls.{Did}

-- the calls were made, in order, where this is what each makes of the holder
abbrev pub Runs : {S : Type 0} → (S → Did → S → Type 0) → S → List Did → S → Type 0
Runs does s [] t = t ≡ s
Runs {S} does s (d ∷ ds) t = (u : S) × does s d u × Runs does u ds t
