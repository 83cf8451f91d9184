-- Where a text is cut.
use Rattle.std.specs.Prelude.{◌≡◌, ◌≢◌, ℕ, List, ◌∷◌, ◌++◌}
use Rattle.std.specs.List.{All}

-- the text has no such byte
abbrev pub Lacks : ℕ → List ℕ → Type 0
Lacks byte text = All (λ b. b ≢ byte) text

-- where a text is first cut
pub record IsCut (byte : ℕ) (text front back : List ℕ) : Type 0 where
  pub lacks : Lacks byte front
  pub split : text ≡ front ++ byte ∷ back
