-- How the groups of an IPv6 address are read, from a text in lower case.
use Rattle.std.specs.Prelude.{◌≡◌, ◌⊎◌, ℕ, List, ◌∷◌, ◌++◌, length, codes}
use Rattle.std.specs.Str.{byte}
use Rattle.hex.specs.Hex.{encode_lower, IsBytes}
use Rattle.kad_text.specs.Text.{groups_after}

-- what stands in front of a group: a bracket in front of the first, and a colon in front of each other
abbrev pub IsMark : ℕ → Type 0
IsMark c = (c ≡ byte "[") ⊎ (c ≡ byte ":")

-- a group, its two bytes, and what stands in front of it; and then a rest
pub record SpellsGroup (lead : ℕ) (text bytes rest : List ℕ) : Type 0 where
  pub long : length bytes ≡ 2
  pub fit : IsBytes bytes
  pub digits : text ≡ lead ∷ (encode_lower bytes ++ rest)

-- the eight groups of an address, and then a rest
pub record SpellsGroups (text bytes rest : List ℕ) : Type 0 where
  pub long : length bytes ≡ 16
  pub fit : IsBytes bytes
  pub digits : text ≡ groups_after (codes "[") bytes ++ rest
