-- What is known of a group's key before a command is read.
use Rattle.std.specs.Prelude.{ℕ, List, [], ◌∷◌, Contains, IsNone}
use Rattle.kad_text.specs.Text.{SpellsHex}
use Rattle.kad_words.specs.Table.{Word, group_option}
use Rattle.kad_words.specs.Values.{IsGiven}
use Rattle.kad_words.specs.Bound.{first_given}

-- the value of the first option `--group` spells this key
abbrev pub IsGroup : List Word → List ℕ → Type 0
IsGroup words key = IsGiven (SpellsHex 32) (first_given group_option words) key

-- the word of a command that has the option
abbrev pub HasGroup : Word → Type 0
HasGroup command = Contains group_option.commands command

-- the first word is one, and no pair names the option
abbrev pub LacksGroup : List Word → Type 0
LacksGroup [] = ⊥
LacksGroup (command ∷ rest) = HasGroup command × IsNone (first_given group_option (command ∷ rest))
