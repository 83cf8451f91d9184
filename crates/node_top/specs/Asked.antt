-- Which words ask for something: those of the plain form, which is this project's own.
use Rattle.std.specs.Prelude.{List, map, string_bytes}
use Rattle.std.specs.declared.string.String.{String}
use Rattle.kad_words.specs.Table.{Word}
use Rattle.kad_words.specs.Plain.{IsPlain}
use Rattle.kad_words.specs.Bound.{TakesLink}

-- the words of a command line
abbrev pub bytes_of : {Z : Type 0} → List (String Z) → List Word
bytes_of words = map (λ w. string_bytes w) words

-- the words are of the plain form
abbrev pub Asks : List Word → Type 0
Asks words = IsPlain words

-- the words ask for a plain command, which is one that takes no link
pub record AsksPlain (words : List Word) : Type 0 where
  pub asks : Asks words
  pub no_link : ¬ TakesLink words
