-- What `mint` makes: an identifier that solves both puzzles, with its key and X (S/Kademlia, 2007, section 4.1). Its line
-- is this project's own.
use Rattle.std.specs.Prelude.{◌≡◌, ◌⊎◌, ℕ, List, [], ◌∷◌, ◌++◌, codes, Option, Some, None}
use Rattle.hex.specs.Hex.{encode_lower}
use Rattle.kad_base.specs.Puzzles.{hash}
use Rattle.id_puzzles.specs.Minting.{IsFirstKey, IsFirstValue, HasNoKey, HasNoValue}
use Rattle.kad_words.specs.declared.command.MintWords.{MintWords}
use Rattle.command_base.specs.declared.status.Status.{Status}
use Rattle.command_base.specs.declared.status.Status.TheVariants.{NoMemory, Unminted}
use Rattle.command_base.specs.Printed.{line_of}
use Rattle.command_base.specs.Promise.{Promise, unread}

-- the seed of the words, or the random bytes
abbrev pub seed_of : Option (List ℕ) → List ℕ → List ℕ
seed_of (Some seed) random = seed
seed_of None random = random

-- an identifier, its key and X, in lower-case hex
abbrev pub minted_line : List ℕ → List ℕ → List ℕ → List ℕ
minted_line id key x = line_of (encode_lower id ++ codes " " ++ encode_lower key ++ codes " " ++ encode_lower x)

-- the text names the first key of the seed that solves the static puzzle, and the first X that solves the dynamic puzzle
-- of its identifier, each within the tries
pub record MintText (words : MintWords) (random text : List ℕ) : Type 0 where
  pub key : List ℕ
  pub x : List ℕ
  pub first_key : IsFirstKey (seed_of words.seed random) words.c1 words.tries key
  pub first_value : IsFirstValue (hash key) words.c2 words.tries x
  pub text_is : text ≡ minted_line (hash key) key x

-- no key within the tries solves the static puzzle, or no X the dynamic puzzle of the first that does
abbrev pub FindsNothing : MintWords → List ℕ → Type 0
FindsNothing words random = HasNoKey (seed_of words.seed random) words.c1 words.tries ⊎ HasNoValue (seed_of words.seed random) words.c1 words.c2 words.tries

-- why nothing was minted
abbrev pub MintCause : MintWords → List ℕ → Status → Type 0
MintCause words random NoMemory = Unit {0}
MintCause words random Unminted = FindsNothing words random
MintCause words random other = ⊥

abbrev pub mint_promise : MintWords → Promise
mint_promise words = unread (10 ∷ []) (Unit {0}) (λ random text. MintText words random text) (λ random. FindsNothing words random)
