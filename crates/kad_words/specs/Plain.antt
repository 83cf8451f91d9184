-- The plain form of a command line, which is this project's own: a command, and then pairs of an option and its value.
use Rattle.std.specs.Prelude.{◌≡◌, ◌≢◌, ℕ, List, [], ◌∷◌, Bool, map, flat_map, bytes_eq, find, option_map, Option, All, IsSome}
use Rattle.std.specs.List.{IsDistinct}
use Rattle.std.specs.Option.{IsSomeAnd}
use Rattle.kad_base.specs.declared.types.Id.{Id}
use Rattle.kad_base.specs.declared.types.Addr.{Addr}
use Rattle.kad_base.specs.declared.types.Proof.{Proof}
use Rattle.kad_base.specs.declared.types.ClaimRule.{ClaimRule}
use Rattle.kad_base.specs.declared.types.Family.{Family}
use Rattle.kad_text.specs.Text.{SpellsAddr, SpellsBytes, SpellsFamily, SpellsHex, SpellsId, SpellsNumber}
use Rattle.kad_words.specs.Table.{Entry, Says, Values, Word, kind_named, kind_word, option_word, options_of, word_of}
use Rattle.kad_words.specs.Values.{SpellsClaim, SpellsProofWord, SpellsYes}
use Rattle.kad_words.specs.declared.choice.Kind.{Kind}
use Rattle.kad_words.specs.declared.choice.Kind.TheVariants.{Identifier, Bytes32, AnyBytes, Number, IpVersion, Address, YesNo, Claim, KeyAndX}
use Rattle.kad_words.specs.declared.choice.Need.{Need}
use Rattle.kad_words.specs.declared.choice.Need.TheVariants.{Required, Optional, OrElse, OrNo, OrNamed}
use Rattle.kad_words.specs.declared.command.Command.{Command}
use Rattle.kad_words.specs.declared.command.CommandKind.{CommandKind}

-- pairs of an option and its value, as words one after the other
abbrev pub words_of : List (Word × Word) → List Word
words_of pairs = flat_map (λ (p : Word × Word). p.0 ∷ p.1 ∷ []) pairs

-- the words two by two
abbrev pub pairs_of : List Word → List (Word × Word)
pairs_of [] = []
pairs_of (word ∷ []) = []
pairs_of (option ∷ value ∷ rest) = (option, value) ∷ pairs_of rest

-- the value of an option, by its word
abbrev pub value_of : Word → List (Word × Word) → Option Word
value_of option pairs = option_map (λ (p : Word × Word). p.1) (find (λ (p : Word × Word). bytes_eq p.0 option) pairs)

-- a value isn't empty, and doesn't begin with a dash (45)
abbrev pub IsValue : Word → Type 0
IsValue [] = ⊥
IsValue (c ∷ rest) = c ≢ 45

-- the text spells some value of the kind
abbrev pub IsOfKind : Kind → Word → Type 0
IsOfKind Identifier text = (id : Id) × SpellsId text id
IsOfKind Bytes32 text = (bytes : List ℕ) × SpellsHex 32 text bytes
IsOfKind AnyBytes text = (bytes : List ℕ) × SpellsBytes text bytes
IsOfKind (Number least most) text = (n : ℕ) × SpellsNumber least most text n
IsOfKind IpVersion text = (family : Family) × SpellsFamily text family
IsOfKind Address text = (addr : Addr) × SpellsAddr text addr
IsOfKind YesNo text = (said : Bool) × SpellsYes text said
IsOfKind Claim text = (rule : ClaimRule) × SpellsClaim text rule
IsOfKind KeyAndX text = (proof : Proof) × SpellsProofWord text proof

-- the option is one of these, and the value is one of its kind
abbrev pub Belongs : List Entry → Word × Word → Type 0
Belongs entries p = IsSomeAnd (kind_named entries p.0) (λ kind. IsValue p.1 × IsOfKind kind p.1)

-- the words are these pairs, each belongs to the options, and none is there twice
pub record InPairs (entries : List Entry) (words : List Word) (pairs : List (Word × Word)) : Type 0 where
  pub joined : words ≡ words_of pairs
  pub belong : All (Belongs entries) pairs
  pub once : IsDistinct bytes_eq (map (λ (p : Word × Word). p.0) pairs)

-- an option that is required has a value
abbrev pub IsThere : Need → Option Word → Type 0
IsThere Required value = IsSome value
IsThere Optional value = Unit {0}
IsThere (OrElse default) value = Unit {0}
IsThere OrNo value = Unit {0}
IsThere OrNamed value = Unit {0}

-- each option that is required has a value
abbrev pub AreThere : List Entry → List (Word × Word) → Type 0
AreThere entries pairs = All (λ (e : Entry). IsThere e.need (value_of (option_word e.name) pairs)) entries

-- the words are of the plain form: the word of a command, and pairs of its options, those that are required among them
pub record IsPlain (words : List Word) : Type 0 where
  pub kind : CommandKind
  pub rest : List Word
  pub pairs : List (Word × Word)
  pub begins : words ≡ kind_word kind ∷ rest
  pub plain : InPairs (options_of (kind_word kind)) rest pairs
  pub there : AreThere (options_of (kind_word kind)) pairs

-- ---- what such words ask for

-- the values that pairs give
abbrev pub values_of : List (Word × Word) → Values
values_of pairs name = value_of (option_word name) pairs

-- the words are of the plain form, and ask for this command
pub record CommandOf (words : List Word) (command : Command) : Type 0 where
  pub rest : List Word
  pub pairs : List (Word × Word)
  pub begins : words ≡ word_of command ∷ rest
  pub plain : InPairs (options_of (word_of command)) rest pairs
  pub there : AreThere (options_of (word_of command)) pairs
  pub says : Says (values_of pairs) command
