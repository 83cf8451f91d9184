-- What is known of the words before a command is read: where to bind, and whether there is anything to bind.
use Rattle.std.specs.Prelude.{◌≡◌, List, [], ◌∷◌, ◌⊎◌, Option, Some, None, IsTrue, bytes_eq, codes, cond, replicate}
use Rattle.kad_base.specs.declared.types.Addr.{Addr}
use Rattle.kad_base.specs.declared.types.Ip.TheVariants.{V4, V6}
use Rattle.kad_base.specs.declared.types.Family.{Family}
use Rattle.kad_base.specs.declared.types.Family.TheVariants.{Four, Six}
use Rattle.kad_text.specs.Text.{SpellsAddr}
use Rattle.kad_words.specs.Table.{Choice, Word, bind_option, family_option, kind_word, links, option_word}
use Rattle.kad_words.specs.declared.command.CommandKind.{CommandKind}
use Rattle.kad_words.specs.Plain.{pairs_of, value_of}

-- the address by which the system chooses, in the network of a family: zeros, with port 0
abbrev pub any_address : Family → Addr
any_address Four = record { ip = V4 (replicate 4 0); port = 0 }
any_address Six = record { ip = V6 (replicate 16 0); port = 0 }

-- the value of the first such option among the words two by two after the first, whatever else these are
abbrev pub first_given : Choice → List Word → Option Word
first_given c [] = None
first_given c (command ∷ rest) = value_of (option_word c.entry.name) (pairs_of rest)

-- that of `--bind`
abbrev pub bound_by : List Word → Option Word
bound_by words = first_given bind_option words

-- the family that a value of `--family` names: that of IPv6 if it is 6, and else that of IPv4
abbrev pub family_named : Option Word → Family
family_named None = Four
family_named (Some text) = cond (bytes_eq text (codes "6")) Six Four

-- that of the first `--family`
abbrev pub family_by : List Word → Family
family_by words = family_named (first_given family_option words)

-- the value spells this address; or there is no value, or one that spells none, and this is the default of the family
abbrev pub IsBind : Family → Option Word → Addr → Type 0
IsBind family None addr = addr ≡ any_address family
IsBind family (Some text) addr = SpellsAddr text addr ⊎ (((a : Addr) → SpellsAddr text a → ⊥) × (addr ≡ any_address family))

-- the word of a command that asks over a link
pub record IsOverLink (command : Word) : Type 0 where
  pub kind : CommandKind
  pub is : command ≡ kind_word kind
  pub over_link : IsTrue (links kind)

-- the first word is one
abbrev pub TakesLink : List Word → Type 0
TakesLink [] = ⊥
TakesLink (command ∷ rest) = IsOverLink command
