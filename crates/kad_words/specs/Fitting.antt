-- Values that fit their options: those that are needed are there, and those that are there are of their kind.
use Rattle.std.specs.Prelude.{◌≡◌, Bool, true, false, ◌&&◌, ℕ, List, ◌∷◌, drop, Option, Some, IfSome, bytes_eq, find, nat_lt}
use Rattle.kad_words.specs.Table.{Entry, Word, options_of, Values, kind_word}
use Rattle.kad_words.specs.Table.{alpha_option, bits_option, c1_option, c2_option, claim_option, k_option, own_option, paths_option, timeout_option}
use Rattle.kad_words.specs.Plain.{AreThere, InPairs, IsOfKind, IsThere, pairs_of}
use Rattle.kad_words.specs.declared.command.CommandKind.{CommandKind}
use Rattle.kad_words.specs.declared.choice.Kind.{Kind}
use Rattle.kad_words.specs.declared.choice.Kind.TheVariants.{Number}
use Rattle.kad_words.specs.declared.choice.Need.{Need}
use Rattle.kad_words.specs.declared.choice.Need.TheVariants.{OrElse}

-- the value of one option
abbrev pub Fits : Entry → Option Word → Type 0
Fits e value = IsThere e.need value × IfSome value (IsOfKind e.kind)

-- the values of these options
abbrev pub AllFit : List Entry → Values → Type 0
AllFit entries value = (name : Word) (e : Entry) → find (λ (x : Entry). bytes_eq x.name name) entries ≡ Some e → Fits e (value name)

-- the values of the options of a lookup, apart from what names its target and its family
pub record LookFits (value : Values) : Type 0 where
  pub own : Fits own_option.entry (value own_option.entry.name)
  pub k : Fits k_option.entry (value k_option.entry.name)
  pub paths : Fits paths_option.entry (value paths_option.entry.name)
  pub alpha : Fits alpha_option.entry (value alpha_option.entry.name)
  pub timeout : Fits timeout_option.entry (value timeout_option.entry.name)
  pub bits : Fits bits_option.entry (value bits_option.entry.name)
  pub c1 : Fits c1_option.entry (value c1_option.entry.name)
  pub c2 : Fits c2_option.entry (value c2_option.entry.name)
  pub claim : Fits claim_option.entry (value claim_option.entry.name)

-- the words are of the plain form, for the command of this kind
pub record IsPlainBy (kind : CommandKind) (words : List Word) : Type 0 where
  pub begins : words ≡ kind_word kind ∷ drop 1 words
  pub plain : InPairs (options_of (kind_word kind)) (drop 1 words) (pairs_of (drop 1 words))
  pub there : AreThere (options_of (kind_word kind)) (pairs_of (drop 1 words))

-- a number with a default
abbrev pub has_default : Kind → Need → Bool
has_default (Number least most) (OrElse default) = true
has_default _ _ = false

-- one whose range and default are below a bound
abbrev pub is_below : ℕ → Kind → Need → Bool
is_below bound (Number least most) (OrElse default) = nat_lt most bound && nat_lt default bound
is_below bound _ _ = false

-- a number without a default, whose range is below a bound
abbrev pub ends_below : ℕ → Kind → Bool
ends_below bound (Number least most) = nat_lt most bound
ends_below bound _ = false
