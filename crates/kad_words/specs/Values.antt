-- What the value of an option gives, if it is given and if it isn't.
use Rattle.std.specs.Prelude.{◌≡◌, ℕ, List, ◌++◌, codes, Bool, true, false, Option, Some, None}
use Rattle.kad_base.specs.declared.types.ClaimRule.{ClaimRule}
use Rattle.kad_base.specs.declared.types.ClaimRule.TheVariants.{Named, Asked}
use Rattle.kad_base.specs.declared.types.Family.{Family}
use Rattle.kad_base.specs.declared.types.Proof.{Proof}
use Rattle.kad_text.specs.Text.{SpellsFamily, SpellsHex, SpellsNumber, version}
use Rattle.kad_words.specs.declared.choice.Kind.{Kind}
use Rattle.kad_words.specs.declared.choice.Kind.TheVariants.{Claim, IpVersion, Number, YesNo}
use Rattle.kad_words.specs.declared.choice.Need.{Need}
use Rattle.kad_words.specs.declared.choice.Need.TheVariants.{OrElse, OrNamed, OrNo}

-- the value of an option that is required spells this
abbrev pub IsGiven : {T : Type 0} → (List ℕ → T → Type 0) → Option (List ℕ) → T → Type 0
IsGiven Spells None x = ⊥
IsGiven Spells (Some value) x = Spells value x

-- the same of an option that may be left out
abbrev pub MayBeGiven : {T : Type 0} → (List ℕ → T → Type 0) → Option (List ℕ) → Option T → Type 0
MayBeGiven Spells None None = Unit {0}
MayBeGiven Spells None (Some x) = ⊥
MayBeGiven Spells (Some value) None = ⊥
MayBeGiven Spells (Some value) (Some x) = Spells value x

-- the same of an option that has a default
abbrev pub IsGivenOr : {T : Type 0} → T → (List ℕ → T → Type 0) → Option (List ℕ) → T → Type 0
IsGivenOr default Spells None x = x ≡ default
IsGivenOr default Spells (Some value) x = Spells value x

-- the number of an option with a range and a default
abbrev pub NumberBy : Kind → Need → Option (List ℕ) → ℕ → Type 0
NumberBy (Number least most) (OrElse default) value n = IsGivenOr default (SpellsNumber least most) value n
NumberBy _ _ value n = ⊥

-- the same of one with a range alone
abbrev pub MayNumberBy : Kind → Option (List ℕ) → Option ℕ → Type 0
MayNumberBy (Number least most) value n = MayBeGiven (SpellsNumber least most) value n
MayNumberBy _ value n = ⊥

-- the family of an option with a default, which is a version
abbrev pub FamilyBy : Kind → Need → Option (List ℕ) → Family → Type 0
FamilyBy IpVersion (OrElse default) None family = version family ≡ default
FamilyBy IpVersion (OrElse default) (Some value) family = SpellsFamily value family
FamilyBy _ _ value family = ⊥

-- the text is `yes`, or `no`
abbrev pub SpellsYes : List ℕ → Bool → Type 0
SpellsYes text true = text ≡ codes "yes"
SpellsYes text false = text ≡ codes "no"

-- the text is the word of a rule by which a contact is a path's
abbrev pub SpellsClaim : List ℕ → ClaimRule → Type 0
SpellsClaim text Named = text ≡ codes "named"
SpellsClaim text Asked = text ≡ codes "asked"

-- the word is a proof in one: the key in 64 hex digits, a comma, and X in 40
pub record SpellsProofWord (word : List ℕ) (proof : Proof) : Type 0 where
  pub key : List ℕ
  pub x : List ℕ
  pub spelled : word ≡ key ++ codes "," ++ x
  pub spells_key : SpellsHex 32 key proof.key
  pub spells_x : SpellsHex 20 x proof.x

-- the rule of an option that is `named` by default
abbrev pub ClaimBy : Kind → Need → Option (List ℕ) → ClaimRule → Type 0
ClaimBy Claim OrNamed value rule = IsGivenOr Named SpellsClaim value rule
ClaimBy _ _ value rule = ⊥

-- whether an option says yes that is `no` by default
abbrev pub YesBy : Kind → Need → Option (List ℕ) → Bool → Type 0
YesBy YesNo OrNo value said = IsGivenOr false SpellsYes value said
YesBy _ _ value said = ⊥
