-- The lines of an input, and the contacts that they name: Kademlia's triples of identifier, address and port (2002,
-- section 2.1), and the public key and X of S/Kademlia's crypto puzzles (2007, section 4.1).
use Rattle.std.specs.Prelude.{◌≡◌, ℕ, ◌+◌, List, [], ◌∷◌, ◌++◌, length, codes, flat_map, Option, Some, None, option_to_list, ◌==◌}
use Rattle.std.specs.List.{AllZip, slice_split}
use Rattle.std.specs.Str.{byte}
use Rattle.std.specs.Str.Lines.{strip_carriage_return}
use Rattle.kad_base.specs.declared.types.Proof.{Proof}
use Rattle.kad_base.specs.declared.types.Report.{Report}
use Rattle.kad_text.specs.Text.{SpellsHex, SpellsId, SpellsAddr}

-- the parts between the line feeds of an input. After the last line feed stands a last part, which may be empty
abbrev pub lines : List ℕ → List (List ℕ)
lines bytes = slice_split (λ b. b == byte "\n") bytes

-- an empty line, or a comment: it begins with '#'
abbrev pub IsPassedOver : List ℕ → Type 0
IsPassedOver [] = Unit {0}
IsPassedOver (c ∷ rest) = c ≡ byte "#"

-- the key in 64 hex digits, a space, and X in 40
pub record SpellsProof (text : List ℕ) (proof : Proof) : Type 0 where
  pub key : List ℕ
  pub x : List ℕ
  pub spelled : text ≡ key ++ codes " " ++ x
  pub spells_key : SpellsHex 32 key proof.key
  pub spells_x : SpellsHex 20 x proof.x

-- nothing, or a space and a proof
abbrev pub EndsWithProof : List ℕ → Option Proof → Type 0
EndsWithProof rest None = rest ≡ []
EndsWithProof rest (Some proof) = (text : List ℕ) × (rest ≡ codes " " ++ text) × SpellsProof text proof

-- the identifier, a space and the address; and then, if there is a proof, a space and the proof
pub record IsContactLine (line : List ℕ) (report : Report) : Type 0 where
  pub id : List ℕ
  pub address : List ℕ
  pub rest : List ℕ
  pub spelled : line ≡ id ++ codes " " ++ address ++ rest
  pub spells_id : SpellsId id report.contact.id
  pub spells_addr : SpellsAddr address report.contact.addr
  pub ends : EndsWithProof rest report.proof

-- what a good line tells: nothing if it is skipped, or the report of a contact line. A carriage return at its end
-- isn't looked at
abbrev pub Tells : List ℕ → Option Report → Type 0
Tells line None = IsPassedOver (strip_carriage_return line)
Tells line (Some report) = IsContactLine (strip_carriage_return line) report

-- neither passed over nor a contact line
abbrev pub IsBad : List ℕ → Type 0
IsBad line = (told : Option Report) → ¬ Tells line told

-- each line is good, and these are the reports of the contact lines, in order
pub record Reporting (input : List (List ℕ)) (reports : List Report) : Type 0 where
  pub told : List (Option Report)
  pub each : AllZip Tells input told
  pub kept : reports ≡ flat_map option_to_list told

-- the line of this number, counted from 1, is bad, and each before it is good
pub record IsFirstBad (input : List (List ℕ)) (number : ℕ) : Type 0 where
  pub before : List (List ℕ)
  pub line : List ℕ
  pub after : List (List ℕ)
  pub split : input ≡ before ++ line ∷ after
  pub place : number ≡ length before + 1
  pub good : (reports : List Report) × Reporting before reports
  pub bad : IsBad line
