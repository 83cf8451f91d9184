-- How a saved text is read back: what each line and its parts spell, and which line is bad.
use Rattle.std.specs.Prelude.{◌≡◌, ℕ, ◌+◌, List, [], ◌∷◌, ◌++◌, length, flat_map, codes}
use Rattle.std.specs.List.{All}
use Rattle.std.specs.Str.{byte}
use Rattle.hex.specs.Hex.{encode_lower, IsBytes}
use Rattle.kad_base.specs.declared.types.Addr.{Addr}
use Rattle.kad_base.specs.declared.types.Contact.{Contact}
use Rattle.kad_text.specs.Text.{FitsAddr, FitsContact, addr_text, contact_text}
use Rattle.kad_text.specs.Cut.{Lacks}
use Rattle.contact_table.specs.declared.saved.Saved.{Saved}
use Rattle.table_file.specs.declared.line.Line.{Line}
use Rattle.table_file.specs.SavedText.{FitsLine, IsSavedText, text_of}

-- ---- which line is bad

-- texts of lines, each with its line feed
abbrev pub fed : List (List ℕ) → List ℕ
fed lines = flat_map (λ line. line ++ codes "\n") lines

-- some saved text begins with these lines
abbrev pub IsBegun : List (List ℕ) → Type 0
IsBegun lines = (saved : Saved) × (rest : List ℕ) × IsSavedText (fed lines ++ rest) saved

-- the line of this number, counted from 1, is the bad one: some saved text begins with the lines before it, but none with
-- it too. Where nothing but the front of a line is left, with no line feed, that is the line of this number
pub record IsBadLine (bytes : List ℕ) (number : ℕ) : Type 0 where
  pub before : List (List ℕ)
  pub rest : List ℕ
  pub split : bytes ≡ fed before ++ rest
  pub lines : All (Lacks (byte "\n")) before
  pub place : number ≡ length before + 1
  pub begun : IsBegun before
  pub bad : (line more : List ℕ) → Lacks (byte "\n") line → rest ≡ line ++ byte "\n" ∷ more → ¬ IsBegun (before ++ line ∷ [])
  pub unread : (saved : Saved) → ¬ IsSavedText bytes saved

-- ---- what a text spells

-- the text is these bytes in lower-case hex
pub record SpellsLower (size : ℕ) (text bytes : List ℕ) : Type 0 where
  pub long : length bytes ≡ size
  pub fit : IsBytes bytes
  pub digits : text ≡ encode_lower bytes

pub record SpellsAddr (text : List ℕ) (addr : Addr) : Type 0 where
  pub fits : FitsAddr addr
  pub printed : text ≡ addr_text addr

pub record SpellsContact (text : List ℕ) (contact : Contact) : Type 0 where
  pub fits : FitsContact contact
  pub printed : text ≡ contact_text contact

-- the text is this line
pub record Spells (text : List ℕ) (l : Line) : Type 0 where
  pub fits : FitsLine l
  pub printed : text ≡ text_of l
