-- How a saved table is spelled: one line for each thing that it holds, so that a person can read it. The format is this
-- project's own.
use Rattle.std.specs.Prelude.{◌≡◌, ℕ, ◌<◌, ◌≤◌, Bool, true, false, List, [], ◌∷◌, ◌++◌, length, map, flat_map, codes, decimal}
use Rattle.std.specs.List.{All}
use Rattle.hex.specs.Hex.{encode_lower}
use Rattle.kad_text.specs.Text.{FitsContact, FitsId, contact_text}
use Rattle.bucket_tree.specs.declared.rows.Row.{Row}
use Rattle.contact_table.specs.declared.saved.Saved.{Saved}
use Rattle.table_file.specs.declared.line.Line.{Line}
use Rattle.table_file.specs.declared.line.Line.TheVariants as line

-- ---- the lines of a table, in order

-- a row: its prefix, its live contacts, the least recently seen first, and its spares, the newest last
abbrev pub row_lines : Row → List Line
row_lines row = line.Row row.prefix ∷ (map line.Live row.live ++ map line.Spare row.spare)

-- the table's setting, its rows, its siblings, and the end
abbrev pub lines_of : Saved → List Line
lines_of saved = line.Table saved.own saved.k saved.b ∷ (flat_map row_lines saved.rows ++ (map line.Sibling saved.siblings ++ line.End ∷ []))

-- ---- the text of a line

abbrev pub bit_text : Bool → ℕ
bit_text true = 49
bit_text false = 48

-- the bits of a prefix, the highest first; that of every identifier is a dash
abbrev pub prefix_text : List Bool → List ℕ
prefix_text [] = codes "-"
prefix_text (bit ∷ bits) = map bit_text (bit ∷ bits)

unfoldable pub text_of : Line → List ℕ
text_of (line.Table own k b) = codes "table " ++ (encode_lower own.0 ++ codes " " ++ decimal k ++ codes " " ++ decimal b)
text_of (line.Row prefix) = codes "row " ++ prefix_text prefix
text_of (line.Live entry) = codes "live " ++ (contact_text entry.contact ++ codes " " ++ decimal entry.failures)
text_of (line.Spare c) = codes "spare " ++ contact_text c
text_of (line.Sibling c) = codes "sibling " ++ contact_text c
text_of line.End = codes "end"

-- each line with its line feed
abbrev pub ended : Line → List ℕ
ended l = text_of l ++ codes "\n"

abbrev pub joined : List Line → List ℕ
joined lines = flat_map ended lines

-- the saved text of a table
abbrev pub saved_text : Saved → List ℕ
saved_text saved = joined (lines_of saved)

-- ---- what a line can hold: what its types can, and failures of 0 or 1

abbrev pub FitsLine : Line → Type 0
FitsLine (line.Table own k b) = FitsId own × (k < 256) × (b < 256)
FitsLine (line.Row prefix) = length prefix ≤ 160
FitsLine (line.Live entry) = FitsContact entry.contact × (entry.failures ≤ 1)
FitsLine (line.Spare c) = FitsContact c
FitsLine (line.Sibling c) = FitsContact c
FitsLine line.End = Unit {0}

-- a row holds what its types can
pub record FitsRow (row : Row) : Type 0 where
  pub prefix : length row.prefix ≤ 160
  pub live : All (λ e. FitsContact e.contact) row.live
  pub spare : All FitsContact row.spare

-- each live contact failed at most once since it was last seen
abbrev pub FailedOnce : List Row → Type 0
FailedOnce rows = All (λ row. All (λ e. e.failures ≤ 1) row.live) rows

-- the bytes are the saved text of this table
pub record IsSavedText (bytes : List ℕ) (saved : Saved) : Type 0 where
  pub fits : All FitsLine (lines_of saved)
  pub text : bytes ≡ saved_text saved
