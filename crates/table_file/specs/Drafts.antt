-- A table that is being read: the lines that were taken, and the lines that may not come after them.
use Rattle.std.specs.Prelude.{◌≡◌, ◌≢◌, ◌<◌, List, ℕ, [], ◌∷◌, ◌++◌, length, map, flat_map}
use Rattle.kad_base.specs.declared.types.Contact.{Contact}
use Rattle.bucket_tree.specs.declared.rows.Row.{Row}
use Rattle.contact_table.specs.declared.saved.Saved.{Saved}
use Rattle.table_file.specs.declared.draft.Head.{Head}
use Rattle.table_file.specs.declared.draft.Draft.{Draft}
use Rattle.table_file.specs.declared.draft.Draft.TheVariants as draft
use Rattle.table_file.specs.declared.line.Line.{Line}
use Rattle.table_file.specs.declared.line.Line.TheVariants as line
use Rattle.table_file.specs.Reading.{Spells}
use Rattle.table_file.specs.SavedText.{lines_of, row_lines}

abbrev pub head_line : Head → Line
head_line head = line.Table head.own head.k head.b

-- the lines of a whole table
abbrev pub whole_lines : Head → List Row → List Contact → List Line
whole_lines head rows siblings = head_line head ∷ (flat_map row_lines rows ++ (map line.Sibling siblings ++ line.End ∷ []))

-- the lines that were taken
abbrev pub lines_of_draft : Draft → List Line
lines_of_draft draft.Empty = []
lines_of_draft (draft.Started head) = head_line head ∷ []
lines_of_draft (draft.InRow head rows row) = head_line head ∷ (flat_map row_lines rows ++ row_lines row)
lines_of_draft (draft.InSiblings head rows siblings) = head_line head ∷ (flat_map row_lines rows ++ map line.Sibling siblings)
lines_of_draft (draft.Ended saved) = lines_of saved

-- after the rows stands a sibling
abbrev pub IsDraft : Draft → Type 0
IsDraft draft.Empty = Unit {0}
IsDraft (draft.Started head) = Unit {0}
IsDraft (draft.InRow head rows row) = Unit {0}
IsDraft (draft.InSiblings head rows siblings) = 0 < length siblings
IsDraft (draft.Ended saved) = Unit {0}

-- no table has this line after these
abbrev pub IsUnfit : List Line → Line → Type 0
IsUnfit lines next = (saved : Saved) (more : List Line) → lines_of saved ≢ lines ++ next ∷ more

-- the text is a line that was taken
pub record Takes (before : Draft) (text : List ℕ) (after : Draft) : Type 0 where
  pub next : Line
  pub spells : Spells text next
  pub sound : IsDraft after
  pub added : lines_of_draft after ≡ lines_of_draft before ++ next ∷ []

-- the text is no line that a table has there
abbrev pub Refuses : Draft → List ℕ → Type 0
Refuses before text = (l : Line) → Spells text l → IsUnfit (lines_of_draft before) l
