-- A draft's lines, and one more.
use Rattle.std.proofs.Common.{◌≡◌, List, [], ◌∷◌, ◌++◌, map, refl, sym, ap, ◌∙◌}
use Rattle.std.specs.Prelude.{flat_map}
use Rattle.std.proofs.lemmas.Grind.{flat_map-append}
use Rattle.std.proofs.lemmas.List.{append_assoc, append-nil}
use Rattle.kad_base.specs.declared.types.Contact.{Contact}
use Rattle.bucket_tree.specs.declared.rows.Row.{Row}
use Rattle.table_file.specs.declared.line.Line.{Line}
use Rattle.table_file.specs.declared.line.Line.TheVariants as line
use Rattle.table_file.specs.declared.draft.Head.{Head}
use Rattle.table_file.specs.declared.draft.Draft.TheVariants as draft
use Rattle.table_file.specs.SavedText.{row_lines}
use Rattle.table_file.specs.Drafts.{head_line, lines_of_draft, whole_lines}

-- the lines of rows, and of one more
one_row : (rows all : List Row) (row : Row) → all ≡ rows ++ row ∷ [] → flat_map row_lines all ≡ flat_map row_lines rows ++ row_lines row
one_row rows all row e =
    ap (flat_map row_lines) e ∙ flat_map-append row_lines rows (row ∷ []) ∙ ap (λ (l : List Line). flat_map row_lines rows ++ l) (append-nil (row_lines row))

-- ---- whole tables

pub end_first : (head : Head) (rows : List Row) (siblings : List Contact) (lines : List Line) → lines ≡ whole_lines head rows siblings → rows ≡ [] → siblings ≡ [] → lines ≡ lines_of_draft (draft.Started head) ++ line.End ∷ []
end_first head rows siblings lines e r s = e ∙ rw (r, s) refl

pub end_behind_row : (head : Head) (rows all : List Row) (row : Row) (siblings : List Contact) (lines : List Line) → lines ≡ whole_lines head all siblings → all ≡ rows ++ row ∷ [] → siblings ≡ []
    → lines ≡ lines_of_draft (draft.InRow head rows row) ++ line.End ∷ []
end_behind_row head rows all row siblings lines e a s =
    e ∙ ap (λ (x : List Contact). whole_lines head all x) s ∙ ap (λ (x : List Line). head_line head ∷ (x ++ line.End ∷ [])) (one_row rows all row a)

pub end_behind_siblings : (head : Head) (rows : List Row) (siblings : List Contact) (lines : List Line) → lines ≡ whole_lines head rows siblings
    → lines ≡ lines_of_draft (draft.InSiblings head rows siblings) ++ line.End ∷ []
end_behind_siblings head rows siblings lines e = e ∙ ap (λ (x : List Line). head_line head ∷ x) (sym (append_assoc (flat_map row_lines rows) (map line.Sibling siblings) (line.End ∷ [])))
