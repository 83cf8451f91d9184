-- What is read may be written: each of its live contacts failed at most once.
use Rattle.std.proofs.Common.{◌≡◌, ◌≤◌, List, [], ◌∷◌, ◌++◌, map, ℕ, ◌∙◌, subst}
use Rattle.std.specs.Prelude.{All, flat_map}
use Rattle.std.proofs.lemmas.List.{append_assoc}
use Rattle.std.proofs.lemmas.List.Elements.{All-cons, All-head, All-nil, All-tail}
use Rattle.kad_base.specs.declared.types.Contact.{Contact}
use Rattle.bucket_tree.specs.declared.types.Live.{Live}
use Rattle.bucket_tree.specs.declared.rows.Row.{Row}
use Rattle.contact_table.specs.declared.saved.Saved.{Saved}
use Rattle.table_file.specs.declared.line.Line.{Line}
use Rattle.table_file.specs.declared.line.Line.TheVariants as line
use Rattle.table_file.specs.SavedText.{FailedOnce, FitsLine, IsSavedText, row_lines}

abbrev Few : Live → Type 0
Few entry = entry.failures ≤ 1

lives_few : (live : List Live) (X : List Line) → All FitsLine (map line.Live live ++ X) → All Few live × All FitsLine X
lives_few [] X h = (All-nil Few, h)
lives_few (e ∷ es) X h =
    let r = lives_few es X (All-tail FitsLine (line.Live e) (map line.Live es ++ X) h) in
    (All-cons Few e es (All-head FitsLine (line.Live e) (map line.Live es ++ X) h).1 r.0, r.1)

behind_spares : (spare : List Contact) (X : List Line) → All FitsLine (map line.Spare spare ++ X) → All FitsLine X
behind_spares [] X h = h
behind_spares (c ∷ cs) X h = behind_spares cs X (All-tail FitsLine (line.Spare c) (map line.Spare cs ++ X) h)

group : (L S R T : List Line) → ((L ++ S) ++ R) ++ T ≡ L ++ (S ++ (R ++ T))
group L S R T = append_assoc (L ++ S) R T ∙ append_assoc L S (R ++ T)

rows_few : (rows : List Row) (X : List Line) → All FitsLine (flat_map row_lines rows ++ X) → FailedOnce rows
rows_few [] X h = All-nil (λ (row : Row). All Few row.live)
rows_few (row ∷ rows) X h =
    let L : List Line = map line.Live row.live in
    let S : List Line = map line.Spare row.spare in
    let R : List Line = flat_map row_lines rows in
    let all : All FitsLine (L ++ (S ++ (R ++ X))) = subst (All FitsLine) (group L S R X) (All-tail FitsLine (line.Row row.prefix) (((L ++ S) ++ R) ++ X) h) in
    let live = lives_few row.live (S ++ (R ++ X)) all in
    All-cons (λ (row : Row). All Few row.live) row rows live.0 (rows_few rows X (behind_spares row.spare (R ++ X) live.1))

pub failed_once : (bytes : List ℕ) (saved : Saved) → IsSavedText bytes saved → FailedOnce saved.rows
failed_once bytes saved s = rows_few saved.rows (map line.Sibling saved.siblings ++ line.End ∷ []) (All-tail FitsLine (line.Table saved.own saved.k saved.b) _ s.fits)
