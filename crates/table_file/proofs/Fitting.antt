-- What is written fits into lines: by what the types of a table keep, and since each live contact failed at most once.
use Rattle.std.proofs.Common.{◌≡◌, ◌≤◌, ◌<◌, ◌+◌, ℕ, List, [], ◌∷◌, ◌++◌, map, take, length, get_or, ap, sym, ◌∙◌}
use Rattle.std.specs.Prelude.{All, flat_map}
use Rattle.std.proofs.lemmas.List.{append_assoc, append-nil, map-append}
use Rattle.std.proofs.lemmas.List.Concat.{flat_map-append}
use Rattle.std.proofs.lemmas.Grind.{take_at_read}
use Rattle.std.proofs.lemmas.List.Elements.{All-append, All-cons, All-head, All-nil, All-tail}
use Rattle.kad_base.specs.declared.types.Contact.{Contact}
use Rattle.bucket_tree.specs.declared.types.Live.{Live}
use Rattle.bucket_tree.specs.declared.rows.Row.{Row}
use Rattle.contact_table.specs.declared.saved.Saved.{Saved}
use Rattle.table_file.specs.declared.line.Line.{Line}
use Rattle.table_file.specs.declared.line.Line.TheVariants as line
use Rattle.table_file.specs.SavedText.{FailedOnce, FitsLine, FitsRow, IsSavedText, ended, joined, lines_of, row_lines, saved_text}
use Rattle.kad_text.specs.Text.{FitsContact, FitsId}
use Rattle.table_file.proofs.Printing.{saved_parts}

abbrev Few : Live → Type 0
Few entry = entry.failures ≤ 1

abbrev Fits : Live → Type 0
Fits entry = FitsContact entry.contact

lives_fit : (live : List Live) → All Fits live → All Few live → All FitsLine (map line.Live live)
lives_fit [] fits few = All-nil FitsLine
lives_fit (e ∷ es) fits few = All-cons FitsLine (line.Live e) (map line.Live es) (All-head Fits e es fits, All-head Few e es few) (lives_fit es (All-tail Fits e es fits) (All-tail Few e es few))

spares_fit : (cs : List Contact) → All FitsContact cs → All FitsLine (map line.Spare cs)
spares_fit [] fits = All-nil FitsLine
spares_fit (c ∷ cs) fits = All-cons FitsLine (line.Spare c) (map line.Spare cs) (All-head FitsContact c cs fits) (spares_fit cs (All-tail FitsContact c cs fits))

siblings_fit : (cs : List Contact) → All FitsContact cs → All FitsLine (map line.Sibling cs)
siblings_fit [] fits = All-nil FitsLine
siblings_fit (c ∷ cs) fits = All-cons FitsLine (line.Sibling c) (map line.Sibling cs) (All-head FitsContact c cs fits) (siblings_fit cs (All-tail FitsContact c cs fits))

row_fits : (row : Row) → FitsRow row → All Few row.live → All FitsLine (row_lines row)
row_fits row fits few = All-cons FitsLine (line.Row row.prefix) (map line.Live row.live ++ map line.Spare row.spare) fits.prefix
    (All-append FitsLine (map line.Live row.live) (map line.Spare row.spare) (lives_fit row.live fits.live few) (spares_fit row.spare fits.spare))

rows_fit : (rows : List Row) → All FitsRow rows → FailedOnce rows → All FitsLine (flat_map row_lines rows)
rows_fit [] fits few = All-nil FitsLine
rows_fit (row ∷ rows) fits few =
    All-append FitsLine (row_lines row) (flat_map row_lines rows) (row_fits row (All-head FitsRow row rows fits) (All-head (λ (r : Row). All Few r.live) row rows few))
    (rows_fit rows (All-tail FitsRow row rows fits) (All-tail (λ (r : Row). All Few r.live) row rows few))

pub lines_fit : (saved : Saved) → FitsId saved.own → saved.k < 256 → saved.b < 256 → All FitsRow saved.rows → FailedOnce saved.rows → All FitsContact saved.siblings → All FitsLine (lines_of saved)
lines_fit saved own k b rows few siblings =
    All-cons FitsLine (line.Table saved.own saved.k saved.b) _ (own, k, b)
    (All-append FitsLine (flat_map row_lines saved.rows) _ (rows_fit saved.rows rows few)
    (All-append FitsLine (map line.Sibling saved.siblings) (line.End ∷ []) (siblings_fit saved.siblings siblings) (All-cons FitsLine line.End [] tt (All-nil FitsLine))))

-- ---- what a loop over entries has put

joined_more : {A : Type 0} (f : A → Line) (xs : List A) (i : ℕ) (d : A) → i < length xs → joined (map f (take (i + 1) xs)) ≡ joined (map f (take i xs)) ++ ended (f (get_or xs i d))
joined_more f xs i d lt =
    let x = get_or xs i d in
    ap (λ l. joined (map f l)) (take_at_read xs i d lt).1
    ∙ ap joined (map-append f (take i xs) (x ∷ []))
    ∙ flat_map-append ended (map f (take i xs)) (f x ∷ [])
    ∙ ap (λ l. joined (map f (take i xs)) ++ l) (append-nil (ended (f x)))

-- one line more
pub line_more : {A : Type 0} (f : A → Line) (xs : List A) (i : ℕ) (d : A) (output before after : List ℕ) → i < length xs → before ≡ output ++ joined (map f (take i xs)) → after ≡ before ++ ended (f (get_or xs i d))
    → after ≡ output ++ joined (map f (take (i + 1) xs))
line_more f xs i d output before after lt was is =
    is ∙ ap (λ l. l ++ ended (f (get_or xs i d))) was ∙ append_assoc output (joined (map f (take i xs))) (ended (f (get_or xs i d))) ∙ ap (λ l. output ++ l) (sym (joined_more f xs i d lt))

rows_joined : (rows : List Row) (i : ℕ) (d : Row) → i < length rows → joined (flat_map row_lines (take (i + 1) rows)) ≡ joined (flat_map row_lines (take i rows)) ++ joined (row_lines (get_or rows i d))
rows_joined rows i d lt =
    let row = get_or rows i d in
    ap (λ l. joined (flat_map row_lines l)) (take_at_read rows i d lt).1
    ∙ ap joined (flat_map-append row_lines (take i rows) (row ∷ []))
    ∙ flat_map-append ended (flat_map row_lines (take i rows)) (flat_map row_lines (row ∷ []))
    ∙ ap (λ l. joined (flat_map row_lines (take i rows)) ++ joined l) (append-nil (row_lines row))

-- one row more
pub row_more : (rows : List Row) (i : ℕ) (d : Row) (output before after : List ℕ) → i < length rows → before ≡ output ++ joined (flat_map row_lines (take i rows)) → after ≡ before ++ joined (row_lines (get_or rows i d))
    → after ≡ output ++ joined (flat_map row_lines (take (i + 1) rows))
row_more rows i d output before after lt was is =
    is ∙ ap (λ l. l ++ joined (row_lines (get_or rows i d))) was ∙ append_assoc output (joined (flat_map row_lines (take i rows))) (joined (row_lines (get_or rows i d))) ∙ ap (λ l. output ++ l) (sym (rows_joined rows i d lt))

-- ---- the whole text

saved_by_parts : (saved : Saved) → saved_text saved ≡ ended (line.Table saved.own saved.k saved.b) ++ (joined (flat_map row_lines saved.rows) ++ (joined (map (λ x. line.Sibling x) saved.siblings) ++ (ended line.End ++ [])))
saved_by_parts saved =
    let R : List Line = flat_map row_lines saved.rows in
    let S : List Line = map line.Sibling saved.siblings in
    ap (λ l. ended (line.Table saved.own saved.k saved.b) ++ l) (flat_map-append ended R (S ++ line.End ∷ []) ∙ ap (λ l. joined R ++ l) (flat_map-append ended S (line.End ∷ [])))

-- part behind part
pub written : (saved : Saved) (rows : List Row) (siblings : List Contact) (none head body tail all : List ℕ) → rows ≡ saved.rows → siblings ≡ saved.siblings → none ≡ [] → head ≡ none ++ ended (line.Table saved.own saved.k saved.b)
    → body ≡ head ++ joined (flat_map row_lines rows) → tail ≡ body ++ joined (map (λ x. line.Sibling x) siblings) → all ≡ tail ++ ended line.End → All FitsLine (lines_of saved) → IsSavedText all saved
written saved rows siblings none head body tail all of_rows of_siblings is0 is1 is2 is3 is4 fits = record {
  fits = fits;
  text =
      saved_parts T R S (ended line.End) all (is4 ∙ ap (λ l. l ++ ended line.End) (is3 ∙ ap (λ l. body ++ joined (map (λ x. line.Sibling x) l)) of_siblings
      ∙ ap (λ l. l ++ S) (is2 ∙ ap (λ l. head ++ joined (flat_map row_lines l)) of_rows ∙ ap (λ l. l ++ R) (is1 ∙ ap (λ l. l ++ T) is0))))
      ∙ sym (saved_by_parts saved);
}
  where
    T : List ℕ
    T = ended (line.Table saved.own saved.k saved.b)

    R : List ℕ
    R = joined (flat_map row_lines saved.rows)

    S : List ℕ
    S = joined (map (λ x. line.Sibling x) saved.siblings)
