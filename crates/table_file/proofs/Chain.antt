-- Which kind of line may stand behind which, and that the lines of every table stand so.
use Rattle.std.proofs.Common.{◌≡◌, Bool, true, false, ◌&&◌, List, [], ◌∷◌, ◌++◌, length, map, true≢false, refl, sym, ap, ◌∙◌, arith}
use Rattle.std.specs.Prelude.{◌<◌, flat_map}
use Rattle.std.proofs.lemmas.Bool.{and_parts}
use Rattle.std.proofs.lemmas.List.{append_assoc}
use Rattle.kad_base.specs.declared.types.Contact.{Contact}
use Rattle.bucket_tree.specs.declared.types.Live.{Live}
use Rattle.bucket_tree.specs.declared.rows.Row.{Row}
use Rattle.contact_table.specs.declared.saved.Saved.{Saved}
use Rattle.table_file.specs.declared.line.Line.{Line}
use Rattle.table_file.specs.declared.line.Line.TheVariants as line
use Rattle.table_file.specs.declared.draft.Head.{Head}
use Rattle.table_file.specs.declared.draft.Draft.{Draft}
use Rattle.table_file.specs.declared.draft.Draft.TheVariants as draft
use Rattle.table_file.specs.SavedText.{lines_of, row_lines}
use Rattle.table_file.specs.Drafts.{IsDraft, IsUnfit, head_line, lines_of_draft}

-- the kind of a line, and the place before all lines
pub data Kind : Type 0 where
  at_front : Kind
  at_table : Kind
  at_row : Kind
  at_live : Kind
  at_spare : Kind
  at_sibling : Kind
  at_end : Kind

abbrev pub kind_of : Line → Kind
kind_of (line.Table own k b) = at_table
kind_of (line.Row p) = at_row
kind_of (line.Live x) = at_live
kind_of (line.Spare x) = at_spare
kind_of (line.Sibling x) = at_sibling
kind_of line.End = at_end

-- a line of the second kind may stand behind one of the first
abbrev pub follows : Kind → Kind → Bool
follows at_front at_table = true
follows at_table at_row = true
follows at_table at_sibling = true
follows at_table at_end = true
follows at_row at_row = true
follows at_row at_live = true
follows at_row at_spare = true
follows at_row at_sibling = true
follows at_row at_end = true
follows at_live at_row = true
follows at_live at_live = true
follows at_live at_spare = true
follows at_live at_sibling = true
follows at_live at_end = true
follows at_spare at_row = true
follows at_spare at_spare = true
follows at_spare at_sibling = true
follows at_spare at_end = true
follows at_sibling at_sibling = true
follows at_sibling at_end = true
follows a b = false

abbrev chain : Kind → List Line → Bool
chain k [] = true
chain k (l ∷ ls) = follows k (kind_of l) && chain (kind_of l) ls

-- the kind of the last line
abbrev pub last_kind : Kind → List Line → Kind
last_kind k [] = k
last_kind k (l ∷ ls) = last_kind (kind_of l) ls

chain_split : (k : Kind) (xs : List Line) (l : Line) (more : List Line) → chain k (xs ++ l ∷ more) ≡ true → follows (last_kind k xs) (kind_of l) ≡ true
chain_split k [] l more h = (and_parts (follows k (kind_of l)) (chain (kind_of l) more) h).0
chain_split k (x ∷ xs) l more h = chain_split (kind_of x) xs l more (and_parts (follows k (kind_of x)) (chain (kind_of x) (xs ++ l ∷ more)) h).1

pub last_kind-append : (k : Kind) (xs ys : List Line) → last_kind k (xs ++ ys) ≡ last_kind (last_kind k xs) ys
last_kind-append k [] ys = refl
last_kind-append k (x ∷ xs) ys = last_kind-append (kind_of x) xs ys

-- ---- the lines of a table

both : (a b : Bool) → a ≡ true → b ≡ true → (a && b) ≡ true
both true b h k = k
both false b h k = cc h

abbrev tail_of : List Contact → List Line
tail_of siblings = map line.Sibling siblings ++ line.End ∷ []

abbrev Opens : Kind → Type 0
Opens k = (follows k at_row ≡ true) × (follows k at_sibling ≡ true) × (follows k at_end ≡ true)

chain_tail : (k : Kind) (siblings : List Contact) → follows k at_sibling ≡ true → follows k at_end ≡ true → chain k (tail_of siblings) ≡ true
chain_tail k [] s e = both (follows k at_end) true e refl
chain_tail k (c ∷ cs) s e = both (follows k at_sibling) (chain at_sibling (tail_of cs)) s (chain_tail at_sibling cs refl refl)

chain_spares : (k : Kind) (spare : List Contact) (X : List Line) → follows k at_spare ≡ true → Opens k → ((j : Kind) → Opens j → chain j X ≡ true) → chain k (map line.Spare spare ++ X) ≡ true
chain_spares k [] X s o h = h k o
chain_spares k (c ∷ cs) X s o h = both (follows k at_spare) (chain at_spare (map line.Spare cs ++ X)) s (chain_spares at_spare cs X refl (refl, refl, refl) h)

chain_lives : (k : Kind) (live : List Live) (Y : List Line) → follows k at_live ≡ true → follows k at_spare ≡ true → Opens k
    → ((j : Kind) → follows j at_spare ≡ true → Opens j → chain j Y ≡ true) → chain k (map line.Live live ++ Y) ≡ true
chain_lives k [] Y l s o h = h k s o
chain_lives k (e ∷ es) Y l s o h = both (follows k at_live) (chain at_live (map line.Live es ++ Y)) l (chain_lives at_live es Y refl refl (refl, refl, refl) h)

group : (L S R T : List Line) → ((L ++ S) ++ R) ++ T ≡ L ++ (S ++ (R ++ T))
group L S R T = append_assoc (L ++ S) R T ∙ append_assoc L S (R ++ T)

chain_rows : (k : Kind) (rows : List Row) (siblings : List Contact) → Opens k → chain k (flat_map row_lines rows ++ tail_of siblings) ≡ true
chain_rows k [] siblings o = chain_tail k siblings o.1 o.2
chain_rows k (row ∷ rows) siblings o =
    let L : List Line = map line.Live row.live in
    let S : List Line = map line.Spare row.spare in
    let R : List Line = flat_map row_lines rows in
    let X : List Line = R ++ tail_of siblings in
    let more : (j : Kind) → Opens j → chain j X ≡ true = λ j oj. chain_rows j rows siblings oj in
    let inner : chain at_row (L ++ (S ++ X)) ≡ true = chain_lives at_row row.live (S ++ X) refl refl (refl, refl, refl) (λ j s oj. chain_spares j row.spare X s oj more) in
    both (follows k at_row) (chain at_row (((L ++ S) ++ R) ++ tail_of siblings)) o.0 (ap (chain at_row) (group L S R (tail_of siblings)) ∙ inner)

pub chain_saved : (saved : Saved) → chain at_front (lines_of saved) ≡ true
chain_saved saved = chain_rows at_table saved.rows saved.siblings (refl, refl, refl)

pub unfit : (lines : List Line) (l : Line) → follows (last_kind at_front lines) (kind_of l) ≡ false → IsUnfit lines l
unfit lines l h saved more e = true≢false (sym (chain_split at_front lines l more (ap (chain at_front) (sym e) ∙ chain_saved saved)) ∙ h)

-- ---- the last line of a draft

last_spare : (spare : List Contact) → last_kind at_spare (map line.Spare spare) ≡ at_spare
last_spare [] = refl
last_spare (c ∷ cs) = last_spare cs

last_sibling : (siblings : List Contact) → last_kind at_sibling (map line.Sibling siblings) ≡ at_sibling
last_sibling [] = refl
last_sibling (c ∷ cs) = last_sibling cs

some_spares : (k : Kind) (spare : List Contact) → 0 < length spare → last_kind k (map line.Spare spare) ≡ at_spare
some_spares k [] h = absurd (omega arith)
some_spares k (c ∷ cs) h = last_spare cs

some_siblings : (k : Kind) (siblings : List Contact) → 0 < length siblings → last_kind k (map line.Sibling siblings) ≡ at_sibling
some_siblings k [] h = absurd (omega arith)
some_siblings k (c ∷ cs) h = last_sibling cs

pub last_saved : (saved : Saved) → last_kind at_front (lines_of saved) ≡ at_end
last_saved saved = last_kind-append at_table (flat_map row_lines saved.rows) (tail_of saved.siblings) ∙ last_kind-append (last_kind at_table (flat_map row_lines saved.rows)) (map line.Sibling saved.siblings) (line.End ∷ [])

not_front : (x : Line) (xs : List Line) → follows (last_kind (kind_of x) xs) at_table ≡ false
not_front (line.Table own k b) [] = refl
not_front (line.Row p) [] = refl
not_front (line.Live x) [] = refl
not_front (line.Spare x) [] = refl
not_front (line.Sibling x) [] = refl
not_front line.End [] = refl
not_front x (y ∷ ys) = not_front y ys

behind_siblings : (k : Kind) (front : List Line) (siblings : List Contact) → 0 < length siblings → last_kind k (front ++ map line.Sibling siblings) ≡ at_sibling
behind_siblings k front siblings h = last_kind-append k front (map line.Sibling siblings) ∙ some_siblings (last_kind k front) siblings h

behind_spares : (k : Kind) (front : List Line) (row : Row) → 0 < length row.spare → last_kind k (front ++ row_lines row) ≡ at_spare
behind_spares k front row h =
    last_kind-append k front (row_lines row) ∙ last_kind-append at_row (map line.Live row.live) (map line.Spare row.spare) ∙ some_spares (last_kind at_row (map line.Live row.live)) row.spare h

by_last : (lines : List Line) (l : Line) (k : Kind) → last_kind at_front lines ≡ k → follows k (kind_of l) ≡ false → IsUnfit lines l
by_last lines l k e h = unfit lines l (ap (λ (j : Kind). follows j (kind_of l)) e ∙ h)

-- ---- where a line doesn't fit

-- a line that has to stand behind a row's line
abbrev IsOfRow : Line → Type 0
IsOfRow l = (follows at_table (kind_of l) ≡ false) × (follows at_sibling (kind_of l) ≡ false) × (follows at_front (kind_of l) ≡ false)

pub only_table : (l : Line) → follows at_front (kind_of l) ≡ false → IsUnfit [] l
only_table l h = unfit [] l h

pub behind_end : (saved : Saved) (l : Line) → IsUnfit (lines_of saved) l
behind_end saved l = by_last (lines_of saved) l at_end (last_saved saved) (nothing l)
  where
    nothing : (l : Line) → follows at_end (kind_of l) ≡ false
    nothing (line.Table own k b) = refl
    nothing (line.Row p) = refl
    nothing (line.Live x) = refl
    nothing (line.Spare x) = refl
    nothing (line.Sibling x) = refl
    nothing line.End = refl

pub table_unfit : (d : Draft) (l : Line) → kind_of l ≡ at_table → (d ≡ draft.Empty → ⊥) → IsUnfit (lines_of_draft d) l
table_unfit draft.Empty l e h = absurd (h refl)
table_unfit (draft.Started head) l e h = unfit (head_line head ∷ []) l (ap (follows at_table) e)
table_unfit (draft.InRow head rows row) l e h =
    let xs : List Line = flat_map row_lines rows ++ row_lines row in
    unfit (head_line head ∷ xs) l (ap (follows (last_kind at_table xs)) e ∙ not_front (head_line head) xs)
table_unfit (draft.InSiblings head rows siblings) l e h =
    let xs : List Line = flat_map row_lines rows ++ map line.Sibling siblings in
    unfit (head_line head ∷ xs) l (ap (follows (last_kind at_table xs)) e ∙ not_front (head_line head) xs)
table_unfit (draft.Ended saved) l e h = behind_end saved l

pub row_unfit : (d : Draft) (prefix : List Bool) → IsDraft d → ((h : Head) → d ≡ draft.Started h → ⊥) → ((h : Head) (rows : List Row) (row : Row) → d ≡ draft.InRow h rows row → ⊥)
    → IsUnfit (lines_of_draft d) (line.Row prefix)
row_unfit draft.Empty prefix s a b = only_table (line.Row prefix) refl
row_unfit (draft.Started head) prefix s a b = absurd (a head refl)
row_unfit (draft.InRow head rows row) prefix s a b = absurd (b head rows row refl)
row_unfit (draft.InSiblings head rows siblings) prefix s a b = by_last (head_line head ∷ (flat_map row_lines rows ++ map line.Sibling siblings)) (line.Row prefix) at_sibling (behind_siblings at_table (flat_map row_lines rows) siblings s) refl
row_unfit (draft.Ended saved) prefix s a b = behind_end saved (line.Row prefix)

of_row : (d : Draft) (l : Line) → IsOfRow l → IsDraft d → ((h : Head) (rows : List Row) (row : Row) → d ≡ draft.InRow h rows row → ⊥) → IsUnfit (lines_of_draft d) l
of_row draft.Empty l k s a = only_table l k.2
of_row (draft.Started head) l k s a = by_last (head_line head ∷ []) l at_table refl k.0
of_row (draft.InRow head rows row) l k s a = absurd (a head rows row refl)
of_row (draft.InSiblings head rows siblings) l k s a = by_last (head_line head ∷ (flat_map row_lines rows ++ map line.Sibling siblings)) l at_sibling (behind_siblings at_table (flat_map row_lines rows) siblings s) k.1
of_row (draft.Ended saved) l k s a = behind_end saved l

pub live_unfit : (d : Draft) (entry : Live) → IsDraft d → ((h : Head) (rows : List Row) (row : Row) → d ≡ draft.InRow h rows row → ⊥) → IsUnfit (lines_of_draft d) (line.Live entry)
live_unfit d entry s a = of_row d (line.Live entry) (refl, refl, refl) s a

pub live_behind_spare : (head : Head) (rows : List Row) (row : Row) (entry : Live) → 0 < length row.spare → IsUnfit (lines_of_draft (draft.InRow head rows row)) (line.Live entry)
live_behind_spare head rows row entry h = by_last (head_line head ∷ (flat_map row_lines rows ++ row_lines row)) (line.Live entry) at_spare (behind_spares at_table (flat_map row_lines rows) row h) refl

pub spare_unfit : (d : Draft) (c : Contact) → IsDraft d → ((h : Head) (rows : List Row) (row : Row) → d ≡ draft.InRow h rows row → ⊥) → IsUnfit (lines_of_draft d) (line.Spare c)
spare_unfit d c s a = of_row d (line.Spare c) (refl, refl, refl) s a

-- a line that may stand behind all but the end
late : (d : Draft) (l : Line) → follows at_front (kind_of l) ≡ false → ((h : Head) → d ≡ draft.Started h → ⊥) → ((h : Head) (rows : List Row) (row : Row) → d ≡ draft.InRow h rows row → ⊥)
    → ((h : Head) (rows : List Row) (siblings : List Contact) → d ≡ draft.InSiblings h rows siblings → ⊥) → IsUnfit (lines_of_draft d) l
late draft.Empty l k a b e = only_table l k
late (draft.Started head) l k a b e = absurd (a head refl)
late (draft.InRow head rows row) l k a b e = absurd (b head rows row refl)
late (draft.InSiblings head rows siblings) l k a b e = absurd (e head rows siblings refl)
late (draft.Ended saved) l k a b e = behind_end saved l

pub sibling_unfit : (d : Draft) (c : Contact) → ((h : Head) → d ≡ draft.Started h → ⊥) → ((h : Head) (rows : List Row) (row : Row) → d ≡ draft.InRow h rows row → ⊥)
    → ((h : Head) (rows : List Row) (siblings : List Contact) → d ≡ draft.InSiblings h rows siblings → ⊥) → IsUnfit (lines_of_draft d) (line.Sibling c)
sibling_unfit d c = late d (line.Sibling c) refl

pub end_unfit : (d : Draft) → ((h : Head) → d ≡ draft.Started h → ⊥) → ((h : Head) (rows : List Row) (row : Row) → d ≡ draft.InRow h rows row → ⊥)
    → ((h : Head) (rows : List Row) (siblings : List Contact) → d ≡ draft.InSiblings h rows siblings → ⊥) → IsUnfit (lines_of_draft d) line.End
end_unfit d = late d line.End refl

-- ---- a draft whose last line is the end

stays_spares : (k : Kind) (spare : List Contact) → follows k at_sibling ≡ true → follows (last_kind k (map line.Spare spare)) at_sibling ≡ true
stays_spares k [] h = h
stays_spares k (c ∷ cs) h = stays_spares at_spare cs refl

stays_lives : (k : Kind) (live : List Live) → follows k at_sibling ≡ true → follows (last_kind k (map line.Live live)) at_sibling ≡ true
stays_lives k [] h = h
stays_lives k (e ∷ es) h = stays_lives at_live es refl

not_end : (k : Kind) → follows k at_sibling ≡ true → k ≡ at_end → ⊥
not_end k h e = true≢false (sym h ∙ ap (λ (j : Kind). follows j at_sibling) e)

row_goes_on : (k : Kind) (front : List Line) (row : Row) → last_kind k (front ++ row_lines row) ≡ at_end → ⊥
row_goes_on k front row e =
    let parts = last_kind-append k front (row_lines row) ∙ last_kind-append at_row (map line.Live row.live) (map line.Spare row.spare) in
    not_end (last_kind (last_kind at_row (map line.Live row.live)) (map line.Spare row.spare)) (stays_spares (last_kind at_row (map line.Live row.live)) row.spare (stays_lives at_row row.live refl)) (sym parts ∙ e)

pub ended_of : (d : Draft) → IsDraft d → last_kind at_front (lines_of_draft d) ≡ at_end → (saved : Saved) × (d ≡ draft.Ended saved)
ended_of draft.Empty s e = cc e
ended_of (draft.Started head) s e = cc e
ended_of (draft.InRow head rows row) s e = absurd (row_goes_on at_table (flat_map row_lines rows) row e)
ended_of (draft.InSiblings head rows siblings) s e = (let f : at_sibling ≡ at_end = sym (behind_siblings at_table (flat_map row_lines rows) siblings s) ∙ e in cc f)
ended_of (draft.Ended saved) s e = (saved, refl)
