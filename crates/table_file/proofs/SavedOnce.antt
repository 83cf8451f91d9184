-- A saved text is that of one table.
use Rattle.std.proofs.Common.{◌≡◌, ◌≢◌, ℕ, Bool, true, false, List, [], ◌∷◌, ◌++◌, map, true≢false, refl, sym, ap, ◌∙◌}
use Rattle.std.specs.Prelude.{flat_map}
use Rattle.std.proofs.lemmas.List.{append_assoc, append-nil}
use Rattle.std.proofs.lemmas.List.Elements.{All-nil}
use Rattle.kad_base.specs.declared.types.Id.{Id}
use Rattle.kad_base.specs.declared.types.Contact.{Contact}
use Rattle.bucket_tree.specs.declared.types.Live.{Live}
use Rattle.bucket_tree.specs.declared.rows.Row.{Row}
use Rattle.contact_table.specs.declared.saved.Saved.{Saved}
use Rattle.table_file.specs.declared.line.Line.{Line}
use Rattle.table_file.specs.declared.line.Line.TheVariants as line
use Rattle.table_file.specs.SavedText.{IsSavedText, joined, lines_of, row_lines}
use Rattle.table_file.proofs.Fronts.{front_lines, nothing_behind}

abbrev tail_of : List Contact → List Line
tail_of siblings = map line.Sibling siblings ++ line.End ∷ []

abbrev starts_live : List Line → Bool
starts_live (line.Live e ∷ lines) = true
starts_live lines = false

abbrev starts_spare : List Line → Bool
starts_spare (line.Spare c ∷ lines) = true
starts_spare lines = false

lives_once : (x y : List Live) (X Y : List Line) → starts_live X ≡ false → starts_live Y ≡ false → map line.Live x ++ X ≡ map line.Live y ++ Y → (x ≡ y) × (X ≡ Y)
lives_once [] [] X Y hx hy e = (refl, e)
lives_once [] (b ∷ y) X Y hx hy e = absurd (true≢false (sym (ap starts_live e) ∙ hx))
lives_once (a ∷ x) [] X Y hx hy e = absurd (true≢false (ap starts_live e ∙ hy))
lives_once (a ∷ x) (b ∷ y) X Y hx hy e =
    let one : a ≡ b = cc in
    let rest : map line.Live x ++ X ≡ map line.Live y ++ Y = cc in
    let r = lives_once x y X Y hx hy rest in
    (ap (λ (z : Live). z ∷ x) one ∙ ap (λ (l : List Live). b ∷ l) r.0, r.1)

spares_once : (x y : List Contact) (X Y : List Line) → starts_spare X ≡ false → starts_spare Y ≡ false → map line.Spare x ++ X ≡ map line.Spare y ++ Y → (x ≡ y) × (X ≡ Y)
spares_once [] [] X Y hx hy e = (refl, e)
spares_once [] (b ∷ y) X Y hx hy e = absurd (true≢false (sym (ap starts_spare e) ∙ hx))
spares_once (a ∷ x) [] X Y hx hy e = absurd (true≢false (ap starts_spare e ∙ hy))
spares_once (a ∷ x) (b ∷ y) X Y hx hy e =
    let one : a ≡ b = cc in
    let rest : map line.Spare x ++ X ≡ map line.Spare y ++ Y = cc in
    let r = spares_once x y X Y hx hy rest in
    (ap (λ (z : Contact). z ∷ x) one ∙ ap (λ (l : List Contact). b ∷ l) r.0, r.1)

siblings_once : (x y : List Contact) → tail_of x ≡ tail_of y → x ≡ y
siblings_once [] [] e = refl
siblings_once [] (b ∷ y) e = cc e
siblings_once (a ∷ x) [] e = cc e
siblings_once (a ∷ x) (b ∷ y) e =
    let one : a ≡ b = cc in
    let rest : tail_of x ≡ tail_of y = cc in
    ap (λ (z : Contact). z ∷ x) one ∙ ap (λ (l : List Contact). b ∷ l) (siblings_once x y rest)

-- what stands behind a row begins with no line of it
after_live : (rows : List Row) (siblings : List Contact) → starts_live (flat_map row_lines rows ++ tail_of siblings) ≡ false
after_live [] [] = refl
after_live [] (c ∷ siblings) = refl
after_live (row ∷ rows) siblings = refl

after_spare : (rows : List Row) (siblings : List Contact) → starts_spare (flat_map row_lines rows ++ tail_of siblings) ≡ false
after_spare [] [] = refl
after_spare [] (c ∷ siblings) = refl
after_spare (row ∷ rows) siblings = refl

spares_live : (spare : List Contact) (X : List Line) → starts_live X ≡ false → starts_live (map line.Spare spare ++ X) ≡ false
spares_live [] X h = h
spares_live (c ∷ spare) X h = refl

a_row : List Bool → List Live → List Contact → Row
a_row prefix live spare = record { prefix = prefix; live = live; spare = spare }

same_row : (x y : Row) → x.prefix ≡ y.prefix → x.live ≡ y.live → x.spare ≡ y.spare → x ≡ y
unfolding a_row
same_row x y p l s = ap (λ (w : List Bool). a_row w x.live x.spare) p ∙ ap (λ (w : List Live). a_row y.prefix w x.spare) l ∙ ap (a_row y.prefix y.live) s

group : (L S R T : List Line) → ((L ++ S) ++ R) ++ T ≡ L ++ (S ++ (R ++ T))
group L S R T = append_assoc (L ++ S) R T ∙ append_assoc L S (R ++ T)

no_row : (siblings : List Contact) (row : Row) (rows : List Row) (t : List Contact) → tail_of siblings ≡ flat_map row_lines (row ∷ rows) ++ tail_of t → ⊥
no_row [] row rows t e = cc e
no_row (c ∷ siblings) row rows t e = cc e

rows_once : (x y : List Row) (s t : List Contact) → flat_map row_lines x ++ tail_of s ≡ flat_map row_lines y ++ tail_of t → (x ≡ y) × (s ≡ t)
rows_once [] [] s t e = (refl, siblings_once s t e)
rows_once [] (b ∷ y) s t e = absurd (no_row s b y t e)
rows_once (a ∷ x) [] s t e = absurd (no_row t a x s (sym e))
rows_once (a ∷ x) (b ∷ y) s t e =
    let L : Row → List Line = λ row. map line.Live row.live in
    let S : Row → List Line = λ row. map line.Spare row.spare in
    let X : List Line = flat_map row_lines x ++ tail_of s in
    let Y : List Line = flat_map row_lines y ++ tail_of t in
    let prefix : a.prefix ≡ b.prefix = cc in
    let joined : ((L a ++ S a) ++ flat_map row_lines x) ++ tail_of s ≡ ((L b ++ S b) ++ flat_map row_lines y) ++ tail_of t = cc in
    let behind : L a ++ (S a ++ X) ≡ L b ++ (S b ++ Y) = sym (group (L a) (S a) (flat_map row_lines x) (tail_of s)) ∙ joined ∙ group (L b) (S b) (flat_map row_lines y) (tail_of t) in
    let lives = lives_once a.live b.live (S a ++ X) (S b ++ Y) (spares_live a.spare X (after_live x s)) (spares_live b.spare Y (after_live y t)) behind in
    let spares = spares_once a.spare b.spare X Y (after_spare x s) (after_spare y t) lives.1 in
    let rest = rows_once x y s t spares.1 in
    (ap (λ (z : Row). z ∷ x) (same_row a b prefix lives.0 spares.0) ∙ ap (λ (l : List Row). b ∷ l) rest.0, rest.1)

a_saved : Id → ℕ → ℕ → List Row → List Contact → Saved
a_saved own k b rows siblings = record { own = own; k = k; b = b; rows = rows; siblings = siblings }

pub lines_once : (a b : Saved) → lines_of a ≡ lines_of b → a ≡ b
unfolding a_saved
lines_once a b e =
    let own : a.own ≡ b.own = cc in
    let k : a.k ≡ b.k = cc in
    let bits : a.b ≡ b.b = cc in
    let rest : flat_map row_lines a.rows ++ tail_of a.siblings ≡ flat_map row_lines b.rows ++ tail_of b.siblings = cc in
    let r = rows_once a.rows b.rows a.siblings b.siblings rest in
    ap (λ (o : Id). a_saved o a.k a.b a.rows a.siblings) own ∙ ap (λ (n : ℕ). a_saved b.own n a.b a.rows a.siblings) k ∙ ap (λ (n : ℕ). a_saved b.own b.k n a.rows a.siblings) bits
    ∙ ap (λ (z : List Row). a_saved b.own b.k b.b z a.siblings) r.0 ∙ ap (a_saved b.own b.k b.b b.rows) r.1

pub saved_once : (bytes : List ℕ) (a b : Saved) → IsSavedText bytes a → IsSavedText bytes b → a ≡ b
saved_once bytes a b s t =
    let r = front_lines (lines_of a) (lines_of b) [] s.fits t.fits (sym s.text ∙ t.text ∙ sym (append-nil (joined (lines_of b)))) in
    let none = nothing_behind r.0 [] (All-nil (λ c. c ≢ 10)) r.2 in
    lines_once a b (r.1 ∙ ap (λ (l : List Line). lines_of b ++ l) none.0 ∙ append-nil (lines_of b))
