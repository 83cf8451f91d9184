-- What a table holds can be written, and has one text.
use Rattle.std.proofs.Common.{◌≡◌, ◌⊎◌, ℕ, ◌≤◌, Bool, true, false, List, [], ◌∷◌, ◌++◌, inl, inr, refl, sym, ap, subst, ◌∙◌}
use Rattle.std.specs.Prelude.{All}
use Rattle.std.proofs.lemmas.List.Elements.{All-cons, All-head, All-nil, All-tail}
use Rattle.kad_base.specs.declared.types.Contact.{Contact}
use Rattle.kad_base.specs.declared.types.Id.{Id}
use Rattle.bucket_tree.specs.Rows.{IsRow, RowState}
use Rattle.bucket_tree.specs.States.{state_of, states_of}
use Rattle.bucket_tree.specs.declared.rows.Row.{Row}
use Rattle.bucket_tree.specs.declared.types.Live.{Live}
use Rattle.contact_table.specs.SavedState.{state_of as table_of}
use Rattle.contact_table.specs.TableState.{SoundTable, TableState, unlimited}
use Rattle.contact_table.specs.declared.saved.Saved.{Saved}
use Rattle.table_file.specs.SavedText.{FailedOnce, saved_text}
use Rattle.serve_commands.specs.Printed.{IsTableText, WithTable}

-- no live contact of a sound table failed twice

rows_failed_once : (own : Id) (k b : ℕ) (rows : List Row) → All (IsRow own k b) (states_of rows) → FailedOnce rows
rows_failed_once own k b [] h = All-nil (λ row. All (λ e. e.failures ≤ 1) row.live)
rows_failed_once own k b (row ∷ rows) h =
    All-cons (λ row. All (λ e. e.failures ≤ 1) row.live) row rows (All-head (IsRow own k b) (state_of row) (states_of rows) h).failed_once
    (rows_failed_once own k b rows (All-tail (IsRow own k b) (state_of row) (states_of rows) h))

pub can_be_written : (saved : Saved) (s : TableState) → SoundTable s → table_of saved ≡ unlimited s → FailedOnce saved.rows
can_be_written saved s sound e =
    let own : SoundTable (table_of saved) = subst SoundTable (sym e) (record { buckets = sound.buckets; siblings = sound.siblings }) in
    rows_failed_once saved.own saved.k saved.b saved.rows own.buckets.rows.each

-- ---- its text

row_once : (a b : Row) → state_of a ≡ state_of b → a ≡ b
row_once a b e =
    let row : (p : List Bool) (l : List Live) (c : List Contact) → Row = (λ p l c. record { prefix = p; live = l; spare = c }) in
    ap (λ (p : List Bool). row p a.live a.spare) (ap (λ (r : RowState). r.prefix) e)
    ∙ ap (λ (l : List Live). row b.prefix l a.spare) (ap (λ (r : RowState). r.live) e)
    ∙ ap (λ (c : List Contact). row b.prefix b.live c) (ap (λ (r : RowState). r.spares) e)

rows_once : (a b : List Row) → states_of a ≡ states_of b → a ≡ b
rows_once [] [] e = refl
rows_once [] (y ∷ b) e = absurd cc
rows_once (x ∷ a) [] e = absurd cc
rows_once (x ∷ a) (y ∷ b) e =
    let head : state_of x ≡ state_of y = cc in
    let tail : states_of a ≡ states_of b = cc in
    ap (λ (r : Row). r ∷ a) (row_once x y head) ∙ ap (λ (l : List Row). y ∷ l) (rows_once a b tail)

saved_once : (a b : Saved) → table_of a ≡ table_of b → a ≡ b
saved_once a b e =
    let saved : (own : Id) (k bits : ℕ) (rows : List Row) (siblings : List Contact) → Saved = (λ own k bits rows siblings. record { own = own; k = k; b = bits; rows = rows; siblings = siblings }) in
    ap (λ (x : Id). saved x a.k a.b a.rows a.siblings) (ap (λ (t : TableState). t.own) e)
    ∙ ap (λ (x : ℕ). saved b.own x a.b a.rows a.siblings) (ap (λ (t : TableState). t.k) e)
    ∙ ap (λ (x : ℕ). saved b.own b.k x a.rows a.siblings) (ap (λ (t : TableState). t.b) e)
    ∙ ap (λ (x : List Row). saved b.own b.k b.b x a.siblings) (rows_once a.rows b.rows (ap (λ (t : TableState). t.rows) e))
    ∙ ap (λ (x : List Contact). saved b.own b.k b.b b.rows x) (ap (λ (t : TableState). t.siblings) e)

table_text_once : (s t : TableState) (a b : List ℕ) → s ≡ t → IsTableText s a → IsTableText t b → a ≡ b
table_text_once s t a b e h k = h.is_saved.text ∙ ap saved_text (saved_once h.saved k.saved (h.held ∙ ap unlimited e ∙ sym k.held)) ∙ sym k.is_saved.text

-- one output has one text, if the table isn't wanted, or is the same
pub with_once : (wanted : Bool) (x y : TableState) (p q t u : List ℕ) → p ≡ q → (wanted ≡ false) ⊎ (x ≡ y) → WithTable wanted x p t → WithTable wanted y q u → t ≡ u
with_once false x y p q t u e o h k = h ∙ e ∙ sym k
with_once true x y p q t u e (inl bare) h k = absurd cc
with_once true x y p q t u e (inr same) h k = h.1 ∙ ap (λ (l : List ℕ). l ++ h.0) e ∙ ap (λ (l : List ℕ). q ++ l) (table_text_once x y h.0 k.0 same h.2 k.2) ∙ sym k.1
