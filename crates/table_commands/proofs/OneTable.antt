-- A table has one saved text.
use Rattle.std.proofs.Common.{◌≡◌, ℕ, List, [], ◌∷◌, Bool, refl, sym, ap, ◌∙◌}
use Rattle.kad_base.specs.declared.types.Id.{Id}
use Rattle.kad_base.specs.declared.types.Contact.{Contact}
use Rattle.bucket_tree.specs.declared.types.Live.{Live}
use Rattle.bucket_tree.specs.declared.rows.Row.{Row}
use Rattle.bucket_tree.specs.Rows.{RowState}
use Rattle.bucket_tree.specs.States.{state_of as row_state, states_of}
use Rattle.contact_table.specs.declared.saved.Saved.{Saved}
use Rattle.contact_table.specs.SavedState.{state_of}
use Rattle.contact_table.specs.TableState.{TableState, unlimited}
use Rattle.table_file.specs.SavedText.{saved_text}
use Rattle.table_commands.specs.Tabled.{IsTextOf}

-- ---- its text

row_once : (a b : Row) → row_state a ≡ row_state b → a ≡ b
row_once a b e =
    let row : (p : List Bool) (l : List Live) (c : List Contact) → Row = (λ p l c. record { prefix = p; live = l; spare = c }) in
    ap (λ (p : List Bool). row p a.live a.spare) (ap (λ (r : RowState). r.prefix) e)
    ∙ ap (λ (l : List Live). row b.prefix l a.spare) (ap (λ (r : RowState). r.live) e)
    ∙ ap (λ (c : List Contact). row b.prefix b.live c) (ap (λ (r : RowState). r.spares) e)

rows_once : (a b : List Row) → states_of a ≡ states_of b → a ≡ b
rows_once [] [] e = refl
rows_once [] (y ∷ b) e = absurd cc
rows_once (x ∷ a) [] e = absurd cc
rows_once (x ∷ a) (y ∷ b) e =
    let head : row_state x ≡ row_state y = cc in
    let tail : states_of a ≡ states_of b = cc in
    ap (λ (r : Row). r ∷ a) (row_once x y head) ∙ ap (λ (l : List Row). y ∷ l) (rows_once a b tail)

saved_once : (a b : Saved) → state_of a ≡ state_of b → a ≡ b
saved_once a b e =
    let saved : (own : Id) (k bits : ℕ) (rows : List Row) (siblings : List Contact) → Saved = (λ own k bits rows siblings. record { own = own; k = k; b = bits; rows = rows; siblings = siblings }) in
    ap (λ (x : Id). saved x a.k a.b a.rows a.siblings) (ap (λ (t : TableState). t.own) e)
    ∙ ap (λ (x : ℕ). saved b.own x a.b a.rows a.siblings) (ap (λ (t : TableState). t.k) e)
    ∙ ap (λ (x : ℕ). saved b.own b.k x a.rows a.siblings) (ap (λ (t : TableState). t.b) e)
    ∙ ap (λ (x : List Row). saved b.own b.k b.b x a.siblings) (rows_once a.rows b.rows (ap (λ (t : TableState). t.rows) e))
    ∙ ap (λ (x : List Contact). saved b.own b.k b.b b.rows x) (ap (λ (t : TableState). t.siblings) e)

pub text_once : (s t : TableState) (a b : List ℕ) → s ≡ t → IsTextOf s a → IsTextOf t b → a ≡ b
text_once s t a b e h k = h.is_saved.text ∙ ap saved_text (saved_once h.saved k.saved (h.held ∙ ap unlimited e ∙ sym k.held)) ∙ sym k.is_saved.text
