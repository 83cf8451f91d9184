-- What a sound table holds can be written.
use Rattle.std.proofs.Common.{◌≡◌, ℕ, ◌≤◌, List, [], ◌∷◌, Result, Ok, Err, IfOk, sym, subst}
use Rattle.std.specs.Prelude.{All}
use Rattle.std.proofs.lemmas.List.Elements.{All-cons, All-head, All-nil, All-tail}
use Rattle.kad_base.specs.declared.types.Id.{Id}
use Rattle.bucket_tree.specs.Rows.{IsRow}
use Rattle.bucket_tree.specs.States.{state_of, states_of}
use Rattle.bucket_tree.specs.declared.rows.Row.{Row}
use Rattle.contact_table.specs.SavedState.{state_of as table_of}
use Rattle.contact_table.specs.TableState.{SoundTable, TableState, unlimited}
use Rattle.contact_table.specs.declared.saved.Saved.{Saved}
use Rattle.table_file.specs.SavedText.{FailedOnce}

rows_failed_once : (own : Id) (k b : ℕ) (rows : List Row) → All (IsRow own k b) (states_of rows) → FailedOnce rows
rows_failed_once own k b [] h = All-nil (λ row. All (λ e. e.failures ≤ 1) row.live)
rows_failed_once own k b (row ∷ rows) h =
    All-cons (λ row. All (λ e. e.failures ≤ 1) row.live) row rows (All-head (IsRow own k b) (state_of row) (states_of rows) h).failed_once
    (rows_failed_once own k b rows (All-tail (IsRow own k b) (state_of row) (states_of rows) h))

pub can_be_written : {E : Type 0} (r : Result Saved E) (s : TableState) → SoundTable s → IfOk r (λ saved. table_of saved ≡ unlimited s) → IfOk r (λ saved. FailedOnce saved.rows)
can_be_written (Ok saved) s sound e =
    let own : SoundTable (table_of saved) = subst SoundTable (sym e) (record { buckets = sound.buckets; siblings = sound.siblings }) in
    rows_failed_once saved.own saved.k saved.b saved.rows own.buckets.rows.each
can_be_written (Err fault) s sound e = tt
