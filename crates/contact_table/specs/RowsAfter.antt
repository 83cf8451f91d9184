-- What a contact that was seen, and one that failed, leaves of the rows, as functions of the rows before.
use Rattle.std.specs.Prelude.{ℕ, zero, suc, ◌-◌, Bool, true, false, cond, not, ◌&&◌, nat_le, List, [], ◌∷◌, ◌++◌, length, take, drop, map}
use Rattle.kad_base.specs.declared.types.Id.{Id}
use Rattle.kad_base.specs.declared.types.Contact.{Contact}
use Rattle.bucket_tree.specs.declared.types.Gone.{Gone}
use Rattle.bucket_tree.specs.declared.types.Gone.TheVariants.{Kept, Removed, Replaced, Unknown}
use Rattle.bucket_tree.specs.Partition.{id_bits, begins}
use Rattle.bucket_tree.specs.Rows.{RowState, same_id, may_split}
use Rattle.bucket_tree.specs.BucketSteps.{knows, knows_id, fresh, without, moved, added, spared, half, marked, removed}

-- the rows, of which that of the identifier has others in its place
abbrev pub put_rows : (RowState → List RowState) → Id → List RowState → List RowState
put_rows f id [] = []
put_rows f id (row ∷ rows) = cond (begins row.prefix (id_bits id)) (f row ++ rows) (row ∷ put_rows f id rows)

-- the row has no room for the identifier, which is new to it, and may split
abbrev pub needs_split : Id → ℕ → ℕ → Id → RowState → Bool
needs_split own k b id row = not (knows_id row id) && (nat_le k (length row.live) && may_split own b row.prefix)

-- the row takes the contact in without a split
abbrev pub taken : ℕ → Contact → RowState → RowState
taken k c row = cond (knows row c) (moved c row) (cond (knows_id row c.id) row (cond (nat_le k (length row.live)) (spared k c row) (added c row)))

-- what is in the place of the row of the contact, which splits at most so many times
abbrev pub seen_row : ℕ → Id → ℕ → ℕ → Contact → RowState → List RowState
seen_row zero own k b c row = taken k c row ∷ []
seen_row (suc n) own k b c row = cond (needs_split own k b c.id row) (put_rows (seen_row n own k b c) c.id (half false row ∷ half true row ∷ [])) (taken k c row ∷ [])

-- a prefix has at most 160 bits, so no row splits more often
unfoldable pub seen_rows : Id → ℕ → ℕ → Contact → List RowState → List RowState
seen_rows own k b c rows = cond (same_id c.id own) rows (put_rows (seen_row 160 own k b c) c.id rows)

-- what a failure leaves of its row
abbrev pub failed_row : Gone → Contact → RowState → RowState
failed_row Kept c row = marked c row
failed_row Removed c row = removed c row
failed_row Replaced c row = record {
  prefix = row.prefix;
  live = without c row.live ++ map fresh (drop (length row.spares - 1) row.spares);
  spares = take (length row.spares - 1) row.spares;
}
failed_row Unknown c row = row

-- the rows after a failure: that of the contact has changed
abbrev pub failed_rows : Gone → Contact → List RowState → List RowState
failed_rows gone c rows = put_rows (λ row. failed_row gone c row ∷ []) c.id rows
