-- The records of a string by their places.
use Rattle.std.proofs.Common.{◌≡◌, ℕ, zero, suc, inl, inr, ◌+◌, ◌*◌, ◌/◌, ◌<◌, ◌≤◌, List, [], ◌∷◌, ◌++◌, take, length, Some, None, slice_get, sym, ap, ◌∙◌, arith}
use Rattle.std.proofs.lemmas.List.FromFn.{get_or-map-range_with_len, length-map-range_with_len}
use Rattle.std.proofs.lemmas.Bool.{cases_lt}
use Rattle.std.proofs.lemmas.List.{take_all, take_more}
use Rattle.std.proofs.lemmas.Option.{slice_get-get_or, slice_get_past, slice_get_within, get_or_from_slice_get}
use Rattle.kad_records.specs.Records.{part, records_in}

module _ {A : Type 0} (size : ℕ) (read : List ℕ → A) (bytes : List ℕ) where
  pub records_long : length (records_in size read bytes) ≡ length bytes / size
  records_long = length-map-range_with_len (λ i. read (part (i * size) size bytes)) 0 (length bytes / size)

  pub record_there : (i : ℕ) → i < length bytes / size → slice_get (records_in size read bytes) i ≡ Some (read (part (i * size) size bytes))
  record_there i h =
      let x : A = read (part (i * size) size bytes) in
      slice_get-get_or (records_in size read bytes) i x (let l = records_long in omega (arith, l))
      ∙ ap Some (get_or-map-range_with_len (λ j. read (part (j * size) size bytes)) 0 (length bytes / size) i i x h (omega arith))

  pub no_record : (i : ℕ) → length bytes / size ≤ i → slice_get (records_in size read bytes) i ≡ None
  no_record i h = slice_get_past (records_in size read bytes) i (let l = records_long in omega (arith, l))

pub one_longer : {A : Type 0} (xs : List A) (i : ℕ) (x : A) → Some x ≡ slice_get xs i → take i xs ++ x ∷ [] ≡ take (i + 1) xs
one_longer xs i x e =
    ap (λ y. take i xs ++ y ∷ []) (sym (get_or_from_slice_get xs i x x (sym e))) ∙ sym (take_more xs i x (slice_get_within xs i x (sym e)))

pub all_taken : {A : Type 0} (xs : List A) (i : ℕ) → None ≡ slice_get xs i → take i xs ≡ xs
all_taken xs i e =
    elim (cases_lt i (length xs)) as (λ _. take i xs ≡ xs) [
      | inl h ↦ absurd (within xs i h e)
      | inr h ↦ take_all i xs h
    ]
  where
    within : {A : Type 0} (xs : List A) (i : ℕ) → i < length xs → None ≡ slice_get xs i → ⊥
    within [] i h e = omega arith
    within (x ∷ xs) zero h e = cc
    within (x ∷ xs) (suc i) h e = within xs i (omega arith) e
