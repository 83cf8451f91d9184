-- What the rows keep when one of them changes or splits.
use Rattle.std.proofs.Common.{◌≡◌, ℕ, ◌<◌, ◌≤◌, List, [], ◌∷◌, ◌++◌, length, Bool, true, false, sym, ap, subst, ◌∙◌, arith}
use Rattle.std.proofs.lemmas.List.{map-append, length-append}
use Rattle.std.proofs.lemmas.List.Elements.{All-append, All-cons, All-nil}
use Rattle.kad_base.specs.declared.types.Id.{Id}
use Rattle.kad_base.specs.declared.types.Contact.{Contact}
use Rattle.bucket_tree.specs.declared.types.Live.{Live}
use Rattle.bucket_tree.specs.Partition.{id_bits, begins, Partition, Ascending, whole}
use Rattle.bucket_tree.specs.Rows.{RowState, IsRow, SoundRows, Sound, prefix_of, prefixes_of, same_id}
use Rattle.bucket_tree.specs.BucketSteps.{half}
use Rattle.bucket_tree.proofs.Shares.{partition-split, ascending-split}
use Rattle.bucket_tree.proofs.Every.{all-left, all-after, all-here, all-put, all-one}
use Rattle.bucket_tree.proofs.RowKept.{row_of, half-kept}

prefixes-at : (front : List RowState) (row : RowState) (back : List RowState) → prefixes_of (front ++ row ∷ back) ≡ prefixes_of front ++ row.prefix ∷ prefixes_of back
prefixes-at front row back = map-append prefix_of front (row ∷ back)

module _ (own : Id) (k b : ℕ) where
  pub sound-put : (front : List RowState) (row row' : RowState) (back : List RowState) → SoundRows own k b (front ++ row ∷ back) → IsRow own k b row' → row'.prefix ≡ row.prefix → SoundRows own k b (front ++ row' ∷ back)
  sound-put front row row' back s is e =
      let prefixes : prefixes_of (front ++ row ∷ back) ≡ prefixes_of (front ++ row' ∷ back) =
      prefixes-at front row back ∙ ap (λ (p : List Bool). prefixes_of front ++ p ∷ prefixes_of back) (sym e) ∙ sym (prefixes-at front row' back) in
      let short = all-here (λ (r : RowState). length r.prefix ≤ 160) front row back s.short in
      record {
        partition = subst Partition prefixes s.partition;
        ascending = subst Ascending prefixes s.ascending;
        short = all-put (λ (r : RowState). length r.prefix ≤ 160) front row row' back s.short (subst (λ (p : List Bool). length p ≤ 160) (sym e) short);
        each = all-put (IsRow own k b) front row row' back s.each is;
      }

  pub sound-split : (front : List RowState) (row : RowState) (back : List RowState) → SoundRows own k b (front ++ row ∷ back) → length row.prefix < 160 → SoundRows own k b (front ++ half false row ∷ half true row ∷ back)
  sound-split front row back s lt =
      let prefixes = map-append prefix_of front (half false row ∷ half true row ∷ back) in
      let is = all-here (IsRow own k b) front row back s.each in
      let longer = λ (bit : Bool). length-append row.prefix (bit ∷ []) in
      let zero_len = longer false in
      let one_len = longer true in
      record {
        partition = subst Partition (sym prefixes) (partition-split (prefixes_of (front ++ row ∷ back)) (prefixes_of front) (prefixes_of back) row.prefix s.partition (prefixes-at front row back));
        ascending = subst Ascending (sym prefixes) (ascending-split (prefixes_of front) (prefixes_of back) row.prefix (subst Ascending (prefixes-at front row back) s.ascending));
        short = All-append (λ (r : RowState). length r.prefix ≤ 160) front (half false row ∷ half true row ∷ back) (all-left (λ (r : RowState). length r.prefix ≤ 160) front (row ∷ back) s.short)
            (All-cons (λ (r : RowState). length r.prefix ≤ 160) (half false row) (half true row ∷ back) (omega (arith, zero_len))
            (All-cons (λ (r : RowState). length r.prefix ≤ 160) (half true row) back (omega (arith, one_len)) (all-after (λ (r : RowState). length r.prefix ≤ 160) front row back s.short)));
        each = All-append (IsRow own k b) front (half false row ∷ half true row ∷ back) (all-left (IsRow own k b) front (row ∷ back) s.each)
            (All-cons (IsRow own k b) (half false row) (half true row ∷ back) (half-kept own k b false row is)
            (All-cons (IsRow own k b) (half true row) back (half-kept own k b true row is) (all-after (IsRow own k b) front row back s.each)));
      }

-- one empty row
pub sound-new : (own : Id) (k b : ℕ) (rows : List RowState) → rows ≡ row_of [] [] [] ∷ [] → 0 < k → k ≤ 20 → 0 < b → b ≤ 5 → Sound (record { own = own; k = k; b = b; rows = rows })
sound-new own k b rows e some few bits few_bits = record {
  some_live = some;
  few_live = few;
  some_bits = bits;
  few_bits = few_bits;
  rows = subst (SoundRows own k b) (sym e) (record {
    partition = whole;
    ascending = (tt, tt);
    short = all-one (λ (r : RowState). length r.prefix ≤ 160) (row_of [] [] []) (omega arith);
    each = all-one (IsRow own k b) (row_of [] [] []) (record {
      few = omega arith;
      few_spares = omega arith;
      failed_once = All-nil (λ (x : Live). x.failures ≤ 1);
      covered = All-nil (λ (x : Contact). begins [] (id_bits x.id) ≡ true);
      others = All-nil (λ (x : Contact). same_id x.id own ≡ false);
      once = λ id. omega arith;
      spares_full = λ lt. absurd (omega arith);
      spares_stay = λ lt. absurd (omega arith);
    });
  });
}
