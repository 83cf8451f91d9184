-- A sound table stays sound.
use Rattle.std.proofs.Common.{◌≡◌, ℕ, ◌<◌, ◌≤◌, List, [], ◌∷◌, ◌++◌, Bool, true, false, cond, refl, sym, subst, arith}
use Rattle.std.specs.Str.{bytes_eq}
use Rattle.kad_base.specs.Limits.{max_siblings}
use Rattle.kad_base.specs.declared.types.Id.{Id}
use Rattle.kad_base.specs.declared.types.Contact.{Contact}
use Rattle.kad_base.specs.declared.serial.Made.{Made}
use Rattle.kad_base.specs.Serial.{IsRun, left_by}
use Rattle.kad_distance.specs.KClosest.{k_closest}
use Rattle.bucket_tree.specs.declared.types.Seen.{Seen}
use Rattle.bucket_tree.specs.declared.types.Seen.TheVariants.{Added, Moved, Spared, Conflict, Own}
use Rattle.bucket_tree.specs.declared.types.Gone.{Gone}
use Rattle.bucket_tree.specs.declared.types.Gone.TheVariants.{Kept, Removed, Replaced, Unknown}
use Rattle.bucket_tree.specs.Rows.{RowState, IsRow, SoundRows, Sound}
use Rattle.bucket_tree.specs.BucketSteps.{half, SeenStep, is_own, in_row, split, FailedStep, InItsRow}
use Rattle.bucket_tree.proofs.Every.{all-here, count-append}
use Rattle.bucket_tree.proofs.Places.{covers, one-covers}
use Rattle.bucket_tree.proofs.RowsKept.{sound-put, sound-split, sound-new}
use Rattle.bucket_tree.proofs.RowSteps.{seen-kept, failed-kept}
use Rattle.sibling_list.specs.Siblings.{SiblingList, IsSiblings, with_one, without_one}
use Rattle.sibling_list.proofs.Listing.{none_yet, grows, stays}
use Rattle.contact_table.specs.declared.calls.TableCall.{TableCall}
use Rattle.contact_table.specs.declared.calls.TableCall.TheVariants.{Seen as Seen_call, Vouched, Failed, Closest, Vouchers}
use Rattle.contact_table.specs.declared.calls.TableReply.{TableReply}
use Rattle.contact_table.specs.declared.calls.TableReply.TheVariants.{Seen as Seen_reply, Gone as Gone_reply, List as List_reply, Reports as Reports_reply, Crowded, NoMemory}
use Rattle.contact_table.specs.TableState.{TableState, SoundTable}
use Rattle.contact_table.specs.TableStep.{TableMay, TableStep, table_after, after_seen, seen_siblings, failed_siblings}
use Rattle.contact_table.specs.RowsAfter.{seen_rows, failed_rows}
use Rattle.contact_table.specs.Told.{limited_table, new_table}
use Rattle.contact_table.specs.Vouched.{Proofs, noted}
use Rattle.contact_table.proofs.Determined.{one-row, halves-of, some-covers}

module _ (own : Id) (k b : ℕ) where
  seen-sound : (c : Contact) (rows after : List RowState) (seen : Seen) → 0 < k → SoundRows own k b rows → SeenStep own k b c rows seen after → SoundRows own k b after
  seen-sound c rows after seen some s (is_own o) = s
  seen-sound c rows after seen some s (in_row f g row row' o e here w t q) =
      let all = subst (SoundRows own k b) e s in
      let kept = seen-kept own k b c row seen row' some (all-here (IsRow own k b) f row g all.each) here o w t in
      subst (SoundRows own k b) (sym q) (sound-put own k b f row row' g all kept.0 kept.1)
  seen-sound c rows after seen some s (split f g row o e here n t) =
      let all = subst (SoundRows own k b) e s in
      let one = one-covers c.id (f ++ row ∷ g) all.partition all.short in
      let alone = one-row c.id f row g (omega (arith, one)) here in
      let some_half = some-covers own k b c (f ++ half false row ∷ half true row ∷ g) after seen t o in
      let parts = count-append (covers c.id) f (half false row ∷ half true row ∷ g) in
      let tail = count-append (covers c.id) (half false row ∷ half true row ∷ []) g in
      let halves = halves-of c.id row here (omega (arith, alone.0, alone.1, some_half, parts, tail)) in
      seen-sound c (f ++ half false row ∷ half true row ∷ g) after seen some (sound-split own k b f row g all halves.fits) t

  row-sound : (c : Contact) (rows after : List RowState) (gone : Gone) → SoundRows own k b rows → InItsRow c gone rows after → SoundRows own k b after
  row-sound c rows after gone s i =
      let all = subst (SoundRows own k b) i.rows_are s in
      let kept = failed-kept own k b c i.row gone i.row' (all-here (IsRow own k b) i.front i.row i.back all.each) i.step in
      subst (SoundRows own k b) (sym i.after_are) (sound-put own k b i.front i.row i.row' i.back all kept.0 kept.1)

  failed-sound : (c : Contact) (rows after : List RowState) (gone : Gone) → SoundRows own k b rows → FailedStep c rows gone after → SoundRows own k b after
  failed-sound c rows after Unknown s t = subst (SoundRows own k b) (sym t.1) s
  failed-sound c rows after Kept s t = row-sound c rows after Kept s t
  failed-sound c rows after Removed s t = row-sound c rows after Removed s t
  failed-sound c rows after Replaced s t = row-sound c rows after Replaced s t

list_of : Id → List Contact → SiblingList
list_of own list = record { own = own; list = list }

with-sound : (own : Id) (S : List Contact) (c : Contact) → IsSiblings (record { own = own; list = S }) → IsSiblings (record { own = own; list = with_one (record { own = own; list = S }) c })
with-sound own S c s = go (bytes_eq c.id.0 own.0) refl
  where
    go : (t : Bool) → bytes_eq c.id.0 own.0 ≡ t → IsSiblings (record { own = own; list = cond t S (k_closest own max_siblings (S ++ c ∷ [])) })
    go true e = s
    go false e = (grows own S (k_closest own max_siblings (S ++ c ∷ [])) max_siblings c (sym e) refl s (omega arith)).0

without-sound : (own : Id) (S : List Contact) (c : Contact) → IsSiblings (record { own = own; list = S }) → IsSiblings (record { own = own; list = without_one (record { own = own; list = S }) c })
without-sound own S c s = (stays own S (without_one (record { own = own; list = S }) c) max_siblings max_siblings c refl (s, omega arith) refl).0

seen-siblings : (own : Id) (S : List Contact) (c : Contact) (seen : Seen) → IsSiblings (record { own = own; list = S }) → IsSiblings (record { own = own; list = seen_siblings (record { own = own; list = S }) c seen })
seen-siblings own S c Added s = with-sound own S c s
seen-siblings own S c Moved s = with-sound own S c s
seen-siblings own S c Spared s = with-sound own S c s
seen-siblings own S c Conflict s = s
seen-siblings own S c Own s = s

failed-siblings : (own : Id) (S : List Contact) (c : Contact) (gone : Gone) → IsSiblings (record { own = own; list = S }) → IsSiblings (record { own = own; list = failed_siblings (record { own = own; list = S }) c gone })
failed-siblings own S c Kept s = s
failed-siblings own S c Removed s = without-sound own S c s
failed-siblings own S c Replaced s = without-sound own S c s
failed-siblings own S c Unknown s = without-sound own S c s

with-parts : (s : TableState) (rows : List RowState) → Sound (record { own = s.own; k = s.k; b = s.b; rows = s.rows }) → SoundRows s.own s.k s.b rows → Sound (record { own = s.own; k = s.k; b = s.b; rows = rows })
with-parts s rows q r = record { some_live = q.some_live; few_live = q.few_live; some_bits = q.some_bits; few_bits = q.few_bits; rows = r }

after-sound : (s : TableState) (c : Contact) (seen : Seen) (proofs : Proofs) → SoundTable s → SeenStep s.own s.k s.b c s.rows seen (seen_rows s.own s.k s.b c s.rows) → SoundTable (after_seen s c seen proofs)
after-sound s c seen proofs q t = record {
  buckets = with-parts s (seen_rows s.own s.k s.b c s.rows) q.buckets (seen-sound s.own s.k s.b c s.rows (seen_rows s.own s.k s.b c s.rows) seen q.buckets.some_live q.buckets.rows t);
  siblings = seen-siblings s.own s.siblings c seen q.siblings;
}

pub step-sound : (s : TableState) (role : ℕ) (call : TableCall) (x : TableReply) → SoundTable s → TableStep s role call x → SoundTable (table_after s role call x)
step-sound s role (Seen_call c) (Seen_reply seen) q t = after-sound s c seen s.proofs q t.0
step-sound s role (Seen_call c) Crowded q t = q
step-sound s role (Seen_call c) NoMemory q t = q
step-sound s role (Seen_call c) (Gone_reply g) q t = absurd t
step-sound s role (Seen_call c) (List_reply l) q t = absurd t
step-sound s role (Seen_call c) (Reports_reply l) q t = absurd t
step-sound s role (Vouched c p) (Seen_reply seen) q t = after-sound s c seen (noted c p s.proofs) q t.0
step-sound s role (Vouched c p) Crowded q t = q
step-sound s role (Vouched c p) NoMemory q t = q
step-sound s role (Vouched c p) (Gone_reply g) q t = absurd t
step-sound s role (Vouched c p) (List_reply l) q t = absurd t
step-sound s role (Vouched c p) (Reports_reply l) q t = absurd t
step-sound s role (Failed c) (Gone_reply gone) q t = record {
  buckets = with-parts s (failed_rows gone c s.rows) q.buckets (failed-sound s.own s.k s.b c s.rows (failed_rows gone c s.rows) gone q.buckets.rows t);
  siblings = failed-siblings s.own s.siblings c gone q.siblings;
}
step-sound s role (Failed c) (Seen_reply x) q t = absurd t
step-sound s role (Failed c) (List_reply x) q t = absurd t
step-sound s role (Failed c) (Reports_reply x) q t = absurd t
step-sound s role (Failed c) Crowded q t = absurd t
step-sound s role (Failed c) NoMemory q t = absurd t
step-sound s role (Closest target n) (List_reply x) q t = q
step-sound s role (Closest target n) NoMemory q t = q
step-sound s role (Closest target n) Crowded q t = absurd t
step-sound s role (Closest target n) (Seen_reply x) q t = absurd t
step-sound s role (Closest target n) (Gone_reply x) q t = absurd t
step-sound s role (Closest target n) (Reports_reply x) q t = absurd t
step-sound s role (Vouchers target n) x q t = q

pub run-sound : (s : TableState) (run : List (Made TableCall TableReply)) → SoundTable s → IsRun TableMay TableStep table_after s run → SoundTable (left_by table_after s run)
run-sound s [] q r = q
run-sound s (e ∷ run) q r = run-sound (table_after s e.role e.call e.reply) run (step-sound s e.role e.call e.reply q r.1) r.2

pub limited-sound : (own : Id) (k b n : ℕ) → 0 < k → k ≤ 20 → 0 < b → b ≤ 5 → SoundTable (limited_table own k b n)
limited-sound own k b n some few bits few_bits = record { buckets = sound-new own k b (record { prefix = []; live = []; spares = [] } ∷ []) refl some few bits few_bits; siblings = none_yet own [] refl }

pub new-sound : (own : Id) (k b : ℕ) → 0 < k → k ≤ 20 → 0 < b → b ≤ 5 → SoundTable (new_table own k b)
new-sound own k b some few bits few_bits = limited-sound own k b 0 some few bits few_bits
