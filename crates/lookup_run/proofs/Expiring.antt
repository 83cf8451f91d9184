-- Who let the time pass is lost, and the table is told so.
use Rattle.std.proofs.Common.{◌≡◌, ◌≢◌, ℕ, ◌<◌, [], ◌∷◌, refl, sym, ap, subst, ◌∙◌, arith}
use Rattle.std.specs.List.{All, flat_map}
use Rattle.std.proofs.lemmas.List.Elements.{All-cons}
use Rattle.std.proofs.lemmas.List.Concat.{flat_map-append}
use Rattle.kad_base.specs.declared.types.Contact.{Contact}
use Rattle.kad_base.specs.declared.serial.Made.{Made}
use Rattle.query_book.specs.declared.Query.{Query}
use Rattle.contact_table.specs.declared.calls.TableCall.{TableCall}
use Rattle.contact_table.specs.declared.calls.TableCall.TheVariants.{Failed}
use Rattle.contact_table.specs.declared.calls.TableReply.{TableReply}
use Rattle.contact_table.specs.declared.calls.TableReply.TheVariants.{Gone as Gone_reply, NoMemory}
use Rattle.contact_table.specs.TableState.{TableState}
use Rattle.contact_table.specs.TableStep.{TableStep, table_after}
use Rattle.claim_book.specs.declared.types.Cause.TheVariants.{Timeout}
use Rattle.claim_book.specs.declared.types.Entry.TheVariants.{Lost}
use Rattle.lookup_core.specs.LookupSteps.{Holds, LosesOldest}
use Rattle.lookup_core.proofs.Expiring.{Expiring as ExpiringOne, lost_so_far, none_expired as none_yet, none_lost, oldest_expires as one_more, all_expired as all_gone, closed_all}
use Rattle.lookup_run.specs.declared.types.LookupState.{LookupState}
use Rattle.lookup_run.specs.Rounds.{sequential}
use Rattle.lookup_run.specs.Lookup.{told_of, TableTold}
use Rattle.lookup_run.specs.inner.RoundSteps.{Expires}
use Rattle.lookup_run.proofs.Walking.{table_then, table_same}

some_reply : (c : Contact) (t : TableState) (r : TableReply) → TableStep t 0 (Failed c) r → r ≢ NoMemory
some_reply c t (Gone_reply gone) step e = absurd cc
some_reply c t other step e = absurd step

-- the table was told of one that failed
pub told_failed : (c : Contact) (t u : TableState) (r : TableReply) → TableStep t 0 (Failed c) r → u ≡ table_after t 0 (Failed c) r → TableTold (record { role = 0; call = Failed c } ∷ []) t u
told_failed c t u r step after = record {
  run = record { role = 0; call = Failed c; reply = r } ∷ [];
  is_run = (refl, step, tt);
  leaves = after;
  calls_are = refl;
  kept = All-cons (λ (m : Made TableCall TableReply). m.reply ≢ NoMemory) (record { role = 0; call = Failed c; reply = r }) [] (some_reply c t r step) (λ k d lt. absurd (omega arith));
}

-- ---- the loop

-- the lookup lost some, and the table was told of just these
pub record Expiring (at : ℕ) (old new : LookupState) : Type 0 where
  pub one : ExpiringOne at old.lookup new.lookup
  pub table : TableTold (flat_map told_of (lost_so_far at old.lookup new.lookup one)) old.table new.table
  pub progress : new.progress ≡ old.progress
  pub gathered : new.gathered ≡ old.gathered

pub none_expired : (at : ℕ) (w : LookupState) → Holds w.lookup → Expiring at w w
none_expired at w holds = record { one = none_yet at w.lookup holds; table = subst (λ l. TableTold (flat_map told_of l) w.table w.table) (sym (none_lost at w.lookup holds)) (table_same w.table w.table refl); progress = refl; gathered = refl }

pub oldest_expires : (at : ℕ) (old w v : LookupState) (c : Contact) → Expiring at old w → LosesOldest at c w.lookup v.lookup → TableTold (record { role = 0; call = Failed c } ∷ []) w.table v.table → v.progress ≡ w.progress → v.gathered ≡ w.gathered → Expiring at old v
oldest_expires at old w v c h loses table progress gathered =
    let more = one_more at c old.lookup w.lookup v.lookup h.one loses in
    let told = lost_so_far at old.lookup w.lookup h.one in
    record {
      one = more.expiring;
      table = subst (λ calls. TableTold calls old.table v.table) (sym (ap (flat_map told_of) more.lost ∙ flat_map-append told_of told (Lost more.path c Timeout ∷ [])))
          (table_then sequential (flat_map told_of told) (record { role = 0; call = Failed c } ∷ []) old.table w.table v.table h.table table);
      progress = progress ∙ h.progress;
      gathered = gathered ∙ h.gathered;
    }

pub all_expired : (at : ℕ) (old new : LookupState) → Expiring at old new → All (λ (q : Query). at < q.deadline) new.lookup.queries → Expires at old new
all_expired at old new h none = record {
  loses = all_gone at old.lookup new.lookup h.one none;
  table = subst (λ l. TableTold (flat_map told_of l) old.table new.table) (sym (closed_all at old.lookup new.lookup h.one none)) h.table;
  progress = h.progress;
  gathered = h.gathered;
}
