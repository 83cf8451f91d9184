-- The seats and the proofs of a table after a call.
use Rattle.std.proofs.Common.{◌≡◌, ◌≢◌, ℕ, ◌<◌, List, refl, sym, subst}
use Rattle.std.specs.List.{All, Contains}
use Rattle.std.specs.BTreeMap.{BTreeMap}
use Rattle.std.proofs.lemmas.List.Elements.{All-contains_itself, All-weaker}
use Rattle.kad_base.specs.declared.types.Id.{Id}
use Rattle.kad_base.specs.declared.types.Contact.{Contact}
use Rattle.kad_distance.specs.KClosest.{k_closest}
use Rattle.kad_distance.proofs.Chosen.{closest_all}
use Rattle.bucket_tree.specs.declared.types.Seen.{Seen}
use Rattle.bucket_tree.specs.declared.types.Gone.{Gone}
use Rattle.bucket_tree.specs.Rows.{RowState, BucketsState, SoundRows}
use Rattle.bucket_tree.specs.BucketSteps.{SeenStep, FailedStep}
use Rattle.sibling_list.specs.Siblings.{SiblingList}
use Rattle.contact_table.specs.declared.seats.Seat.{Seat}
use Rattle.contact_table.specs.declared.calls.TableReply.TheVariants.{Seen as Seen_reply}
use Rattle.contact_table.specs.RowsAfter.{seen_rows}
use Rattle.contact_table.specs.TableState.{TableState}
use Rattle.contact_table.specs.TableStep.{TurnsAway, SeenReplies, contacts_of, seen_siblings, failed_siblings}
use Rattle.contact_table.specs.TakenIn.{IsTakenIn}
use Rattle.contact_table.specs.Told.{held_by}
use Rattle.contact_table.specs.Crowded.{IsNew, IsCrowded}
use Rattle.contact_table.specs.Seats.{IsSeated, HasSeats}
use Rattle.contact_table.specs.Vouched.{Proofs, NoneElse, of_held, reports_of}
use Rattle.contact_table.proofs.Determined.{view_of, seen-is, failed-is}
use Rattle.contact_table.proofs.Holding.{seen-holds, failed-holds, listed}
use Rattle.contact_table.proofs.Vouching.{fewer, reports-held}

-- what holds of all that are held, and of a contact that is new to the buckets, holds after that contact was taken in
taken-holds : (P : Contact → Type 0) (t : BucketsState) (s : SiblingList) (t' : BucketsState) (s' : SiblingList) (c : Contact) (seen : Seen) → s.own ≡ t.own → SoundRows t.own t.k t.b t.rows → IsTakenIn t s c seen t' s'
    → (IsNew t.own t.rows c → P c) → All P (held_by t.rows s.list) → All P (held_by t'.rows s'.list)
taken-holds P t s t' s' c seen own sound taken new all =
    subst (λ (l : List Contact). All P (held_by t'.rows l)) (sym taken.list)
    (subst (λ (o : Id). All P (held_by t'.rows (seen_siblings (record { own = o; list = s.list }) c seen))) (sym own)
    (seen-holds P t.own t.k t.b c t.rows t'.rows seen s.list sound taken.step new all))

gone-holds : (P : Contact → Type 0) (t : BucketsState) (s : SiblingList) (after : List RowState) (siblings : List Contact) (c : Contact) (gone : Gone) → SoundRows t.own t.k t.b t.rows → FailedStep c t.rows gone after
    → siblings ≡ failed_siblings s c gone → All P (held_by t.rows s.list) → All P (held_by after siblings)
gone-holds P t s after siblings c gone sound step list all =
    subst (λ (l : List Contact). All P (held_by after l)) (sym list)
    (subst (λ (r : List RowState). All P (held_by r (failed_siblings s c gone))) (sym (failed-is t.own t.k t.b c t.rows after gone sound step))
    (failed-holds P s.own c t.rows gone s.list all))

-- ---- seats

pub seats-seen : (t : BucketsState) (s : SiblingList) (t' : BucketsState) (s' : SiblingList) (n : ℕ) (m : BTreeMap Seat Contact) (c : Contact) (seen : Seen) → s.own ≡ t.own → SoundRows t.own t.k t.b t.rows → IsTakenIn t s c seen t' s'
    → (0 < n → IsNew t.own t.rows c → IsSeated n m c) → HasSeats n (held_by t.rows s.list) m → HasSeats n (held_by t'.rows s'.list) m
seats-seen t s t' s' n m c seen own sound taken new seats = record {
  are = seats.are;
  each = λ lim. taken-holds (IsSeated n m) t s t' s' c seen own sound taken (new lim) (seats.each lim);
}

pub seats-failed : (t : BucketsState) (s : SiblingList) (after : List RowState) (siblings : List Contact) (n : ℕ) (m : BTreeMap Seat Contact) (c : Contact) (gone : Gone) → SoundRows t.own t.k t.b t.rows → FailedStep c t.rows gone after
    → siblings ≡ failed_siblings s c gone → HasSeats n (held_by t.rows s.list) m → HasSeats n (held_by after siblings) m
seats-failed t s after siblings n m c gone sound step list seats = record {
  are = seats.are;
  each = λ lim. gone-holds (IsSeated n m) t s after siblings c gone sound step list (seats.each lim);
}

-- ---- proofs

pub none-else : (t : BucketsState) (s : SiblingList) (t' : BucketsState) (s' : SiblingList) (c : Contact) (seen : Seen) → s.own ≡ t.own → SoundRows t.own t.k t.b t.rows → IsTakenIn t s c seen t' s'
    → NoneElse (held_by t.rows s.list) c (held_by t'.rows s'.list)
none-else t s t' s' c seen own sound taken =
    let held = held_by t.rows s.list in
    let P = λ (x : Contact). x ≢ c → Contains held x in
    taken-holds P t s t' s' c seen own sound taken (λ _ ne. absurd (ne refl)) (All-weaker (Contains held) P (λ x has ne. has) held (All-contains_itself held))

pub stands-failed : (t : BucketsState) (s : SiblingList) (after : List RowState) (siblings : List Contact) (c : Contact) (gone : Gone) (v : Proofs) → SoundRows t.own t.k t.b t.rows → FailedStep c t.rows gone after
    → siblings ≡ failed_siblings s c gone → of_held (held_by after siblings) v ≡ of_held (held_by after siblings) (of_held (held_by t.rows s.list) v)
stands-failed t s after siblings c gone v sound step list =
    let held = held_by t.rows s.list in
    fewer held (held_by after siblings) v (gone-holds (Contains held) t s after siblings c gone sound step list (All-contains_itself held))

-- those that are named have the proofs that stand
pub named : (t : BucketsState) (s : List Contact) (n : ℕ) (v : Proofs) (whole : TableState) (target : Id) (k : ℕ) → view_of t s n (of_held (held_by t.rows s) v) ≡ whole
    → reports_of v (k_closest target k (contacts_of whole)) ≡ reports_of whole.proofs (k_closest target k (contacts_of whole))
named t s n v whole target k view =
    subst (λ (w : TableState). reports_of v (k_closest target k (contacts_of w)) ≡ reports_of w.proofs (k_closest target k (contacts_of w))) view
    (reports-held held v (k_closest target k (contacts_of mine)) (closest_all target k (contacts_of mine) (Contains held) (listed (Contains held) mine (All-contains_itself held))))
  where
    held : List Contact
    held = held_by t.rows s

    mine : TableState
    mine = view_of t s n (of_held held v)

-- ---- replies

pub stays-away : (t : BucketsState) (s : List Contact) (n : ℕ) (v : Proofs) (whole : TableState) (c : Contact) → view_of t s n v ≡ whole → (IsNew t.own t.rows c → ¬ IsCrowded n (held_by t.rows s) c) → ¬ TurnsAway whole c
stays-away t s n v whole c view free = subst (λ (w : TableState). ¬ TurnsAway w c) view (λ away. free away.0 away.1)

pub seen-replies : (t : BucketsState) (s : SiblingList) (t' : BucketsState) (s' : SiblingList) (n : ℕ) (v : Proofs) (whole : TableState) (c : Contact) (seen : Seen) → view_of t s.list n v ≡ whole → SoundRows t.own t.k t.b t.rows
    → IsTakenIn t s c seen t' s' → (IsNew t.own t.rows c → ¬ IsCrowded n (held_by t.rows s.list) c) → SeenReplies whole c (Seen_reply seen)
seen-replies t s t' s' n v whole c seen view sound taken free = (
  subst (λ (w : TableState). SeenStep w.own w.k w.b c w.rows seen (seen_rows w.own w.k w.b c w.rows)) view
      (subst (SeenStep t.own t.k t.b c t.rows seen) (seen-is t.own t.k t.b c t.rows t'.rows seen sound taken.step) taken.step),
  stays-away t s.list n v whole c view free,
)
