-- One thing of the path: a contact that answered is told and noted, a report is settled.
use Rattle.std.proofs.Common.{◌≡◌, ◌≢◌, ℕ, ◌+◌, List, [], ◌∷◌, Some, true, refl, sym, ap, ◌∙◌, subst, arith}
use Rattle.std.proofs.lemmas.Bool.{eq-eqb}
use Rattle.std.specs.List.{All}
use Rattle.std.proofs.lemmas.List.{append-nil}
use Rattle.std.proofs.lemmas.List.Elements.{All-nil, All-push}
use Rattle.kad_base.specs.declared.types.Contact.{Contact}
use Rattle.kad_base.specs.declared.types.Report.{Report}
use Rattle.kad_base.specs.Serial.{made}
use Rattle.contact_table.specs.declared.calls.TableCall.TheVariants.{Seen}
use Rattle.contact_table.specs.declared.calls.TableReply.TheVariants.{NoMemory}
use Rattle.contact_table.specs.TableState.{TableState}
use Rattle.claim_book.specs.declared.types.Thing.TheVariants.{Responder}
use Rattle.claim_book.specs.declared.types.Entry.TheVariants.{Note as Note_entry, Taken as Taken_entry, Held as Held_entry, Turned as Turned_entry, Rejected as Rejected_entry, Skipped as Skipped_entry}
use Rattle.claim_book.specs.declared.types.Entry.{Entry}
use Rattle.claim_book.specs.declared.calls.BookReply.{BookReply}
use Rattle.claim_book.specs.declared.calls.BookReply.TheVariants.{Kept, Alive, Report as Report_reply, Idle, NotFront, Taken, Held, Turned, Rejected, Skipped}
use Rattle.claim_book.specs.CheckedState.{CheckedState}
use Rattle.claim_book.specs.Journal.{settles_on, unsettled, first_unsettled}
use Rattle.claim_book.specs.State.{BookState, added}
use Rattle.claim_book.specs.Calls.{PullStep, NoteStep, SettleStep, IsFront, settle_entry, after_kept, after_settle, path_of_role}
use Rattle.claim_book.proofs.Progress.{settled_less, noted_less}
use Rattle.path_worker.specs.Settling.{role_of, seen_with}
use Rattle.path_worker.specs.WorkerSteps.{IsTold, SettlesEntry, SettlesReport, SettlesOne}

-- the path of the worker's role
pub worker_path : (path : ℕ) → path_of_role (path + 1) ≡ path
worker_path path = omega arith

all_one : {A : Type 0} (P : A → Type 0) (x : A) → P x → All P (x ∷ [])
all_one P x p = All-push P [] x (All-nil P) p

pub note_one : (path q : ℕ) (old : BookState) (c : Contact) (reply : BookReply) (before after : TableState) → q ≡ path → first_unsettled path old.journal ≡ Some (Responder c) → NoteStep old.journal q c reply → IsTold path c before after → SettlesOne path old (after_kept old (Note_entry q c) reply) before after
note_one path q old c reply before after is first step told = subst (λ q. SettlesOne path old (after_kept old (Note_entry q c) reply) before after) (sym is) (here reply (subst (λ q. NoteStep old.journal q c reply) is step))
  where
    here : (reply : BookReply) → NoteStep old.journal path c reply → SettlesOne path old (after_kept old (Note_entry path c) reply) before after
    here Kept step = record {
      one = record { entry = Note_entry path c; after = refl; settles = eq-eqb path path refl; less = noted_less old.setting old.journal path c step };
      run = made (role_of path) (Seen c) told.reply ∷ [];
      tells = record {
        calls = refl;
        roles = all_one (λ m. m.role ≡ role_of path) (made (role_of path) (Seen c) told.reply) refl;
        kept = all_one (λ m. m.reply ≢ NoMemory) (made (role_of path) (Seen c) told.reply) told.kept;
      };
      is_run = (tt, told.step, tt);
      leaves = told.leaves;
    }
    here NotFront step = absurd (step first)
    here other step = absurd step

abbrev one_entry : (path : ℕ) (old : BookState) (checked : CheckedState) (reply : BookReply) (e : Entry) → SettleStep old.setting old.journal path checked reply → settle_entry path checked.report reply ≡ Some e → settles_on path e ≡ true → SettlesEntry path old (added old e)
one_entry path old checked reply e step is settles = record { entry = e; after = refl; settles = settles; less = settled_less old.setting old.journal path checked reply e step is }

pub settle_one : (path q : ℕ) (old : BookState) (checked : CheckedState) (reply : BookReply) → q ≡ path → IsFront old.setting old.journal path checked → SettleStep old.setting old.journal q checked reply → SettlesReport path old (after_settle old q checked reply)
settle_one path q old checked reply is front step = subst (λ q. SettlesReport path old (after_settle old q checked reply)) (sym is) (here reply (subst (λ q. SettleStep old.setting old.journal q checked reply) is step))
  where
    here : (reply : BookReply) → SettleStep old.setting old.journal path checked reply → SettlesReport path old (after_settle old path checked reply)
    here Skipped step = record { one = one_entry path old checked Skipped (Skipped_entry path checked.report) step refl (eq-eqb path path refl); tells_none = refl }
    here Rejected step = record { one = one_entry path old checked Rejected (Rejected_entry path checked.report) step refl (eq-eqb path path refl); tells_none = refl }
    here (Held by) step = record { one = one_entry path old checked (Held by) (Held_entry path checked.report.contact by) step refl (eq-eqb path path refl); tells_none = refl }
    here Turned step = record { one = one_entry path old checked Turned (Turned_entry path checked.report.contact) step refl (eq-eqb path path refl); tells_none = refl }
    here Taken step = record { one = one_entry path old checked Taken (Taken_entry path checked.report.contact) step refl (eq-eqb path path refl); tells_none = refl }
    here NotFront step = absurd (step front)
    here other step = absurd step

-- of a report the table isn't told
pub report_one : (path : ℕ) (old new : BookState) (table : TableState) → SettlesReport path old new → SettlesOne path old new table table
report_one path old new table h = record {
  one = h.one;
  run = [];
  tells = record {
    calls = sym (append-nil (seen_with h.one.entry) ∙ h.tells_none);
    roles = All-nil (λ m. m.role ≡ role_of path);
    kept = All-nil (λ m. m.reply ≢ NoMemory);
  };
  is_run = tt;
  leaves = refl;
}

-- the reply that is neither of the first two says that nothing is left
pub nothing_left : (J : List Entry) (p q : ℕ) (reply : BookReply) → q ≡ p → ((c : Contact) → reply ≢ Alive c) → ((r : Report) → reply ≢ Report_reply r) → PullStep J q reply → unsettled p J ≡ []
nothing_left J p q (Alive c) is a r step = absurd (a c refl)
nothing_left J p q (Report_reply x) is a r step = absurd (r x refl)
nothing_left J p q Idle is a r step = ap (λ n. unsettled n J) (sym is) ∙ step
nothing_left J p q other is a r step = absurd step
