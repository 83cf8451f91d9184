-- What was settled, and then one thing more.
use Rattle.std.proofs.Common.{◌≡◌, ◌≢◌, ℕ, List, [], ◌∷◌, ◌++◌, length, map, true, refl, sym, ap, ◌∙◌, subst}
use Rattle.std.specs.List.{flat_map}
use Rattle.std.proofs.lemmas.List.{append-nil, append_assoc, map-append}
use Rattle.std.proofs.lemmas.List.Concat.{flat_map-append}
use Rattle.std.proofs.lemmas.List.Elements.{All-nil, All-push, All-append}
use Rattle.kad_base.specs.declared.serial.Made.{Made}
use Rattle.kad_base.specs.Serial.{left_by, IsRun}
use Rattle.kad_base.proofs.Runs.{left_by-append}
use Rattle.contact_table.specs.declared.calls.TableCall.{TableCall}
use Rattle.contact_table.specs.declared.calls.TableReply.{TableReply}
use Rattle.contact_table.specs.declared.calls.TableReply.TheVariants.{NoMemory}
use Rattle.contact_table.specs.TableState.{TableState}
use Rattle.contact_table.specs.TableStep.{TableMay, TableStep, table_after}
use Rattle.claim_book.specs.declared.types.Entry.{Entry}
use Rattle.claim_book.specs.Journal.{settles_on}
use Rattle.claim_book.specs.State.{BookState}
use Rattle.path_worker.specs.Settling.{role_of, seen_with, TellsSeen, Settling, SettlesAll}
use Rattle.path_worker.specs.WorkerSteps.{SettlesOne, IsSettled}

-- a run goes on with another
pub IsRun-append : (s : TableState) (xs ys : List (Made TableCall TableReply)) → IsRun TableMay TableStep table_after s xs → IsRun TableMay TableStep table_after (left_by table_after s xs) ys → IsRun TableMay TableStep table_after s (xs ++ ys)
IsRun-append s [] ys r q = q
IsRun-append s (x ∷ xs) ys r q = (r.0, r.1, IsRun-append (table_after s x.role x.call x.reply) xs ys r.2 q)

pub tells_both : (path : ℕ) (es fs : List Entry) (xs ys : List (Made TableCall TableReply)) → TellsSeen path es xs → TellsSeen path fs ys → TellsSeen path (es ++ fs) (xs ++ ys)
tells_both path es fs xs ys h k = record {
  calls = map-append (λ m. m.call) xs ys ∙ ap (λ l. l ++ map (λ m. m.call) ys) h.calls ∙ ap (λ l. flat_map seen_with es ++ l) k.calls ∙ sym (flat_map-append seen_with es fs);
  roles = All-append (λ m. m.role ≡ role_of path) xs ys h.roles k.roles;
  kept = All-append (λ m. m.reply ≢ NoMemory) xs ys h.kept k.kept;
}

abbrev pub settling_none : (path : ℕ) (book : BookState) (table : TableState) → Settling path book book table table
settling_none path book table = record {
  more = [];
  setting = refl;
  journal = sym (append-nil book.journal);
  settles = All-nil (λ e. settles_on path e ≡ true);
  run = [];
  tells = record { calls = refl; roles = All-nil (λ m. m.role ≡ role_of path); kept = All-nil (λ m. m.reply ≢ NoMemory) };
  is_run = tt;
  leaves = refl;
}

abbrev pub settling_more : (path : ℕ) (a b c : BookState) (t u v : TableState) → Settling path a b t u → SettlesOne path b c u v → Settling path a c t v
settling_more path a b c t u v h k = record {
  more = h.more ++ k.one.entry ∷ [];
  setting = ap (λ (x : BookState). x.setting) k.one.after ∙ h.setting;
  journal = ap (λ (x : BookState). x.journal) k.one.after ∙ ap (λ l. l ++ k.one.entry ∷ []) h.journal ∙ append_assoc a.journal h.more (k.one.entry ∷ []);
  settles = All-push (λ e. settles_on path e ≡ true) h.more k.one.entry h.settles k.one.settles;
  run = h.run ++ k.run;
  tells = tells_both path h.more (k.one.entry ∷ []) h.run k.run h.tells k.tells;
  is_run = IsRun-append t h.run k.run h.is_run (subst (λ s. IsRun TableMay TableStep table_after s k.run) h.leaves k.is_run);
  leaves = k.leaves ∙ ap (λ s. left_by table_after s k.run) h.leaves ∙ sym (left_by-append table_after t h.run k.run);
}

-- nothing changed, and nothing is left
pub settles_all : (path : ℕ) (a b c : BookState) (t u v : TableState) (h : Settling path a b t u) (count : ℕ) → count ≡ length h.more → IsSettled path b c u v → SettlesAll path a c t v count
settles_all path a b c t u v h count n k = record {
  settling = record {
    more = h.more;
    setting = ap (λ (x : BookState). x.setting) k.book_same ∙ h.setting;
    journal = ap (λ (x : BookState). x.journal) k.book_same ∙ h.journal;
    settles = h.settles;
    run = h.run;
    tells = h.tells;
    is_run = h.is_run;
    leaves = k.table_same ∙ h.leaves;
  };
  none_left = k.none_left;
  counted = n;
}
