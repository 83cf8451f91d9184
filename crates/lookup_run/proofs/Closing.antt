-- A lookup has gone its rounds: what follows for what it answers.
use Rattle.std.proofs.Common.{◌≡◌, ◌≢◌, ◌≤◌, ℕ, List, [], Option, inl, inr, refl, sym, arith, Result, Ok, Err, IfOk, subst, ◌∙◌, ◌<◌}
use Rattle.std.specs.Prelude.{IfErr, OnOk, OnErr, IsErrOf}
use Rattle.std.specs.List.{All}
use Rattle.std.proofs.lemmas.Bool.{false≢true}
use Rattle.kad_base.specs.declared.types.Event.{Event}
use Rattle.kad_base.specs.Contacts.{IsUsable}
use Rattle.kad_base.specs.Limits.{max_strays}
use Rattle.kad_base.specs.Outside.{Grows, Rose}
use Rattle.id_puzzles.specs.Drawn.{WordsState}
use Rattle.contact_table.specs.TableState.{TableState}
use Rattle.contact_table.specs.TableStep.{contacts_of}
use Rattle.claim_book.specs.State.{BookState}
use Rattle.claim_book.specs.Legal.{Legal}
use Rattle.claim_book.proofs.Descent.{own_answers}
use Rattle.lookup_run.specs.declared.types.LookFault.{LookFault}
use Rattle.lookup_run.specs.declared.types.LookFault.TheVariants.{NoMemory, Strays, LinkFault}
use Rattle.lookup_run.specs.declared.types.LookSetting.{LookSetting}
use Rattle.lookup_run.specs.declared.types.Outcome.{Outcome}
use Rattle.lookup_run.specs.declared.types.LookupState.{LookupState}
use Rattle.lookup_run.specs.Tells.{HasFewStrays}
use Rattle.lookup_run.specs.Rounds.{Scheduling}
use Rattle.lookup_run.specs.Lookup.{setting_of, given_of, seeds_in, table_calls, TableToldBy, TableRan, LooksUp}
use Rattle.lookup_run.specs.inner.RoundSteps.{IsOver, StopsRound, RoundEndsByStray, RoundFewStrays, IsClosed}
use Rattle.lookup_run.proofs.Looking.{Opening, Ends, journal_of, along_of, ends_of, never_began, looks_up, goes_by_rounds, gathered_all, none_gathered, table_told}
use Rattle.lookup_core.specs.SendFaults.{RefusedIn, Refuses}
use Rattle.lookup_core.proofs.Refusing.{refused_seeded, refused_more}
use Rattle.lookup_core.specs.Sealed.{Accepts}

pub on_ok_then : {T F X Y : Type 0} (r : Result T F) → OnOk r X → (X → Y) → OnOk r Y
on_ok_then (Ok x) h k = k h
on_ok_then (Err e) h k = tt

on_ok_both : {T F : Type 0} (X Y : Type 0) (r : Result T F) → OnOk r X → OnOk r Y → OnOk r (X × Y)
on_ok_both X Y (Ok x) h k = (h, k)
on_ok_both X Y (Err e) h k = tt

-- what it found
pub closed_well : {X : Type 0} (work : LookupState) (ended : Result (Unit {0}) LookFault) (r : Result Outcome LookFault) (Q : Outcome → Type 0) → OnOk ended X → IfOk r (IsClosed work ended) → (X → (o : Outcome) → IsClosed work ended o → Q o) → IfOk r Q
closed_well work (Ok u) (Ok o) Q x h k = k x o h
closed_well work (Err e) (Ok o) Q x h k = absurd (false≢true h.well)
closed_well work ended (Err e) Q x h k = tt

-- what holds where it found nothing
pub closed_early : {X Y : Type 0} (ended : Result (Unit {0}) LookFault) (r : Result Outcome LookFault) (Q : Type 0) → OnOk ended X → OnErr ended Y → (X → Q) → (Y → Q) → IfErr r (λ _. Q)
closed_early (Ok u) (Err e) Q x y f g = f x
closed_early (Err d) (Err e) Q x y f g = g y
closed_early ended (Ok o) Q x y f g = tt

-- a fault but want of memory is that of its rounds
pub same_fault : (ended : Result (Unit {0}) LookFault) (r : Result Outcome LookFault) (fault : LookFault) → fault ≢ NoMemory → IfErr r (λ e. e ≢ NoMemory → ended ≡ Err e) → IsErrOf r fault → IsErrOf ended fault
same_fault ended r fault other h is = subst (λ x. IfErr x (λ e. e ≢ NoMemory → ended ≡ Err e)) is h other

-- a count that rose later rose from before
pub rose_before : (a b c : ℕ) → a ≤ b → Rose b c → Rose a c
rose_before a b c le (inl lt) = inl (omega (arith, le, lt))
rose_before a b c le (inr full) = inr full

-- how its rounds ended, from where it began
pub record Went (scheduling : Scheduling) (look : LookSetting) (accepts : Accepts) (words words' : WordsState) (first work : LookupState) (mid told' : Option (List Event)) (faults faults' sends sends' : ℕ) (ended : Result (Unit {0}) LookFault) : Type 0 where
  pub over : OnOk ended (IsOver scheduling look accepts words words' first work mid told')
  pub refuses : OnOk ended (Refuses first.lookup.book.journal work.lookup.book.journal sends sends')
  pub stops : OnErr ended (StopsRound scheduling look accepts words words' first work mid told' sends sends')
  pub strays : IsErrOf ended Strays → RoundEndsByStray scheduling look accepts words first mid told'
  pub few_strays : IsErrOf ended LinkFault → RoundFewStrays scheduling look accepts words first mid told'
  pub link : IsErrOf ended LinkFault → Rose faults faults'
  pub recv_faults : faults ≤ faults'
  pub well : (IsErrOf ended LinkFault → ⊥) → faults' ≡ faults

-- the whole: what began so, went its rounds so and was closed so looked up
pub looked_up : {Kept : Type 0} (scheduling : Scheduling) (look : LookSetting) (accepts : Accepts) (words words' : WordsState) (table opened after : TableState) (book : BookState) (moment : ℕ) (first work : LookupState) (told mid told' : Option (List Event)) (faults since faults' sends sends' : ℕ) (was is : Kept) (ended : Result (Unit {0}) LookFault) (r : Result Outcome LookFault)
    → Opening look words table opened book moment first told mid → Went scheduling look accepts words words' first work mid told' since faults' sends sends' ended → since ≡ faults → is ≡ was → Legal work.lookup.book.setting work.lookup.book.journal
    → after ≡ work.table → IfOk r (IsClosed work ended) → IfErr r (λ fault. fault ≢ NoMemory → ended ≡ Err fault) → (IsErrOf ended LinkFault → IsErrOf r LinkFault) → LooksUp scheduling look accepts table after words words' told told' faults faults' sends sends' was is r
looked_up scheduling look accepts words words' table opened after book moment first work told mid told' faults since faults' sends sends' was is ended r o w still kept legal same done fault out =
    let rises : faults ≤ since = omega (arith, still) in
    let along = along_of scheduling look accepts words table opened book moment first told mid o in
    let ends : IsOver scheduling look accepts words words' first work mid told' → Ends scheduling look accepts words words' table work told told' = λ over. ends_of scheduling look accepts words words' table opened book moment first work told mid told' o over legal in
    let begun : RefusedIn first.lookup.book.journal sends sends = subst (λ J. RefusedIn J sends sends) (sym (journal_of look words table opened book moment first told mid o)) (refused_seeded look.per_address look.paths (seeds_in look table) sends) in
    let both = on_ok_both (IsOver scheduling look accepts words words' first work mid told') (Refuses first.lookup.book.journal work.lookup.book.journal sends sends') ended w.over w.refuses in
    record {
      lookup = closed_well work ended r _ w.over done (λ over x d. looks_up scheduling look accepts words words' table work told told' x ((ends over).done x d.done));
      rounds = closed_well work ended r _ w.over done (λ over x d. goes_by_rounds scheduling look accepts words words' table work told told' x ((ends over).done x d.done));
      own_answers = closed_well work ended r _ w.over done (λ over x d. own_answers (setting_of look) x.journal (looks_up scheduling look accepts words words' table work told told' x ((ends over).done x d.done)).legal);
      gathered = closed_well work ended r _ w.over done (λ over x d. gathered_all scheduling look accepts words words' table work told told' x ((ends over).done x d.done) d.peers d.tokens d.items);
      none_gathered = closed_well work ended r _ w.over done (λ over x d. none_gathered look work x.peers x.tokens x.items over.keeps d.peers d.tokens d.items);
      peers_in_order = closed_well work ended r _ w.over done (λ over x d. d.peers.in_order);
      table = closed_well work ended r _ w.over done (λ over x d. subst (λ t. TableToldBy scheduling (table_calls look x.journal) table t) (sym same) (table_told scheduling look accepts words words' table work told told' x ((ends over).done x d.done)));
      unfinished = closed_early ended r _ both w.stops (λ x. ((ends x.0).left sends').unfinished sends (refused_more first.lookup.book.journal work.lookup.book.journal sends sends sends' begun x.1)) (λ stops. (stops words table told along).unfinished sends begun);
      table_left = closed_early ended r _ w.over w.stops (λ over. subst (TableRan table) (sym same) ((ends over).left sends').ran) (λ stops. subst (TableRan table) (sym same) (stops words table told along).ran);
      strays = λ fail. w.strays (same_fault ended r Strays (λ e. absurd cc) fault fail) words table told along;
      few_strays = closed_well work ended r _ w.over done (λ over x d. subst (λ J. Grows told told' (λ events. HasFewStrays (given_of look accepts words) J events max_strays)) (sym d.done.journal) (ends over).few);
      few_strays_at_fault = λ fail. (w.few_strays (same_fault ended r LinkFault (λ e. absurd cc) fault fail) words table told along).meets;
      no_last_stray = closed_well work ended r _ w.over done (λ over x d. (ends over).never);
      no_last_stray_at_fault = λ fail. (w.few_strays (same_fault ended r LinkFault (λ e. absurd cc) fault fail) words table told along).never;
      link = λ fail. rose_before faults since faults' rises (w.link (same_fault ended r LinkFault (λ e. absurd cc) fault fail));
      recv_faults = (let b = w.recv_faults in omega (arith, rises, b));
      well = λ other. w.well (λ is. other (out is)) ∙ still;
      refused = closed_well work ended r _ both done (λ x o d. subst (λ J. RefusedIn J sends sends') (sym d.done.journal) (refused_more first.lookup.book.journal work.lookup.book.journal sends sends sends' begun x.1));
      kept = kept;
    }

-- there was no memory to begin
pub never_looked : {Kept : Type 0} (scheduling : Scheduling) (look : LookSetting) (accepts : Accepts) (words : WordsState) (table after : TableState) (told : Option (List Event)) (faults sends : ℕ) (was : Kept) → 0 < look.paths → All (IsUsable look.own) (contacts_of table) → after ≡ table → LooksUp scheduling look accepts table after words words told told faults faults sends sends was was (Err NoMemory)
never_looked scheduling look accepts words table after told faults sends was some usable same = record {
  lookup = tt;
  rounds = tt;
  own_answers = tt;
  gathered = tt;
  none_gathered = tt;
  peers_in_order = tt;
  table = tt;
  unfinished = never_began look accepts table words told some usable sends;
  table_left = record { run = []; is_run = tt; leaves = same };
  strays = λ e. absurd cc;
  few_strays = tt;
  few_strays_at_fault = λ e. absurd cc;
  no_last_stray = tt;
  no_last_stray_at_fault = λ e. absurd cc;
  link = λ e. absurd cc;
  recv_faults = omega arith;
  well = λ other. refl;
  refused = tt;
  kept = refl;
}
