-- The book and the table as the closed turns leave them.
use Rattle.std.proofs.Common.{◌≡◌, ◌≢◌, ℕ, ◌+◌, ◌-◌, ◌<◌, List, [], ◌∷◌, ◌++◌, length, map, refl, sym, ap, subst, ◌∙◌, arith, append-nil, All}
use Rattle.std.specs.Prelude.{slice_index_or, Result, Ok, Err, IsOk, IfOk, IfErr}
use Rattle.std.specs.List.{flat_map, range_with_len}
use Rattle.std.proofs.lemmas.List.{length-map, get_or-map}
use Rattle.std.proofs.lemmas.List.Elements.{All-nil, All-same, All-tail, All-get_or, All-map, filter-append}
use Rattle.kad_base.specs.declared.types.NoMemory.{NoMemory}
use Rattle.kad_base.specs.declared.types.Policy.{Policy}
use Rattle.kad_base.specs.declared.serial.Made.{Made}
use Rattle.kad_base.specs.Serial.{made, calls_of, left_by, IsRun}
use Rattle.kad_base.proofs.Runs.{left_by-append}
use Rattle.turn_book.specs.Turns.{TurnState, PassState, IsPrefix, fresh, all_fresh, mine, Closed}
use Rattle.claim_book.specs.declared.calls.BookCall.{BookCall}
use Rattle.claim_book.specs.declared.calls.BookCall.TheVariants.{Pull}
use Rattle.claim_book.specs.declared.calls.BookReply.{BookReply}
use Rattle.claim_book.specs.declared.calls.BookReply.TheVariants.{Idle}
use Rattle.claim_book.specs.Journal.{settled, unsettled}
use Rattle.claim_book.specs.Legal.{Legal}
use Rattle.claim_book.specs.State.{BookState}
use Rattle.claim_book.specs.Calls.{BookMay, BookStep, book_after, path_of_role}
use Rattle.contact_table.specs.declared.calls.TableCall.{TableCall}
use Rattle.contact_table.specs.declared.calls.TableReply.{TableReply}
use Rattle.contact_table.specs.TableState.{TableState}
use Rattle.contact_table.specs.TableStep.{TableMay, TableStep, table_after}
use Rattle.path_worker.specs.declared.pool.Job.{Job}
use Rattle.path_worker.specs.Settling.{role_of, seen_with}
use Rattle.path_worker.specs.Together.{IsWorkers, StopsTogether, SettlesTogether}
use Rattle.path_worker.specs.Burst.{Did, book_calls, table_calls, IsDone, Emptied, HasSettled}
use Rattle.path_worker.specs.Pool.{Worked}
use Rattle.path_worker.specs.Assignment.{new_job, CameBack}
use Rattle.path_worker.proofs.WorkerSteps.{worker_path}
use Rattle.path_worker.proofs.Fronts.{BookCalls, run_front, run_back, legal_run, setting_run}
use Rattle.path_worker.proofs.Whose.{all_run, row_calls, workers_calls}
use Rattle.path_worker.proofs.Entries.{entries_of, run_leaves, run_settles, run_settled_on, others_keep}
use Rattle.path_worker.proofs.Telling.{TableCalls, said, HadMemory, burst_told, things_memory}

abbrev BookClosed : TurnState BookState → List (PassState BookCall BookReply) → BookState → ℕ → Type 0
BookClosed = Closed BookMay BookStep book_after

abbrev TableClosed : TurnState TableState → List (PassState TableCall TableReply) → TableState → ℕ → Type 0
TableClosed = Closed TableMay TableStep table_after

-- runs of workers' calls alone leave what a stop leaves
abbrev pub stops : (old new : BookState) (before after : TableState) (books : BookCalls) (tables : TableCalls) → IsRun BookMay BookStep book_after old books → new ≡ left_by book_after old books → All (IsWorkers old.setting.paths) books
    → IsRun TableMay TableStep table_after before tables → after ≡ left_by table_after before tables → All (IsWorkers old.setting.paths) tables → StopsTogether old new before after
stops old new before after books tables run left all table_run table_left table_all =
    let n = old.setting.paths in
    record {
      more = flat_map entries_of books;
      setting = ap (λ (b : BookState). b.setting) left ∙ setting_run books old;
      journal = ap (λ (b : BookState). b.journal) left ∙ run_leaves n books old all run;
      settles = run_settles n books all;
      run = tables;
      is_run = table_run;
      leaves = table_left;
      roles = table_all;
    }

-- where no call was made nothing changed
pub stops_at_once : (old : BookState) (before : TableState) → StopsTogether old old before before
stops_at_once old before = stops old old before before [] [] tt refl (All-nil (IsWorkers old.setting.paths)) tt refl (All-nil (IsWorkers old.setting.paths))

no_rest : {A : Type 0} (xs ys : List A) → xs ≡ xs ++ ys → ys ≡ []
no_rest [] ys is = sym is
no_rest (x ∷ xs) ys is = (let rest : xs ≡ xs ++ ys = cc in no_rest xs ys rest)

-- the worker of a path settled all of it, and the others left it so
pub empties : (paths r : ℕ) → r ≢ 0 → (start : BookState) (run seen : BookCalls) → Legal start.setting start.journal → IsRun BookMay BookStep book_after start run → All (IsWorkers paths) run → IsPrefix seen run
    → calls_of r run ≡ calls_of r seen → unsettled (r - 1) (left_by book_after start seen).journal ≡ [] → unsettled (r - 1) (left_by book_after start run).journal ≡ []
empties paths r nr start run seen legal is all prefix own empty =
    let rest : BookCalls = prefix.0 in
    let whole : IsRun BookMay BookStep book_after start (seen ++ rest) = subst (IsRun BookMay BookStep book_after start) prefix.1 is in
    let first = run_front BookMay BookStep book_after start seen rest whole in
    let second = run_back BookMay BookStep book_after start seen rest whole in
    let mid : BookState = left_by book_after start seen in
    let parts : calls_of r seen ≡ calls_of r seen ++ calls_of r rest = sym own ∙ ap (calls_of r) prefix.1 ∙ filter-append _ seen rest in
    let none_own : calls_of r rest ≡ [] = no_rest (calls_of r seen) (calls_of r rest) parts in
    let others : All (IsWorkers paths) rest = behind seen rest (subst (All (IsWorkers paths)) prefix.1 all) in
    ap (λ (b : BookState). unsettled (r - 1) b.journal) (ap (left_by book_after start) prefix.1 ∙ left_by-append book_after start seen rest)
    ∙ others_keep paths r nr rest mid (legal_run seen start legal first) others none_own second ∙ empty
  where
    behind : {C R : Type 0} (xs ys : List (Made C R)) → All (IsWorkers paths) (xs ++ ys) → All (IsWorkers paths) ys
    behind [] ys all = all
    behind (x ∷ xs) ys all = behind xs ys (All-tail (IsWorkers paths) x (xs ++ ys) all)

-- a fact of each pass in a row is one of the pass of path p
at_path : {C R : Type 0} (P : PassState C R → Type 0) (pass_of : Job → PassState C R) (first : PassState C R) (pool : List Job) (row : List (PassState C R)) (p : ℕ) (d : Job) → row ≡ first ∷ map pass_of pool → p < length pool → All P row
    → P (pass_of (slice_index_or pool p d))
at_path P pass_of first pool row p d is lt all =
    let rest : All P (map pass_of pool) = All-tail P first (map pass_of pool) (subst (All P) is all) in
    subst P (get_or-map pass_of pool p d (pass_of d) lt) (All-get_or P (map pass_of pool) p (pass_of d) (omega (arith, length-map pool pass_of, lt)) rest)

-- where no pass has been used the closed turn is as it was opened
pub stops_unopened : (books : TurnState BookState) (row : List (PassState BookCall BookReply)) (new : BookState) (n : ℕ) (table : TableState) → row ≡ all_fresh books → BookClosed books row new n → StopsTogether books.start new table table
stops_unopened books row new n table is closed =
    let paths = books.start.setting.paths in
    let none_made : All (λ (q : PassState BookCall BookReply). All (IsWorkers paths) (mine q)) row =
    All-same (λ (q : PassState BookCall BookReply). All (IsWorkers paths) (mine q)) row (all_fresh books) is (All-map (λ (q : PassState BookCall BookReply). All (IsWorkers paths) (mine q)) (fresh books.id) (range_with_len 0 books.roles) (λ k d lt. All-nil (IsWorkers paths))) in
    stops books.start new table table closed.run [] closed.legal closed.left (all_run (IsWorkers paths) BookMay BookStep book_after books row new n closed none_made) tt refl (All-nil (IsWorkers paths))

ok_of : (P : ℕ → Type 0) (r : Result ℕ NoMemory) → IsOk r → IfOk r P → (n : ℕ) × P n
ok_of P (Ok n) is h = (n, h)
ok_of P (Err e) is h = absurd cc

if_ok : (r : Result (Unit {0}) NoMemory) (A B : Type 0) → (A → B) → IfOk r (λ u. A) → IfOk r (λ u. B)
if_ok (Ok u) A B f h = f h
if_ok (Err e) A B f h = tt

if_err : (r : Result (Unit {0}) NoMemory) (B : Type 0) → B → IfErr r (λ e. B)
if_err (Ok u) B h = tt
if_err (Err e) B h = h

not_zero : (p : ℕ) → p + 1 ≢ 0
not_zero p e = absurd (omega (arith, e))

abbrev book_of : Job → PassState BookCall BookReply
book_of s = s.worker.book

abbrev table_of : Job → PassState TableCall TableReply
table_of s = s.worker.table

-- a pool that came back from its bursts, and the two closed turns
module _ (books : TurnState BookState) (tables : TurnState TableState) (policy : Policy) (paths : ℕ) (book_row : List (PassState BookCall BookReply)) (table_row : List (PassState TableCall TableReply))
    (answer : Result (Unit {0}) NoMemory) (came : CameBack books tables policy paths book_row table_row answer) (new : BookState) (n : ℕ) (book_closed : BookClosed books book_row new n)
    (after : TableState) (m : ℕ) (table_closed : TableClosed tables table_row after m) where
  -- all calls are those of the workers
  book_calls_are : All (IsWorkers paths) book_closed.run
  book_calls_are =
      all_run (IsWorkers paths) BookMay BookStep book_after books book_row new n book_closed
      (All-same (λ (q : PassState BookCall BookReply). All (IsWorkers paths) (mine q)) book_row (fresh books.id 0 ∷ map book_of came.pool) came.books_back
      (workers_calls book_of books came.pool paths came.count (λ p d lt. (came.each p d lt).same.book_role)))

  table_calls_are : All (IsWorkers paths) table_closed.run
  table_calls_are =
      all_run (IsWorkers paths) TableMay TableStep table_after tables table_row after m table_closed
      (All-same (λ (q : PassState TableCall TableReply). All (IsWorkers paths) (mine q)) table_row (fresh tables.id 0 ∷ map table_of came.pool) came.tables_back
      (workers_calls table_of tables came.pool paths came.count (λ p d lt. (came.each p d lt).same.table_role)))

  abbrev came_stops : paths ≡ books.start.setting.paths → StopsTogether books.start new tables.start after
  came_stops is =
      stops books.start new tables.start after book_closed.run table_closed.run book_closed.legal book_closed.left (subst (λ k. All (IsWorkers k) book_closed.run) is book_calls_are) table_closed.legal table_closed.left
      (subst (λ k. All (IsWorkers k) table_closed.run) is table_calls_are)

  -- the worker of a path, and what it did
  pub record Emptier (p : ℕ) : Type 0 where
    pub book : PassState BookCall BookReply
    pub book_role : book.role ≡ p + 1
    pub prefix : IsPrefix book.seen book_closed.run
    pub things : List Did
    pub done : All (IsDone policy) things
    pub book_own : calls_of (p + 1) book_closed.run ≡ calls_of (p + 1) book.seen
    pub book_calls_of : calls_of (p + 1) book_closed.run ≡ ([] ++ flat_map (book_calls (p + 1)) things) ++ made (p + 1) Pull Idle ∷ []
    pub table_calls_of : calls_of (p + 1) table_closed.run ≡ ([] ++ flat_map (table_calls (p + 1)) things) ++ []
    pub empty : unsettled (p + 1 - 1) (left_by book_after books.start book.seen).journal ≡ []

  emptier : All (λ s. IsOk s.answer) came.pool → (p : ℕ) → p < paths → Emptier p
  emptier ok p lt =
      let d : Job = new_job books tables policy p in
      let s : Job = slice_index_or came.pool p d in
      let w : Worked books d s = came.each p d lt in
      let there : p < length came.pool = omega (arith, came.count, lt) in
      let fine : IsOk s.answer = ok p d there in
      let e = ok_of (Emptied d.worker s.worker) s.answer fine w.emptied in
      let settled = ok_of (λ k. HasSettled books.start s.worker.book) s.answer fine w.settled in
      let role : s.worker.book.role ≡ p + 1 = w.same.book_role in
      let table_role : s.worker.table.role ≡ p + 1 = w.same.table_role in
      let in_order : calls_of s.worker.book.role book_closed.run ≡ mine s.worker.book =
      at_path (λ (q : PassState BookCall BookReply). calls_of q.role book_closed.run ≡ mine q) book_of (fresh books.id 0) came.pool book_row p d came.books_back there book_closed.in_order in
      let table_in_order : calls_of s.worker.table.role table_closed.run ≡ mine s.worker.table =
      at_path (λ (q : PassState TableCall TableReply). calls_of q.role table_closed.run ≡ mine q) table_of (fresh tables.id 0) came.pool table_row p d came.tables_back there table_closed.in_order in
      record {
        book = s.worker.book;
        book_role = role;
        prefix = at_path (λ (q : PassState BookCall BookReply). IsPrefix q.seen book_closed.run) book_of (fresh books.id 0) came.pool book_row p d came.books_back there book_closed.prefixes;
        things = e.1.things;
        done = e.1.grew.done;
        book_own = subst (λ r. calls_of r book_closed.run ≡ calls_of r s.worker.book.seen) role in_order;
        book_calls_of = subst (λ r. calls_of r book_closed.run ≡ mine s.worker.book) role in_order ∙ e.1.grew.book;
        table_calls_of = subst (λ r. calls_of r table_closed.run ≡ mine s.worker.table) table_role table_in_order ∙ e.1.grew.table;
        empty = subst (λ r. unsettled (path_of_role r) (left_by book_after books.start s.worker.book.seen).journal ≡ []) role settled.1;
      }

  came_empty : Legal books.start.setting books.start.journal → All (λ s. IsOk s.answer) came.pool → (p : ℕ) → p < paths → unsettled p new.journal ≡ []
  came_empty legal ok p lt =
      let e = emptier ok p lt in
      ap (λ (b : BookState). unsettled p b.journal) book_closed.left ∙ ap (λ q. unsettled q (left_by book_after books.start book_closed.run).journal) (sym (worker_path p))
      ∙ empties paths (p + 1) (not_zero p) books.start book_closed.run e.book.seen legal book_closed.legal book_calls_are e.prefix e.book_own e.empty

  came_tells : All (λ s. IsOk s.answer) came.pool → (p : ℕ) → p < paths → said (calls_of (role_of p) table_closed.run) ≡ flat_map seen_with (settled p (flat_map entries_of book_closed.run))
  came_tells ok p lt =
      let e = emptier ok p lt in
      burst_told (p + 1) (p + 1) e.things (calls_of (p + 1) book_closed.run) (calls_of (p + 1) table_closed.run) e.book_calls_of e.table_calls_of
      ∙ ap (flat_map seen_with) (sym (run_settled_on paths (p + 1) (not_zero p) book_closed.run book_calls_are) ∙ ap (λ q. settled q (flat_map entries_of book_closed.run)) (worker_path p))

  came_kept : All (λ s. IsOk s.answer) came.pool → All HadMemory table_closed.run
  came_kept ok =
      all_run HadMemory TableMay TableStep table_after tables table_row after m table_closed
      (All-same (λ (q : PassState TableCall TableReply). All HadMemory (mine q)) table_row (fresh tables.id 0 ∷ map table_of came.pool) came.tables_back
      (row_calls table_of HadMemory tables came.pool (λ p d lt. memory p d lt)))
    where
      memory : (p : ℕ) (d : Job) → p < length came.pool → All HadMemory (mine (slice_index_or came.pool p d).worker.table)
      memory p d lt =
          let w : Worked books (new_job books tables policy p) (slice_index_or came.pool p d) = came.each p d (omega (arith, came.count, lt)) in
          let e = ok_of (Emptied (new_job books tables policy p).worker (slice_index_or came.pool p d).worker) (slice_index_or came.pool p d).answer (ok p d lt) w.emptied in
          All-same HadMemory (mine (slice_index_or came.pool p d).worker.table) (flat_map (table_calls (p + 1)) e.1.things) (e.1.grew.table ∙ append-nil (flat_map (table_calls (p + 1)) e.1.things)) (things_memory (p + 1) policy e.1.things e.1.grew.done)

  came_settles : paths ≡ books.start.setting.paths → Legal books.start.setting books.start.journal → All (λ s. IsOk s.answer) came.pool → SettlesTogether books.start new tables.start after
  came_settles is legal ok = record {
    settling = came_stops is;
    none_left = λ p lt. came_empty legal ok p (omega (arith, is, lt));
    tells = λ p lt. came_tells ok p (omega (arith, is, lt));
    kept = came_kept ok;
  }

  -- what the answer says of the book and the table
  came_ok : paths ≡ books.start.setting.paths → Legal books.start.setting books.start.journal → IfOk answer (λ u. SettlesTogether books.start new tables.start after)
  came_ok is legal = if_ok answer (All (λ s. IsOk s.answer) came.pool) (SettlesTogether books.start new tables.start after) (came_settles is legal) came.ok

  came_err : paths ≡ books.start.setting.paths → IfErr answer (λ e. StopsTogether books.start new tables.start after)
  came_err is = if_err answer (StopsTogether books.start new tables.start after) (came_stops is)

  -- the same of the states that the turns were opened with
  pub ends_ok : (old : BookState) (before : TableState) → books.start ≡ old → tables.start ≡ before → paths ≡ old.setting.paths → Legal old.setting old.journal → IfOk answer (λ u. SettlesTogether old new before after)
  ends_ok old before b t is legal =
      subst (λ (x : TableState). IfOk answer (λ u. SettlesTogether old new x after)) t
      (subst (λ (x : BookState). IfOk answer (λ u. SettlesTogether x new tables.start after)) b
      (came_ok (is ∙ ap (λ (x : BookState). x.setting.paths) (sym b)) (subst (λ (x : BookState). Legal x.setting x.journal) (sym b) legal)))

  pub ends_err : (old : BookState) (before : TableState) → books.start ≡ old → tables.start ≡ before → paths ≡ old.setting.paths → IfErr answer (λ e. StopsTogether old new before after)
  ends_err old before b t is =
      subst (λ (x : TableState). IfErr answer (λ e. StopsTogether old new x after)) t
      (subst (λ (x : BookState). IfErr answer (λ e. StopsTogether x new tables.start after)) b (came_err (is ∙ ap (λ (x : BookState). x.setting.paths) (sym b))))
