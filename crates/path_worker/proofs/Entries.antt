-- The entries that the workers' calls leave in the journal.
use Rattle.std.proofs.Common.{◌≡◌, ◌≢◌, ℕ, ◌-◌, ◌<◌, List, [], ◌∷◌, ◌++◌, Bool, true, false, cond, Option, Some, None, refl, sym, ap, ◌∙◌, arith, eqb, append_assoc, append-nil, All}
use Rattle.std.specs.Prelude.{filter}
use Rattle.std.specs.List.{flat_map}
use Rattle.std.specs.Option.{option_to_list}
use Rattle.std.proofs.lemmas.Bool.{eqb-true, eq-eqb}
use Rattle.std.proofs.lemmas.List.Elements.{All-nil, All-cons, All-head, All-tail, All-append, All-weaker, filter-append}
use Rattle.kad_base.specs.declared.types.Contact.{Contact}
use Rattle.kad_base.specs.declared.types.Report.{Report}
use Rattle.kad_base.specs.declared.serial.Made.{Made}
use Rattle.kad_base.specs.Serial.{calls_of, left_by, IsRun}
use Rattle.claim_book.specs.declared.types.Entry.{Entry}
use Rattle.claim_book.specs.declared.types.Entry.TheVariants.{Note as Note_entry, Taken as Taken_entry, Held as Held_entry, Turned as Turned_entry, Rejected as Rejected_entry, Skipped as Skipped_entry}
use Rattle.claim_book.specs.declared.calls.BookCall.{BookCall}
use Rattle.claim_book.specs.declared.calls.BookCall.TheVariants.{Next, Heard, Lost, Finish, Pull, Note, Settle}
use Rattle.claim_book.specs.declared.calls.BookReply.{BookReply}
use Rattle.claim_book.specs.declared.calls.BookReply.TheVariants.{Kept, Taken, Held, Turned, Rejected, Skipped}
use Rattle.claim_book.specs.Journal.{settles_on, settled, unsettled}
use Rattle.claim_book.specs.Legal.{Legal}
use Rattle.claim_book.specs.State.{BookState}
use Rattle.claim_book.specs.Calls.{BookMay, BookStep, book_after, after_kept, path_of_role, settle_entry, with_entry}
use Rattle.claim_book.proofs.Unsettled.{unsettled_kept}
use Rattle.claim_book.proofs.Progress.{legal_step}
use Rattle.path_worker.specs.Together.{IsSettling, IsWorkers}
use Rattle.path_worker.proofs.Fronts.{BookCalls, apart}

abbrev note_entries : ℕ → Contact → BookReply → List Entry
note_entries p c Kept = Note_entry p c ∷ []
note_entries p c other = []

abbrev settle_entries : ℕ → Report → BookReply → List Entry
settle_entries p r reply = option_to_list (settle_entry p r reply)

abbrev pub call_entries : ℕ → BookCall → BookReply → List Entry
call_entries role (Note c) reply = note_entries (path_of_role role) c reply
call_entries role (Settle checked) reply = settle_entries (path_of_role role) checked.report reply
call_entries role other reply = []

-- the entries of one call
abbrev pub entries_of : Made BookCall BookReply → List Entry
entries_of m = call_entries m.role m.call m.reply

note_leaves : (b : BookState) (p : ℕ) (c : Contact) (reply : BookReply) → (after_kept b (Note_entry p c) reply).journal ≡ b.journal ++ note_entries p c reply
note_leaves b p c Kept = refl
note_leaves b p c other = sym (append-nil b.journal)

with_leaves : (b : BookState) (o : Option Entry) → (with_entry b o).journal ≡ b.journal ++ option_to_list o
with_leaves b None = sym (append-nil b.journal)
with_leaves b (Some e) = refl

call_leaves : (b : BookState) (role : ℕ) (call : BookCall) (reply : BookReply) → role ≢ 0 → BookMay role call → (book_after b role call reply).journal ≡ b.journal ++ call_entries role call reply
call_leaves b role (Next p) reply given may = absurd (given may)
call_leaves b role (Heard c reports) reply given may = absurd (given may.0)
call_leaves b role (Lost c cause) reply given may = absurd (given may)
call_leaves b role Finish reply given may = absurd (given may)
call_leaves b role Pull reply given may = sym (append-nil b.journal)
call_leaves b role (Note c) reply given may = note_leaves b (path_of_role role) c reply
call_leaves b role (Settle checked) reply given may = with_leaves b (settle_entry (path_of_role role) checked.report reply)

not_driver : {C R : Type 0} (paths : ℕ) (m : Made C R) → IsWorkers paths m → m.role ≢ 0
not_driver paths m is z = (let some = is.0 in absurd (omega arith))

-- a run of workers leaves the entries of its calls
pub run_leaves : (paths : ℕ) (run : BookCalls) (b : BookState) → All (IsWorkers paths) run → IsRun BookMay BookStep book_after b run → (left_by book_after b run).journal ≡ b.journal ++ flat_map entries_of run
run_leaves paths [] b all run = sym (append-nil b.journal)
run_leaves paths (m ∷ ms) b all run =
    run_leaves paths ms (book_after b m.role m.call m.reply) (All-tail (IsWorkers paths) m ms all) run.2
    ∙ ap (λ l. l ++ flat_map entries_of ms) (call_leaves b m.role m.call m.reply (not_driver paths m (All-head (IsWorkers paths) m ms all)) run.0)
    ∙ append_assoc b.journal (entries_of m) (flat_map entries_of ms)

abbrev On : ℕ → Entry → Type 0
On p e = settles_on p e ≡ true

one_on : (p : ℕ) (e : Entry) → settles_on p e ≡ true → All (On p) (e ∷ [])
one_on p e is = All-cons (On p) e [] is (All-nil (On p))

note_on : (p : ℕ) (c : Contact) (reply : BookReply) → All (On p) (note_entries p c reply)
note_on p c Kept = one_on p (Note_entry p c) (eq-eqb p p refl)
note_on p c other = All-nil (On p)

settle_on : (p : ℕ) (r : Report) (reply : BookReply) → All (On p) (settle_entries p r reply)
settle_on p r Skipped = one_on p (Skipped_entry p r) (eq-eqb p p refl)
settle_on p r Rejected = one_on p (Rejected_entry p r) (eq-eqb p p refl)
settle_on p r (Held q) = one_on p (Held_entry p r.contact q) (eq-eqb p p refl)
settle_on p r Turned = one_on p (Turned_entry p r.contact) (eq-eqb p p refl)
settle_on p r Taken = one_on p (Taken_entry p r.contact) (eq-eqb p p refl)
settle_on p r other = All-nil (On p)

call_on : (role : ℕ) (call : BookCall) (reply : BookReply) → All (On (path_of_role role)) (call_entries role call reply)
call_on role (Note c) reply = note_on (path_of_role role) c reply
call_on role (Settle checked) reply = settle_on (path_of_role role) checked.report reply
call_on role other reply = All-nil (On (path_of_role role))

-- and each of them settles something on the path of its worker
pub run_settles : (paths : ℕ) (run : BookCalls) → All (IsWorkers paths) run → All (IsSettling paths) (flat_map entries_of run)
run_settles paths [] all = All-nil (IsSettling paths)
run_settles paths (m ∷ ms) all =
    let is = All-head (IsWorkers paths) m ms all in
    let some = is.0 in
    let few = is.1 in
    let within : path_of_role m.role < paths = omega arith in
    All-append (IsSettling paths) (entries_of m) (flat_map entries_of ms)
    (All-weaker (On (path_of_role m.role)) (IsSettling paths) (λ e on. (path_of_role m.role, within, on)) (entries_of m) (call_on m.role m.call m.reply))
    (run_settles paths ms (All-tail (IsWorkers paths) m ms all))

same_cond : {A : Type 0} (o : Bool) (x : A) → x ≡ cond o x x
same_cond true x = refl
same_cond false x = refl

one_kept : (p : ℕ) (e : Entry) (o : Bool) → settles_on p e ≡ o → filter (settles_on p) (e ∷ []) ≡ cond o (e ∷ []) []
one_kept p e o is = ap (λ b. cond b (e ∷ []) []) is

note_kept : (p q : ℕ) (c : Contact) (reply : BookReply) (o : Bool) → eqb q p ≡ o → filter (settles_on p) (note_entries q c reply) ≡ cond o (note_entries q c reply) []
note_kept p q c Kept o is = one_kept p (Note_entry q c) o is
note_kept p q c other o is = same_cond o []

settle_kept : (p q : ℕ) (r : Report) (reply : BookReply) (o : Bool) → eqb q p ≡ o → filter (settles_on p) (settle_entries q r reply) ≡ cond o (settle_entries q r reply) []
settle_kept p q r Skipped o is = one_kept p (Skipped_entry q r) o is
settle_kept p q r Rejected o is = one_kept p (Rejected_entry q r) o is
settle_kept p q r (Held by) o is = one_kept p (Held_entry q r.contact by) o is
settle_kept p q r Turned o is = one_kept p (Turned_entry q r.contact) o is
settle_kept p q r Taken o is = one_kept p (Taken_entry q r.contact) o is
settle_kept p q r other o is = same_cond o []

call_kept : (p role : ℕ) (call : BookCall) (reply : BookReply) (o : Bool) → eqb (path_of_role role) p ≡ o → filter (settles_on p) (call_entries role call reply) ≡ cond o (call_entries role call reply) []
call_kept p role (Note c) reply o is = note_kept p (path_of_role role) c reply o is
call_kept p role (Settle checked) reply o is = settle_kept p (path_of_role role) checked.report reply o is
call_kept p role other reply o is = same_cond o []

same_path : (role r : ℕ) → r ≢ 0 → role ≢ 0 → (o : Bool) → eqb role r ≡ o → eqb (role - 1) (r - 1) ≡ o
same_path role r nr given true is = eq-eqb (role - 1) (r - 1) (ap (λ n. n - 1) (eqb-true role r is))
same_path role r nr given false is = apart role r nr given is

-- those that settle on a path are the entries of its worker's calls
pub run_settled_on : (paths r : ℕ) → r ≢ 0 → (run : BookCalls) → All (IsWorkers paths) run → settled (r - 1) (flat_map entries_of run) ≡ flat_map entries_of (calls_of r run)
unfolding settled
run_settled_on paths r nr [] all = refl
run_settled_on paths r nr (m ∷ ms) all =
    filter-append (settles_on (r - 1)) (entries_of m) (flat_map entries_of ms)
    ∙ by (eqb m.role r) refl (run_settled_on paths r nr ms (All-tail (IsWorkers paths) m ms all))
  where
    one : (o : Bool) → eqb m.role r ≡ o → filter (settles_on (r - 1)) (entries_of m) ≡ cond o (entries_of m) []
    one o is = call_kept (r - 1) m.role m.call m.reply o (same_path m.role r nr (not_driver paths m (All-head (IsWorkers paths) m ms all)) o is)

    by : (o : Bool) → eqb m.role r ≡ o → filter (settles_on (r - 1)) (flat_map entries_of ms) ≡ flat_map entries_of (calls_of r ms)
        → filter (settles_on (r - 1)) (entries_of m) ++ filter (settles_on (r - 1)) (flat_map entries_of ms) ≡ flat_map entries_of (calls_of r (m ∷ ms))
    by true is rest =
        ap (λ l. l ++ filter (settles_on (r - 1)) (flat_map entries_of ms)) (one true is) ∙ ap (λ l. entries_of m ++ l) rest
        ∙ sym (ap (λ o. flat_map entries_of (cond o (m ∷ calls_of r ms) (calls_of r ms))) is)
    by false is rest =
        ap (λ l. l ++ filter (settles_on (r - 1)) (flat_map entries_of ms)) (one false is) ∙ rest
        ∙ sym (ap (λ o. flat_map entries_of (cond o (m ∷ calls_of r ms) (calls_of r ms))) is)

note_keeps : (b : BookState) (p q : ℕ) (c : Contact) (reply : BookReply) → Legal b.setting b.journal → eqb q p ≡ false → unsettled p (after_kept b (Note_entry q c) reply).journal ≡ unsettled p b.journal
note_keeps b p q c Kept l off = unsettled_kept b.setting p b.journal (Note_entry q c) l off refl
note_keeps b p q c other l off = refl

settle_keeps : (b : BookState) (p q : ℕ) (r : Report) (reply : BookReply) → Legal b.setting b.journal → eqb q p ≡ false → unsettled p (with_entry b (settle_entry q r reply)).journal ≡ unsettled p b.journal
settle_keeps b p q r Skipped l off = unsettled_kept b.setting p b.journal (Skipped_entry q r) l off refl
settle_keeps b p q r Rejected l off = unsettled_kept b.setting p b.journal (Rejected_entry q r) l off refl
settle_keeps b p q r (Held by) l off = unsettled_kept b.setting p b.journal (Held_entry q r.contact by) l off refl
settle_keeps b p q r Turned l off = unsettled_kept b.setting p b.journal (Turned_entry q r.contact) l off refl
settle_keeps b p q r Taken l off = unsettled_kept b.setting p b.journal (Taken_entry q r.contact) l off refl
settle_keeps b p q r other l off = refl

call_keeps : (r : ℕ) → r ≢ 0 → (b : BookState) (role : ℕ) (call : BookCall) (reply : BookReply) → Legal b.setting b.journal → eqb role r ≡ false → role ≢ 0 → BookMay role call
    → unsettled (r - 1) (book_after b role call reply).journal ≡ unsettled (r - 1) b.journal
call_keeps r nr b role (Next p) reply l off given may = absurd (given may)
call_keeps r nr b role (Heard c reports) reply l off given may = absurd (given may.0)
call_keeps r nr b role (Lost c cause) reply l off given may = absurd (given may)
call_keeps r nr b role Finish reply l off given may = refl
call_keeps r nr b role Pull reply l off given may = refl
call_keeps r nr b role (Note c) reply l off given may = note_keeps b (r - 1) (path_of_role role) c reply l (apart role r nr given off)
call_keeps r nr b role (Settle checked) reply l off given may = settle_keeps b (r - 1) (path_of_role role) checked.report reply l (apart role r nr given off)

-- where the path's own worker makes no call, what it has unsettled stays as it is
pub others_keep : (paths r : ℕ) → r ≢ 0 → (run : BookCalls) (b : BookState) → Legal b.setting b.journal → All (IsWorkers paths) run → calls_of r run ≡ [] → IsRun BookMay BookStep book_after b run
    → unsettled (r - 1) (left_by book_after b run).journal ≡ unsettled (r - 1) b.journal
others_keep paths r nr [] b l all no_own run = refl
others_keep paths r nr (m ∷ ms) b l all no_own run =
    by (eqb m.role r) refl (λ rest. others_keep paths r nr ms (book_after b m.role m.call m.reply) (legal_step b m.role m.call m.reply l run.0 run.1) (All-tail (IsWorkers paths) m ms all) rest run.2)
  where
    next : BookState
    next = book_after b m.role m.call m.reply

    by : (o : Bool) → eqb m.role r ≡ o → (calls_of r ms ≡ [] → unsettled (r - 1) (left_by book_after next ms).journal ≡ unsettled (r - 1) next.journal)
        → unsettled (r - 1) (left_by book_after b (m ∷ ms)).journal ≡ unsettled (r - 1) b.journal
    by true is on = (let some : m ∷ calls_of r ms ≡ [] = sym (ap (λ o. cond o (m ∷ calls_of r ms) (calls_of r ms)) is) ∙ no_own in absurd cc)
    by false is on =
        on (sym (ap (λ o. cond o (m ∷ calls_of r ms) (calls_of r ms)) is) ∙ no_own)
        ∙ call_keeps r nr b m.role m.call m.reply l is (not_driver paths m (All-head (IsWorkers paths) m ms all)) run.0
