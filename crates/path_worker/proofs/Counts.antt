-- What a role settled is settled in the journal, and a legal journal has few settled entries.
use Rattle.std.proofs.Common.{◌≡◌, ℕ, suc, ◌+◌, ◌-◌, ◌*◌, ◌^◌, ◌<◌, ◌≤◌, List, [], ◌∷◌, ◌++◌, length, Bool, true, false, cond, Option, Some, None, refl, ap, subst, ◌∙◌, arith, eqb, All}
use Rattle.std.specs.List.{sum_by, flat_map}
use Rattle.std.proofs.lemmas.Bool.{eqb-true, eq-eqb}
use Rattle.std.proofs.lemmas.List.{length-append, length-map}
use Rattle.std.proofs.lemmas.List.Sums.{sum_by-append, sum_by-cons}
use Rattle.kad_base.specs.declared.serial.Made.{Made}
use Rattle.kad_base.specs.declared.types.Policy.{Policy}
use Rattle.kad_base.specs.Serial.{calls_of, left_by, IsRun}
use Rattle.claim_book.specs.CheckedState.{CheckedState}
use Rattle.claim_book.specs.declared.types.Setting.{Setting}
use Rattle.claim_book.specs.declared.types.Entry.{Entry}
use Rattle.claim_book.specs.declared.types.Entry.TheVariants.{Ask as Ask_entry, Heard as Heard_entry, Lost as Lost_entry, Note as Note_entry, Taken as Taken_entry, Held as Held_entry, Turned as Turned_entry, Rejected as Rejected_entry, Skipped as Skipped_entry}
use Rattle.claim_book.specs.declared.types.Thing.TheVariants.{Told}
use Rattle.claim_book.specs.declared.calls.BookCall.{BookCall}
use Rattle.claim_book.specs.declared.calls.BookCall.TheVariants.{Next, Heard, Lost, Finish, Pull, Note, Settle}
use Rattle.claim_book.specs.declared.calls.BookReply.{BookReply}
use Rattle.claim_book.specs.declared.calls.BookReply.TheVariants.{Ask, Kept, Taken, Held, Turned, Rejected, Skipped}
use Rattle.claim_book.specs.Journal.{settles_on, settled, things, things_of, things_in, answered, answer_of}
use Rattle.claim_book.specs.Legal.{Fits, Legal}
use Rattle.claim_book.specs.State.{BookState}
use Rattle.claim_book.specs.Calls.{BookMay, BookStep, book_after, after_kept, after_next, asker, path_of_role, settle_entry, with_entry}
use Rattle.claim_book.proofs.More.{settled_more, things_more, answered_more, along}
use Rattle.claim_book.proofs.Unsettled.{settled_few}
use Rattle.claim_book.proofs.Bounds.{asked_few, answered_within}
use Rattle.turn_book.specs.Turns.{mine}
use Rattle.path_worker.specs.Hand.{Hand}
use Rattle.path_worker.proofs.Fronts.{legal_run, setting_run}
use Rattle.path_worker.specs.Burst.{IsOpened, Going, Did, noted, settled as settled_thing, book_calls, IsDone, IsOutcome}

abbrev BookCalls : Type 0
BookCalls = List (Made BookCall BookReply)

-- 1 for a call that settles a thing
abbrev note_settles : BookReply → ℕ
note_settles Kept = 1
note_settles other = 0

abbrev outcome_settles : BookReply → ℕ
outcome_settles Skipped = 1
outcome_settles Rejected = 1
outcome_settles (Held q) = 1
outcome_settles Turned = 1
outcome_settles Taken = 1
outcome_settles other = 0

abbrev call_settles : BookCall → BookReply → ℕ
call_settles (Note c) reply = note_settles reply
call_settles (Settle checked) reply = outcome_settles reply
call_settles other reply = 0

abbrev pub settles : Made BookCall BookReply → ℕ
settles e = call_settles e.call e.reply

more_settled : (p : ℕ) (J : List Entry) (e : Entry) (n : ℕ) → n ≤ length (cond (settles_on p e) (e ∷ []) []) → length (settled p J) + n ≤ length (settled p (J ++ e ∷ []))
more_settled p J e n le = omega (arith, ap length (settled_more p J e), length-append (settled p J) (cond (settles_on p e) (e ∷ []) []))

kept_settled : (b : BookState) (p : ℕ) (e : Entry) (reply : BookReply) → length (settled p b.journal) + 0 ≤ length (settled p (after_kept b e reply).journal)
kept_settled b p e Kept = more_settled p b.journal e 0 (omega arith)
kept_settled b p e other = omega arith

next_settled : (b : BookState) (p q : ℕ) (reply : BookReply) → length (settled p b.journal) + 0 ≤ length (settled p (after_next b q reply).journal)
next_settled b p q (Ask c) = more_settled p b.journal (Ask_entry q c) 0 (omega arith)
next_settled b p q other = omega arith

any_settled : (b : BookState) (p : ℕ) (o : Option Entry) → length (settled p b.journal) + 0 ≤ length (settled p (with_entry b o).journal)
any_settled b p None = omega arith
any_settled b p (Some e) = more_settled p b.journal e 0 (omega arith)

-- no call unsettles
still_settled : (b : BookState) (p role : ℕ) (call : BookCall) (reply : BookReply) → length (settled p b.journal) + 0 ≤ length (settled p (book_after b role call reply).journal)
still_settled b p role (Next q) reply = next_settled b p q reply
still_settled b p role (Heard c reports) reply = kept_settled b p (Heard_entry (asker c b.journal) c reports) reply
still_settled b p role (Lost c cause) reply = kept_settled b p (Lost_entry (asker c b.journal) c cause) reply
still_settled b p role Finish reply = omega arith
still_settled b p role Pull reply = omega arith
still_settled b p role (Note c) reply = kept_settled b p (Note_entry (path_of_role role) c) reply
still_settled b p role (Settle checked) reply = any_settled b p (settle_entry (path_of_role role) checked.report reply)

one : (p : ℕ) (e : Entry) → settles_on p e ≡ true → 1 ≤ length (cond (settles_on p e) (e ∷ []) [])
one p e is = (let n : length (cond (settles_on p e) (e ∷ []) []) ≡ 1 = ap (λ b. length (cond b (e ∷ []) [])) is in omega arith)

note_settled : (b : BookState) (p : ℕ) (e : Entry) (reply : BookReply) → settles_on p e ≡ true → length (settled p b.journal) + note_settles reply ≤ length (settled p (after_kept b e reply).journal)
note_settled b p e Kept is = more_settled p b.journal e 1 (one p e is)
note_settled b p e other is = omega arith

outcome_settled : (b : BookState) (p : ℕ) (checked : CheckedState) (reply : BookReply) → length (settled p b.journal) + outcome_settles reply ≤ length (settled p (with_entry b (settle_entry p checked.report reply)).journal)
outcome_settled b p checked Skipped = more_settled p b.journal (Skipped_entry p checked.report) 1 (one p (Skipped_entry p checked.report) (eq-eqb p p refl))
outcome_settled b p checked Rejected = more_settled p b.journal (Rejected_entry p checked.report) 1 (one p (Rejected_entry p checked.report) (eq-eqb p p refl))
outcome_settled b p checked (Held q) = more_settled p b.journal (Held_entry p checked.report.contact q) 1 (one p (Held_entry p checked.report.contact q) (eq-eqb p p refl))
outcome_settled b p checked Turned = more_settled p b.journal (Turned_entry p checked.report.contact) 1 (one p (Turned_entry p checked.report.contact) (eq-eqb p p refl))
outcome_settled b p checked Taken = more_settled p b.journal (Taken_entry p checked.report.contact) 1 (one p (Taken_entry p checked.report.contact) (eq-eqb p p refl))
outcome_settled b p checked other = omega arith

-- the path's own role settles by each such call
own_settled : (b : BookState) (role : ℕ) (call : BookCall) (reply : BookReply) → length (settled (role - 1) b.journal) + call_settles call reply ≤ length (settled (role - 1) (book_after b role call reply).journal)
own_settled b role (Note c) reply = note_settled b (role - 1) (Note_entry (path_of_role role) c) reply (eq-eqb (role - 1) (role - 1) refl)
own_settled b role (Settle checked) reply = outcome_settled b (role - 1) checked reply
own_settled b role (Next q) reply = still_settled b (role - 1) role (Next q) reply
own_settled b role (Heard c reports) reply = still_settled b (role - 1) role (Heard c reports) reply
own_settled b role (Lost c cause) reply = still_settled b (role - 1) role (Lost c cause) reply
own_settled b role Finish reply = still_settled b (role - 1) role Finish reply
own_settled b role Pull reply = still_settled b (role - 1) role Pull reply

-- all that a role settled in a run is settled in the journal
pub run_settled : (r : ℕ) (run : BookCalls) (b : BookState) → length (settled (r - 1) b.journal) + sum_by settles (calls_of r run) ≤ length (settled (r - 1) (left_by book_after b run).journal)
run_settled r [] b = omega arith
run_settled r (e ∷ es) b = by (eqb e.role r) refl (run_settled r es (book_after b e.role e.call e.reply))
  where
    next : BookState
    next = book_after b e.role e.call e.reply

    by : (o : Bool) → eqb e.role r ≡ o → length (settled (r - 1) next.journal) + sum_by settles (calls_of r es) ≤ length (settled (r - 1) (left_by book_after next es).journal)
        → length (settled (r - 1) b.journal) + sum_by settles (calls_of r (e ∷ es)) ≤ length (settled (r - 1) (left_by book_after b (e ∷ es)).journal)
    by true is rest =
        let own : length (settled (r - 1) b.journal) + settles e ≤ length (settled (r - 1) next.journal) =
        subst (λ n. length (settled (n - 1) b.journal) + settles e ≤ length (settled (n - 1) next.journal)) (eqb-true e.role r is) (own_settled b e.role e.call e.reply) in
        let all : sum_by settles (calls_of r (e ∷ es)) ≡ settles e + sum_by settles (calls_of r es) = ap (λ o. sum_by settles (cond o (e ∷ calls_of r es) (calls_of r es))) is ∙ sum_by-cons settles e (calls_of r es) in
        omega arith
    by false is rest =
        let still = still_settled b (r - 1) e.role e.call e.reply in
        let all : sum_by settles (calls_of r (e ∷ es)) ≡ sum_by settles (calls_of r es) = ap (λ o. sum_by settles (cond o (e ∷ calls_of r es) (calls_of r es))) is in
        omega arith

thing_settles : (role : ℕ) (policy : Policy) (thing : Did) → IsDone policy thing → sum_by settles (book_calls role thing) ≡ 1
thing_settles role policy (noted c told) done = refl
thing_settles role policy (settled_thing checked reply) done = outcome checked reply done.1
  where
    outcome : (checked : CheckedState) (reply : BookReply) → IsOutcome reply → sum_by settles (book_calls role (settled_thing checked reply)) ≡ 1
    outcome checked Skipped is = refl
    outcome checked Rejected is = refl
    outcome checked (Held q) is = refl
    outcome checked Turned is = refl
    outcome checked Taken is = refl
    outcome checked other is = absurd is

pub things_settle : (role : ℕ) (policy : Policy) (did : List Did) → All (IsDone policy) did → sum_by settles (flat_map (book_calls role) did) ≡ length did
things_settle role policy [] done = refl
things_settle role policy (thing ∷ did) done =
    let rest = things_settle role policy did (λ k d lt. done (suc k) d (omega arith)) in
    let first = thing_settles role policy thing (done 0 thing (omega arith)) in
    omega (arith, sum_by-append settles (book_calls role thing) (flat_map (book_calls role) did))

thing_count : (p : ℕ) (s : Setting) (J : List Entry) (e : Entry) → Fits s J e → length (things_of p e) ≤ 17 * length (answer_of e)
thing_count p s J (Heard_entry q c reports) f = by (eqb q p) refl
  where
    by : (o : Bool) → eqb q p ≡ o → length (things_of p (Heard_entry q c reports)) ≤ 17
    by true is = (let n : length (things_of p (Heard_entry q c reports)) ≡ length (things_in c reports) = ap (λ o. length (cond o (things_in c reports) [])) is in let few = f.1 in omega (arith, length-map reports Told))
    by false is = (let n : length (things_of p (Heard_entry q c reports)) ≡ 0 = ap (λ o. length (cond o (things_in c reports) [])) is in omega arith)
thing_count p s J other f = omega arith

-- an answer gives itself and at most 16 reports
things_few : (p : ℕ) (s : Setting) (J : List Entry) → Legal s J → length (things p J) ≤ 17 * length (answered J)
unfolding things answered
things_few p s = along (λ J. length (things p J) ≤ 17 * length (answered J)) s (omega arith)
    (λ J e l d f. omega (arith, thing_count p s J e f, ap length (things_more p J e), length-append (things p J) (things_of p e), ap length (answered_more J e), length-append (answered J) (answer_of e)))

-- few entries settle on a path
pub few_settled : (p : ℕ) (s : Setting) (J : List Entry) → 0 < s.paths → s.paths < 256 → s.k < 256 → Legal s J → length (settled p J) < 2 ^ 24
few_settled p s J z n k l =
    let a = asked_few s J z k l in
    let b = answered_within s J l in
    let c = things_few p s J l in
    let d = settled_few s J l p in
    omega arith

-- what a worker did is few things
pub going_few : (start : BookState) (old new : Hand) (n : ℕ) → IsOpened start → IsRun BookMay BookStep book_after start new.book.seen → Going old new n → n < 2 ^ 24
going_few start old new n opened run going =
    let r = new.book.role in
    let left : BookState = left_by book_after start new.book.seen in
    let same : left.setting ≡ start.setting = setting_run new.book.seen start in
    let legal : Legal start.setting left.journal = subst (λ (s : Setting). Legal s left.journal) same (legal_run new.book.seen start opened.legal run) in
    let few = few_settled (r - 1) start.setting left.journal opened.some_path opened.few_paths opened.small legal in
    let all = run_settled r new.book.seen start in
    let did = flat_map (book_calls old.book.role) going.things in
    let count = going.count in
    let parts : sum_by settles (mine new.book) ≡ sum_by settles ((mine old.book ++ did) ++ []) = ap (sum_by settles) going.grew.book in
    omega (arith, sum_by-append settles (mine old.book ++ did) [], sum_by-append settles (mine old.book) did, things_settle old.book.role old.policy going.things going.grew.done)
