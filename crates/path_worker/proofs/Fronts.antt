-- What is at the front of a path stays there until the path's own role takes it away, whatever the others call.
use Rattle.std.proofs.Common.{◌≡◌, ◌≢◌, ℕ, ◌-◌, List, [], ◌∷◌, ◌++◌, length, Bool, true, false, cond, Option, Some, None, refl, sym, ap, subst, ◌∙◌, arith, eqb, ne_eqb}
use Rattle.std.specs.Prelude.{slice_get}
use Rattle.std.proofs.lemmas.Bool.{eq-eqb}
use Rattle.std.proofs.lemmas.List.{length-append}
use Rattle.std.proofs.lemmas.List.Elements.{filter-append}
use Rattle.kad_base.specs.declared.serial.Made.{Made}
use Rattle.kad_base.specs.Serial.{made, calls_of, left_by, IsRun}
use Rattle.kad_base.proofs.Runs.{left_by-append}
use Rattle.turn_book.specs.Turns.{PassState, GoesOnTo, mine}
use Rattle.claim_book.specs.declared.types.Setting.{Setting}
use Rattle.claim_book.specs.declared.types.Thing.{Thing}
use Rattle.claim_book.specs.declared.types.Thing.TheVariants.{Responder, Told}
use Rattle.kad_base.specs.declared.types.Contact.{Contact}
use Rattle.claim_book.specs.declared.types.Entry.{Entry}
use Rattle.claim_book.specs.declared.types.Entry.TheVariants.{Ask as Ask_entry, Heard as Heard_entry, Lost as Lost_entry, Note as Note_entry}
use Rattle.claim_book.specs.declared.calls.BookCall.{BookCall}
use Rattle.claim_book.specs.declared.calls.BookCall.TheVariants.{Next, Heard, Lost, Finish, Pull, Note, Settle}
use Rattle.claim_book.specs.declared.calls.BookReply.{BookReply}
use Rattle.claim_book.specs.declared.calls.BookReply.TheVariants.{Ask, Kept, NotFront, Taken, Held, Turned, Rejected, Skipped}
use Rattle.claim_book.specs.CheckedState.{CheckedState}
use Rattle.claim_book.specs.Journal.{settles_on, things_of, first_unsettled}
use Rattle.claim_book.specs.Legal.{Legal}
use Rattle.claim_book.specs.State.{BookState}
use Rattle.path_worker.specs.Burst.{IsOutcome}
use Rattle.claim_book.specs.Calls.{IsFront, BookMay, BookStep, PullStep, NoteStep, SettleStep, book_after, after_kept, after_next, asker, path_of_role, settle_entry, with_entry}
use Rattle.claim_book.proofs.Unsettled.{front_of, unsettled_other}
use Rattle.claim_book.proofs.Progress.{legal_step}

abbrev pub BookCalls : Type 0
BookCalls = List (Made BookCall BookReply)

abbrev LegalBook : BookState → Type 0
LegalBook b = Legal b.setting b.journal

-- runs in two parts
module _ {S C R : Type 0} (may : ℕ → C → Type 0) (step : S → ℕ → C → R → Type 0) (after : S → ℕ → C → R → S) where
  pub run_front : (s : S) (xs ys : List (Made C R)) → IsRun may step after s (xs ++ ys) → IsRun may step after s xs
  run_front s [] ys r = tt
  run_front s (x ∷ xs) ys r = (r.0, r.1, run_front (after s x.role x.call x.reply) xs ys r.2)

  pub run_back : (s : S) (xs ys : List (Made C R)) → IsRun may step after s (xs ++ ys) → IsRun may step after (left_by after s xs) ys
  run_back s [] ys r = r
  run_back s (x ∷ xs) ys r = run_back (after s x.role x.call x.reply) xs ys r.2

-- a run leaves a legal journal
pub legal_run : (run : BookCalls) (b : BookState) → LegalBook b → IsRun BookMay BookStep book_after b run → LegalBook (left_by book_after b run)
legal_run [] b l r = l
legal_run (e ∷ run) b l r = legal_run run (book_after b e.role e.call e.reply) (legal_step b e.role e.call e.reply l r.0 r.1) r.2

with_setting : (b : BookState) (o : Option Entry) → (with_entry b o).setting ≡ b.setting
with_setting b None = refl
with_setting b (Some e) = refl

kept_setting : (b : BookState) (e : Entry) (reply : BookReply) → (after_kept b e reply).setting ≡ b.setting
kept_setting b e Kept = refl
kept_setting b e other = refl

next_setting : (b : BookState) (p : ℕ) (reply : BookReply) → (after_next b p reply).setting ≡ b.setting
next_setting b p (Ask c) = refl
next_setting b p other = refl

setting_step : (b : BookState) (role : ℕ) (call : BookCall) (reply : BookReply) → (book_after b role call reply).setting ≡ b.setting
setting_step b role (Next p) reply = next_setting b p reply
setting_step b role (Heard c reports) reply = kept_setting b (Heard_entry (asker c b.journal) c reports) reply
setting_step b role (Lost c cause) reply = kept_setting b (Lost_entry (asker c b.journal) c cause) reply
setting_step b role Finish reply = refl
setting_step b role Pull reply = refl
setting_step b role (Note c) reply = kept_setting b (Note_entry (path_of_role role) c) reply
setting_step b role (Settle checked) reply = with_setting b (settle_entry (path_of_role role) checked.report reply)

-- a run keeps the setting
pub setting_run : (run : BookCalls) (b : BookState) → (left_by book_after b run).setting ≡ b.setting
setting_run [] b = refl
setting_run (e ∷ run) b = setting_run run (book_after b e.role e.call e.reply) ∙ setting_step b e.role e.call e.reply

-- an entry that takes nothing from the path leaves its front
front_more : (s : Setting) (p : ℕ) (J : List Entry) (e : Entry) (t : Thing) → Legal s J → settles_on p e ≡ false → first_unsettled p J ≡ Some t → first_unsettled p (J ++ e ∷ []) ≡ Some t
unfolding first_unsettled
front_more s p J e t l off f =
    let front = front_of p J t f in
    ap (λ l. slice_get l 0) (unsettled_other s p J e l off ∙ ap (λ l. l ++ things_of p e) front.is)

kept_front : (b : BookState) (e : Entry) (reply : BookReply) (p : ℕ) (t : Thing) → LegalBook b → settles_on p e ≡ false → first_unsettled p b.journal ≡ Some t → first_unsettled p (after_kept b e reply).journal ≡ Some t
kept_front b e Kept p t l off f = front_more b.setting p b.journal e t l off f
kept_front b e other p t l off f = f

next_front : (b : BookState) (q : ℕ) (reply : BookReply) (p : ℕ) (t : Thing) → LegalBook b → first_unsettled p b.journal ≡ Some t → first_unsettled p (after_next b q reply).journal ≡ Some t
next_front b q (Ask c) p t l f = front_more b.setting p b.journal (Ask_entry q c) t l refl f
next_front b q other p t l f = f

settle_front : (b : BookState) (q : ℕ) (checked : CheckedState) (reply : BookReply) (p : ℕ) (t : Thing) → LegalBook b → eqb q p ≡ false → first_unsettled p b.journal ≡ Some t → first_unsettled p (with_entry b (settle_entry q checked.report reply)).journal ≡ Some t
settle_front b q checked Skipped p t l off f = front_more b.setting p b.journal _ t l off f
settle_front b q checked Rejected p t l off f = front_more b.setting p b.journal _ t l off f
settle_front b q checked (Held n) p t l off f = front_more b.setting p b.journal _ t l off f
settle_front b q checked Turned p t l off f = front_more b.setting p b.journal _ t l off f
settle_front b q checked Taken p t l off f = front_more b.setting p b.journal _ t l off f
settle_front b q checked other p t l off f = f

pub apart : (role r : ℕ) → r ≢ 0 → role ≢ 0 → eqb role r ≡ false → eqb (role - 1) (r - 1) ≡ false
apart role r nr given off = ne_eqb (role - 1) (r - 1) (λ e.
    let same : role ≡ r = omega (arith, e, nr, given) in
    let on = eq-eqb role r same in
    absurd cc)

-- a call of another role leaves the front of the path
front_step : (r : ℕ) (t : Thing) → r ≢ 0 → (b : BookState) (role : ℕ) (call : BookCall) (reply : BookReply) → LegalBook b → eqb role r ≡ false → BookMay role call → first_unsettled (r - 1) b.journal ≡ Some t
    → first_unsettled (r - 1) (book_after b role call reply).journal ≡ Some t
front_step r t nr b role (Next p) reply l off may f = next_front b p reply (r - 1) t l f
front_step r t nr b role (Heard c reports) reply l off may f = kept_front b (Heard_entry (asker c b.journal) c reports) reply (r - 1) t l refl f
front_step r t nr b role (Lost c cause) reply l off may f = kept_front b (Lost_entry (asker c b.journal) c cause) reply (r - 1) t l refl f
front_step r t nr b role Finish reply l off may f = f
front_step r t nr b role Pull reply l off may f = f
front_step r t nr b role (Note c) reply l off may f = kept_front b (Note_entry (path_of_role role) c) reply (r - 1) t l (apart role r nr may off) f
front_step r t nr b role (Settle checked) reply l off may f = settle_front b (path_of_role role) checked reply (r - 1) t l (apart role r nr may off) f

-- and so do any number of calls of others
pub untouched : (r : ℕ) (t : Thing) → r ≢ 0 → (run : BookCalls) (b : BookState) → LegalBook b → calls_of r run ≡ [] → IsRun BookMay BookStep book_after b run → first_unsettled (r - 1) b.journal ≡ Some t
    → first_unsettled (r - 1) (left_by book_after b run).journal ≡ Some t
untouched r t nr [] b l no_own run f = f
untouched r t nr (e ∷ es) b l no_own run f =
    by (eqb e.role r) refl (λ none_left. untouched r t nr es (book_after b e.role e.call e.reply) (legal_step b e.role e.call e.reply l run.0 run.1) none_left run.2)
  where
    by : (o : Bool) → eqb e.role r ≡ o
        → (calls_of r es ≡ [] → first_unsettled (r - 1) (book_after b e.role e.call e.reply).journal ≡ Some t → first_unsettled (r - 1) (left_by book_after b (e ∷ es)).journal ≡ Some t)
        → first_unsettled (r - 1) (left_by book_after b (e ∷ es)).journal ≡ Some t
    by true is on = (let some : e ∷ calls_of r es ≡ [] = sym (ap (λ o. cond o (e ∷ calls_of r es) (calls_of r es)) is) ∙ no_own in absurd cc)
    by false is on =
        let rest : calls_of r es ≡ [] = sym (ap (λ o. cond o (e ∷ calls_of r es) (calls_of r es)) is) ∙ no_own in
        on rest (front_step r t nr b e.role e.call e.reply l is run.0 f)

-- no call of the role came before its last one
no_between : (role : ℕ) (before between : BookCalls) (e : Made BookCall BookReply) → e.role ≡ role → calls_of role ((before ++ between) ++ e ∷ []) ≡ calls_of role before ++ e ∷ [] → calls_of role between ≡ []
no_between role before between e own is =
    let own_call : calls_of role (e ∷ []) ≡ e ∷ [] = ap (λ o. cond o (e ∷ []) []) (eq-eqb e.role role own) in
    let f : Made BookCall BookReply → Bool = λ x. eqb x.role role in
    let parts : calls_of role ((before ++ between) ++ e ∷ []) ≡ (calls_of role before ++ calls_of role between) ++ calls_of role (e ∷ []) =
    filter-append f (before ++ between) (e ∷ []) ∙ ap (λ l. l ++ calls_of role (e ∷ [])) (filter-append f before between) in
    let n : length (calls_of role between) ≡ 0 =
    omega (arith, ap length parts, ap length is, ap length own_call, length-append (calls_of role before ++ calls_of role between) (calls_of role (e ∷ [])), length-append (calls_of role before) (calls_of role between), length-append (calls_of role before) (e ∷ [])) in
    empty (calls_of role between) n
  where
    empty : (l : BookCalls) → length l ≡ 0 → l ≡ []
    empty [] n = refl
    empty (x ∷ l) n = absurd (omega arith)

-- the book as a pull found it, and left it
pub pull_tells : (start : BookState) (role : ℕ) (reply : BookReply) (before seen : BookCalls) → IsRun BookMay BookStep book_after start seen → GoesOnTo (made role Pull reply) before seen
    → PullStep (left_by book_after start seen).journal (path_of_role role) reply
pull_tells start role reply before seen run on =
    let front : BookCalls = before ++ on.0 in
    let e : Made BookCall BookReply = made role Pull reply in
    let last = run_back BookMay BookStep book_after start front (e ∷ []) (subst (IsRun BookMay BookStep book_after start) on.1 run) in
    let left : left_by book_after start seen ≡ left_by book_after start front = ap (left_by book_after start) on.1 ∙ left_by-append book_after start front (e ∷ []) in
    subst (λ (b : BookState). PullStep b.journal (path_of_role role) reply) (sym left) last.1

-- the book as the next call of the role finds it
pub record Found (start : BookState) (role : ℕ) (call : BookCall) (reply : BookReply) (t : Thing) : Type 0 where
  pub book : BookState
  pub step : BookStep book role call reply
  pub front : first_unsettled (role - 1) book.journal ≡ Some t
  pub setting : book.setting ≡ start.setting

pub finds : (start : BookState) (role : ℕ) (call : BookCall) (reply : BookReply) (before seen : BookCalls) (t : Thing) → role ≢ 0 → LegalBook start → IsRun BookMay BookStep book_after start seen
    → GoesOnTo (made role call reply) before seen → calls_of role seen ≡ calls_of role before ++ made role call reply ∷ [] → first_unsettled (role - 1) (left_by book_after start before).journal ≡ Some t
    → Found start role call reply t
finds start role call reply before seen t nr legal run on own f =
    let e : Made BookCall BookReply = made role call reply in
    let between : BookCalls = on.0 in
    let there = subst (IsRun BookMay BookStep book_after start) on.1 run in
    let none_between = no_between role before between e refl (sym (ap (calls_of role) on.1) ∙ own) in
    let all = run_front BookMay BookStep book_after start (before ++ between) (e ∷ []) there in
    let last = run_back BookMay BookStep book_after start (before ++ between) (e ∷ []) there in
    let first = run_front BookMay BookStep book_after start before between all in
    let rest = run_back BookMay BookStep book_after start before between all in
    let still = untouched role t nr between (left_by book_after start before) (legal_run before start legal first) none_between rest f in
    record {
      book = left_by book_after start (before ++ between);
      step = last.1;
      front = ap (λ (b : BookState). first_unsettled (role - 1) b.journal) (left_by-append book_after start before between) ∙ still;
      setting = setting_run (before ++ between) start;
    }

note_is : (J : List Entry) (p : ℕ) (c : Contact) (reply : BookReply) → NoteStep J p c reply → first_unsettled p J ≡ Some (Responder c) → reply ≡ Kept
note_is J p c Kept h f = refl
note_is J p c NotFront h f = absurd (h f)
note_is J p c other h f = absurd h

pub note_kept : (start : BookState) (role : ℕ) (c : Contact) (reply : BookReply) → Found start role (Note c) reply (Responder c) → reply ≡ Kept
note_kept start role c reply h = note_is h.book.journal (role - 1) c reply h.step h.front

outcome_is : (s : Setting) (J : List Entry) (p : ℕ) (checked : CheckedState) (reply : BookReply) → SettleStep s J p checked reply → IsFront s J p checked → IsOutcome reply
outcome_is s J p checked Skipped h f = tt
outcome_is s J p checked Rejected h f = tt
outcome_is s J p checked (Held q) h f = tt
outcome_is s J p checked Turned h f = tt
outcome_is s J p checked Taken h f = tt
outcome_is s J p checked NotFront h f = absurd (h f)
outcome_is s J p checked other h f = absurd h

pub settle_fits : (start : BookState) (role : ℕ) (checked : CheckedState) (reply : BookReply) → Found start role (Settle checked) reply (Told checked.report) → checked.policy ≡ start.setting.policy → IsOutcome reply
settle_fits start role checked reply h policy =
    outcome_is h.book.setting h.book.journal (role - 1) checked reply h.step (record { first = h.front; policy = policy ∙ sym (ap (λ (s : Setting). s.policy) h.setting) })

-- what a pass has called, by the role that it had before
pub own_calls : (p q : PassState BookCall BookReply) (e : Made BookCall BookReply) → q.role ≡ p.role → mine q ≡ mine p ++ e ∷ [] → calls_of p.role q.seen ≡ calls_of p.role p.seen ++ e ∷ []
own_calls p q e same is = ap (λ r. calls_of r q.seen) (sym same) ∙ is
