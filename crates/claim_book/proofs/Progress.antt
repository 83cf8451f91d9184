-- Each reply leaves a legal journal.
use Rattle.std.proofs.Common.{◌≡◌, ℕ, ◌+◌, ◌≤◌, List, [], ◌∷◌, ◌++◌, length, Option, Some, None, true, refl, subst}
use Rattle.std.proofs.lemmas.Bool.{eq-eqb}
use Rattle.kad_base.specs.Limits.{max_reports}
use Rattle.kad_base.specs.declared.types.Contact.{Contact}
use Rattle.kad_base.specs.declared.types.Report.{Report}
use Rattle.kad_base.specs.Contacts.{among}
use Rattle.claim_book.specs.declared.types.Setting.{Setting}
use Rattle.claim_book.specs.declared.types.Entry.{Entry}
use Rattle.claim_book.specs.declared.types.Entry.TheVariants.{Ask as Ask_entry, Heard as Heard_entry, Lost as Lost_entry, Note as Note_entry, Taken as Taken_entry, Held as Held_entry, Turned as Turned_entry, Rejected as Rejected_entry, Skipped as Skipped_entry}
use Rattle.claim_book.specs.declared.calls.BookCall.{BookCall}
use Rattle.claim_book.specs.declared.calls.BookCall.TheVariants.{Next, Heard, Lost, Finish, Pull, Note, Settle}
use Rattle.claim_book.specs.declared.calls.BookReply.{BookReply}
use Rattle.claim_book.specs.declared.calls.BookReply.TheVariants.{Ask, Kept, Taken, Held, Turned, Rejected, Skipped}
use Rattle.claim_book.specs.CheckedState.{CheckedState}
use Rattle.claim_book.specs.Journal.{settles_on, open_any, unsettled}
use Rattle.claim_book.specs.Legal.{Believed, Fits, Legal}
use Rattle.claim_book.specs.State.{BookState, added}
use Rattle.claim_book.specs.Calls.{BookMay, BookStep, IsSound, NoteStep, SettleStep, settle_entry, with_entry, book_after, asker, path_of_role}
use Rattle.claim_book.proofs.More.{legal_more}
use Rattle.claim_book.proofs.Deciding.{open_on_asker}
use Rattle.claim_book.proofs.Kept.{IsOwed}
use Rattle.claim_book.proofs.Unsettled.{unsettled_less}

-- an entry of the path that fits, settles, and for which there is room
pub record Settling (s : Setting) (J : List Entry) (p : ℕ) (e : Entry) : Type 0 where
  pub fits : Fits s J e
  pub owed : IsOwed e
  pub settles : settles_on p e ≡ true

believed : (s : Setting) (J : List Entry) (p : ℕ) (checked : CheckedState) → IsSound s J p checked → Believed s J p checked.report.contact
believed s J p checked h = record { report = checked.report; contact = refl; first = h.front.first; usable = h.usable; passes = h.passes }

pub settling : (s : Setting) (J : List Entry) (p : ℕ) (checked : CheckedState) (reply : BookReply) (e : Entry) → SettleStep s J p checked reply → settle_entry p checked.report reply ≡ Some e → Settling s J p e
settling s J p checked Skipped e h is = subst (Settling s J p) (let q : Skipped_entry p checked.report ≡ e = cc in q) (record { fits = (h.0.first, h.1); owed = tt; settles = eq-eqb p p refl })
settling s J p checked Rejected e h is = subst (Settling s J p) (let q : Rejected_entry p checked.report ≡ e = cc in q) (record { fits = (h.0.first, h.1, h.2); owed = tt; settles = eq-eqb p p refl })
settling s J p checked (Held n) e h is = subst (Settling s J p) (let q : Held_entry p checked.report.contact n ≡ e = cc in q) (record { fits = (believed s J p checked h.0, h.1); owed = tt; settles = eq-eqb p p refl })
settling s J p checked Turned e h is = subst (Settling s J p) (let q : Turned_entry p checked.report.contact ≡ e = cc in q) (record { fits = (believed s J p checked h.0, h.1, h.2); owed = tt; settles = eq-eqb p p refl })
settling s J p checked Taken e h is = subst (Settling s J p) (let q : Taken_entry p checked.report.contact ≡ e = cc in q) (record { fits = (believed s J p checked h.0, h.1, h.2, h.3); owed = tt; settles = eq-eqb p p refl })
settling s J p checked other e h is = absurd cc

-- a settled report leaves one thing less
pub settled_less : (s : Setting) (J : List Entry) (p : ℕ) (checked : CheckedState) (reply : BookReply) (e : Entry) → SettleStep s J p checked reply → settle_entry p checked.report reply ≡ Some e → length (unsettled p (J ++ e ∷ [])) + 1 ≡ length (unsettled p J)
settled_less s J p checked reply e h is = (let w = settling s J p checked reply e h is in unsettled_less s J e p w.fits w.settles)

-- and so does a noted one
pub noted_less : (s : Setting) (J : List Entry) (p : ℕ) (c : Contact) → NoteStep J p c Kept → length (unsettled p (J ++ Note_entry p c ∷ [])) + 1 ≡ length (unsettled p J)
noted_less s J p c h = unsettled_less s J (Note_entry p c) p h (eq-eqb p p refl)

abbrev LegalBook : BookState → Type 0
LegalBook b = Legal b.setting b.journal

heard_legal : (b : BookState) (c : Contact) (reports : List Report) → length reports ≤ max_reports → LegalBook b → among (open_any b.journal) c ≡ true → LegalBook (added b (Heard_entry (asker c b.journal) c reports))
heard_legal b c reports few l h = legal_more b.setting b.journal (Heard_entry (asker c b.journal) c reports) l (open_on_asker b.journal c h, few)

settle_legal : (b : BookState) (p : ℕ) (checked : CheckedState) (reply : BookReply) (o : Option Entry) → LegalBook b → SettleStep b.setting b.journal p checked reply → settle_entry p checked.report reply ≡ o → LegalBook (with_entry b o)
settle_legal b p checked reply None l h is = l
settle_legal b p checked reply (Some e) l h is = legal_more b.setting b.journal e l (settling b.setting b.journal p checked reply e h is).fits

-- each step leaves a legal journal
pub legal_step : (b : BookState) (role : ℕ) (call : BookCall) (reply : BookReply) → Legal b.setting b.journal → BookMay role call → BookStep b role call reply → Legal (book_after b role call reply).setting (book_after b role call reply).journal
legal_step b role (Next p) (Ask c) l may h = legal_more b.setting b.journal (Ask_entry p c) l h
legal_step b role (Next p) other l may h = l
legal_step b role (Heard c reports) Kept l may h = heard_legal b c reports may.1 l h
legal_step b role (Heard c reports) other l may h = l
legal_step b role (Lost c cause) Kept l may h = legal_more b.setting b.journal (Lost_entry (asker c b.journal) c cause) l (open_on_asker b.journal c h)
legal_step b role (Lost c cause) other l may h = l
legal_step b role Finish other l may h = l
legal_step b role Pull other l may h = l
legal_step b role (Note c) Kept l may h = legal_more b.setting b.journal (Note_entry (path_of_role role) c) l h
legal_step b role (Note c) other l may h = l
legal_step b role (Settle checked) reply l may h = settle_legal b (path_of_role role) checked reply (settle_entry (path_of_role role) checked.report reply) l h refl
