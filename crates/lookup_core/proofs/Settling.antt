-- What entries that settle leave as it was: no event gives them, they ask nobody, and the other paths have as much to settle.
use Rattle.std.proofs.Common.{◌≡◌, ◌≢◌, ◌==◌, ◌<◌, ◌⊎◌, ℕ, eqb, List, [], ◌∷◌, ◌++◌, length, drop, Bool, true, false, cond, inl, inr, refl, sym, ap, ◌∙◌}
use Rattle.std.specs.Prelude.{filter, slice_get}
use Rattle.std.specs.List.{AllByRecursion, flat_map}
use Rattle.std.proofs.lemmas.Bool.{eqb-true, false≢true, true≢false}
use Rattle.std.proofs.lemmas.Bool.Decides.{eqb_tells}
use Rattle.std.proofs.lemmas.List.{append-nil}
use Rattle.std.proofs.lemmas.List.Concat.{flat_map-append}
use Rattle.std.proofs.lemmas.List.Elements.{filter-append}
use Rattle.kad_base.specs.Contacts.{without}
use Rattle.claim_book.specs.declared.calls.BookReply.{BookReply}
use Rattle.claim_book.specs.declared.calls.BookReply.TheVariants.{Alive, Report as Report_reply, Idle, Found, NotYet, NoMemory}
use Rattle.claim_book.specs.declared.types.Entry.{Entry}
use Rattle.claim_book.specs.declared.types.Entry.TheVariants.{Seed, Ask, Heard, Lost, Note, Taken, Held, Turned, Rejected, Skipped}
use Rattle.claim_book.specs.Calls.{PullStep, FinishStep}
use Rattle.claim_book.specs.RunOut.{RunOut}
use Rattle.claim_book.specs.declared.types.Setting.{Setting}
use Rattle.claim_book.specs.declared.types.Counts.{Counts}
use Rattle.kad_base.specs.declared.types.Contact.{Contact}
use Rattle.claim_book.specs.Journal.{seed_of, ask_of, answer_of, fail_of, things_of, settles_on, seeds, asked, answered, failed, open_any, things, settled, unsettled, first_unsettled}
use Rattle.lookup_core.specs.Driven.{is_driven, driven}
use Rattle.lookup_core.proofs.Received.{driven_append, seeds_append}

-- ---- entries that no event gives

abbrev pub IsSilent : Entry → Type 0
IsSilent e = is_driven e ≡ false

no_ask : (e : Entry) → IsSilent e → ask_of e ≡ []
no_ask (Ask p c) h = absurd (true≢false h)
no_ask other h = refl

no_answer : (e : Entry) → IsSilent e → answer_of e ≡ []
no_answer (Heard p c reports) h = absurd (true≢false h)
no_answer other h = refl

pub no_fail : (e : Entry) → IsSilent e → fail_of e ≡ []
no_fail (Lost p c cause) h = absurd (true≢false h)
no_fail other h = refl

no_things : (p : ℕ) (e : Entry) → IsSilent e → things_of p e ≡ []
no_things p (Heard q c reports) h = absurd (true≢false h)
no_things p other h = refl

each_silent : (es : List Entry) → driven es ≡ [] → AllByRecursion IsSilent es
unfolding driven
each_silent [] h = tt
each_silent (e ∷ es) h = by (is_driven e) refl h (each_silent es)
  where
    by : (b : Bool) → is_driven e ≡ b → cond b (e ∷ filter is_driven es) (filter is_driven es) ≡ [] → (filter is_driven es ≡ [] → AllByRecursion IsSilent es) → AllByRecursion IsSilent (e ∷ es)
    by true is none rest = absurd cc
    by false is none rest = (is, rest none)

pub silent_driven : (es : List Entry) → AllByRecursion IsSilent es → driven es ≡ []
unfolding driven
silent_driven [] h = refl
silent_driven (e ∷ es) h = ap (λ b. cond b (e ∷ filter is_driven es) (filter is_driven es)) h.0 ∙ silent_driven es h.1

none_of : {A : Type 0} (f : Entry → List A) (es : List Entry) → ((e : Entry) → IsSilent e → f e ≡ []) → AllByRecursion IsSilent es → flat_map f es ≡ []
none_of f [] g h = refl
none_of f (e ∷ es) g h = ap (λ l. l ++ flat_map f es) (g e h.0) ∙ none_of f es g h.1

more_of : {A : Type 0} (f : Entry → List A) (J es : List Entry) → ((e : Entry) → IsSilent e → f e ≡ []) → driven es ≡ [] → flat_map f (J ++ es) ≡ flat_map f J
more_of f J es g h = flat_map-append f J es ∙ ap (λ l. flat_map f J ++ l) (none_of f es g (each_silent es h)) ∙ append-nil (flat_map f J)

-- they ask nobody
pub asked_same : (J es : List Entry) → driven es ≡ [] → asked (J ++ es) ≡ asked J
unfolding asked
asked_same J es h = more_of ask_of J es no_ask h

answered_same : (J es : List Entry) → driven es ≡ [] → answered (J ++ es) ≡ answered J
unfolding answered
answered_same J es h = more_of answer_of J es no_answer h

failed_same : (J es : List Entry) → driven es ≡ [] → failed (J ++ es) ≡ failed J
unfolding failed
failed_same J es h = more_of fail_of J es no_fail h

-- and open and close no query
pub open_same : (J es : List Entry) → driven es ≡ [] → open_any (J ++ es) ≡ open_any J
unfolding open_any
open_same J es h =
    ap (λ l. without l (answered (J ++ es) ++ failed (J ++ es))) (asked_same J es h)
    ∙ ap (λ l. without (asked J) (l ++ failed (J ++ es))) (answered_same J es h) ∙ ap (λ l. without (asked J) (answered J ++ l)) (failed_same J es h)

-- the events give as much as before
pub driven_same : (J es : List Entry) → driven es ≡ [] → driven (J ++ es) ≡ driven J
driven_same J es h = driven_append J es ∙ ap (λ l. driven J ++ l) h ∙ append-nil (driven J)

-- the lookup began with the same contacts
pub seeds_same : (J es : List Entry) → seeds es ≡ [] → seeds (J ++ es) ≡ seeds J
seeds_same J es h = seeds_append J es ∙ ap (λ l. seeds J ++ l) h ∙ append-nil (seeds J)

things_same : (q : ℕ) (J es : List Entry) → driven es ≡ [] → things q (J ++ es) ≡ things q J
unfolding things
things_same q J es h = more_of (things_of q) J es (no_things q) h

-- ---- entries that settle on a path

ne-eqb : (a b : ℕ) → a ≢ b → (a == b) ≡ false
ne-eqb a b ne = here (eqb_tells a b)
  where
    here : ((eqb a b ≡ true) × (a ≡ b)) ⊎ ((eqb a b ≡ false) × (a ≢ b)) → (a == b) ≡ false
    here (inl h) = absurd (ne h.1)
    here (inr h) = h.0

other_path : (p q r : ℕ) → (q == p) ≡ true → r ≢ p → (q == r) ≡ false
other_path p q r h ne = ne-eqb q r (λ e. ne (sym e ∙ eqb-true q p h))

pub settles_silent : (p : ℕ) (e : Entry) → settles_on p e ≡ true → IsSilent e
settles_silent p (Seed q c) h = absurd (false≢true h)
settles_silent p (Ask q c) h = absurd (false≢true h)
settles_silent p (Heard q c reports) h = absurd (false≢true h)
settles_silent p (Lost q c cause) h = absurd (false≢true h)
settles_silent p other h = refl

pub no_seed : (p : ℕ) (e : Entry) → settles_on p e ≡ true → seed_of e ≡ []
no_seed p (Seed q c) h = absurd (false≢true h)
no_seed p other h = refl

pub one_unseeded : (p : ℕ) (e : Entry) → settles_on p e ≡ true → seeds (e ∷ []) ≡ []
unfolding seeds
one_unseeded p e h = append-nil (seed_of e) ∙ no_seed p e h

pub elsewhere : (p r : ℕ) (e : Entry) → settles_on p e ≡ true → r ≢ p → settles_on r e ≡ false
elsewhere p r (Note q c) h ne = other_path p q r h ne
elsewhere p r (Taken q c) h ne = other_path p q r h ne
elsewhere p r (Held q c by) h ne = other_path p q r h ne
elsewhere p r (Turned q c) h ne = other_path p q r h ne
elsewhere p r (Rejected q x) h ne = other_path p q r h ne
elsewhere p r (Skipped q x) h ne = other_path p q r h ne
elsewhere p r other h ne = refl

each_on : (p : ℕ) (es : List Entry) → AllByRecursion (λ e. settles_on p e ≡ true) es → AllByRecursion IsSilent es
each_on p [] h = tt
each_on p (e ∷ es) h = (settles_silent p e h.0, each_on p es h.1)

none_elsewhere : (p q : ℕ) (es : List Entry) → q ≢ p → AllByRecursion (λ e. settles_on p e ≡ true) es → filter (settles_on q) es ≡ []
none_elsewhere p q [] ne h = refl
none_elsewhere p q (e ∷ es) ne h = ap (λ b. cond b (e ∷ filter (settles_on q) es) (filter (settles_on q) es)) (elsewhere p q e h.0 ne) ∙ none_elsewhere p q es ne h.1

settled_same : (p q : ℕ) (J es : List Entry) → q ≢ p → AllByRecursion (λ e. settles_on p e ≡ true) es → settled q (J ++ es) ≡ settled q J
unfolding settled
settled_same p q J es ne h = filter-append (settles_on q) J es ∙ ap (λ l. filter (settles_on q) J ++ l) (none_elsewhere p q es ne h) ∙ append-nil (filter (settles_on q) J)

-- another path has as much to settle as before
pub unsettled_same : (p q : ℕ) (J es : List Entry) → q ≢ p → AllByRecursion (λ e. settles_on p e ≡ true) es → unsettled q (J ++ es) ≡ unsettled q J
unfolding unsettled
unsettled_same p q J es ne h =
    ap (λ l. drop (length l) (things q (J ++ es))) (settled_same p q J es ne h) ∙ ap (λ l. drop (length (settled q J)) l) (things_same q J es (silent_driven es (each_on p es h)))

-- ---- what a path has

-- where something was pulled, the path has something
pub pulled_some : (J : List Entry) (p q : ℕ) (reply : BookReply) → q ≡ p → reply ≢ Idle → PullStep J q reply → unsettled p J ≢ []
unfolding first_unsettled
pulled_some J p q (Alive c) same other step none = (let first : slice_get (unsettled q J) 0 ≡ slice_get [] 0 = ap (λ n. slice_get (unsettled n J) 0) same ∙ ap (λ l. slice_get l 0) none in absurd cc)
pulled_some J p q (Report_reply r) same other step none = (let first : slice_get (unsettled q J) 0 ≡ slice_get [] 0 = ap (λ n. slice_get (unsettled n J) 0) same ∙ ap (λ l. slice_get l 0) none in absurd cc)
pulled_some J p q Idle same other step none = other refl
pulled_some J p q else_ same other step none = absurd step

-- where every path has run out, a lookup's end is what it found, or want of memory
pub ends_found : (s : Setting) (J : List Entry) (reply : BookReply) → ((p : ℕ) → p < s.paths → RunOut s p J) → ((found : List Contact) (counts : Counts) → reply ≢ Found found counts) → reply ≢ NoMemory → FinishStep s J reply → ⊥
ends_found s J (Found found counts) over other some step = other found counts refl
ends_found s J (NotYet p) over other some step = step.not_run_out (over p step.is_path)
ends_found s J NoMemory over other some step = some refl
ends_found s J else_ over other some step = step
