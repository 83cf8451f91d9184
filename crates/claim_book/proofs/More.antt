-- A journal with one more entry.
use Rattle.std.proofs.Common.{◌≡◌, ℕ, List, [], ◌∷◌, ◌++◌, cond, sym, ap, subst, ◌∙◌}
use Rattle.std.specs.List.{flat_map}
use Rattle.std.proofs.lemmas.List.{append-nil, append_assoc}
use Rattle.std.proofs.lemmas.List.Concat.{flat_map-append}
use Rattle.std.proofs.lemmas.List.Elements.{filter-append}
use Rattle.kad_base.specs.declared.types.Contact.{Contact}
use Rattle.claim_book.specs.declared.types.Setting.{Setting}
use Rattle.claim_book.specs.declared.types.Entry.{Entry}
use Rattle.claim_book.specs.Journal.{seed_of, took_of, path_of, ask_of, ask_on, ask_elsewhere, asker_of, holder_of, answer_of, fail_of, turned_of, things_of, settles_on, seeds, took, path, asked, asked_on, theirs, askers, holders, answered, failed, turned, things, settled}
use Rattle.claim_book.specs.Legal.{Fits, LegalAfter, Legal}

pub flat_more : {A B : Type 0} (f : A → List B) (J : List A) (e : A) → flat_map f (J ++ e ∷ []) ≡ flat_map f J ++ f e
flat_more f J e = flat_map-append f J (e ∷ []) ∙ ap (λ l. flat_map f J ++ l) (append-nil (f e))

pub seeds_more : (J : List Entry) (e : Entry) → seeds (J ++ e ∷ []) ≡ seeds J ++ seed_of e
unfolding seeds
seeds_more J e = flat_more seed_of J e

pub took_more : (J : List Entry) (e : Entry) → took (J ++ e ∷ []) ≡ took J ++ took_of e
unfolding took
took_more J e = flat_more took_of J e

pub path_more : (p : ℕ) (J : List Entry) (e : Entry) → path p (J ++ e ∷ []) ≡ path p J ++ path_of p e
unfolding path
path_more p J e = flat_more (path_of p) J e

pub asked_more : (J : List Entry) (e : Entry) → asked (J ++ e ∷ []) ≡ asked J ++ ask_of e
unfolding asked
asked_more J e = flat_more ask_of J e

pub asked_on_more : (p : ℕ) (J : List Entry) (e : Entry) → asked_on p (J ++ e ∷ []) ≡ asked_on p J ++ ask_on p e
unfolding asked_on
asked_on_more p J e = flat_more (ask_on p) J e

pub theirs_more : (p : ℕ) (J : List Entry) (e : Entry) → theirs p (J ++ e ∷ []) ≡ theirs p J ++ ask_elsewhere p e
unfolding theirs
theirs_more p J e = flat_more (ask_elsewhere p) J e

pub askers_more : (c : Contact) (J : List Entry) (e : Entry) → askers c (J ++ e ∷ []) ≡ askers c J ++ asker_of c e
unfolding askers
askers_more c J e = flat_more (asker_of c) J e

pub holders_more : (c : Contact) (J : List Entry) (e : Entry) → holders c (J ++ e ∷ []) ≡ holders c J ++ holder_of c e
unfolding holders
holders_more c J e = flat_more (holder_of c) J e

pub answered_more : (J : List Entry) (e : Entry) → answered (J ++ e ∷ []) ≡ answered J ++ answer_of e
unfolding answered
answered_more J e = flat_more answer_of J e

pub failed_more : (J : List Entry) (e : Entry) → failed (J ++ e ∷ []) ≡ failed J ++ fail_of e
unfolding failed
failed_more J e = flat_more fail_of J e

pub turned_more : (J : List Entry) (e : Entry) → turned (J ++ e ∷ []) ≡ turned J ++ turned_of e
unfolding turned
turned_more J e = flat_more turned_of J e

pub things_more : (p : ℕ) (J : List Entry) (e : Entry) → things p (J ++ e ∷ []) ≡ things p J ++ things_of p e
unfolding things
things_more p J e = flat_more (things_of p) J e

pub settled_more : (p : ℕ) (J : List Entry) (e : Entry) → settled p (J ++ e ∷ []) ≡ settled p J ++ cond (settles_on p e) (e ∷ []) []
unfolding settled
settled_more p J e = filter-append (settles_on p) J (e ∷ [])

legal_after_more : (s : Setting) (P J : List Entry) (e : Entry) → LegalAfter s P J → Fits s (P ++ J) e → LegalAfter s P (J ++ e ∷ [])
legal_after_more s P [] e h f = (subst (λ l. Fits s l e) (append-nil P) f, tt)
legal_after_more s P (x ∷ J) e h f = (h.0, legal_after_more s (P ++ x ∷ []) J e h.1 (subst (λ l. Fits s l e) (sym (append_assoc P (x ∷ []) J)) f))

-- one more entry that fits
pub legal_more : (s : Setting) (J : List Entry) (e : Entry) → Legal s J → Fits s J e → Legal s (J ++ e ∷ [])
unfolding Legal
legal_more s J e h f = legal_after_more s [] J e h f

fits_after : (s : Setting) (P J : List Entry) (e : Entry) (es : List Entry) → LegalAfter s P (J ++ e ∷ es) → LegalAfter s P J × Fits s (P ++ J) e
fits_after s P [] e es h = (tt, subst (λ l. Fits s l e) (sym (append-nil P)) h.0)
fits_after s P (x ∷ J) e es h =
    let r = fits_after s (P ++ x ∷ []) J e es h.1 in
    ((h.0, r.0), subst (λ l. Fits s l e) (append_assoc P (x ∷ []) J) r.1)

-- each entry fits what is before it, which is legal
pub fits_in : (s : Setting) (J : List Entry) (e : Entry) (es : List Entry) → Legal s (J ++ e ∷ es) → Legal s J × Fits s J e
unfolding Legal
fits_in s J e es h = fits_after s [] J e es h

-- the last one too
pub last_fits : (s : Setting) (J : List Entry) (e : Entry) → Legal s (J ++ e ∷ []) → Legal s J × Fits s J e
last_fits s J e h = fits_in s J e [] h

along_after : (P : List Entry → Type 0) (s : Setting) → ((J : List Entry) (e : Entry) → Legal s J → P J → Fits s J e → P (J ++ e ∷ [])) → (J es : List Entry) → Legal s J → P J → LegalAfter s J es → P (J ++ es)
along_after P s step J [] l p h = subst P (sym (append-nil J)) p
along_after P s step J (e ∷ es) l p h = subst P (append_assoc J (e ∷ []) es) (along_after P s step (J ++ e ∷ []) es (legal_more s J e l h.0) (step J e l p h.0) h.1)

-- what each entry that fits keeps holds of a legal journal
pub along : (P : List Entry → Type 0) (s : Setting) → P [] → ((J : List Entry) (e : Entry) → Legal s J → P J → Fits s J e → P (J ++ e ∷ [])) → (J : List Entry) → Legal s J → P J
unfolding Legal
along P s none step J h = along_after P s step [] J tt none h
