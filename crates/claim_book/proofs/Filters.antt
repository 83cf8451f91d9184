-- What a journal shows with one more entry, filter by filter.
use Rattle.std.proofs.Common.{◌≡◌, ℕ, ◌+◌, ◌<◌, List, [], ◌∷◌, ◌++◌, length, Bool, true, false, not, ◌||◌, cond, refl, sym, ap, ◌∙◌, arith, eqb}
use Rattle.std.specs.Prelude.{filter}
use Rattle.std.specs.List.{IsDistinct}
use Rattle.std.proofs.lemmas.List.{append-nil, length-append}
use Rattle.std.proofs.lemmas.List.Elements.{filter-append, filter_agree}
use Rattle.std.proofs.lemmas.Bool.{eq-eqb, eqb-false}
use Rattle.kad_base.specs.declared.types.Contact.{Contact}
use Rattle.kad_base.specs.declared.types.Report.{Report}
use Rattle.kad_base.specs.Contacts.{same, among, without}
use Rattle.kad_base.proofs.Contacts.{among_more}
use Rattle.claim_book.specs.declared.types.Setting.{Setting}
use Rattle.claim_book.specs.declared.types.Cause.{Cause}
use Rattle.claim_book.specs.declared.types.Entry.{Entry}
use Rattle.claim_book.specs.declared.types.Entry.TheVariants.{Ask, Heard, Lost}
use Rattle.claim_book.specs.Journal.{on_path, ask_on, answer_of, fail_of, took, asked, asked_on, answered, failed, open_on}
use Rattle.claim_book.specs.Legal.{Fits, Legal, is_of}
use Rattle.claim_book.proofs.More.{asked_on_more, answered_more, failed_more}
use Rattle.claim_book.proofs.Among.{without_less, without_twice, without_absent}
use Rattle.claim_book.proofs.Closest.{distinct_filter}
use Rattle.claim_book.proofs.Claims.{open_says, path_took, asked_on_path, ended_asked, among_right, one_asker}
use Rattle.claim_book.proofs.Ends.{asked_by_some}
use Rattle.claim_book.proofs.Seeding.{none_out}
use Rattle.claim_book.proofs.Forever.{elsewhere, asked_on_distinct}

pub same_list : {A : Type 0} (xs ys : List A) → ys ≡ [] → xs ++ ys ≡ xs
same_list xs ys e = ap (λ l. xs ++ l) e ∙ append-nil xs

pub own_path : {A : Type 0} (p : ℕ) (xs : List A) → on_path p p xs ≡ xs
own_path p xs = ap (λ b. cond b xs []) (eq-eqb p p refl)

no_true : (b : Bool) → (b ≡ true → ⊥) → b ≡ false
no_true true n = absurd (n refl)
no_true false n = refl

ended_more : (J : List Entry) (e : Entry) (x : Contact) → among (answered (J ++ e ∷ []) ++ failed (J ++ e ∷ [])) x ≡ among ((answered J ++ failed J) ++ (answer_of e ++ fail_of e)) x
ended_more J e x =
    among_more (answered (J ++ e ∷ [])) (failed (J ++ e ∷ [])) x
    ∙ ap (λ b. b || among (failed (J ++ e ∷ [])) x) (ap (λ l. among l x) (answered_more J e) ∙ among_more (answered J) (answer_of e) x)
    ∙ ap (λ b. (among (answered J) x || among (answer_of e) x) || b) (ap (λ l. among l x) (failed_more J e) ∙ among_more (failed J) (fail_of e) x)
    ∙ swap (among (answered J) x) (among (answer_of e) x) (among (failed J) x) (among (fail_of e) x)
    ∙ sym (among_more (answered J ++ failed J) (answer_of e ++ fail_of e) x ∙ ap (λ b. b || among (answer_of e ++ fail_of e) x) (among_more (answered J) (failed J) x)
    ∙ ap (λ b. (among (answered J) x || among (failed J) x) || b) (among_more (answer_of e) (fail_of e) x))
  where
    swap : (a b f g : Bool) → ((a || b) || (f || g)) ≡ ((a || f) || (b || g))
    swap true b f g = refl
    swap false true true g = refl
    swap false true false g = refl
    swap false false true g = refl
    swap false false false g = refl

pub open_more : (p : ℕ) (J : List Entry) (e : Entry) → open_on p (J ++ e ∷ []) ≡ without (without (asked_on p J ++ ask_on p e) (answered J ++ failed J)) (answer_of e ++ fail_of e)
unfolding open_on
open_more p J e =
    ap (λ l. without l (answered (J ++ e ∷ []) ++ failed (J ++ e ∷ []))) (asked_on_more p J e)
    ∙ filter_agree (λ x. not (among (answered (J ++ e ∷ []) ++ failed (J ++ e ∷ [])) x)) (λ x. not (among ((answered J ++ failed J) ++ (answer_of e ++ fail_of e)) x)) (λ x. ap not (ended_more J e x)) (asked_on p J ++ ask_on p e)
    ∙ without_twice (asked_on p J ++ ask_on p e) (answered J ++ failed J) (answer_of e ++ fail_of e)

-- where the path asks none
pub open_unasked : (p : ℕ) (J : List Entry) (e : Entry) → ask_on p e ≡ [] → open_on p (J ++ e ∷ []) ≡ without (open_on p J) (answer_of e ++ fail_of e)
unfolding open_on
open_unasked p J e a = open_more p J e ∙ ap (λ l. without (without l (answered J ++ failed J)) (answer_of e ++ fail_of e)) (same_list (asked_on p J) (ask_on p e) a)

pub open_kept : (p : ℕ) (J : List Entry) (e : Entry) → ask_on p e ≡ [] → answer_of e ≡ [] → fail_of e ≡ [] → open_on p (J ++ e ∷ []) ≡ open_on p J
open_kept p J e a n l = open_unasked p J e a ∙ ap (λ x. without (open_on p J) (x ++ fail_of e)) n ∙ ap (without (open_on p J)) l ∙ none_out (open_on p J)

pub open_asked : (p : ℕ) (J : List Entry) (c : Contact) → among (answered J ++ failed J) c ≡ false → length (open_on p (J ++ Ask p c ∷ [])) ≡ length (open_on p J) + 1
unfolding open_on
open_asked p J c out =
    let t = λ (x : Contact). not (among (answered J ++ failed J) x) in
    ap length (open_more p J (Ask p c) ∙ none_out (without (asked_on p J ++ on_path p p (c ∷ [])) (answered J ++ failed J)) ∙ ap (λ l. without (asked_on p J ++ l) (answered J ++ failed J)) (own_path p (c ∷ []))
    ∙ filter-append t (asked_on p J) (c ∷ []))
    ∙ ap (λ b. length (filter t (asked_on p J) ++ cond (not b) (c ∷ []) [])) out
    ∙ length-append (filter t (asked_on p J)) (c ∷ [])

-- one that is there is left out
pub one_less : (cs : List Contact) (c : Contact) → IsDistinct same cs → among cs c ≡ true → length (without cs (c ∷ [])) + 1 ≡ length cs
one_less cs c d h = without_less cs [] (c ∷ []) c d (ap (λ l. among l c) (none_out cs) ∙ h) (λ x. or_no (same x c)) ∙ ap length (none_out cs)
  where
    or_no : (b : Bool) → (b || false) ≡ b
    or_no true = refl
    or_no false = refl

open_distinct : (s : Setting) (p : ℕ) (J : List Entry) → Legal s J → IsDistinct same (open_on p J)
unfolding open_on
open_distinct s p J l = distinct_filter (λ x. not (among (answered J ++ failed J) x)) (asked_on p J) (asked_on_distinct s p J l)

pub open_heard : (s : Setting) (p : ℕ) (J : List Entry) (c : Contact) (reports : List Report) → Legal s J → among (open_on p J) c ≡ true → length (open_on p (J ++ Heard p c reports ∷ [])) + 1 ≡ length (open_on p J)
open_heard s p J c reports l h = ap (λ x. length x + 1) (open_unasked p J (Heard p c reports) refl) ∙ one_less (open_on p J) c (open_distinct s p J l) h

pub open_lost : (s : Setting) (p : ℕ) (J : List Entry) (c : Contact) (cause : Cause) → Legal s J → among (open_on p J) c ≡ true → length (open_on p (J ++ Lost p c cause ∷ [])) + 1 ≡ length (open_on p J)
open_lost s p J c cause l h = ap (λ x. length x + 1) (open_unasked p J (Lost p c cause) refl) ∙ one_less (open_on p J) c (open_distinct s p J l) h

pub some_open : (p : ℕ) (J : List Entry) (c : Contact) → among (open_on p J) c ≡ true → 0 < length (open_on p J)
some_open p J c h = by (open_on p J) h
  where
    by : (cs : List Contact) → among cs c ≡ true → 0 < length cs
    by [] e = absurd cc
    by (d ∷ cs) e = omega arith

-- what is open on a path stays so while another path's entry comes
pub open_stays : (s : Setting) (J : List Entry) (e : Entry) (p : ℕ) → Legal s J → Fits s J e → is_of p e ≡ false → open_on p (J ++ e ∷ []) ≡ open_on p J
open_stays s J e p l f h = open_unasked p J e (elsewhere p e h).none_asked ∙ rest e f h
  where
    away : (q : ℕ) (c : Contact) → among (open_on q J) c ≡ true → eqb q p ≡ false → among (open_on p J) c ≡ false
    away q c there ne = no_true (among (open_on p J) c) (λ here. eqb-false q p ne (one_asker s J l q p c (open_says q J c there).0 (open_says p J c here).0))

    rest : (e : Entry) → Fits s J e → is_of p e ≡ false → without (open_on p J) (answer_of e ++ fail_of e) ≡ open_on p J
    rest (Heard q c reports) f h = without_absent (open_on p J) c (away q c f.0 h)
    rest (Lost q c cause) f h = without_absent (open_on p J) c (away q c f h)
    rest other f h = none_out (open_on p J)

-- ---- who is new

pub none_ended : (s : Setting) (J : List Entry) → Legal s J → (c : Contact) → among (asked J) c ≡ false → among (answered J ++ failed J) c ≡ false
none_ended s J l c new = no_true (among (answered J ++ failed J) c) (λ e. let a = ended_asked s J l c e in absurd cc)

pub none_asked : (s : Setting) (J : List Entry) → Legal s J → (c : Contact) → among (took J) c ≡ false → among (asked J) c ≡ false
none_asked s J l c out = no_true (among (asked J) c) (λ e. let some = asked_by_some c J e in let in_took = path_took some.0 J c (asked_on_path s J l some.0 c some.2) in absurd cc)

pub none_failed : (J : List Entry) (c : Contact) → among (answered J ++ failed J) c ≡ false → among (failed J) c ≡ false
none_failed J c out = no_true (among (failed J) c) (λ e. let a = among_right (answered J) (failed J) c e in absurd cc)
