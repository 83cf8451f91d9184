-- How many contacts a lookup takes, asks, loses and turns away, by the number of its paths.
use Rattle.std.proofs.Common.{◌≡◌, ℕ, zero, suc, ◌+◌, ◌*◌, ◌<◌, ◌≤◌, List, [], ◌∷◌, ◌++◌, length, Bool, true, false, cond, inl, inr, refl, sym, ap, subst, ◌∙◌, arith, eqb}
use Rattle.std.specs.List.{IsDistinct}
use Rattle.std.proofs.lemmas.Cmp.{eq_by_cmp_equiv}
use Rattle.std.proofs.lemmas.Map.Keys.{IsDistinct-push}
use Rattle.std.proofs.lemmas.Map.Made.{length-le_from_is_member}
use Rattle.std.proofs.lemmas.List.{append-nil, length-append}
use Rattle.std.proofs.lemmas.Bool.{eqb-true, eq-eqb, cases_lt}
use Rattle.kad_base.specs.Limits.{max_path_contacts, max_reports}
use Rattle.kad_base.specs.declared.types.Contact.{Contact}
use Rattle.kad_base.specs.Contacts.{same}
use Rattle.kad_base.proofs.Contacts.{contact_total}
use Rattle.claim_book.specs.declared.types.Setting.{Setting}
use Rattle.claim_book.specs.declared.types.Thing.TheVariants.{Responder, Told}
use Rattle.claim_book.specs.declared.types.Entry.{Entry}
use Rattle.claim_book.specs.declared.types.Entry.TheVariants.{Seed, Ask, Heard, Lost, Note, Taken, Held, Turned, Rejected, Skipped}
use Rattle.claim_book.specs.Journal.{on_path, took_of, path_of, answer_of, fail_of, turned_of, took, path, asked, answered, failed, turned}
use Rattle.claim_book.specs.Legal.{Fits, Legal}
use Rattle.claim_book.specs.Room.{unsettled_room}
use Rattle.claim_book.proofs.More.{took_more, path_more, answered_more, failed_more, turned_more, along}
use Rattle.claim_book.proofs.Claims.{open_says, among_right, asked_on_path, asked_took, asked_distinct, ended_asked, answered_asked}
use Rattle.claim_book.proofs.Ends.{path_below, first_below}
use Rattle.claim_book.proofs.Unsettled.{rooms_heard, rooms_kept}
use Rattle.claim_book.proofs.Kept.{settle_owed, off_this}
use Rattle.claim_book.proofs.Seeding.{seeds_rooms}

path_one : (p : ℕ) (e : Entry) → length (path_of p e) ≤ 1
path_one p (Seed q c) = elim (eqb q p) as (λ b. length (cond b (c ∷ []) []) ≤ 1) [ true ↦ omega arith | false ↦ omega arith ]
path_one p (Taken q c) = elim (eqb q p) as (λ b. length (cond b (c ∷ []) []) ≤ 1) [ true ↦ omega arith | false ↦ omega arith ]
path_one p other = omega arith

pub path_within : (p : ℕ) (J : List Entry) → length (path p J) ≤ length J
unfolding path
path_within p [] = omega arith
path_within p (e ∷ J) = omega (arith, length-append (path_of p e) (path p J), path_one p e, path_within p J)

path_gains : (p : ℕ) (J : List Entry) (e : Entry) → length (path p (J ++ e ∷ [])) ≡ length (path p J) + length (path_of p e)
path_gains p J e = ap length (path_more p J e) ∙ length-append (path p J) (path_of p e)

-- a path has no more contacts than it may have
pub path_few : (s : Setting) (J : List Entry) → s.k < max_path_contacts → Legal s J → (p : ℕ) → length (path p J) ≤ max_path_contacts
unfolding path
path_few s J k = along (λ J. (p : ℕ) → length (path p J) ≤ max_path_contacts) s (λ p. omega arith) (λ J e l d f p. step J e f p (d p)) J
  where
    step : (J : List Entry) (e : Entry) → Fits s J e → (p : ℕ) → length (path p J) ≤ max_path_contacts → length (path p (J ++ e ∷ [])) ≤ max_path_contacts
    step J (Seed q c) f p le = (let few = f.few in omega (arith, path_gains p J (Seed q c), path_one p (Seed q c), path_within p J))
    step J (Taken q c) f p le = full J q c p f.2 le (eqb q p) refl
      where
        full : (J : List Entry) (q : ℕ) (c : Contact) (p : ℕ) → length (path q J) < max_path_contacts → length (path p J) ≤ max_path_contacts → (b : Bool) → eqb q p ≡ b → length (path p (J ++ Taken q c ∷ [])) ≤ max_path_contacts
        full J q c p lt le true e = (let is : length (path q J) ≡ length (path p J) = ap (λ n. length (path n J)) (eqb-true q p e) in omega (arith, path_gains p J (Taken q c), path_one p (Taken q c)))
        full J q c p lt le false e = (let z : length (on_path p q (c ∷ [])) ≡ 0 = ap (λ b. length (cond b (c ∷ []) [])) e in omega (arith, path_gains p J (Taken q c), z))
    step J other f p le = omega (arith, path_gains p J other)

-- how many contacts the first n paths have
abbrev have : ℕ → List Entry → ℕ
have zero J = 0
have (suc n) J = have n J + length (path n J)

have_few : (J : List Entry) → ((p : ℕ) → length (path p J) ≤ max_path_contacts) → (n : ℕ) → have n J ≤ max_path_contacts * n
have_few J few zero = omega arith
have_few J few (suc n) = (let one = few n in let rest = have_few J few n in omega arith)

have_more : (J : List Entry) (e : Entry) (n : ℕ) → have n J ≤ have n (J ++ e ∷ [])
have_more J e zero = omega arith
have_more J e (suc n) = (let rest = have_more J e n in omega (arith, path_gains n J e))

-- what one of them gains
have_gains : (q : ℕ) (J : List Entry) (e : Entry) (n : ℕ) → q < n → have n J + length (path_of q e) ≤ have n (J ++ e ∷ [])
have_gains q J e zero lt = absurd (omega arith)
have_gains q J e (suc n) lt =
    elim (cases_lt q n) [
      | inl below ↦ (let rest = have_gains q J e n below in omega (arith, path_gains n J e))
      | inr above ↦
          let is : n ≡ q = omega arith in
          let same = ap (λ p. length (path_of p e)) is in
          let rest = have_more J e n in
          omega (arith, path_gains n J e)
    ]

-- what is taken goes to a path
took_entry : (s : Setting) (J : List Entry) (e : Entry) → 0 < s.paths → Legal s J → Fits s J e → have s.paths J + length (took_of e) ≤ have s.paths (J ++ e ∷ [])
took_entry s J (Seed q c) z l f =
    let lt = f.is_path in
    let one : length (path_of q (Seed q c)) ≡ 1 = ap (λ b. length (cond b (c ∷ []) [])) (eq-eqb q q refl) in
    let gains = have_gains q J (Seed q c) s.paths lt in
    omega arith
took_entry s J (Taken q c) z l f =
    let lt = first_below s J q (Told f.0.report) z l f.0.first in
    let one : length (path_of q (Taken q c)) ≡ 1 = ap (λ b. length (cond b (c ∷ []) [])) (eq-eqb q q refl) in
    let gains = have_gains q J (Taken q c) s.paths lt in
    omega arith
took_entry s J other z l f = (let more = have_more J other s.paths in omega arith)

-- no more are taken than the paths have
took_within : (s : Setting) (J : List Entry) → 0 < s.paths → Legal s J → length (took J) ≤ have s.paths J
unfolding took
took_within s J z = along (λ J. length (took J) ≤ have s.paths J) s (omega arith) (λ J e l d f. (let goes = took_entry s J e z l f in omega (arith, ap length (took_more J e), length-append (took J) (took_of e)))) J

pub took_few : (s : Setting) (J : List Entry) → 0 < s.paths → s.k < max_path_contacts → Legal s J → length (took J) ≤ max_path_contacts * s.paths
took_few s J z k l = (let all = took_within s J z l in let few = have_few J (path_few s J k l) s.paths in omega arith)

-- no more are asked than were taken
pub asked_within : (s : Setting) (J : List Entry) → Legal s J → length (asked J) ≤ length (took J)
asked_within s J l = length-le_from_is_member (eq_by_cmp_equiv contact_total) (asked J) (took J) (asked_distinct s J l) (λ c h. asked_took s J c l h)

pub asked_few : (s : Setting) (J : List Entry) → 0 < s.paths → s.k < max_path_contacts → Legal s J → length (asked J) ≤ max_path_contacts * s.paths
asked_few s J z k l = (let a = took_few s J z k l in let b = asked_within s J l in omega arith)

stays : (xs ys : List Contact) → ys ≡ [] → IsDistinct same xs → IsDistinct same (xs ++ ys)
stays xs ys e h = subst (IsDistinct same) (sym (append-nil xs) ∙ ap (λ l. xs ++ l) (sym e)) h

failed_step : (s : Setting) (J : List Entry) (e : Entry) → IsDistinct same (failed J) → Fits s J e → IsDistinct same (failed J ++ fail_of e)
failed_step s J (Lost q c cause) h f = IsDistinct-push (eq_by_cmp_equiv contact_total) (failed J) c h (open_says q J c f).2
failed_step s J other h f = stays _ _ refl h

pub failed_distinct : (s : Setting) (J : List Entry) → Legal s J → IsDistinct same (failed J)
unfolding failed IsDistinct
failed_distinct s = along (λ J. IsDistinct same (failed J)) s tt (λ J e l d f. subst (IsDistinct same) (sym (failed_more J e)) (failed_step s J e d f))

answered_step : (s : Setting) (J : List Entry) (e : Entry) → IsDistinct same (answered J) → Fits s J e → IsDistinct same (answered J ++ answer_of e)
answered_step s J (Heard q c reports) h f = IsDistinct-push (eq_by_cmp_equiv contact_total) (answered J) c h (open_says q J c f.0).1
answered_step s J other h f = stays _ _ refl h

pub answered_distinct : (s : Setting) (J : List Entry) → Legal s J → IsDistinct same (answered J)
unfolding answered IsDistinct
answered_distinct s = along (λ J. IsDistinct same (answered J)) s tt (λ J e l d f. subst (IsDistinct same) (sym (answered_more J e)) (answered_step s J e d f))

pub failed_within : (s : Setting) (J : List Entry) → Legal s J → length (failed J) ≤ length (asked J)
failed_within s J l = length-le_from_is_member (eq_by_cmp_equiv contact_total) (failed J) (asked J) (failed_distinct s J l) (λ c h. ended_asked s J l c (among_right (answered J) (failed J) c h))

pub answered_within : (s : Setting) (J : List Entry) → Legal s J → length (answered J) ≤ length (asked J)
answered_within s J l = length-le_from_is_member (eq_by_cmp_equiv contact_total) (answered J) (asked J) (answered_distinct s J l) (λ c h. answered_asked s J l c h)

-- an answer gives itself and its reports to settle, which are few, and what is turned away was settled
turned_entry : (s : Setting) (J : List Entry) (e : Entry) → 0 < s.paths → Legal s J → Fits s J e → 3 * length (turned_of e) + unsettled_room s.paths (J ++ e ∷ []) ≤ unsettled_room s.paths J + (3 * max_reports + 1) * length (answer_of e)
turned_entry s J (Seed q c) z l f = omega (arith, rooms_kept s J (Seed q c) s.paths l (λ p. refl) (λ p. refl))
turned_entry s J (Ask q c) z l f = omega (arith, rooms_kept s J (Ask q c) s.paths l (λ p. refl) (λ p. refl))
turned_entry s J (Heard q c reports) z l f =
    let few = f.1 in
    let below = path_below s J q c z l (asked_on_path s J l q c (open_says q J c f.0).0) in
    omega (arith, rooms_heard s J q c reports s.paths l below)
turned_entry s J (Lost q c cause) z l f = omega (arith, rooms_kept s J (Lost q c cause) s.paths l (λ p. refl) (λ p. refl))
turned_entry s J (Note q c) z l f = omega (arith, settle_owed s J (Note q c) q (Responder c) z l f (eq-eqb q q refl) (off_this q) (λ p. refl) f)
turned_entry s J (Taken q c) z l f = omega (arith, settle_owed s J (Taken q c) q (Told f.0.report) z l f (eq-eqb q q refl) (off_this q) (λ p. refl) f.0.first)
turned_entry s J (Held q c by) z l f = omega (arith, settle_owed s J (Held q c by) q (Told f.0.report) z l f (eq-eqb q q refl) (off_this q) (λ p. refl) f.0.first)
turned_entry s J (Turned q c) z l f = omega (arith, settle_owed s J (Turned q c) q (Told f.0.report) z l f (eq-eqb q q refl) (off_this q) (λ p. refl) f.0.first)
turned_entry s J (Rejected q r) z l f = omega (arith, settle_owed s J (Rejected q r) q (Told r) z l f (eq-eqb q q refl) (off_this q) (λ p. refl) f.0)
turned_entry s J (Skipped q r) z l f = omega (arith, settle_owed s J (Skipped q r) q (Told r) z l f (eq-eqb q q refl) (off_this q) (λ p. refl) f.0)

turned_within : (s : Setting) (J : List Entry) → 0 < s.paths → Legal s J → 3 * length (turned J) + unsettled_room s.paths J ≤ (3 * max_reports + 1) * length (answered J)
unfolding turned answered
turned_within s J z = along (λ J. 3 * length (turned J) + unsettled_room s.paths J ≤ (3 * max_reports + 1) * length (answered J)) s (omega (arith, seeds_rooms [] s.paths tt))
    (λ J e l d f. (let goes = turned_entry s J e z l f in omega (arith, ap length (turned_more J e), length-append (turned J) (turned_of e), ap length (answered_more J e), length-append (answered J) (answer_of e)))) J

pub turned_few : (s : Setting) (J : List Entry) → 0 < s.paths → s.k < max_path_contacts → Legal s J → length (turned J) ≤ (max_reports + 1) * (max_path_contacts * s.paths)
turned_few s J z k l =
    let a = asked_few s J z k l in
    let b = answered_within s J l in
    let c = turned_within s J z l in
    omega arith

-- what is left to settle has its room
pub room_within : (s : Setting) (J : List Entry) → 0 < s.paths → Legal s J → unsettled_room s.paths J ≤ (3 * max_reports + 1) * length (answered J)
room_within s J z l = (let all = turned_within s J z l in omega arith)

pub failed_few : (s : Setting) (J : List Entry) → 0 < s.paths → s.k < max_path_contacts → Legal s J → length (failed J) ≤ max_path_contacts * s.paths
failed_few s J z k l = (let a = asked_few s J z k l in let b = failed_within s J l in omega arith)
