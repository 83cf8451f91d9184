-- Who is alive on a path, and whom of them nobody asked, with one more entry.
use Rattle.std.proofs.Common.{◌≡◌, ℕ, List, [], ◌∷◌, ◌++◌, Bool, true, false, not, ◌||◌, ◌&&◌, cond, refl, sym, ap, ◌∙◌, eqb}
use Rattle.std.specs.Prelude.{filter}
use Rattle.std.proofs.lemmas.List.Elements.{filter-append, filter_agree}
use Rattle.std.proofs.lemmas.Bool.{eq-eqb}
use Rattle.kad_base.specs.declared.types.Contact.{Contact}
use Rattle.kad_base.specs.Contacts.{same, among, without}
use Rattle.kad_base.proofs.Contacts.{same_exact}
use Rattle.claim_book.specs.declared.types.Setting.{Setting}
use Rattle.claim_book.specs.declared.types.Cause.{Cause}
use Rattle.claim_book.specs.declared.types.Entry.{Entry}
use Rattle.claim_book.specs.declared.types.Entry.TheVariants.{Ask, Lost}
use Rattle.claim_book.specs.Journal.{path_of, ask_of, ask_elsewhere, fail_of, path, asked, failed, theirs, own, alive}
use Rattle.claim_book.specs.Legal.{Fits, is_of}
use Rattle.claim_book.proofs.More.{asked_more, failed_more}
use Rattle.claim_book.proofs.Among.{among_itself, among_without, without_twice, without_absent, without_swap}
use Rattle.claim_book.proofs.Claims.{no_true, alive_on_path}
use Rattle.claim_book.proofs.Seeding.{none_out}
use Rattle.claim_book.proofs.Forever.{own_more, alive_stays, alive_lent}
use Rattle.claim_book.proofs.Filters.{same_list}

-- one that is left out anyway
without_anyway : (cs out : List Contact) (c : Contact) → among out c ≡ true → without (without cs (c ∷ [])) out ≡ without cs out
without_anyway cs out c was =
    sym (without_twice cs (c ∷ []) out) ∙ filter_agree (λ d. not (among (c ∷ [] ++ out) d)) (λ d. not (among out d)) (λ d. ap not (agrees d (same d c) refl)) cs
  where
    agrees : (d : Contact) (b : Bool) → same d c ≡ b → (same d c || among out d) ≡ among out d
    agrees d true e = ap (λ b. b || among out d) e ∙ sym (ap (among out) (same_exact d c e) ∙ was)
    agrees d false e = ap (λ b. b || among out d) e

-- one more at the end that isn't left out
without_last : (cs out : List Contact) (c : Contact) → among out c ≡ false → without (cs ++ c ∷ []) out ≡ without cs out ++ c ∷ []
without_last cs out c no_out =
    let t = λ (x : Contact). not (among out x) in
    filter-append t cs (c ∷ []) ∙ ap (λ b. filter t cs ++ cond (not b) (c ∷ []) []) no_out

-- ---- what is the path's own

-- where the path gets none
own_unchanged : (p : ℕ) (J : List Entry) (e : Entry) → path_of p e ≡ [] → own p (J ++ e ∷ []) ≡ without (own p J) (ask_elsewhere p e)
unfolding own
own_unchanged p J e a = own_more p J e ∙ ap (λ l. without (without l (theirs p J)) (ask_elsewhere p e)) (same_list (path p J) (path_of p e) a)

-- and where it gets one that no other path asked
own_gains : (p : ℕ) (J : List Entry) (e : Entry) (c : Contact) → path_of p e ≡ c ∷ [] → ask_elsewhere p e ≡ [] → among (theirs p J) c ≡ false → own p (J ++ e ∷ []) ≡ own p J ++ c ∷ []
unfolding own
own_gains p J e c gets none new =
    own_more p J e ∙ ap (without (without (path p J ++ path_of p e) (theirs p J))) none ∙ none_out (without (path p J ++ path_of p e) (theirs p J))
    ∙ ap (λ l. without (path p J ++ l) (theirs p J)) gets ∙ without_last (path p J) (theirs p J) c new

-- ---- who is alive

alive_more : (p : ℕ) (J : List Entry) (e : Entry) → alive p (J ++ e ∷ []) ≡ without (without (own p (J ++ e ∷ [])) (failed J)) (fail_of e)
unfolding alive
alive_more p J e = ap (without (own p (J ++ e ∷ []))) (failed_more J e) ∙ without_twice (own p (J ++ e ∷ [])) (failed J) (fail_of e)

-- where the path gets none
alive_unchanged : (p : ℕ) (J : List Entry) (e : Entry) → path_of p e ≡ [] → alive p (J ++ e ∷ []) ≡ without (without (alive p J) (ask_elsewhere p e)) (fail_of e)
unfolding alive
alive_unchanged p J e a = alive_more p J e ∙ ap (λ l. without l (fail_of e)) (ap (λ l. without l (failed J)) (own_unchanged p J e a) ∙ without_swap (own p J) (ask_elsewhere p e) (failed J))

pub alive_kept : (p : ℕ) (J : List Entry) (e : Entry) → path_of p e ≡ [] → ask_elsewhere p e ≡ [] → fail_of e ≡ [] → alive p (J ++ e ∷ []) ≡ alive p J
alive_kept p J e a k l = alive_unchanged p J e a ∙ ap (λ x. without (without (alive p J) x) (fail_of e)) k ∙ ap (without (without (alive p J) [])) l ∙ none_out (without (alive p J) []) ∙ none_out (alive p J)

pub alive_lost : (p : ℕ) (J : List Entry) (c : Contact) (cause : Cause) → alive p (J ++ Lost p c cause ∷ []) ≡ without (alive p J) (c ∷ [])
alive_lost p J c cause = alive_unchanged p J (Lost p c cause) refl ∙ ap (λ l. without l (c ∷ [])) (none_out (alive p J))

asks_own : (p : ℕ) (c : Contact) → ask_elsewhere p (Ask p c) ≡ []
asks_own p c = ap (λ b. cond b [] (c ∷ [])) (eq-eqb p p refl)

-- an ask of its own leaves the path as it is
pub alive_asked : (p : ℕ) (J : List Entry) (c : Contact) → alive p (J ++ Ask p c ∷ []) ≡ alive p J
alive_asked p J c = alive_kept p J (Ask p c) refl (asks_own p c) refl

not_alive : (J : List Entry) (p : ℕ) (c : Contact) → among (path p J) c ≡ false → among (alive p J) c ≡ false
not_alive J p c out = no_true (among (alive p J) c) (λ t. let on = (alive_on_path p J c t).0 in absurd cc)

-- where the path gets a contact that nobody asked
pub alive_gains : (p : ℕ) (J : List Entry) (e : Entry) (c : Contact) → path_of p e ≡ c ∷ [] → ask_elsewhere p e ≡ [] → fail_of e ≡ [] → among (theirs p J) c ≡ false → among (failed J) c ≡ false → alive p (J ++ e ∷ []) ≡ alive p J ++ c ∷ []
unfolding alive
alive_gains p J e c gets asks l new out =
    alive_more p J e ∙ ap (without (without (own p (J ++ e ∷ [])) (failed J))) l ∙ none_out (without (own p (J ++ e ∷ [])) (failed J)) ∙ ap (λ x. without x (failed J)) (own_gains p J e c gets asks new) ∙ without_last (own p J) (failed J) c out

-- another path's entry leaves all alive where it asks none of them
pub alive_apart : (s : Setting) (J : List Entry) (e : Entry) (p : ℕ) → Fits s J e → is_of p e ≡ false → ((c : Contact) → among (ask_of e) c ≡ true → among (path p J) c ≡ false) → alive p (J ++ e ∷ []) ≡ alive p J
alive_apart s J (Ask q c) p f h apart = alive_lent s J p q c f h ∙ without_absent (alive p J) c (not_alive J p c (apart c (among_itself c)))
alive_apart s J other p f h apart = alive_stays s J other p f h refl

-- ---- those of the path that nobody asked

abbrev pub fresh_on : ℕ → List Entry → List Contact
fresh_on p J = without (alive p J) (asked J)

fresh_more : (p : ℕ) (J : List Entry) (e : Entry) → fresh_on p (J ++ e ∷ []) ≡ without (without (alive p (J ++ e ∷ [])) (asked J)) (ask_of e)
fresh_more p J e = ap (without (alive p (J ++ e ∷ []))) (asked_more J e) ∙ without_twice (alive p (J ++ e ∷ [])) (asked J) (ask_of e)

fresh_unasked : (p : ℕ) (J : List Entry) (e : Entry) → ask_of e ≡ [] → fresh_on p (J ++ e ∷ []) ≡ without (alive p (J ++ e ∷ [])) (asked J)
fresh_unasked p J e a = fresh_more p J e ∙ ap (without (without (alive p (J ++ e ∷ [])) (asked J))) a ∙ none_out (without (alive p (J ++ e ∷ [])) (asked J))

-- where the same are alive
fresh_alike : (p : ℕ) (J : List Entry) (e : Entry) → ask_of e ≡ [] → alive p (J ++ e ∷ []) ≡ alive p J → fresh_on p (J ++ e ∷ []) ≡ fresh_on p J
fresh_alike p J e k same_alive = fresh_unasked p J e k ∙ ap (λ x. without x (asked J)) same_alive

pub fresh_kept : (p : ℕ) (J : List Entry) (e : Entry) → path_of p e ≡ [] → ask_elsewhere p e ≡ [] → fail_of e ≡ [] → ask_of e ≡ [] → fresh_on p (J ++ e ∷ []) ≡ fresh_on p J
fresh_kept p J e a k l asks = fresh_alike p J e asks (alive_kept p J e a k l)

pub fresh_asked : (p : ℕ) (J : List Entry) (c : Contact) → fresh_on p (J ++ Ask p c ∷ []) ≡ without (fresh_on p J) (c ∷ [])
fresh_asked p J c = fresh_more p J (Ask p c) ∙ ap (λ x. without (without x (asked J)) (c ∷ [])) (alive_asked p J c)

pub fresh_lent : (s : Setting) (J : List Entry) (p q : ℕ) (c : Contact) → Fits s J (Ask q c) → eqb q p ≡ false → fresh_on p (J ++ Ask q c ∷ []) ≡ without (fresh_on p J) (c ∷ [])
fresh_lent s J p q c f ne =
    fresh_more p J (Ask q c) ∙ ap (λ x. without (without x (asked J)) (c ∷ [])) (alive_lent s J p q c f ne) ∙ ap (λ x. without x (c ∷ [])) (without_swap (alive p J) (c ∷ []) (asked J)) ∙ without_anyway (fresh_on p J) (c ∷ []) c (among_itself c)

pub fresh_gains : (p : ℕ) (J : List Entry) (e : Entry) (c : Contact) → path_of p e ≡ c ∷ [] → ask_elsewhere p e ≡ [] → fail_of e ≡ [] → ask_of e ≡ [] → among (theirs p J) c ≡ false → among (failed J) c ≡ false → among (asked J) c ≡ false → fresh_on p (J ++ e ∷ []) ≡ fresh_on p J ++ c ∷ []
fresh_gains p J e c gets asks l k own out new = fresh_unasked p J e k ∙ ap (λ x. without x (asked J)) (alive_gains p J e c gets asks l own out) ∙ without_last (alive p J) (asked J) c new

pub fresh_lost : (p : ℕ) (J : List Entry) (c : Contact) (cause : Cause) → among (asked J) c ≡ true → fresh_on p (J ++ Lost p c cause ∷ []) ≡ fresh_on p J
fresh_lost p J c cause was = fresh_unasked p J (Lost p c cause) refl ∙ ap (λ x. without x (asked J)) (alive_lost p J c cause) ∙ without_anyway (alive p J) (asked J) c was

pub fresh_apart : (s : Setting) (J : List Entry) (e : Entry) (p : ℕ) → Fits s J e → is_of p e ≡ false → ((c : Contact) → among (ask_of e) c ≡ true → among (path p J) c ≡ false) → fresh_on p (J ++ e ∷ []) ≡ fresh_on p J
fresh_apart s J (Ask q c) p f h apart =
    fresh_lent s J p q c f h ∙ without_absent (fresh_on p J) c (among_without (alive p J) (asked J) c ∙ ap (λ b. b && not (among (asked J) c)) (not_alive J p c (apart c (among_itself c))))
fresh_apart s J other p f h apart = fresh_alike p J other refl (alive_apart s J other p f h apart)
