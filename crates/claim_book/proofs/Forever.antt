-- A path that has run out stays so, whatever the other paths do.
use Rattle.std.proofs.Common.{◌≡◌, ℕ, ◌<◌, ◌≤◌, List, [], ◌∷◌, ◌++◌, length, Bool, true, false, not, ◌||◌, cond, zero, suc, refl, sym, ap, subst, ◌∙◌, arith, eqb}
use Rattle.std.specs.Prelude.{filter, drop}
use Rattle.std.specs.List.{All, IsDistinct, flat_map}
use Rattle.std.proofs.lemmas.Cmp.{eq_by_cmp_equiv}
use Rattle.std.proofs.lemmas.Map.Keys.{IsDistinct-push}
use Rattle.std.proofs.lemmas.Map.Made.{length-le_from_is_member}
use Rattle.std.proofs.lemmas.Option.{get_or_from_slice_get}
use Rattle.std.proofs.lemmas.List.{append-nil, append_assoc}
use Rattle.std.proofs.lemmas.List.Elements.{All-weaker}
use Rattle.std.proofs.lemmas.Bool.{or_parts, and_from}
use Rattle.kad_base.specs.Limits.{max_path_contacts}
use Rattle.kad_base.specs.declared.types.Contact.{Contact}
use Rattle.kad_base.specs.Contacts.{same, among, without}
use Rattle.kad_base.proofs.Contacts.{among_more, contact_total}
use Rattle.kad_distance.specs.KClosest.{k_closest}
use Rattle.claim_book.specs.declared.types.Setting.{Setting}
use Rattle.claim_book.specs.declared.types.Entry.{Entry}
use Rattle.claim_book.specs.declared.types.Entry.TheVariants.{Seed, Ask, Heard, Lost, Note, Taken, Held, Turned, Rejected, Skipped}
use Rattle.claim_book.specs.Journal.{seed_of, path_of, ask_on, ask_elsewhere, fail_of, answer_of, things_of, things_in, settles_on, seeds, path, asked_on, theirs, own, askers, answered, failed, open_on, alive, things, settled, unsettled}
use Rattle.claim_book.specs.Legal.{Fits, LegalAfter, Legal, is_of, IsSeed}
use Rattle.claim_book.specs.RunOut.{RunOut}
use Rattle.claim_book.specs.Calls.{asker}
use Rattle.claim_book.proofs.More.{path_more, asked_on_more, theirs_more, answered_more, failed_more, legal_more, along}
use Rattle.claim_book.proofs.Among.{among_without, among_none, none_among, without_twice, without_swap, without_absent}
use Rattle.claim_book.proofs.Claims.{may_ask_says, open_says, asked_on_path, asked_on_asked, answered_asked, one_asker, among_left, no_true, own_on_path, alive_says, in_theirs}
use Rattle.claim_book.proofs.Ends.{all_from_each, each_from_all, asked_by_some, beyond, stays_out}
use Rattle.claim_book.proofs.Closest.{closest_within, closest_stays}
use Rattle.claim_book.proofs.Unsettled.{unsettled_kept}
use Rattle.claim_book.proofs.Bounds.{path_few}
use Rattle.claim_book.proofs.Seeding.{none_out}

same_list : {A : Type 0} (xs ys : List A) → ys ≡ [] → xs ++ ys ≡ xs
same_list xs ys e = ap (λ l. xs ++ l) e ∙ append-nil xs

-- an entry that isn't of path p says nothing of its own contacts, asks and things
pub record Elsewhere (p : ℕ) (e : Entry) : Type 0 where
  pub no_path : path_of p e ≡ []
  pub none_asked : ask_on p e ≡ []
  pub no_things : things_of p e ≡ []
  pub no_settling : settles_on p e ≡ false

pub elsewhere : (p : ℕ) (e : Entry) → is_of p e ≡ false → Elsewhere p e
elsewhere p (Seed q c) h = record { no_path = ap (λ b. cond b (c ∷ []) []) h; none_asked = refl; no_things = refl; no_settling = refl }
elsewhere p (Ask q c) h = record { no_path = refl; none_asked = ap (λ b. cond b (c ∷ []) []) h; no_things = refl; no_settling = refl }
elsewhere p (Heard q c reports) h = record { no_path = refl; none_asked = refl; no_things = ap (λ b. cond b (things_in c reports) []) h; no_settling = refl }
elsewhere p (Lost q c cause) h = record { no_path = refl; none_asked = refl; no_things = refl; no_settling = refl }
elsewhere p (Note q c) h = record { no_path = refl; none_asked = refl; no_things = refl; no_settling = h }
elsewhere p (Taken q c) h = record { no_path = ap (λ b. cond b (c ∷ []) []) h; none_asked = refl; no_things = refl; no_settling = h }
elsewhere p (Held q c by) h = record { no_path = refl; none_asked = refl; no_things = refl; no_settling = h }
elsewhere p (Turned q c) h = record { no_path = refl; none_asked = refl; no_things = refl; no_settling = h }
elsewhere p (Rejected q r) h = record { no_path = refl; none_asked = refl; no_things = refl; no_settling = h }
elsewhere p (Skipped q r) h = record { no_path = refl; none_asked = refl; no_things = refl; no_settling = h }

-- what is open on another path isn't a path's own
not_this : (s : Setting) (J : List Entry) (p q : ℕ) (c : Contact) → eqb q p ≡ false → among (open_on q J) c ≡ true → among (own p J) c ≡ false
not_this s J p q c ne h = no_true (among (own p J) c) (λ mine. let out = (own_on_path p J c mine).1 in let asks = in_theirs p q J c ne (open_says q J c h).0 in absurd cc)

pub own_more : (p : ℕ) (J : List Entry) (e : Entry) → own p (J ++ e ∷ []) ≡ without (without (path p J ++ path_of p e) (theirs p J)) (ask_elsewhere p e)
unfolding own
own_more p J e =
    ap (λ l. without l (theirs p (J ++ e ∷ []))) (path_more p J e) ∙ ap (λ l. without (path p J ++ path_of p e) l) (theirs_more p J e) ∙ without_twice (path p J ++ path_of p e) (theirs p J) (ask_elsewhere p e)

-- an entry of another path takes from those that are alive on path p the contact that it asks
pub alive_other : (s : Setting) (J : List Entry) (e : Entry) (p : ℕ) → Fits s J e → is_of p e ≡ false → alive p (J ++ e ∷ []) ≡ without (alive p J) (ask_elsewhere p e)
unfolding alive own
alive_other s J e p f h =
    ap (λ x. without x (failed (J ++ e ∷ []))) (own_more p J e ∙ ap (λ l. without (without l (theirs p J)) (ask_elsewhere p e)) (same_list (path p J) (path_of p e) (elsewhere p e h).no_path))
    ∙ ap (λ x. without (without (own p J) (ask_elsewhere p e)) x) (failed_more J e) ∙ without_twice (without (own p J) (ask_elsewhere p e)) (failed J) (fail_of e)
    ∙ ap (λ l. without l (fail_of e)) (without_swap (own p J) (ask_elsewhere p e) (failed J))
    ∙ rest e f h
  where
    rest : (e : Entry) → Fits s J e → is_of p e ≡ false → without (without (alive p J) (ask_elsewhere p e)) (fail_of e) ≡ without (alive p J) (ask_elsewhere p e)
    rest (Lost q c cause) f h =
        ap (λ l. without l (c ∷ [])) (none_out (alive p J)) ∙ without_absent (alive p J) c (no_true (among (alive p J) c) (λ t. let mine = (alive_says p J c t).0 in let away = not_this s J p q c h f in absurd cc))
        ∙ sym (none_out (alive p J))
    rest other f h = none_out (without (alive p J) (ask_elsewhere p other))

-- what is alive on path p stays so where another path's entry asks none
pub alive_stays : (s : Setting) (J : List Entry) (e : Entry) (p : ℕ) → Fits s J e → is_of p e ≡ false → ask_elsewhere p e ≡ [] → alive p (J ++ e ∷ []) ≡ alive p J
alive_stays s J e p f h a = alive_other s J e p f h ∙ ap (without (alive p J)) a ∙ none_out (alive p J)

-- where another path asks, its contact isn't among the alive ones any more
pub alive_lent : (s : Setting) (J : List Entry) (p q : ℕ) (c : Contact) → Fits s J (Ask q c) → eqb q p ≡ false → alive p (J ++ Ask q c ∷ []) ≡ without (alive p J) (c ∷ [])
alive_lent s J p q c f ne = alive_other s J (Ask q c) p f ne ∙ ap (λ b. without (alive p J) (cond b [] (c ∷ []))) ne

-- the k closest stay where all of them have answered, since who is asked has not
still_closest : (s : Setting) (J : List Entry) (e : Entry) (p : ℕ) → Legal s J → Fits s J e → is_of p e ≡ false → All (λ c. among (answered J) c ≡ true) (k_closest s.target s.k (alive p J)) → k_closest s.target s.k (alive p (J ++ e ∷ [])) ≡ k_closest s.target s.k (alive p J)
still_closest s J (Ask q c) p l f h over =
    ap (k_closest s.target s.k) (alive_lent s J p q c f h)
    ∙ closest_stays s.target s.k (alive p J) c (no_true (among (k_closest s.target s.k (alive p J)) c) (λ t.
    let was = answered_asked s J l c (each_from_all (λ x. among (answered J) x ≡ true) (k_closest s.target s.k (alive p J)) over c t) in
    let new = (may_ask_says s q J c f).new in
    absurd cc))
still_closest s J other p l f h over = ap (k_closest s.target s.k) (alive_stays s J other p f h refl)

was_open : (p : ℕ) (J : List Entry) (c : Contact) → among (asked_on p J) c ≡ true → among (answered J) c ≡ false → among (failed J) c ≡ false → among (open_on p J) c ≡ true
unfolding open_on
was_open p J c a b f = among_without (asked_on p J) (answered J ++ failed J) c ∙ and_from (among (asked_on p J) c) (not (among (answered J ++ failed J) c)) a (ap not (among_more (answered J) (failed J) c ∙ ap (λ x. x || among (failed J) c) b ∙ f))

-- none is open where none was and path p asks none
none_opens : (J : List Entry) (e : Entry) (p : ℕ) → ask_on p e ≡ [] → open_on p J ≡ [] → open_on p (J ++ e ∷ []) ≡ []
none_opens J e p asks none = none_among (open_on p (J ++ e ∷ [])) (λ c. no_true (among (open_on p (J ++ e ∷ [])) c) (λ y. still c (open_says p (J ++ e ∷ []) c y)))
  where
    still : (c : Contact) → (among (asked_on p (J ++ e ∷ [])) c ≡ true) × (among (answered (J ++ e ∷ [])) c ≡ false) × (among (failed (J ++ e ∷ [])) c ≡ false) → ⊥
    still c o =
        let a : among (asked_on p J) c ≡ true = ap (λ l. among l c) (sym (asked_on_more p J e ∙ same_list (asked_on p J) (ask_on p e) asks)) ∙ o.0 in
        let b = or_parts (among (answered J) c) (among (answer_of e) c) (sym (ap (λ l. among l c) (answered_more J e) ∙ among_more (answered J) (answer_of e) c) ∙ o.1) in
        let f = or_parts (among (failed J) c) (among (fail_of e) c) (sym (ap (λ l. among l c) (failed_more J e) ∙ among_more (failed J) (fail_of e) c) ∙ o.2) in
        let was = was_open p J c a b.0 f.0 in
        let not_open = among_none (open_on p J) none c in
        absurd cc

-- an entry of another path leaves it run out
run_out_on : (s : Setting) (J : List Entry) (e : Entry) (p : ℕ) → Legal s J → Fits s J e → is_of p e ≡ false → RunOut s p J → RunOut s p (J ++ e ∷ [])
run_out_on s J e p l f h o =
    let off = elsewhere p e h in
    record {
      none_open = none_opens J e p off.none_asked o.none_open;
      settled = unsettled_kept s p J e l off.no_settling off.no_things ∙ o.settled;
      all_answered = subst (λ cs. All (λ c. among (answered (J ++ e ∷ [])) c ≡ true) cs) (sym (still_closest s J e p l f h o.all_answered))
          (All-weaker (λ c. among (answered J) c ≡ true) (λ c. among (answered (J ++ e ∷ [])) c ≡ true) (λ c t. ap (λ x. among x c) (answered_more J e) ∙ among_left (answered J) (answer_of e) c t) (k_closest s.target s.k (alive p J)) o.all_answered);
    }

no_seed : (e : Entry) → seed_of e ≡ [] → IsSeed e → ⊥
no_seed (Seed q c) h i = absurd cc
no_seed other h i = i

-- no entry of it follows
not_of : (s : Setting) (J : List Entry) (e : Entry) (p : ℕ) → Legal s J → Fits s J e → seed_of e ≡ [] → RunOut s p J → is_of p e ≡ false
not_of s J e p l f none o = no_true (is_of p e) (λ h. no_seed e none (stays_out s J e p l f o h))

both_none : (xs ys : List Entry) → xs ++ ys ≡ [] → (xs ≡ []) × (ys ≡ [])
both_none [] ys h = (refl, h)
both_none (x ∷ xs) ys h = absurd cc

record Silent (s : Setting) (p : ℕ) (J K : List Entry) : Type 0 where
  stays : RunOut s p (J ++ K)
  none : filter (is_of p) K ≡ []

silent_after : (s : Setting) (p : ℕ) (J K : List Entry) → Legal s J → LegalAfter s J K → seeds K ≡ [] → RunOut s p J → Silent s p J K
unfolding seeds
silent_after s p J [] l h none o = record { stays = subst (RunOut s p) (sym (append-nil J)) o; none = refl }
silent_after s p J (e ∷ K) l h none o =
    let parts = both_none (seed_of e) (flat_map seed_of K) none in
    let off = not_of s J e p l h.0 parts.0 o in
    let rest = silent_after s p (J ++ e ∷ []) K (legal_more s J e l h.0) h.1 parts.1 (run_out_on s J e p l h.0 off o) in
    record {
      stays = subst (RunOut s p) (append_assoc J (e ∷ []) K) rest.stays;
      none = ap (λ b. cond b (e ∷ filter (is_of p) K) (filter (is_of p) K)) off ∙ rest.none;
    }

split_after : (s : Setting) (P J K : List Entry) → LegalAfter s P (J ++ K) → LegalAfter s P J × LegalAfter s (P ++ J) K
split_after s P [] K h = (tt, subst (λ l. LegalAfter s l K) (sym (append-nil P)) h)
split_after s P (e ∷ J) K h =
    let r = split_after s (P ++ e ∷ []) J K h.1 in
    ((h.0, r.0), subst (λ l. LegalAfter s l K) (append_assoc P (e ∷ []) J) r.1)

silent_all : (s : Setting) (J K : List Entry) (p : ℕ) → Legal s (J ++ K) → seeds K ≡ [] → RunOut s p J → Silent s p J K
unfolding Legal
silent_all s J K p l none o = (let r = split_after s [] J K l in silent_after s p J K r.0 r.1 none o)

pub stays_run_out : (s : Setting) (J K : List Entry) (p : ℕ) → Legal s (J ++ K) → seeds K ≡ [] → RunOut s p J → RunOut s p (J ++ K)
stays_run_out s J K p l none o = (silent_all s J K p l none o).stays

pub none_follows : (s : Setting) (J K : List Entry) (p : ℕ) → Legal s (J ++ K) → seeds K ≡ [] → RunOut s p J → filter (is_of p) K ≡ []
none_follows s J K p l none o = (silent_all s J K p l none o).none

-- ---- a path past the last

no_alive : (q : ℕ) (J : List Entry) → path q J ≡ [] → alive q J ≡ []
unfolding alive own
no_alive q J e = ap (λ l. without (without l (theirs q J)) (failed J)) e

no_opens : (q : ℕ) (J : List Entry) → asked_on q J ≡ [] → open_on q J ≡ []
unfolding open_on
no_opens q J e = ap (λ l. without l (answered J ++ failed J)) e

drop_none : {A : Type 0} (n : ℕ) (xs : List A) → xs ≡ [] → drop n xs ≡ []
drop_none zero [] e = refl
drop_none (suc n) [] e = refl
drop_none n (x ∷ xs) e = absurd cc

pub past_settled : (s : Setting) (J : List Entry) (q : ℕ) → 0 < s.paths → Legal s J → s.paths ≤ q → unsettled q J ≡ []
unfolding unsettled
past_settled s J q z l le = drop_none (length (settled q J)) (things q J) (beyond s J z l q le).no_things

pub past_run_out : (s : Setting) (J : List Entry) (q : ℕ) → 0 < s.paths → Legal s J → s.paths ≤ q → RunOut s q J
past_run_out s J q z l le =
    let b = beyond s J z l q le in
    record {
      none_open = no_opens q J b.none_asked;
      settled = past_settled s J q z l le;
      all_answered = all_from_each (λ c. among (answered J) c ≡ true) (k_closest s.target s.k (alive q J))
          (λ c h. let here = closest_within s.target s.k (alive q J) c h in let none = among_none (alive q J) (no_alive q J b.no_path) c in absurd cc);
    }

pub past_contacts : (s : Setting) (J : List Entry) (q : ℕ) → 0 < s.paths → Legal s J → s.paths ≤ q → path q J ≡ []
past_contacts s J q z l le = (beyond s J z l q le).no_path

-- ---- how many a path asks

asked_on_step : (s : Setting) (J : List Entry) (e : Entry) (p : ℕ) → IsDistinct same (asked_on p J) → Fits s J e → IsDistinct same (asked_on p J ++ ask_on p e)
asked_on_step s J (Ask q c) p h f = by (eqb q p)
  where
    by : (b : Bool) → IsDistinct same (asked_on p J ++ cond b (c ∷ []) [])
    by true = IsDistinct-push (eq_by_cmp_equiv contact_total) (asked_on p J) c h (no_true (among (asked_on p J) c) (λ t. let was = asked_on_asked p J c t in let new = (may_ask_says s q J c f).new in absurd cc))
    by false = subst (IsDistinct same) (sym (append-nil (asked_on p J))) h
asked_on_step s J other p h f = subst (IsDistinct same) (sym (append-nil (asked_on p J))) h

-- a path asks none twice
pub asked_on_distinct : (s : Setting) (p : ℕ) (J : List Entry) → Legal s J → IsDistinct same (asked_on p J)
unfolding asked_on IsDistinct
asked_on_distinct s p = along (λ J. IsDistinct same (asked_on p J)) s tt (λ J e l d f. subst (IsDistinct same) (sym (asked_on_more p J e)) (asked_on_step s J e p d f))

pub asks_few : (s : Setting) (J : List Entry) (p : ℕ) → s.k < max_path_contacts → Legal s J → length (asked_on p J) ≤ max_path_contacts
asks_few s J p k l =
    let have = path_few s J k l p in
    let fewer = length-le_from_is_member (eq_by_cmp_equiv contact_total) (asked_on p J) (path p J) (asked_on_distinct s p J l) (λ c h. asked_on_path s J l p c h) in
    omega arith

-- ---- who asked what is open

pub open_by_asker : (s : Setting) (J : List Entry) (p : ℕ) (c : Contact) → Legal s J → among (open_on p J) c ≡ true → p ≡ asker c J
open_by_asker s J p c l h =
    let on = (open_says p J c h).0 in
    let by = asked_by_some c J (asked_on_asked p J c on) in
    one_asker s J l p by.0 c on by.2 ∙ sym (get_or_from_slice_get (askers c J) 0 by.0 0 by.1)
