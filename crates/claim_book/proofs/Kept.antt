-- What a book keeps, after one more entry.
use Rattle.std.proofs.Common.{◌≡◌, ℕ, ◌+◌, ◌*◌, ◌<◌, ◌≤◌, List, [], ◌∷◌, ◌++◌, length, Bool, true, false, not, ◌||◌, cond, Some, refl, sym, ap, ◌∙◌, arith, eqb}
use Rattle.std.specs.Prelude.{filter}
use Rattle.std.proofs.lemmas.List.{append-nil, length-append}
use Rattle.std.proofs.lemmas.List.Elements.{filter-append}
use Rattle.std.proofs.lemmas.Bool.{ne_eqb, eq-eqb, not_from_false, and_from}
use Rattle.kad_base.specs.declared.types.Contact.{Contact}
use Rattle.kad_base.specs.declared.types.Report.{Report}
use Rattle.kad_base.specs.Contacts.{same, among, without}
use Rattle.kad_base.proofs.Contacts.{among_more}
use Rattle.claim_book.specs.declared.types.Setting.{Setting}
use Rattle.claim_book.specs.declared.types.Thing.{Thing}
use Rattle.claim_book.specs.declared.types.Thing.TheVariants.{Responder, Told}
use Rattle.claim_book.specs.declared.types.Entry.{Entry}
use Rattle.claim_book.specs.declared.types.Entry.TheVariants.{Seed, Ask, Heard, Lost, Note, Taken, Held, Turned, Rejected, Skipped}
use Rattle.claim_book.specs.Journal.{took_of, ask_of, answer_of, fail_of, things_of, settles_on, took, asked, answered, failed, open_any, open_on, first_unsettled}
use Rattle.claim_book.specs.Legal.{Fits, Legal}
use Rattle.claim_book.specs.Room.{thing_room, unsettled_room, room_for, frees, IsBook}
use Rattle.claim_book.proofs.More.{took_more, asked_more, answered_more, failed_more, legal_more}
use Rattle.claim_book.proofs.Among.{among_without, without_less, without_fewer, without_twice}
use Rattle.claim_book.proofs.Claims.{may_ask_says, may_ask_on_path, open_says, path_took, asked_on_asked, asked_on_path, asked_distinct}
use Rattle.claim_book.proofs.Ends.{path_below, first_below}
use Rattle.claim_book.proofs.Unsettled.{rooms_settle, rooms_heard, rooms_kept}

or_no : (b : Bool) → (b || false) ≡ b
or_no true = refl
or_no false = refl

among_last : (cs : List Contact) (c x : Contact) → among (cs ++ c ∷ []) x ≡ (among cs x || same x c)
among_last cs c x = among_more cs (c ∷ []) x ∙ ap (λ b. among cs x || b) (or_no (same x c))

-- who was taken and not asked, once for each path that has it
abbrev fresh : List Entry → ℕ
fresh J = length (without (took J) (asked J))

abbrev opens : List Entry → ℕ
opens J = length (open_any J)

same_lists : (xs ys : List Contact) → ys ≡ [] → xs ++ ys ≡ xs
same_lists xs ys e = ap (λ l. xs ++ l) e ∙ append-nil xs

fresh_kept : (J : List Entry) (e : Entry) → took_of e ≡ [] → ask_of e ≡ [] → fresh (J ++ e ∷ []) ≡ fresh J
fresh_kept J e f g =
    let t = took_more J e ∙ same_lists (took J) (took_of e) f in
    let a = asked_more J e ∙ same_lists (asked J) (ask_of e) g in
    ap (λ l. length (without l (asked (J ++ e ∷ [])))) t ∙ ap (λ l. length (without (took J) l)) a

fresh_ask : (s : Setting) (J : List Entry) (q : ℕ) (c : Contact) → Fits s J (Ask q c) → fresh (J ++ Ask q c ∷ []) + 1 ≤ fresh J
fresh_ask s J q c f =
    let t = took_more J (Ask q c) ∙ same_lists (took J) [] refl in
    let a = asked_more J (Ask q c) in
    let new = (may_ask_says s q J c f).new in
    let in_took = path_took q J c (may_ask_on_path s q J c f) in
    let here : among (without (took J) (asked J)) c ≡ true = among_without (took J) (asked J) c ∙ and_from (among (took J) c) (not (among (asked J) c)) in_took (not_from_false (among (asked J) c) new) in
    let is : fresh (J ++ Ask q c ∷ []) ≡ length (without (without (took J) (asked J)) (c ∷ [])) =
    ap (λ l. length (without l (asked (J ++ Ask q c ∷ [])))) t ∙ ap (λ l. length (without (took J) l)) a ∙ ap length (without_twice (took J) (asked J) (c ∷ [])) in
    let less = without_fewer (without (took J) (asked J)) c here in
    omega arith

few_of_one : (p : Contact → Bool) (c : Contact) → length (filter p (c ∷ [])) ≤ 1
few_of_one p c = elim (p c) as (λ b. length (cond b (c ∷ []) []) ≤ 1) [ true ↦ omega arith | false ↦ omega arith ]

fresh_taken : (J : List Entry) (q : ℕ) (c : Contact) → fresh (J ++ Taken q c ∷ []) ≤ fresh J + 1
fresh_taken J q c =
    let a = asked_more J (Taken q c) ∙ same_lists (asked J) [] refl in
    let t = took_more J (Taken q c) in
    let p = λ (x : Contact). not (among (asked J) x) in
    let is : fresh (J ++ Taken q c ∷ []) ≡ length (filter p (took J)) + length (filter p (c ∷ [])) =
    ap (λ l. length (without l (asked (J ++ Taken q c ∷ [])))) t ∙ ap (λ l. length (without (took J ++ c ∷ []) l)) a
    ∙ ap length (filter-append p (took J) (c ∷ [])) ∙ length-append (filter p (took J)) (filter p (c ∷ [])) in
    let few = few_of_one p c in
    omega arith

opens_kept : (J : List Entry) (e : Entry) → ask_of e ≡ [] → answer_of e ≡ [] → fail_of e ≡ [] → opens (J ++ e ∷ []) ≡ opens J
unfolding open_any
opens_kept J e f g h =
    let a = asked_more J e ∙ same_lists (asked J) (ask_of e) f in
    let n = answered_more J e ∙ same_lists (answered J) (answer_of e) g in
    let l = failed_more J e ∙ same_lists (failed J) (fail_of e) h in
    ap (λ x. length (without x (answered (J ++ e ∷ []) ++ failed (J ++ e ∷ [])))) a
    ∙ ap (λ x. length (without (asked J) (x ++ failed (J ++ e ∷ [])))) n
    ∙ ap (λ x. length (without (asked J) (answered J ++ x))) l

opens_ask : (J : List Entry) (q : ℕ) (c : Contact) → opens (J ++ Ask q c ∷ []) ≤ opens J + 1
unfolding open_any
opens_ask J q c =
    let a = asked_more J (Ask q c) in
    let n = answered_more J (Ask q c) ∙ same_lists (answered J) [] refl in
    let l = failed_more J (Ask q c) ∙ same_lists (failed J) [] refl in
    let p = λ (x : Contact). not (among (answered J ++ failed J) x) in
    let is : opens (J ++ Ask q c ∷ []) ≡ length (filter p (asked J)) + length (filter p (c ∷ [])) =
    ap (λ x. length (without x (answered (J ++ Ask q c ∷ []) ++ failed (J ++ Ask q c ∷ [])))) a
    ∙ ap (λ x. length (without (asked J ++ c ∷ []) (x ++ failed (J ++ Ask q c ∷ [])))) n
    ∙ ap (λ x. length (without (asked J ++ c ∷ []) (answered J ++ x))) l
    ∙ ap length (filter-append p (asked J) (c ∷ [])) ∙ length-append (filter p (asked J)) (filter p (c ∷ [])) in
    let few = few_of_one p c in
    omega arith

-- an open contact of a path is open
pub open_on_any : (q : ℕ) (J : List Entry) (c : Contact) → among (open_on q J) c ≡ true → among (open_any J) c ≡ true
unfolding open_any
open_on_any q J c h =
    let says = open_says q J c h in
    let ended : among (answered J ++ failed J) c ≡ false = among_more (answered J) (failed J) c ∙ ap (λ b. b || among (failed J) c) says.1 ∙ says.2 in
    among_without (asked J) (answered J ++ failed J) c ∙ and_from (among (asked J) c) (not (among (answered J ++ failed J) c)) (asked_on_asked q J c says.0) (not_from_false (among (answered J ++ failed J) c) ended)

opens_end : (s : Setting) (J : List Entry) (e : Entry) (q : ℕ) (c : Contact) → Legal s J → among (open_on q J) c ≡ true → ask_of e ≡ [] → ((x : Contact) → among (answered (J ++ e ∷ []) ++ failed (J ++ e ∷ [])) x ≡ (among (answered J ++ failed J) x || same x c)) → opens (J ++ e ∷ []) + 1 ≡ opens J
unfolding open_any
opens_end s J e q c l h f ends =
    let a = asked_more J e ∙ same_lists (asked J) (ask_of e) f in
    ap (λ x. length (without x (answered (J ++ e ∷ []) ++ failed (J ++ e ∷ []))) + 1) a
    ∙ without_less (asked J) (answered J ++ failed J) (answered (J ++ e ∷ []) ++ failed (J ++ e ∷ [])) c (asked_distinct s J l) (open_on_any q J c h) ends

pub opens_heard : (s : Setting) (J : List Entry) (q : ℕ) (c : Contact) (e : Entry) → Legal s J → among (open_on q J) c ≡ true → ask_of e ≡ [] → answer_of e ≡ c ∷ [] → fail_of e ≡ [] → length (open_any (J ++ e ∷ [])) + 1 ≡ length (open_any J)
opens_heard s J q c e l h f g k =
    opens_end s J e q c l h f
    (λ x. ap (λ m. among (m ++ failed (J ++ e ∷ [])) x) (answered_more J e ∙ ap (λ m. answered J ++ m) g)
    ∙ ap (λ m. among ((answered J ++ c ∷ []) ++ m) x) (failed_more J e ∙ same_lists (failed J) (fail_of e) k)
    ∙ among_more (answered J ++ c ∷ []) (failed J) x ∙ ap (λ b. b || among (failed J) x) (among_last (answered J) c x)
    ∙ swap (among (answered J) x) (same x c) (among (failed J) x) ∙ ap (λ b. b || same x c) (sym (among_more (answered J) (failed J) x)))
  where
    swap : (a b d : Bool) → ((a || b) || d) ≡ ((a || d) || b)
    swap true b d = refl
    swap false true true = refl
    swap false true false = refl
    swap false false d = sym (or_no d)

pub opens_lost : (s : Setting) (J : List Entry) (q : ℕ) (c : Contact) (e : Entry) → Legal s J → among (open_on q J) c ≡ true → ask_of e ≡ [] → answer_of e ≡ [] → fail_of e ≡ c ∷ [] → length (open_any (J ++ e ∷ [])) + 1 ≡ length (open_any J)
opens_lost s J q c e l h f g k =
    opens_end s J e q c l h f
    (λ x. ap (λ m. among (m ++ failed (J ++ e ∷ [])) x) (answered_more J e ∙ same_lists (answered J) (answer_of e) g)
    ∙ ap (λ m. among (answered J ++ m) x) (failed_more J e ∙ ap (λ m. failed J ++ m) k)
    ∙ among_more (answered J) (failed J ++ c ∷ []) x ∙ ap (λ b. among (answered J) x || b) (among_last (failed J) c x)
    ∙ group (among (answered J) x) (among (failed J) x) (same x c) ∙ ap (λ b. b || same x c) (sym (among_more (answered J) (failed J) x)))
  where
    group : (a b d : Bool) → (a || (b || d)) ≡ ((a || b) || d)
    group true b d = refl
    group false b d = refl

-- an entry for which no room has to be made
abbrev pub IsOwed : Entry → Type 0
IsOwed (Seed q c) = ⊥
IsOwed (Heard q c reports) = ⊥
IsOwed other = Unit {0}

-- what settles leaves as much less room to need
pub settle_owed : (s : Setting) (J : List Entry) (e : Entry) (q : ℕ) (t : Thing) → 0 < s.paths → Legal s J → Fits s J e → settles_on q e ≡ true → ((p : ℕ) → (p ≡ q → ⊥) → settles_on p e ≡ false) → ((p : ℕ) → things_of p e ≡ []) → first_unsettled q J ≡ Some t → unsettled_room s.paths (J ++ e ∷ []) + thing_room t ≡ unsettled_room s.paths J
settle_owed s J e q t z l f h off no_things first = rooms_settle s J e q t s.paths l f h off no_things first (first_below s J q t z l first)

pub off_this : (q p : ℕ) → (p ≡ q → ⊥) → eqb q p ≡ false
off_this q p ne = ne_eqb q p (λ e. ne (sym e))

-- the room for what may still come falls by what the entry that came frees
pub room_falls : (s : Setting) (J : List Entry) (e : Entry) → 0 < s.paths → Legal s J → Fits s J e → IsOwed e → room_for s.paths (J ++ e ∷ []) + frees e ≤ room_for s.paths J
unfolding room_for
room_falls s J (Seed q c) z l f o = absurd o
room_falls s J (Ask q c) z l f o = omega (arith, fresh_ask s J q c f, opens_ask J q c, rooms_kept s J (Ask q c) s.paths l (λ p. refl) (λ p. refl))
room_falls s J (Heard q c reports) z l f o = absurd o
room_falls s J (Lost q c cause) z l f o = omega (arith, fresh_kept J (Lost q c cause) refl refl, opens_lost s J q c (Lost q c cause) l f refl refl refl, rooms_kept s J (Lost q c cause) s.paths l (λ p. refl) (λ p. refl))
room_falls s J (Note q c) z l f o = omega (arith, fresh_kept J (Note q c) refl refl, opens_kept J (Note q c) refl refl refl, settle_owed s J (Note q c) q (Responder c) z l f (eq-eqb q q refl) (off_this q) (λ p. refl) f)
room_falls s J (Taken q c) z l f o = omega (arith, fresh_taken J q c, opens_kept J (Taken q c) refl refl refl, settle_owed s J (Taken q c) q (Told f.0.report) z l f (eq-eqb q q refl) (off_this q) (λ p. refl) f.0.first)
room_falls s J (Held q c by) z l f o = omega (arith, fresh_kept J (Held q c by) refl refl, opens_kept J (Held q c by) refl refl refl, settle_owed s J (Held q c by) q (Told f.0.report) z l f (eq-eqb q q refl) (off_this q) (λ p. refl) f.0.first)
room_falls s J (Turned q c) z l f o = omega (arith, fresh_kept J (Turned q c) refl refl, opens_kept J (Turned q c) refl refl refl, settle_owed s J (Turned q c) q (Told f.0.report) z l f (eq-eqb q q refl) (off_this q) (λ p. refl) f.0.first)
room_falls s J (Rejected q r) z l f o = omega (arith, fresh_kept J (Rejected q r) refl refl, opens_kept J (Rejected q r) refl refl refl, settle_owed s J (Rejected q r) q (Told r) z l f (eq-eqb q q refl) (off_this q) (λ p. refl) f.0)
room_falls s J (Skipped q r) z l f o = omega (arith, fresh_kept J (Skipped q r) refl refl, opens_kept J (Skipped q r) refl refl refl, settle_owed s J (Skipped q r) q (Told r) z l f (eq-eqb q q refl) (off_this q) (λ p. refl) f.0)

-- an answer needs room for what it gives to settle
pub room_heard : (s : Setting) (J : List Entry) (q : ℕ) (c : Contact) (reports : List Report) → 0 < s.paths → Legal s J → Fits s J (Heard q c reports) → room_for s.paths (J ++ Heard q c reports ∷ []) ≤ room_for s.paths J + 3 * length reports
unfolding room_for
room_heard s J q c reports z l f =
    let below = path_below s J q c z l (asked_on_path s J l q c (open_says q J c f.0).0) in
    omega (arith, fresh_kept J (Heard q c reports) refl refl, opens_heard s J q c (Heard q c reports) l f.0 refl refl refl, rooms_heard s J q c reports s.paths l below)

-- a book after one of the entries that are owed
pub book_put : (s : Setting) (J : List Entry) (e : Entry) (owed owed' room room' : ℕ) → IsBook s J owed room → Fits s J e → IsOwed e → owed' + frees e ≡ owed → length (J ++ e ∷ []) + owed' ≤ room' → IsBook s (J ++ e ∷ []) owed' room'
book_put s J e owed owed' room room' b f o less fits =
    let falls = room_falls s J e b.some_path b.legal f o in
    record {
      legal = legal_more s J e b.legal f;
      some_path = b.some_path;
      few_paths = b.few_paths;
      small = b.small;
      all_owed = (let old = b.all_owed in omega arith);
      fits = fits;
    }

-- as much is owed where such an entry may come
pub some_owed : (s : Setting) (J : List Entry) (e : Entry) (owed room : ℕ) → IsBook s J owed room → Fits s J e → IsOwed e → frees e ≤ owed
some_owed s J e owed room b f o =
    let falls = room_falls s J e b.some_path b.legal f o in
    let old = b.all_owed in
    omega arith

-- a book after an answer
pub book_heard : (s : Setting) (J : List Entry) (q : ℕ) (c : Contact) (reports : List Report) (owed owed' room room' : ℕ) → IsBook s J owed room → Fits s J (Heard q c reports) → owed' + 1 ≡ owed + (3 * length reports + 1) → length (J ++ Heard q c reports ∷ []) + owed' ≤ room' → IsBook s (J ++ Heard q c reports ∷ []) owed' room'
book_heard s J q c reports owed owed' room room' b f more fits =
    let grows = room_heard s J q c reports b.some_path b.legal f in
    record {
      legal = legal_more s J (Heard q c reports) b.legal f;
      some_path = b.some_path;
      few_paths = b.few_paths;
      small = b.small;
      all_owed = (let old = b.all_owed in omega arith);
      fits = fits;
    }
