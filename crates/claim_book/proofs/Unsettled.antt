-- What is unsettled, and how much room it may still need, after one more entry.
use Rattle.std.proofs.Common.{◌≡◌, ℕ, zero, suc, ◌+◌, ◌*◌, ◌<◌, ◌≤◌, List, [], ◌∷◌, ◌++◌, length, Bool, true, false, cond, Some, inl, inr, refl, sym, ap, ◌∙◌, arith, eqb, add-zero, add-one}
use Rattle.std.specs.Prelude.{drop, slice_get, map}
use Rattle.std.specs.List.{sum_by}
use Rattle.std.proofs.lemmas.List.{append-nil, length-append, length-drop, drop-drop, drop-append-le}
use Rattle.std.proofs.lemmas.List.Sums.{sum_by-cons, sum_by-append}
use Rattle.std.proofs.lemmas.Option.{slice_get_within}
use Rattle.std.proofs.lemmas.Bool.{eqb-true, ne_eqb, eq-eqb, cases_lt}
use Rattle.kad_base.specs.declared.types.Contact.{Contact}
use Rattle.kad_base.specs.declared.types.Report.{Report}
use Rattle.claim_book.specs.declared.types.Setting.{Setting}
use Rattle.claim_book.specs.declared.types.Thing.{Thing}
use Rattle.claim_book.specs.declared.types.Thing.TheVariants.{Responder, Told}
use Rattle.claim_book.specs.declared.types.Entry.{Entry}
use Rattle.claim_book.specs.declared.types.Entry.TheVariants.{Heard, Note, Taken, Held, Turned, Rejected, Skipped}
use Rattle.claim_book.specs.Journal.{things_in, things_of, settles_on, things, settled, unsettled, first_unsettled}
use Rattle.claim_book.specs.Legal.{Fits, Legal}
use Rattle.claim_book.specs.Room.{thing_room, unsettled_room}
use Rattle.claim_book.proofs.More.{things_more, settled_more, along}

-- the front of what is unsettled
pub record Front (p : ℕ) (J : List Entry) (t : Thing) : Type 0 where
  pub rest : List Thing
  pub is : unsettled p J ≡ t ∷ rest

pub front_of : (p : ℕ) (J : List Entry) (t : Thing) → first_unsettled p J ≡ Some t → Front p J t
unfolding first_unsettled
front_of p J t f = cut (unsettled p J) refl f
  where
    cut : (l : List Thing) → unsettled p J ≡ l → slice_get l 0 ≡ Some t → Front p J t
    cut [] e g = absurd cc
    cut (u ∷ l) e g = record { rest = l; is = e ∙ (let h : u ≡ t = cc in ap (λ x. x ∷ l) h) }

pub first_within : (p : ℕ) (J : List Entry) (t : Thing) → first_unsettled p J ≡ Some t → length (settled p J) < length (things p J)
unfolding first_unsettled unsettled
first_within p J t f =
    let h = slice_get_within (drop (length (settled p J)) (things p J)) 0 t f in
    omega (arith, length-drop (length (settled p J)) (things p J))

-- what an entry that settles takes
pub record Settles (p : ℕ) (J : List Entry) (e : Entry) : Type 0 where
  pub thing : Thing
  pub front : first_unsettled p J ≡ Some thing
  pub no_things : (n : ℕ) → things_of n e ≡ []

pub settles : (s : Setting) (J : List Entry) (e : Entry) (p : ℕ) → Fits s J e → settles_on p e ≡ true → Settles p J e
settles s J (Note q c) p f h = record { thing = Responder c; front = ap (λ n. first_unsettled n J) (sym (eqb-true q p h)) ∙ f; no_things = λ n. refl }
settles s J (Taken q c) p f h = record { thing = Told f.0.report; front = ap (λ n. first_unsettled n J) (sym (eqb-true q p h)) ∙ f.0.first; no_things = λ n. refl }
settles s J (Held q c by) p f h = record { thing = Told f.0.report; front = ap (λ n. first_unsettled n J) (sym (eqb-true q p h)) ∙ f.0.first; no_things = λ n. refl }
settles s J (Turned q c) p f h = record { thing = Told f.0.report; front = ap (λ n. first_unsettled n J) (sym (eqb-true q p h)) ∙ f.0.first; no_things = λ n. refl }
settles s J (Rejected q r) p f h = record { thing = Told r; front = ap (λ n. first_unsettled n J) (sym (eqb-true q p h)) ∙ f.0; no_things = λ n. refl }
settles s J (Skipped q r) p f h = record { thing = Told r; front = ap (λ n. first_unsettled n J) (sym (eqb-true q p h)) ∙ f.0; no_things = λ n. refl }
settles s J other p f h = absurd cc

settled_length : (p : ℕ) (J : List Entry) (e : Entry) (b : Bool) → settles_on p e ≡ b → length (settled p (J ++ e ∷ [])) ≡ length (settled p J) + cond b 1 0
settled_length p J e true h = ap length (settled_more p J e) ∙ ap (λ b. length (settled p J ++ cond b (e ∷ []) [])) h ∙ length-append (settled p J) (e ∷ [])
settled_length p J e false h = ap length (settled_more p J e) ∙ ap (λ b. length (settled p J ++ cond b (e ∷ []) [])) h ∙ length-append (settled p J) []

-- no more is settled than there was
pub settled_few : (s : Setting) (J : List Entry) → Legal s J → (p : ℕ) → length (settled p J) ≤ length (things p J)
unfolding settled things
settled_few s =
    along (λ J. (p : ℕ) → length (settled p J) ≤ length (things p J)) s (λ p. omega arith)
    (λ J e l d f p. step J e f p (d p) (settles_on p e) refl)
  where
    step : (J : List Entry) (e : Entry) → Fits s J e → (p : ℕ) → length (settled p J) ≤ length (things p J) → (b : Bool) → settles_on p e ≡ b → length (settled p (J ++ e ∷ [])) ≤ length (things p (J ++ e ∷ []))
    step J e f p le true h =
        let w = settles s J e p f h in
        let lt = first_within p J w.thing w.front in
        omega (arith, settled_length p J e true h, ap length (things_more p J e), length-append (things p J) (things_of p e))
    step J e f p le false h = omega (arith, settled_length p J e false h, ap length (things_more p J e), length-append (things p J) (things_of p e))

-- an entry that settles takes the front
pub unsettled_settle : (p : ℕ) (J : List Entry) (e : Entry) → settles_on p e ≡ true → things_of p e ≡ [] → unsettled p (J ++ e ∷ []) ≡ drop 1 (unsettled p J)
unfolding unsettled
unsettled_settle p J e h g =
    ap (λ n. drop n (things p (J ++ e ∷ []))) (settled_length p J e true h)
    ∙ ap (λ l. drop (length (settled p J) + 1) l) (things_more p J e ∙ ap (λ l. things p J ++ l) g ∙ append-nil (things p J))
    ∙ sym (drop-drop 1 (length (settled p J)) (things p J))

-- any other puts what it gives behind
pub unsettled_other : (s : Setting) (p : ℕ) (J : List Entry) (e : Entry) → Legal s J → settles_on p e ≡ false → unsettled p (J ++ e ∷ []) ≡ unsettled p J ++ things_of p e
unfolding unsettled
unsettled_other s p J e l h =
    let le = settled_few s J l p in
    ap (λ n. drop n (things p (J ++ e ∷ []))) (settled_length p J e false h ∙ add-zero (length (settled p J)))
    ∙ ap (λ l. drop (length (settled p J)) l) (things_more p J e)
    ∙ drop-append-le (length (settled p J)) (things p J) (things_of p e) le

pub unsettled_kept : (s : Setting) (p : ℕ) (J : List Entry) (e : Entry) → Legal s J → settles_on p e ≡ false → things_of p e ≡ [] → unsettled p (J ++ e ∷ []) ≡ unsettled p J
unsettled_kept s p J e l h g = unsettled_other s p J e l h ∙ ap (λ l. unsettled p J ++ l) g ∙ append-nil (unsettled p J)

-- each entry that settles leaves one less
pub unsettled_less : (s : Setting) (J : List Entry) (e : Entry) (p : ℕ) → Fits s J e → settles_on p e ≡ true → length (unsettled p (J ++ e ∷ [])) + 1 ≡ length (unsettled p J)
unsettled_less s J e p f h =
    let w = settles s J e p f h in
    let front = front_of p J w.thing w.front in
    ap (λ l. length l + 1) (unsettled_settle p J e h (w.no_things p) ∙ ap (drop 1) front.is) ∙ add-one (length front.rest) ∙ ap length (sym front.is)

-- the room of one path
abbrev pub path_room : ℕ → List Entry → ℕ
path_room p J = sum_by thing_room (unsettled p J)

room_settle : (s : Setting) (J : List Entry) (e : Entry) (p : ℕ) (t : Thing) → Fits s J e → settles_on p e ≡ true → things_of p e ≡ [] → first_unsettled p J ≡ Some t → path_room p (J ++ e ∷ []) + thing_room t ≡ path_room p J
room_settle s J e p t f h g first =
    let front = front_of p J t first in
    let after : unsettled p (J ++ e ∷ []) ≡ front.rest = unsettled_settle p J e h g ∙ ap (drop 1) front.is in
    omega (arith, ap (sum_by thing_room) after, ap (sum_by thing_room) front.is, sum_by-cons thing_room t front.rest)

told_room : (reports : List Report) → sum_by thing_room (map Told reports) ≡ 3 * length reports
told_room [] = refl
told_room (r ∷ reports) = omega (arith, sum_by-cons thing_room (Told r) (map Told reports), told_room reports)

room_heard : (s : Setting) (J : List Entry) (p : ℕ) (c : Contact) (reports : List Report) → Legal s J → path_room p (J ++ Heard p c reports ∷ []) ≡ path_room p J + (3 * length reports + 1)
room_heard s J p c reports l =
    let given : things_of p (Heard p c reports) ≡ things_in c reports = ap (λ b. cond b (things_in c reports) []) (eq-eqb p p refl) in
    let is = unsettled_other s p J (Heard p c reports) l refl ∙ ap (λ l. unsettled p J ++ l) given in
    omega (arith, ap (sum_by thing_room) is, sum_by-append thing_room (unsettled p J) (things_in c reports), sum_by-cons thing_room (Responder c) (map Told reports), told_room reports)

-- a change on one path alone
rooms_below : (q : ℕ) (J K : List Entry) → ((p : ℕ) → (p ≡ q → ⊥) → path_room p K ≡ path_room p J) → (n : ℕ) → n ≤ q → unsettled_room n K ≡ unsettled_room n J
rooms_below q J K e zero le = refl
rooms_below q J K e (suc n) le =
    let one = e n (λ x. absurd (omega arith)) in
    let rest = rooms_below q J K e n (omega arith) in
    omega (arith, one, rest)

pub rooms_differ : (q : ℕ) (J K : List Entry) → ((p : ℕ) → (p ≡ q → ⊥) → path_room p K ≡ path_room p J) → (n : ℕ) → q < n → unsettled_room n K + path_room q J ≡ unsettled_room n J + path_room q K
rooms_differ q J K e zero lt = absurd (omega arith)
rooms_differ q J K e (suc n) lt =
    elim (cases_lt q n) [
      | inl below ↦ (let one = e n (λ x. absurd (omega arith)) in let rest = rooms_differ q J K e n below in omega (arith, one, rest))
      | inr above ↦
          let is : q ≡ n = omega arith in
          let rest = rooms_below q J K e n above in
          let j = ap (λ m. path_room m J) is in
          let k = ap (λ m. path_room m K) is in
          omega (arith, j, k, rest)
    ]

pub rooms_same : (J K : List Entry) → ((p : ℕ) → path_room p K ≡ path_room p J) → (n : ℕ) → unsettled_room n K ≡ unsettled_room n J
rooms_same J K e zero = refl
rooms_same J K e (suc n) = (let one = e n in let rest = rooms_same J K e n in omega (arith, one, rest))

settles_elsewhere : (q p : ℕ) → (p ≡ q → ⊥) → eqb q p ≡ false
settles_elsewhere q p ne = ne_eqb q p (λ e. ne (sym e))

-- the room of all paths, after each kind of entry
pub rooms_settle : (s : Setting) (J : List Entry) (e : Entry) (q : ℕ) (t : Thing) (n : ℕ) → Legal s J → Fits s J e → settles_on q e ≡ true → ((p : ℕ) → (p ≡ q → ⊥) → settles_on p e ≡ false) → ((p : ℕ) → things_of p e ≡ []) → first_unsettled q J ≡ Some t → q < n → unsettled_room n (J ++ e ∷ []) + thing_room t ≡ unsettled_room n J
rooms_settle s J e q t n l f h off none_given first lt =
    let all = rooms_differ q J (J ++ e ∷ []) (λ p ne. ap (sum_by thing_room) (unsettled_kept s p J e l (off p ne) (none_given p))) n lt in
    let one = room_settle s J e q t f h (none_given q) first in
    omega (arith, all, one)

pub rooms_heard : (s : Setting) (J : List Entry) (q : ℕ) (c : Contact) (reports : List Report) (n : ℕ) → Legal s J → q < n → unsettled_room n (J ++ Heard q c reports ∷ []) ≡ unsettled_room n J + (3 * length reports + 1)
rooms_heard s J q c reports n l lt =
    let off : (p : ℕ) → (p ≡ q → ⊥) → things_of p (Heard q c reports) ≡ [] = (λ p ne. ap (λ b. cond b (things_in c reports) []) (settles_elsewhere q p ne)) in
    let all = rooms_differ q J (J ++ Heard q c reports ∷ []) (λ p ne. ap (sum_by thing_room) (unsettled_kept s p J (Heard q c reports) l refl (off p ne))) n lt in
    let one = room_heard s J q c reports l in
    omega (arith, all, one)

pub rooms_kept : (s : Setting) (J : List Entry) (e : Entry) (n : ℕ) → Legal s J → ((p : ℕ) → settles_on p e ≡ false) → ((p : ℕ) → things_of p e ≡ []) → unsettled_room n (J ++ e ∷ []) ≡ unsettled_room n J
rooms_kept s J e n l off none_given = rooms_same J (J ++ e ∷ []) (λ p. ap (sum_by thing_room) (unsettled_kept s p J e l (off p) (none_given p))) n
