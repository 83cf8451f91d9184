-- Where the contacts of a path come from: laws of legal journals.
use Rattle.std.proofs.Common.{◌≡◌, ◌⊎◌, ℕ, ◌+◌, ◌≤◌, List, [], ◌∷◌, ◌++◌, length, Bool, true, false, cond, Some, inl, inr, refl, sym, ap, subst, ◌∙◌, arith, eqb}
use Rattle.std.specs.Prelude.{map, drop, Contains}
use Rattle.std.proofs.lemmas.List.{length-append, get_or-drop}
use Rattle.std.proofs.lemmas.List.Elements.{Contains-append_left, Contains-append_right, Contains-append_cases, Contains-push, Contains-push_cases}
use Rattle.std.proofs.lemmas.Option.{get_or_from_slice_get}
use Rattle.std.proofs.lemmas.Bool.{eqb-true, eq-eqb}
use Rattle.kad_base.specs.Limits.{max_path_contacts}
use Rattle.kad_base.specs.declared.types.ClaimRule.{ClaimRule}
use Rattle.kad_base.specs.declared.types.ClaimRule.TheVariants.{Named, Asked}
use Rattle.kad_base.specs.declared.types.Contact.{Contact}
use Rattle.kad_base.specs.declared.types.Report.{Report}
use Rattle.kad_base.specs.Contacts.{among, IsUsable}
use Rattle.kad_base.specs.Puzzles.{Passes}
use Rattle.claim_book.specs.declared.types.Setting.{Setting}
use Rattle.claim_book.specs.declared.types.Thing.{Thing}
use Rattle.claim_book.specs.declared.types.Thing.TheVariants.{Responder, Told}
use Rattle.claim_book.specs.declared.types.Entry.{Entry}
use Rattle.claim_book.specs.declared.types.Entry.TheVariants.{Seed, Heard, Note, Taken, Held, Turned, Rejected, Skipped}
use Rattle.claim_book.specs.Journal.{things_in, things_of, took_of, path_of, ask_of, ask_on, settles_on, took, path, asked, asked_on, things, settled, unsettled, first_unsettled}
use Rattle.claim_book.specs.Legal.{Fits, IsHeldBy, Legal, Believed}
use Rattle.kad_base.specs.Hosts.{host}
use Rattle.claim_book.specs.Crowded.{IsCrowded}
use Rattle.claim_book.specs.Lineage.{Names, Descends, HasLineage, Closed, IsContained, SettlesReport, IsHeld, TakesUnlessHeld, DropsNone, LosesNoneToNames, GoesByOwnAnswers}
use Rattle.claim_book.proofs.Crowds.{crowd_grows}
use Rattle.claim_book.proofs.More.{took_more, path_more, asked_more, asked_on_more, things_more, fits_in, along}
use Rattle.claim_book.proofs.Among.{among_itself, among_one}
use Rattle.claim_book.proofs.Claims.{open_says, on_path_in, among_left, among_right, each_more, asked_on_path, asked_on_asked, path_took}
use Rattle.claim_book.proofs.Unsettled.{first_within, front_of, settles, unsettled_settle, unsettled_other}

-- ---- what an answer named

-- an answer to path p has the report
record Brought (p : ℕ) (J : List Entry) (r : Report) : Type 0 where
  pub responder : Contact
  pub reports : List Report
  pub answer : Contains J (Heard p responder reports)
  pub named : Contains reports r

nothing_in : {A : Type 0} (x : A) → Contains [] x → ⊥
nothing_in x h = (let lt = h.1 in omega (arith, lt))

first_or_rest : {A : Type 0} (y : A) (xs : List A) (x : A) → Contains (y ∷ xs) x → (y ≡ x) ⊎ Contains xs x
first_or_rest y xs x h =
    elim (Contains-append_cases (y ∷ []) xs x h) [
      | inl a ↦ elim (Contains-push_cases [] y x a) [ inl none_ ↦ absurd (nothing_in x none_) | inr is ↦ inl is ]
      | inr b ↦ inr b
    ]

named_in : (reports : List Report) (r : Report) → Contains (map Told reports) (Told r) → Contains reports r
named_in [] r h = absurd (nothing_in (Told r) h)
named_in (x ∷ reports) r h =
    elim (first_or_rest (Told x) (map Told reports) (Told r) h) [
      | inl e ↦ (let is : x ≡ r = cc in (0, omega arith, is))
      | inr rest ↦ Contains-append_right (x ∷ []) reports r (named_in reports r rest)
    ]

entry_brought : (p : ℕ) (e : Entry) (J : List Entry) (r : Report) → Contains (things_of p e) (Told r) → Brought p (e ∷ J) r
entry_brought p (Heard q c reports) J r h = by_test (eqb q p) refl h
  where
    by_test : (b : Bool) → eqb q p ≡ b → Contains (cond b (things_in c reports) []) (Told r) → Brought p (Heard q c reports ∷ J) r
    by_test true t k =
        elim (first_or_rest (Responder c) (map Told reports) (Told r) k) [
          | inl e ↦ absurd cc
          | inr rest ↦ record {
            responder = c;
            reports = reports;
            answer = (0, omega arith, ap (λ n. Heard n c reports) (eqb-true q p t));
            named = named_in reports r rest;
          }
        ]
    by_test false t k = absurd (nothing_in (Told r) k)
entry_brought p other J r h = absurd (nothing_in (Told r) h)

things_brought : (p : ℕ) (J : List Entry) (r : Report) → Contains (things p J) (Told r) → Brought p J r
unfolding things
things_brought p [] r h = absurd (nothing_in (Told r) h)
things_brought p (e ∷ J) r h =
    elim (Contains-append_cases (things_of p e) (things p J) (Told r) h) [
      | inl a ↦ entry_brought p e J r a
      | inr b ↦
          let w = things_brought p J r b in
          record { responder = w.responder; reports = w.reports; answer = Contains-append_right (e ∷ []) J (Heard p w.responder w.reports) w.answer; named = w.named }
    ]

-- what stands first to be settled came with an answer
first_thing : (p : ℕ) (J : List Entry) (t : Thing) → first_unsettled p J ≡ Some t → Contains (things p J) t
unfolding first_unsettled unsettled
first_thing p J t f =
    let n = length (settled p J) in
    let lt = first_within p J t f in
    (n + 0, omega arith, sym (get_or-drop n (things p J) 0 t) ∙ get_or_from_slice_get (drop n (things p J)) 0 t t f)

-- ---- lineage

-- who answered a path was asked by it
heard_asked : (s : Setting) (J : List Entry) → Legal s J → (p : ℕ) (c : Contact) (reports : List Report) → Contains J (Heard p c reports) → among (asked_on p J) c ≡ true
heard_asked s =
    along (λ J. (p : ℕ) (c : Contact) (reports : List Report) → Contains J (Heard p c reports) → among (asked_on p J) c ≡ true) s
    (λ p c reports h. absurd (nothing_in (Heard p c reports) h))
    (λ J e l d f p c reports h. ap (λ l. among l c) (asked_on_more p J e) ∙ among_left (asked_on p J) (ask_on p e) c (
    elim (Contains-push_cases J e (Heard p c reports) h) [
      | inl a ↦ d p c reports a
      | inr is ↦ (open_says p J c (subst (Fits s J) is f).0).0
    ]))

descends : (s : Setting) (J : List Entry) → Legal s J → (p : ℕ) (c : Contact) → Believed s J p c → Descends s J p c
descends s J l p c b =
    let w = things_brought p J b.report (first_thing p J (Told b.report) b.first) in
    record {
      responder = w.responder;
      asked = heard_asked s J l p w.responder w.reports w.answer;
      named = record { reports = w.reports; answer = w.answer; report = b.report; named = w.named; of_it = b.contact; usable = b.usable; passes = b.passes };
    }

pub has_lineage : (s : Setting) (J : List Entry) → Legal s J → HasLineage s J
unfolding HasLineage
has_lineage s J l before behind p c is =
    let fit = fits_in s before (Taken p c) behind (subst (Legal s) is l) in
    descends s before fit.0 p c fit.1.0

-- ---- containment

named_more : (s : Setting) (J : List Entry) (e : Entry) (p : ℕ) (responder c : Contact) → Names s J p responder c → Names s (J ++ e ∷ []) p responder c
named_more s J e p responder c t = record {
  reports = t.reports;
  answer = Contains-append_left J (e ∷ []) (Heard p responder t.reports) t.answer;
  report = t.report;
  named = t.named;
  of_it = t.of_it;
  usable = t.usable;
  passes = t.passes;
}

closed_before : (s : Setting) (J : List Entry) (e : Entry) (p : ℕ) (H : List Contact) → Closed s (J ++ e ∷ []) p H → Closed s J p H
closed_before s J e p H k = record {
  seeds = λ c h. k.seeds c (Contains-append_left J (e ∷ []) (Seed p c) h);
  named = λ responder c h t. k.named responder c h (named_more s J e p responder c t);
}

entry_within : (s : Setting) (J : List Entry) (e : Entry) (p : ℕ) (H : List Contact) → Legal s J → Fits s J e → Closed s (J ++ e ∷ []) p H → ((c : Contact) → among (path p J) c ≡ true → among H c ≡ true) → (c : Contact) → among (path_of p e) c ≡ true → among H c ≡ true
entry_within s J (Seed q d) p H l f k held c h =
    let on = on_path_in p q (d ∷ []) c h in
    let is : Seed q d ≡ Seed p c = ap (λ n. Seed n d) on.0 ∙ ap (Seed p) (sym (among_one c d on.1)) in
    k.seeds c (subst (Contains (J ++ Seed q d ∷ [])) is (Contains-push J (Seed q d)))
entry_within s J (Taken q d) p H l f k held c h =
    let on = on_path_in p q (d ∷ []) c h in
    let b : Believed s J p c = subst (Believed s J p) (sym (among_one c d on.1)) (subst (λ n. Believed s J n d) on.0 f.0) in
    let w = descends s J l p c b in
    k.named w.responder c (held w.responder (asked_on_path s J l p w.responder w.asked)) (named_more s J (Taken q d) p w.responder c w.named)
entry_within s J other p H l f k held c h = absurd cc

holds_within : (s : Setting) (J : List Entry) → Legal s J → (p : ℕ) (H : List Contact) → Closed s J p H → (c : Contact) → among (path p J) c ≡ true → among H c ≡ true
unfolding path
holds_within s =
    along (λ J. (p : ℕ) (H : List Contact) → Closed s J p H → (c : Contact) → among (path p J) c ≡ true → among H c ≡ true) s (λ p H k c h. absurd cc)
    (λ J e l d f p H k.
    let held = d p H (closed_before s J e p H k) in
    each_more (λ c. among H c ≡ true) (path p J) (path_of p e) (path p (J ++ e ∷ [])) (path_more p J e) held (entry_within s J e p H l f k held))

pub is_contained : (s : Setting) (J : List Entry) → Legal s J → IsContained s J
unfolding IsContained
is_contained s J l p H k = record {
  holds = holds_within s J l p H k;
  asks = λ c h. holds_within s J l p H k c (asked_on_path s J l p c h);
}

-- ---- what is not taken

-- one path that holds it, some path holds it
held_by : (rule : ClaimRule) (J : List Entry) (p by : ℕ) (c : Contact) → IsHeldBy rule J p c by → IsHeld rule J p c
held_by Named J p by c h = path_took by J c h
held_by Asked J p by c (inl h) = inl h.1
held_by Asked J p by c (inr h) = inr (asked_on_asked by J c h.1)

-- it is held from then on
held_more : (rule : ClaimRule) (J : List Entry) (e : Entry) (p : ℕ) (c : Contact) → IsHeld rule J p c → IsHeld rule (J ++ e ∷ []) p c
held_more Named J e p c h = ap (λ l. among l c) (took_more J e) ∙ among_left (took J) (took_of e) c h
held_more Asked J e p c (inl h) = inl (ap (λ l. among l c) (path_more p J e) ∙ among_left (path p J) (path_of p e) c h)
held_more Asked J e p c (inr h) = inr (ap (λ l. among l c) (asked_more J e) ∙ among_left (asked J) (ask_of e) c h)

-- whoever takes it holds it
taken_held : (rule : ClaimRule) (J : List Entry) (p : ℕ) (c : Contact) → IsHeld rule (J ++ Taken p c ∷ []) p c
taken_held Named J p c = ap (λ l. among l c) (took_more J (Taken p c)) ∙ among_right (took J) (c ∷ []) c (among_itself c)
taken_held Asked J p c = inl (ap (λ l. among l c) (path_more p J (Taken p c) ∙ ap (λ b. path p J ++ cond b (c ∷ []) []) (eq-eqb p p refl)) ∙ among_right (path p J) (c ∷ []) c (among_itself c))

abbrev TakenOrHeld : Setting → List Entry → Entry → ℕ → Contact → Type 0
TakenOrHeld s J e p c = (e ≡ Taken p c) ⊎ IsHeld s.claim J p c ⊎ (length (path p J) ≡ max_path_contacts) ⊎ IsCrowded s J p c

-- the report that was believed is the one that stood first
believed_first : (s : Setting) (J : List Entry) (q p : ℕ) (c : Contact) (r : Report) → Believed s J q c → q ≡ p → first_unsettled p J ≡ Some (Told r) → c ≡ r.contact
believed_first s J q p c r b is f =
    let g = sym b.first ∙ ap (λ n. first_unsettled n J) is ∙ f in
    let same_report : b.report ≡ r = cc in
    sym b.contact ∙ ap (λ (x : Report). x.contact) same_report

settled_by : (s : Setting) (J : List Entry) (e : Entry) (p : ℕ) (r : Report) → Fits s J e → SettlesReport J e p r → IsUsable s.own r.contact → Passes s.policy r → TakenOrHeld s J e p r.contact
settled_by s J (Taken q c) p r f x u v =
    let is = eqb-true q p x.settles in
    inl (ap (λ n. Taken n c) is ∙ ap (Taken p) (believed_first s J q p c r f.0 is x.first))
settled_by s J (Held q c by) p r f x u v =
    let same = eqb-true q p x.settles in
    let is = believed_first s J q p c r f.0 same x.first in
    inr (inl (subst (IsHeld s.claim J p) is (subst (λ n. IsHeld s.claim J n c) same (held_by s.claim J q by c f.1))))
settled_by s J (Turned q c) p r f x u v =
    let is = eqb-true q p x.settles in
    elim f.2 [
      | inl full ↦ inr (inr (inl (ap (λ n. length (path n J)) (sym is) ∙ full)))
      | inr crowded ↦ inr (inr (inr (subst (IsCrowded s J p) (believed_first s J q p c r f.0 is x.first) (subst (λ n. IsCrowded s J n c) is crowded))))
    ]
settled_by s J (Rejected q d) p r f x u v =
    let g = sym f.0 ∙ ap (λ n. first_unsettled n J) (eqb-true q p x.settles) ∙ x.first in
    let is : d ≡ r = cc in
    absurd (f.2 (subst (Passes s.policy) (sym is) v))
settled_by s J (Skipped q d) p r f x u v =
    let g = sym f.0 ∙ ap (λ n. first_unsettled n J) (eqb-true q p x.settles) ∙ x.first in
    let is : d ≡ r = cc in
    absurd (f.1 (subst (λ (y : Report). IsUsable s.own y.contact) (sym is) u))
settled_by s J (Note q c) p r f x u v =
    let g = sym f ∙ ap (λ n. first_unsettled n J) (eqb-true q p x.settles) ∙ x.first in
    absurd cc
settled_by s J other p r f x u v = (let no = x.settles in absurd cc)

pub takes_unless_held : (s : Setting) (J : List Entry) → Legal s J → TakesUnlessHeld s J
unfolding TakesUnlessHeld
takes_unless_held s J l before behind e p r is x u v = settled_by s before e p r (fits_in s before e behind (subst (Legal s) is l)).1 x u v

-- ---- what is dropped

told_in : (reports : List Report) (r : Report) → Contains reports r → Contains (map Told reports) (Told r)
told_in [] r k = absurd (nothing_in r k)
told_in (x ∷ reports) r k =
    elim (first_or_rest x reports r k) [
      | inl is ↦ (0, omega arith, ap Told is)
      | inr rest ↦ Contains-append_right (Told x ∷ []) (map Told reports) (Told r) (told_in reports r rest)
    ]

heard_things : (p : ℕ) (c : Contact) (reports : List Report) (r : Report) → Contains reports r → Contains (things_of p (Heard p c reports)) (Told r)
heard_things p c reports r k =
    subst (λ l. Contains l (Told r)) (sym (ap (λ b. cond b (things_in c reports) []) (eq-eqb p p refl)))
    (Contains-append_right (Responder c ∷ []) (map Told reports) (Told r) (told_in reports r k))

-- what an answer named was to be settled
answer_things : (p : ℕ) (J : List Entry) (c : Contact) (reports : List Report) (r : Report) → Contains J (Heard p c reports) → Contains reports r → Contains (things p J) (Told r)
unfolding things
answer_things p [] c reports r h k = absurd (nothing_in (Heard p c reports) h)
answer_things p (e ∷ J) c reports r h k =
    elim (first_or_rest e J (Heard p c reports) h) [
      | inl is ↦ Contains-append_left (things_of p e) (things p J) (Told r) (subst (λ x. Contains (things_of p x) (Told r)) (sym is) (heard_things p c reports r k))
      | inr rest ↦ Contains-append_right (things_of p e) (things p J) (Told r) (answer_things p J c reports r rest k)
    ]

-- the contact is held, or path p is full, or crowded by its host
abbrev IsTakenOrFull : Setting → List Entry → ℕ → Contact → Type 0
IsTakenOrFull s J p c = IsHeld s.claim J p c ⊎ (max_path_contacts ≤ length (path p J)) ⊎ IsCrowded s J p c

stands_more : (s : Setting) (J : List Entry) (e : Entry) (p : ℕ) (c : Contact) → IsTakenOrFull s J p c → IsTakenOrFull s (J ++ e ∷ []) p c
stands_more s J e p c h =
    elim h [
      | inl a ↦ inl (held_more s.claim J e p c a)
      | inr (inl b) ↦ inr (inl (omega (arith, b, ap length (path_more p J e), length-append (path p J) (path_of p e))))
      | inr (inr x) ↦ inr (inr (record { limited = x.limited; as_many = crowd_grows p (host c.addr) J e s.per_address x.as_many }))
    ]

taken_stands : (s : Setting) (J : List Entry) (e : Entry) (p : ℕ) (c : Contact) → TakenOrHeld s J e p c → IsTakenOrFull s (J ++ e ∷ []) p c
taken_stands s J e p c h =
    elim h [
      | inl is ↦ inl (subst (λ x. IsHeld s.claim (J ++ x ∷ []) p c) (sym is) (taken_held s.claim J p c))
      | inr (inl a) ↦ stands_more s J e p c (inl a)
      | inr (inr (inl b)) ↦ stands_more s J e p c (inr (inl (omega (arith, b))))
      | inr (inr (inr x)) ↦ stands_more s J e p c (inr (inr x))
    ]

-- the report waits to be settled, or its contact stands
abbrev Waits : Setting → List Entry → ℕ → Report → Type 0
Waits s J p r = Contains (unsettled p J) (Told r) ⊎ IsTakenOrFull s J p r.contact

waits_settled : (s : Setting) (J : List Entry) (e : Entry) (p : ℕ) (r : Report) → Fits s J e → settles_on p e ≡ true → IsUsable s.own r.contact → Passes s.policy r → Waits s J p r → Waits s (J ++ e ∷ []) p r
waits_settled s J e p r f h u v old =
    let w = settles s J e p f h in
    let front = front_of p J w.thing w.front in
    let left : unsettled p (J ++ e ∷ []) ≡ front.rest = unsettled_settle p J e h (w.no_things p) ∙ ap (drop 1) front.is in
    elim old [
      | inl waits ↦
          elim (first_or_rest w.thing front.rest (Told r) (subst (λ l. Contains l (Told r)) front.is waits)) [
            | inl is ↦ inr (taken_stands s J e p r.contact (settled_by s J e p r f (record { settles = h; first = w.front ∙ ap Some is }) u v))
            | inr rest ↦ inl (subst (λ l. Contains l (Told r)) (sym left) rest)
          ]
      | inr stands ↦ inr (stands_more s J e p r.contact stands)
    ]

waits_other : (s : Setting) (J : List Entry) (e : Entry) (p : ℕ) (r : Report) → Legal s J → settles_on p e ≡ false → Waits s J p r → Waits s (J ++ e ∷ []) p r
waits_other s J e p r l h old =
    elim old [
      | inl waits ↦ inl (subst (λ l. Contains l (Told r)) (sym (unsettled_other s p J e l h)) (Contains-append_left (unsettled p J) (things_of p e) (Told r) waits))
      | inr stands ↦ inr (stands_more s J e p r.contact stands)
    ]

waits_more : (s : Setting) (J : List Entry) (e : Entry) (p : ℕ) (r : Report) → Legal s J → Fits s J e → (Contains (things p J) (Told r) → Waits s J p r) → IsUsable s.own r.contact → Passes s.policy r → Contains (things p (J ++ e ∷ [])) (Told r) → Waits s (J ++ e ∷ []) p r
waits_more s J e p r l f old u v h = by_test (settles_on p e) refl (Contains-append_cases (things p J) (things_of p e) (Told r) (subst (λ l. Contains l (Told r)) (things_more p J e) h))
  where
    by_test : (b : Bool) → settles_on p e ≡ b → Contains (things p J) (Told r) ⊎ Contains (things_of p e) (Told r) → Waits s (J ++ e ∷ []) p r
    by_test true t (inl a) = waits_settled s J e p r f t u v (old a)
    by_test true t (inr b) = absurd (nothing_in (Told r) (subst (λ l. Contains l (Told r)) ((settles s J e p f t).no_things p) b))
    by_test false t (inl a) = waits_other s J e p r l t (old a)
    by_test false t (inr b) = inl (subst (λ l. Contains l (Told r)) (sym (unsettled_other s p J e l t)) (Contains-append_right (unsettled p J) (things_of p e) (Told r) b))

-- what an answer named waits until its contact stands
all_wait : (s : Setting) (J : List Entry) → Legal s J → (p : ℕ) (r : Report) → IsUsable s.own r.contact → Passes s.policy r → Contains (things p J) (Told r) → Waits s J p r
unfolding things
all_wait s =
    along (λ J. (p : ℕ) (r : Report) → IsUsable s.own r.contact → Passes s.policy r → Contains (things p J) (Told r) → Waits s J p r) s
    (λ p r u v h. absurd (nothing_in (Told r) h))
    (λ J e l d f p r u v h. waits_more s J e p r l f (d p r u v) u v h)

pub drops_none : (s : Setting) (J : List Entry) → Legal s J → DropsNone s J
unfolding DropsNone
drops_none s J l p responder c settled_all n =
    let usable = subst (IsUsable s.own) (sym n.of_it) n.usable in
    elim (all_wait s J l p n.report usable n.passes (answer_things p J responder n.reports n.report n.answer n.named)) [
      | inl waits ↦ absurd (nothing_in (Told n.report) (subst (λ l. Contains l (Told n.report)) settled_all waits))
      | inr stands ↦ subst (IsTakenOrFull s J p) n.of_it stands
    ]

-- ---- what a name takes away

-- nothing, where only an ask is a claim
pub loses_none : (s : Setting) (J : List Entry) → Legal s J → LosesNoneToNames s J
unfolding LosesNoneToNames DropsNone
loses_none s J l is p responder c settled_all n =
    elim (drops_none s J l p responder c settled_all n) [
      | inl held ↦ elim (subst (λ rule. IsHeld rule J p c) is held) [ inl here ↦ inl here | inr asks ↦ inr (inl asks) ]
      | inr (inl full) ↦ inr (inr (inl full))
      | inr (inr crowded) ↦ inr (inr (inr crowded))
    ]

-- ---- the whole

pub own_answers : (s : Setting) (J : List Entry) → Legal s J → GoesByOwnAnswers s J
own_answers s J l = record { lineage = has_lineage s J l; contained = is_contained s J l; taken_unless_held = takes_unless_held s J l; none_dropped = drops_none s J l; none_lost = loses_none s J l }
