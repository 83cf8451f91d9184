-- No path has more contacts of one host than the limit says, and each that was dealt a seed keeps one.
use Rattle.std.proofs.Common.{◌≡◌, ℕ, ◌<◌, ◌≤◌, List, [], ◌∷◌, ◌++◌, length, Bool, true, false, cond, inl, inr, refl, sym, ap, ◌∙◌, eqb, arith}
use Rattle.std.specs.Prelude.{filter, nat_lt}
use Rattle.std.specs.List.{IsDistinct, AllByRecursion}
use Rattle.std.proofs.lemmas.Cmp.{eq_by_cmp_equiv}
use Rattle.std.proofs.lemmas.Map.Made.{length-le_from_is_member}
use Rattle.std.proofs.lemmas.List.Concat.{flat_map-append}
use Rattle.std.proofs.lemmas.Bool.{and_parts, and_from, or_left, or_right, eq-eqb, eqb-true, lt-ltb, cases_lt}
use Rattle.kad_base.specs.declared.types.Contact.{Contact}
use Rattle.kad_base.specs.Contacts.{same, among}
use Rattle.kad_base.proofs.Contacts.{contact_total}
use Rattle.claim_book.specs.declared.types.Setting.{Setting}
use Rattle.claim_book.specs.declared.types.Entry.{Entry}
use Rattle.claim_book.specs.declared.types.Entry.TheVariants.{Seed, Taken}
use Rattle.kad_base.specs.declared.host.Host.{Host}
use Rattle.claim_book.specs.Journal.{on_path, path_of, path, asked_on}
use Rattle.kad_base.specs.Hosts.{host, same_host, at_host}
use Rattle.claim_book.specs.Crowded.{crowd, IsCrowded, HasFewOfAHost}
use Rattle.claim_book.specs.Claims.{seat_eq, seat}
use Rattle.claim_book.specs.Legal.{Fits, Legal, dealt, stays, staying, seeded}
use Rattle.claim_book.proofs.More.{path_more, along}
use Rattle.claim_book.proofs.Among.{among_filter}
use Rattle.claim_book.proofs.Claims.{asked_on_path}
use Rattle.claim_book.proofs.Forever.{asked_on_distinct}
use Rattle.claim_book.proofs.Seeding.{AreSeeds, dealt_seeds, kept}
use Rattle.claim_book.proofs.Crowds.{seat_exact, one_of, crowd_gains, crowd_kept}

gains_few : (s : Setting) (J : List Entry) (e : Entry) (q : ℕ) (c : Contact) → 0 < s.per_address → ((p : ℕ) → path_of p e ≡ on_path p q (c ∷ [])) → ¬ IsCrowded s J q c → (p : ℕ) (h : Host) → crowd p h J ≤ s.per_address → crowd p h (J ++ e ∷ []) ≤ s.per_address
gains_few s J e q c z gets free p h le = by (seat_eq (seat q (host c.addr)) (seat p h)) refl
  where
    by : (b : Bool) → seat_eq (seat q (host c.addr)) (seat p h) ≡ b → crowd p h (J ++ e ∷ []) ≤ s.per_address
    by true f =
        let is = seat_exact (seat q (host c.addr)) (seat p h) f in
        let at : crowd q (host c.addr) J ≡ crowd p h J = ap (λ n. crowd n (host c.addr) J) is.0 ∙ ap (λ g. crowd p g J) is.1 in
        let one : one_of q c p h ≡ 1 = ap (λ b. cond b 1 0) f in
        elim (cases_lt (crowd q (host c.addr) J) s.per_address) [
          | inl lt ↦ omega (arith, crowd_gains p q h c J e (gets p))
          | inr ge ↦ absurd (free (record { limited = z; as_many = ge }))
        ]
    by false f =
        let one : one_of q c p h ≡ 0 = ap (λ b. cond b 1 0) f in
        omega (arith, crowd_gains p q h c J e (gets p))

few_step : (s : Setting) (J : List Entry) (e : Entry) → 0 < s.per_address → Fits s J e → (p : ℕ) (h : Host) → crowd p h J ≤ s.per_address → crowd p h (J ++ e ∷ []) ≤ s.per_address
few_step s J (Seed q c) z f p h le = gains_few s J (Seed q c) q c z (λ p. refl) f.free p h le
few_step s J (Taken q c) z f p h le = gains_few s J (Taken q c) q c z (λ p. refl) f.3 p h le
few_step s J other z f p h le = omega (arith, crowd_kept p h J other refl)

-- of what a path has
few_held : (s : Setting) (J : List Entry) (p : ℕ) (h : Host) → Legal s J → 0 < s.per_address → length (at_host h (path p J)) ≤ s.per_address
unfolding path
few_held s J p h l z = along (λ J. (p : ℕ) (h : Host) → crowd p h J ≤ s.per_address) s (λ p h. omega arith) (λ J e l d f p h. few_step s J e z f p h (d p h)) J l p h

distinct_filter : (T : Contact → Bool) (xs : List Contact) → IsDistinct same xs → IsDistinct same (filter T xs)
unfolding IsDistinct
distinct_filter T [] d = tt
distinct_filter T (x ∷ xs) d =
    elim (T x) as (λ b. IsDistinct same (cond b (x ∷ filter T xs) (filter T xs))) [
      | true ↦ (apart xs d.0, distinct_filter T xs d.1)
      | false ↦ distinct_filter T xs d.1
    ]
  where
    apart : (ys : List Contact) → AllByRecursion (λ y. same x y ≡ false) ys → AllByRecursion (λ y. same x y ≡ false) (filter T ys)
    apart [] a = tt
    apart (y ∷ ys) a = elim (T y) as (λ b. AllByRecursion (λ y. same x y ≡ false) (cond b (y ∷ filter T ys) (filter T ys))) [ true ↦ (a.0, apart ys a.1) | false ↦ apart ys a.1 ]

-- and of what it asks
few_asked_on : (s : Setting) (J : List Entry) (p : ℕ) (h : Host) → Legal s J → 0 < s.per_address → length (at_host h (asked_on p J)) ≤ s.per_address
few_asked_on s J p h l z =
    let T = λ (c : Contact). same_host (host c.addr) h in
    let have = few_held s J p h l z in
    let fewer = length-le_from_is_member (eq_by_cmp_equiv contact_total) (filter T (asked_on p J)) (filter T (path p J)) (distinct_filter T (asked_on p J) (asked_on_distinct s p J l)) (λ c m.
    let parts = and_parts (among (asked_on p J) c) (T c) (sym (among_filter T (asked_on p J) c) ∙ m) in
    among_filter T (path p J) c ∙ and_from (among (path p J) c) (T c) (asked_on_path s J l p c parts.0) parts.1) in
    omega arith

pub has_few : (s : Setting) (J : List Entry) → Legal s J → HasFewOfAHost s J
has_few s J l = record { has = λ z p h. few_held s J p h l z; asks = λ z p h. few_asked_on s J p h l z }

-- ---- the first seed of a path stays

path_both : (p : ℕ) (J K : List Entry) → path p (J ++ K) ≡ path p J ++ path p K
unfolding path
path_both p J K = flat_map-append (path_of p) J K

last_none : (xs ys : List Contact) → xs ++ ys ≡ [] → ys ≡ []
last_none [] ys e = e
last_none (x ∷ xs) ys e = absurd cc

stays_first : (limit q : ℕ) (P : List Entry) (c : Contact) → path q P ≡ [] → stays limit P (Seed q c) ≡ true
stays_first limit q P c e =
    let none_ : crowd q (host c.addr) P ≡ 0 = ap (λ l. length (at_host (host c.addr) l)) e in
    elim (cases_lt 0 limit) [
      | inl lt ↦ or_right (eqb limit 0) (nat_lt (crowd q (host c.addr) P) limit) (lt-ltb (crowd q (host c.addr) P) limit (omega arith))
      | inr ge ↦ or_left (eqb limit 0) (nat_lt (crowd q (host c.addr) P) limit) (eq-eqb limit 0 (omega arith))
    ]

seed_first : (limit p q : ℕ) (P es : List Entry) (c : Contact) → path p P ≡ [] → q ≡ p → path p (kept limit P (Seed q c) ++ es) ≡ [] → ⊥
unfolding path
seed_first limit p q P es c none_ is out =
    let st = stays_first limit q P c (ap (λ n. path n P) is ∙ none_) in
    let e : path p (Seed q c ∷ es) ≡ [] = sym (ap (λ b. path p (cond b (Seed q c ∷ []) [] ++ es)) st) ∙ out in
    let f : c ∷ path p es ≡ [] = sym (ap (λ b. cond b (c ∷ []) [] ++ path p es) (eq-eqb q p is)) ∙ e in
    absurd cc

first_stays : (limit p : ℕ) (P es : List Entry) → AreSeeds es → path p P ≡ [] → path p (staying limit P es) ≡ [] → path p es ≡ []
unfolding path
first_stays limit p P [] h none_ out = refl
first_stays limit p P (Seed q c ∷ es) h none_ out = by (λ more rest. first_stays limit p (P ++ Seed q c ∷ []) es h.1 more rest) (eqb q p) refl
  where
    by : (path p (P ++ Seed q c ∷ []) ≡ [] → path p (staying limit (P ++ Seed q c ∷ []) es) ≡ [] → path p es ≡ []) → (b : Bool) → eqb q p ≡ b → on_path p q (c ∷ []) ++ path p es ≡ []
    by go true e = absurd (seed_first limit p q P (staying limit (P ++ Seed q c ∷ []) es) c none_ (eqb-true q p e) out)
    by go false e =
        let here : on_path p q (c ∷ []) ≡ [] = ap (λ b. cond b (c ∷ []) []) e in
        let more : path p (P ++ Seed q c ∷ []) ≡ [] = path_more p P (Seed q c) ∙ ap (λ l. l ++ on_path p q (c ∷ [])) none_ ∙ here in
        let rest = last_none (path p (kept limit P (Seed q c))) (path p (staying limit (P ++ Seed q c ∷ []) es)) (sym (path_both p (kept limit P (Seed q c)) (staying limit (P ++ Seed q c ∷ []) es)) ∙ out) in
        ap (λ l. l ++ path p es) here ∙ go more rest
first_stays limit p P (x ∷ es) h none_ out = absurd h.0

none_yet : (p : ℕ) → path p [] ≡ []
unfolding path
none_yet p = refl

pub some_stay : (limit d : ℕ) (cs : List Contact) (p : ℕ) → path p (seeded limit d cs) ≡ [] → path p (dealt d cs) ≡ []
some_stay limit d cs p out = first_stays limit p [] (dealt d cs) (dealt_seeds d 0 cs) (none_yet p) out
