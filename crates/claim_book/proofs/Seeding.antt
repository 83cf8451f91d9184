-- A journal that has seeds alone, as many of each host on a path as the limit says.
use Rattle.std.proofs.Common.{◌≡◌, ◌⊎◌, ℕ, zero, suc, ◌+◌, ◌*◌, ◌%◌, ◌<◌, ◌≤◌, List, [], ◌∷◌, ◌++◌, length, take, get_or, Bool, true, false, ◌||◌, cond, inl, inr, refl, sym, ap, subst, ◌∙◌, eqb, arith}
use Rattle.std.specs.Prelude.{drop, nat_lt}
use Rattle.std.specs.List.{All, AllByRecursion, sum_by}
use Rattle.std.specs.List.Sorted.{IsStrictlySortedBy}
use Rattle.std.specs.declared.cmp.Ordering.{Ordering}
use Rattle.std.specs.declared.cmp.Ordering.TheVariants.{Less}
use Rattle.std.proofs.lemmas.List.{take_more, take_all, drop_more, length-take-le, length-append, append-nil, append_assoc}
use Rattle.std.proofs.lemmas.Bool.{lt-ltb, le-ltb, cases_lt, eq-eqb, eqb-true, or_left, or_right}
use Rattle.kad_base.specs.Limits.{max_path_contacts}
use Rattle.kad_base.specs.declared.types.Contact.{Contact}
use Rattle.kad_base.specs.Contacts.{without, IsUsable}
use Rattle.kad_distance.specs.Order.{closeness}
use Rattle.claim_book.specs.declared.types.Setting.{Setting}
use Rattle.claim_book.specs.declared.types.Thing.{Thing}
use Rattle.claim_book.specs.declared.types.Entry.{Entry}
use Rattle.claim_book.specs.declared.types.Entry.TheVariants.{Seed}
use Rattle.kad_base.specs.declared.host.Host.{Host}
use Rattle.claim_book.specs.Journal.{seeds, took, path, asked, answered, failed, turned, open_any, things, settled, unsettled}
use Rattle.kad_base.specs.Hosts.{host}
use Rattle.claim_book.specs.Crowded.{crowd, IsCrowded}
use Rattle.claim_book.specs.Claims.{seat_eq, seat}
use Rattle.claim_book.specs.Legal.{SeedFits, Legal, IsSeed, dealt_from, dealt, stays, staying, seeded}
use Rattle.claim_book.specs.Room.{thing_room, unsettled_room, room_for, IsBook}
use Rattle.claim_book.proofs.More.{took_more, legal_more}
use Rattle.claim_book.proofs.Crowds.{seat_exact, one_of, crowd_gains}

-- ---- what has seeds alone

abbrev pub AreSeeds : List Entry → Type 0
AreSeeds J = AllByRecursion IsSeed J

pub are_more : (J : List Entry) (e : Entry) → AreSeeds J → IsSeed e → AreSeeds (J ++ e ∷ [])
are_more [] e h k = (k, tt)
are_more (x ∷ J) e h k = (h.0, are_more J e h.1 k)

pub dealt_seeds : (d i : ℕ) (cs : List Contact) → AreSeeds (dealt_from d i cs)
dealt_seeds d i [] = tt
dealt_seeds d i (c ∷ cs) = (tt, dealt_seeds d (i + 1) cs)

staying_seeds : (limit : ℕ) (P es : List Entry) → AreSeeds es → AreSeeds (staying limit P es)
staying_seeds limit P [] h = tt
staying_seeds limit P (e ∷ es) h =
    elim (stays limit P e) as (λ b. AreSeeds (cond b (e ∷ []) [] ++ staying limit (P ++ e ∷ []) es)) [
      | true ↦ (h.0, staying_seeds limit (P ++ e ∷ []) es h.1)
      | false ↦ staying_seeds limit (P ++ e ∷ []) es h.1
    ]

pub seeded_seeds : (limit d : ℕ) (cs : List Contact) → AreSeeds (seeded limit d cs)
seeded_seeds limit d cs = staying_seeds limit [] (dealt d cs) (dealt_seeds d 0 cs)

-- the seeds of any journal
pub seeds_are_seeds : (J : List Entry) → AreSeeds (seeds J)
unfolding seeds
seeds_are_seeds [] = tt
seeds_are_seeds (Seed q c ∷ J) = (tt, seeds_are_seeds J)
seeds_are_seeds (x ∷ J) = seeds_are_seeds J

-- one that has these alone is them
pub seeds_stand : (J : List Entry) → AreSeeds J → seeds J ≡ J
unfolding seeds
seeds_stand [] h = refl
seeds_stand (Seed q c ∷ J) h = ap (λ l. Seed q c ∷ l) (seeds_stand J h.1)
seeds_stand (x ∷ J) h = absurd h.0

pub seeds_took : (J : List Entry) → AreSeeds J → length (took J) ≡ length J
unfolding took
seeds_took [] h = refl
seeds_took (Seed q c ∷ J) h = ap suc (seeds_took J h.1)
seeds_took (x ∷ J) h = absurd h.0

pub seeds_asked : (J : List Entry) → AreSeeds J → asked J ≡ []
unfolding asked
seeds_asked [] h = refl
seeds_asked (Seed q c ∷ J) h = seeds_asked J h.1
seeds_asked (x ∷ J) h = absurd h.0

pub seeds_failed : (J : List Entry) → AreSeeds J → failed J ≡ []
unfolding failed
seeds_failed [] h = refl
seeds_failed (Seed q c ∷ J) h = seeds_failed J h.1
seeds_failed (x ∷ J) h = absurd h.0

pub seeds_turned : (J : List Entry) → AreSeeds J → turned J ≡ []
unfolding turned
seeds_turned [] h = refl
seeds_turned (Seed q c ∷ J) h = seeds_turned J h.1
seeds_turned (x ∷ J) h = absurd h.0

seeds_things : (p : ℕ) (J : List Entry) → AreSeeds J → things p J ≡ []
unfolding things
seeds_things p [] h = refl
seeds_things p (Seed q c ∷ J) h = seeds_things p J h.1
seeds_things p (x ∷ J) h = absurd h.0

seeds_settled : (p : ℕ) (J : List Entry) → AreSeeds J → settled p J ≡ []
unfolding settled
seeds_settled p [] h = refl
seeds_settled p (Seed q c ∷ J) h = seeds_settled p J h.1
seeds_settled p (x ∷ J) h = absurd h.0

pub none_out : (cs : List Contact) → without cs [] ≡ cs
none_out [] = refl
none_out (c ∷ cs) = ap (λ l. c ∷ l) (none_out cs)

pub seeds_settled_all : (p : ℕ) (J : List Entry) → AreSeeds J → unsettled p J ≡ []
unfolding unsettled
seeds_settled_all p J h = ap (λ (l : List Thing). drop (length (settled p J)) l) (seeds_things p J h) ∙ ap (λ (l : List Entry). drop {A = Thing} (length l) []) (seeds_settled p J h)

pub seeds_open : (J : List Entry) → AreSeeds J → open_any J ≡ []
unfolding open_any
seeds_open J h = ap (λ l. without l (answered J ++ failed J)) (seeds_asked J h)

pub seeds_rooms : (J : List Entry) (n : ℕ) → AreSeeds J → unsettled_room n J ≡ 0
seeds_rooms J zero h = refl
seeds_rooms J (suc n) h =
    let z : unsettled n J ≡ [] = seeds_settled_all n J h in
    omega (arith, seeds_rooms J n h, ap (sum_by thing_room) z)

-- each seed may be asked, and then heard or lost
pub seeds_room : (J : List Entry) (n : ℕ) → AreSeeds J → room_for n J ≡ 2 * length J
unfolding room_for open_any
seeds_room J n h =
    let fresh : length (without (took J) (asked J)) ≡ length J = ap (λ l. length (without (took J) l)) (seeds_asked J h) ∙ ap length (none_out (took J)) ∙ seeds_took J h in
    let opens : length (without (asked J) (answered J ++ failed J)) ≡ 0 = ap (λ l. length (without l (answered J ++ failed J))) (seeds_asked J h) in
    omega (arith, seeds_rooms J n h)

-- ---- one seed more

dealt_push : (d i : ℕ) (cs : List Contact) (c : Contact) → dealt_from d i (cs ++ c ∷ []) ≡ dealt_from d i cs ++ Seed ((i + length cs) % d) c ∷ []
dealt_push d i [] c = ap (λ n. Seed (n % d) c ∷ []) (let z : i ≡ i + 0 = omega arith in z)
dealt_push d i (x ∷ cs) c =
    ap (λ l. Seed (i % d) x ∷ l) (dealt_push d (i + 1) cs c)
    ∙ ap (λ n. Seed (i % d) x ∷ (dealt_from d (i + 1) cs ++ Seed (n % d) c ∷ [])) (let z : (i + 1) + length cs ≡ i + suc (length cs) = omega arith in z)

dealt_more : (d : ℕ) (cs : List Contact) (i : ℕ) (x : Contact) → i < length cs → dealt d (take (i + 1) cs) ≡ dealt d (take i cs) ++ Seed (i % d) (get_or cs i x) ∷ []
dealt_more d cs i x lt =
    ap (dealt d) (take_more cs i x lt) ∙ dealt_push d 0 (take i cs) (get_or cs i x)
    ∙ ap (λ n. dealt d (take i cs) ++ Seed (n % d) (get_or cs i x) ∷ []) (let z : 0 + length (take i cs) ≡ i = (let le : i ≤ length cs = omega arith in omega (arith, length-take-le i cs le)) in z)

pub dealt_length : (d i : ℕ) (cs : List Contact) → length (dealt_from d i cs) ≡ length cs
dealt_length d i [] = refl
dealt_length d i (c ∷ cs) = ap suc (dealt_length d (i + 1) cs)

-- the entry, if it stays
abbrev pub kept : ℕ → List Entry → Entry → List Entry
kept limit P e = cond (stays limit P e) (e ∷ []) []

staying_push : (limit : ℕ) (P es : List Entry) (e : Entry) → staying limit P (es ++ e ∷ []) ≡ staying limit P es ++ kept limit (P ++ es) e
staying_push limit P [] e = append-nil (kept limit P e) ∙ ap (λ l. kept limit l e) (sym (append-nil P))
staying_push limit P (x ∷ es) e =
    ap (λ l. kept limit P x ++ l) (staying_push limit (P ++ x ∷ []) es e)
    ∙ ap (λ l. kept limit P x ++ (staying limit (P ++ x ∷ []) es ++ kept limit l e)) (append_assoc P (x ∷ []) es)
    ∙ sym (append_assoc (kept limit P x) (staying limit (P ++ x ∷ []) es) (kept limit (P ++ x ∷ es) e))

pub seeded_more : (limit d : ℕ) (cs : List Contact) (i : ℕ) (x : Contact) → i < length cs → seeded limit d (take (i + 1) cs) ≡ seeded limit d (take i cs) ++ kept limit (dealt d (take i cs)) (Seed (i % d) (get_or cs i x))
seeded_more limit d cs i x lt = ap (staying limit []) (dealt_more d cs i x lt) ∙ staying_push limit [] (dealt d (take i cs)) (Seed (i % d) (get_or cs i x))

-- ---- how many of a host stay

-- of so many that were dealt stay all, or as many as the limit says
abbrev Few : ℕ → ℕ → ℕ → Type 0
Few limit n k = ((n < limit) × (k ≡ n)) ⊎ ((limit ≤ n) × (k ≡ limit))

few_none : (limit : ℕ) → 0 < limit → Few limit 0 0
few_none limit z = inl (z, refl)

-- the next is dealt, and stays if it is among the first
few_more : (limit n k t u n' k' : ℕ) → Few limit n k → n' ≡ n + t → k' ≡ k + u → t ≤ 1 → ((n < limit) × (u ≡ t)) ⊎ ((limit ≤ n) × (u ≡ 0)) → Few limit n' k'
few_more limit n k t u n' k' few dealt_ stayed le is =
    elim is [
      | inl below ↦
          let a = below.0 in
          let b = below.1 in
          elim few [
            | inl all ↦
                let same = all.1 in
                elim (cases_lt n' limit) [
                  | inl lt ↦ inl (lt, omega arith)
                  | inr ge ↦ inr (ge, omega arith)
                ]
            | inr full ↦ (let f = full.0 in absurd (omega arith))
          ]
      | inr above ↦
          let a = above.0 in
          let b = above.1 in
          elim few [
            | inl all ↦ (let f = all.0 in absurd (omega arith))
            | inr full ↦ (let f = full.1 in inr (omega arith, omega arith))
          ]
    ]

one_few : (q : ℕ) (c : Contact) (p : ℕ) (h : Host) → one_of q c p h ≤ 1
one_few q c p h = elim (seat_eq (seat q (host c.addr)) (seat p h)) as (λ b. cond b 1 0 ≤ 1) [ true ↦ omega arith | false ↦ omega arith ]

-- ---- a lookup's beginning: what was dealt, what stayed of it, and what is left to deal

pub record Begins (s : Setting) (P K : List Entry) (rest : List Contact) : Type 0 where
  pub legal : Legal s K
  pub seeds_only : AreSeeds K
  pub short : length K ≤ length P
  pub room : length P + length rest ≤ s.k
  pub alike : s.per_address ≡ 0 → K ≡ P
  pub sorted : IsStrictlySortedBy (closeness s.target) (took K ++ rest)
  pub counts : 0 < s.per_address → (p : ℕ) (h : Host) → Few s.per_address (crowd p h P) (crowd p h K)

drop_one : (R : Contact → Contact → Ordering) (xs ys : List Contact) (c : Contact) → IsStrictlySortedBy R (xs ++ c ∷ ys) → IsStrictlySortedBy R (xs ++ ys)
unfolding IsStrictlySortedBy
drop_one R [] ys c h = h.1
drop_one R (x ∷ xs) ys c h = (less xs h.0, drop_one R xs ys c h.1)
  where
    less : (xs : List Contact) → AllByRecursion (λ y. R x y ≡ Less) (xs ++ c ∷ ys) → AllByRecursion (λ y. R x y ≡ Less) (xs ++ ys)
    less [] a = a.1
    less (y ∷ xs) a = (a.0, less xs a.1)

front_sorted : (R : Contact → Contact → Ordering) (xs ys : List Contact) → IsStrictlySortedBy R (xs ++ ys) → IsStrictlySortedBy R xs
unfolding IsStrictlySortedBy
front_sorted R [] ys h = tt
front_sorted R (x ∷ xs) ys h = (front_all xs h.0, front_sorted R xs ys h.1)
  where
    front_all : (xs : List Contact) → AllByRecursion (λ y. R x y ≡ Less) (xs ++ ys) → AllByRecursion (λ y. R x y ≡ Less) xs
    front_all [] a = tt
    front_all (y ∷ xs) a = (a.0, front_all xs a.1)

-- a seed stays exactly where its host doesn't crowd the path
pub stays_unless : (s : Setting) (P K : List Entry) (q : ℕ) (c : Contact) (rest : List Contact) → Begins s P K rest → ¬ ((0 < s.per_address) × (s.per_address ≤ crowd q (host c.addr) K)) → stays s.per_address P (Seed q c) ≡ true
stays_unless s P K q c rest b out =
    elim (cases_lt 0 s.per_address) [
      | inl z ↦
          or_right (eqb s.per_address 0) (nat_lt (crowd q (host c.addr) P) s.per_address) (
          elim (b.counts z q (host c.addr)) [
            | inl all ↦ lt-ltb (crowd q (host c.addr) P) s.per_address all.0
            | inr full ↦ (let f = full.1 in absurd (out (z, omega arith)))
          ])
      | inr none_ ↦ or_left (eqb s.per_address 0) (nat_lt (crowd q (host c.addr) P) s.per_address) (eq-eqb s.per_address 0 (omega arith))
    ]

pub stays_not : (s : Setting) (P K : List Entry) (q : ℕ) (c : Contact) (rest : List Contact) → Begins s P K rest → 0 < s.per_address → s.per_address ≤ crowd q (host c.addr) K → stays s.per_address P (Seed q c) ≡ false
stays_not s P K q c rest b z le =
    neither (eqb s.per_address 0) (nat_lt (crowd q (host c.addr) P) s.per_address) (limited (eqb s.per_address 0) refl) (
    elim (b.counts z q (host c.addr)) [
      | inl all ↦ (let lt = all.0 in let is = all.1 in absurd (omega arith))
      | inr full ↦ le-ltb (crowd q (host c.addr) P) s.per_address full.0
    ])
  where
    neither : (x y : Bool) → x ≡ false → y ≡ false → (x || y) ≡ false
    neither false false e f = refl
    neither true y e f = absurd cc
    neither false true e f = absurd cc

    limited : (x : Bool) → eqb s.per_address 0 ≡ x → x ≡ false
    limited false e = refl
    limited true e = (let is = eqb-true s.per_address 0 e in absurd (omega arith))

-- and where it stays its host doesn't
stays_free : (s : Setting) (P K : List Entry) (q : ℕ) (c : Contact) (rest : List Contact) → Begins s P K rest → stays s.per_address P (Seed q c) ≡ true → ¬ IsCrowded s K q c
stays_free s P K q c rest b st x = (let no = stays_not s P K q c rest b x.limited x.as_many in absurd cc)

pub seed_fits : (s : Setting) (P K : List Entry) (c : Contact) (rest : List Contact) → 0 < s.paths → IsUsable s.own c → Begins s P K (c ∷ rest) → stays s.per_address P (Seed (length P % s.paths) c) ≡ true → SeedFits s K (length P % s.paths) c
seed_fits s P K c rest some usable b st =
    let room = b.room in
    let short = b.short in
    record {
      first = ap length (seeds_stand K b.seeds_only);
      few = omega arith;
      is_path = omega arith;
      turn = λ z. ap (λ (l : List Entry). length l % s.paths) (sym (b.alike z));
      usable = usable;
      in_order = front_sorted (closeness s.target) (took K ++ c ∷ []) rest (subst (IsStrictlySortedBy (closeness s.target)) (sym (append_assoc (took K) (c ∷ []) rest)) b.sorted);
      free = stays_free s P K (length P % s.paths) c (c ∷ rest) b st;
    }

begins_more : (s : Setting) (P K : List Entry) (c : Contact) (rest : List Contact) → 0 < s.paths → IsUsable s.own c → Begins s P K (c ∷ rest) → Begins s (P ++ Seed (length P % s.paths) c ∷ []) (K ++ kept s.per_address P (Seed (length P % s.paths) c)) rest
begins_more s P K c rest some usable b = by (stays s.per_address P (Seed (length P % s.paths) c)) refl
  where
    by : (t : Bool) → stays s.per_address P (Seed (length P % s.paths) c) ≡ t → Begins s (P ++ Seed (length P % s.paths) c ∷ []) (K ++ cond t (Seed (length P % s.paths) c ∷ []) []) rest
    by true st =
        let q = length P % s.paths in
        let e = Seed q c in
        let f = seed_fits s P K c rest some usable b st in
        let room = b.room in
        let short = b.short in
        let free = f.free in
        record {
          legal = legal_more s K e b.legal f;
          seeds_only = are_more K e b.seeds_only tt;
          short = omega (arith, length-append K (e ∷ []), length-append P (e ∷ []));
          room = omega (arith, length-append P (e ∷ []));
          alike = λ z. ap (λ (l : List Entry). l ++ e ∷ []) (b.alike z);
          sorted = subst (λ (l : List Contact). IsStrictlySortedBy (closeness s.target) (l ++ rest)) (sym (took_more K e)) (subst (IsStrictlySortedBy (closeness s.target)) (sym (append_assoc (took K) (c ∷ []) rest)) b.sorted);
          counts = λ z p h.
              few_more s.per_address (crowd p h P) (crowd p h K) (one_of q c p h) (one_of q c p h) (crowd p h (P ++ e ∷ [])) (crowd p h (K ++ e ∷ [])) (b.counts z p h) (crowd_gains p q h c P e refl) (crowd_gains p q h c K e refl) (one_few q c p h)
              (taken_if z p h (seat_eq (seat q (host c.addr)) (seat p h)) refl free);
        }
      where
        taken_if : 0 < s.per_address → (p : ℕ) (h : Host) (t : Bool) → seat_eq (seat (length P % s.paths) (host c.addr)) (seat p h) ≡ t → ¬ IsCrowded s K (length P % s.paths) c
            → ((crowd p h P < s.per_address) × (one_of (length P % s.paths) c p h ≡ one_of (length P % s.paths) c p h)) ⊎ ((s.per_address ≤ crowd p h P) × (one_of (length P % s.paths) c p h ≡ 0))
        taken_if z p h true e free =
            let is = seat_exact (seat (length P % s.paths) (host c.addr)) (seat p h) e in
            let at : crowd (length P % s.paths) (host c.addr) P ≡ crowd p h P = ap (λ n. crowd n (host c.addr) P) is.0 ∙ ap (λ g. crowd p g P) is.1 in
            elim (b.counts z (length P % s.paths) (host c.addr)) [
              | inl all ↦ (let lt = all.0 in inl (omega arith, refl))
              | inr full ↦ (let k = full.1 in absurd (free (record { limited = z; as_many = omega arith })))
            ]
        taken_if z p h false e free =
            elim (cases_lt (crowd p h P) s.per_address) [
              | inl lt ↦ inl (lt, refl)
              | inr ge ↦ inr (ge, ap (λ t. cond t 1 0) e)
            ]
    by false st =
        let q = length P % s.paths in
        let e = Seed q c in
        let room = b.room in
        let short = b.short in
        let none_ : K ++ [] ≡ K = append-nil K in
        subst (λ (l : List Entry). Begins s (P ++ e ∷ []) l rest) (sym none_) (record {
          legal = b.legal;
          seeds_only = b.seeds_only;
          short = omega (arith, length-append P (e ∷ []));
          room = omega (arith, length-append P (e ∷ []));
          alike = λ z. absurd (let yes = or_left (eqb s.per_address 0) (nat_lt (crowd q (host c.addr) P) s.per_address) (eq-eqb s.per_address 0 z) in let no : ((eqb s.per_address 0) || nat_lt (crowd q (host c.addr) P) s.per_address) ≡ false = st in clash _ no yes);
          sorted = drop_one (closeness s.target) (took K) rest c b.sorted;
          counts = λ z p h.
              few_more s.per_address (crowd p h P) (crowd p h K) (one_of q c p h) 0 (crowd p h (P ++ e ∷ [])) (crowd p h K) (b.counts z p h) (crowd_gains p q h c P e refl) (omega arith) (one_few q c p h)
              (left_if z p h (seat_eq (seat q (host c.addr)) (seat p h)) refl);
        })
      where
        clash : (t : Bool) → t ≡ false → t ≡ true → ⊥
        clash t e f = absurd cc

        left_if : 0 < s.per_address → (p : ℕ) (h : Host) (t : Bool) → seat_eq (seat (length P % s.paths) (host c.addr)) (seat p h) ≡ t
            → ((crowd p h P < s.per_address) × (0 ≡ one_of (length P % s.paths) c p h)) ⊎ ((s.per_address ≤ crowd p h P) × ◌≡◌ {A = ℕ} 0 0)
        left_if z p h true e =
            let is = seat_exact (seat (length P % s.paths) (host c.addr)) (seat p h) e in
            let at : crowd (length P % s.paths) (host c.addr) P ≡ crowd p h P = ap (λ n. crowd n (host c.addr) P) is.0 ∙ ap (λ g. crowd p g P) is.1 in
            elim (cases_lt (crowd p h P) s.per_address) [
              | inl lt ↦ (let yes = or_right (eqb s.per_address 0) (nat_lt (crowd (length P % s.paths) (host c.addr) P) s.per_address) (lt-ltb (crowd (length P % s.paths) (host c.addr) P) s.per_address (omega arith)) in absurd (clash _ st yes))
              | inr ge ↦ inr (ge, refl)
            ]
        left_if z p h false e =
            elim (cases_lt (crowd p h P) s.per_address) [
              | inl lt ↦ inl (lt, sym (ap (λ t. cond t 1 0) e))
              | inr ge ↦ inr (ge, refl)
            ]

-- before the first
nothing_yet : (s : Setting) (cs : List Contact) → length cs ≤ s.k → IsStrictlySortedBy (closeness s.target) cs → Begins s [] [] cs
unfolding Legal took path
nothing_yet s cs few sorted = record {
  legal = tt;
  seeds_only = tt;
  short = omega arith;
  room = omega arith;
  alike = λ z. refl;
  sorted = sorted;
  counts = λ z p h. few_none s.per_address z;
}

-- after the first i
pub begins_at : (s : Setting) (cs : List Contact) (x : Contact) → 0 < s.paths → length cs ≤ s.k → IsStrictlySortedBy (closeness s.target) cs → All (IsUsable s.own) cs → (i : ℕ) → i ≤ length cs → Begins s (dealt s.paths (take i cs)) (seeded s.per_address s.paths (take i cs)) (drop i cs)
begins_at s cs x some few sorted usable zero le = nothing_yet s cs few sorted
begins_at s cs x some few sorted usable (suc i) le =
    let lt : i < length cs = omega arith in
    let le' : i ≤ length cs = omega arith in
    let next : suc i ≡ i + 1 = omega arith in
    let P = dealt s.paths (take i cs) in
    let K = seeded s.per_address s.paths (take i cs) in
    let c = get_or cs i x in
    let long : length P ≡ i = dealt_length s.paths 0 (take i cs) ∙ length-take-le i cs le' in
    let old : Begins s P K (c ∷ drop (i + 1) cs) = subst (Begins s P K) (drop_more cs i x lt) (begins_at s cs x some few sorted usable i le') in
    let new = begins_more s P K c (drop (i + 1) cs) some (usable i x lt) old in
    let new' : Begins s (P ++ Seed (i % s.paths) c ∷ []) (K ++ kept s.per_address P (Seed (i % s.paths) c)) (drop (i + 1) cs) =
    subst (λ n. Begins s (P ++ Seed (n % s.paths) c ∷ []) (K ++ kept s.per_address P (Seed (n % s.paths) c)) (drop (i + 1) cs)) long new in
    subst (λ n. Begins s (dealt s.paths (take n cs)) (seeded s.per_address s.paths (take n cs)) (drop n cs)) (sym next)
    (subst (λ (l : List Entry). Begins s l (seeded s.per_address s.paths (take (i + 1) cs)) (drop (i + 1) cs)) (sym (dealt_more s.paths cs i x lt))
    (subst (λ (l : List Entry). Begins s (P ++ Seed (i % s.paths) c ∷ []) l (drop (i + 1) cs)) (sym (seeded_more s.per_address s.paths cs i x lt)) new'))

-- seeds that are few, usable and in order make a legal journal
pub legal_seeded : (s : Setting) (cs : List Contact) → 0 < s.paths → length cs ≤ s.k → IsStrictlySortedBy (closeness s.target) cs → All (IsUsable s.own) cs → Legal s (seeded s.per_address s.paths cs)
unfolding Legal
legal_seeded s [] some few sorted usable = tt
legal_seeded s (c ∷ cs) some few sorted usable =
    subst (λ l. Legal s (seeded s.per_address s.paths l)) (take_all (length (c ∷ cs)) (c ∷ cs) (omega arith)) (begins_at s (c ∷ cs) c some few sorted usable (length (c ∷ cs)) (omega arith)).legal

staying_few : (limit : ℕ) (P es : List Entry) → length (staying limit P es) ≤ length es
staying_few limit P [] = omega arith
staying_few limit P (e ∷ es) =
    let rest = staying_few limit (P ++ e ∷ []) es in
    elim (stays limit P e) as (λ b. length (cond b (e ∷ []) [] ++ staying limit (P ++ e ∷ []) es) ≤ suc (length es)) [ true ↦ omega arith | false ↦ omega arith ]

-- no more stay than there are
pub seeded_few : (limit d : ℕ) (cs : List Contact) → length (seeded limit d cs) ≤ length cs
seeded_few limit d cs = omega (arith, staying_few limit [] (dealt d cs), dealt_length d 0 cs)

pub book_new : (s : Setting) (cs : List Contact) (J : List Entry) (owed room : ℕ) → J ≡ seeded s.per_address s.paths cs → 0 < s.paths → s.paths < 256 → s.k < max_path_contacts → length cs ≤ s.k → IsStrictlySortedBy (closeness s.target) cs → All (IsUsable s.own) cs → owed ≡ 2 * length cs → length cs + owed ≤ room → IsBook s J owed room
book_new s cs J owed room is some_path few_paths small few sorted usable enough fits =
    let n = seeded_few s.per_address s.paths cs in
    record {
      legal = subst (Legal s) (sym is) (legal_seeded s cs some_path few sorted usable);
      some_path = some_path;
      few_paths = few_paths;
      small = small;
      all_owed = omega (arith, ap (room_for s.paths) is, seeds_room (seeded s.per_address s.paths cs) s.paths (seeded_seeds s.per_address s.paths cs));
      fits = omega (arith, ap length is);
    }

-- ---- what the limit leaves

unlimited : (P es : List Entry) → AreSeeds es → staying 0 P es ≡ es
unlimited P [] h = refl
unlimited P (Seed q c ∷ es) h = ap (λ l. Seed q c ∷ l) (unlimited (P ++ Seed q c ∷ []) es h.1)
unlimited P (x ∷ es) h = absurd h.0

-- without one each seed stays
pub all_stay : (d : ℕ) (cs : List Contact) → seeded 0 d cs ≡ dealt d cs
all_stay d cs = unlimited [] (dealt d cs) (dealt_seeds d 0 cs)
