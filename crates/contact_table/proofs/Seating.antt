-- The seats of a host: who sits where, that a contact which takes one sits once, and when all are taken.
use Rattle.std.proofs.Common.{◌≡◌, ◌≢◌, ◌↔◌, ℕ, zero, suc, ◌<◌, ◌≤◌, ◌||◌, List, [], ◌∷◌, ◌++◌, length, Bool, true, false, cond, Option, None, Some, inl, inr, refl, sym, ap, subst, ◌∙◌, arith, eqb}
use Rattle.std.specs.Prelude.{IsTrue}
use Rattle.std.specs.List.{All, Contains, IsDistinct, list_any}
use Rattle.std.specs.Option.{IsSomeAnd}
use Rattle.std.specs.BTreeMap.{BTreeMap, is_at, Updates}
use Rattle.std.specs.Ordering.{is_eq, ordering_then, nat_cmp}
use Rattle.std.specs.Cmp.Lexicographic.{slice_cmp}
use Rattle.std.specs.declared.cmp.Ordering.{Ordering}
use Rattle.std.specs.declared.cmp.Ordering.TheVariants.{Less, Equal, Greater}
use Rattle.std.proofs.lemmas.Bool.{eqb-true, eq-eqb, cases_eq}
use Rattle.std.proofs.lemmas.Cmp.{eq_by_cmp_equiv}
use Rattle.std.proofs.lemmas.List.{append-nil, length-append}
use Rattle.std.proofs.lemmas.List.Elements.{All-append, All-cons, All-nil, All-head, All-tail, All-contains, All-contains_itself, Contains-append_left, Contains-append_right, Contains-push}
use Rattle.std.proofs.lemmas.Map.Keys.{IsDistinct-push}
use Rattle.std.proofs.lemmas.Map.Lookups.{exact_pairs, exact_unsigned, exact_bytes}
use Rattle.std.proofs.lemmas.Map.Made.{length-le_from_is_member}
use Rattle.std.proofs.lemmas.Map.Views.{Contains-from_any, list_any-from_Contains}
use Rattle.kad_base.specs.declared.types.Contact.{Contact}
use Rattle.kad_base.specs.declared.host.Host.{Host}
use Rattle.kad_base.specs.declared.host.Host.TheVariants.{V4, V6}
use Rattle.kad_base.specs.Contacts.{same, among}
use Rattle.kad_base.specs.Hosts.{host}
use Rattle.kad_base.proofs.Contacts.{contact_total, same_exact, same_itself}
use Rattle.contact_table.specs.declared.seats.Seat.{Seat}
use Rattle.contact_table.specs.Crowded.{IsCrowded}
use Rattle.contact_table.specs.Seats.{seat_cmp, sitter, AreSeats, IsSeated, HasSeats}

-- ---- seats are told apart by their order

abbrev pub seat_of : Host → ℕ → Seat
seat_of h i = record { host = h; place = i }

abbrev host_bytes : Host → List ℕ
host_bytes (V4 bytes) = 4 ∷ bytes
host_bytes (V6 bytes) = 6 ∷ bytes

host_exact : (a b : Host) → host_bytes a ≡ host_bytes b → a ≡ b
host_exact (V4 a) (V4 b) e = let h : a ≡ b = cc in ap V4 h
host_exact (V4 a) (V6 b) e = absurd cc
host_exact (V6 a) (V4 b) e = absurd cc
host_exact (V6 a) (V6 b) e = let h : a ≡ b = cc in ap V6 h

derived_is : (h g : Host) (i j : ℕ) → seat_cmp (seat_of h i) (seat_of g j) ≡ ordering_then (slice_cmp nat_cmp (host_bytes h) (host_bytes g)) (nat_cmp i j)
derived_is (V4 a) (V4 b) i j = refl
derived_is (V4 a) (V6 b) i j = refl
derived_is (V6 a) (V4 b) i j = refl
derived_is (V6 a) (V6 b) i j = refl

is_eq_tie : (o : Ordering) → is_eq o ≡ true → o ≡ Equal
is_eq_tie Less e = absurd cc
is_eq_tie Equal e = refl
is_eq_tie Greater e = absurd cc

pub seat_exact : (h g : Host) (i j : ℕ) → is_eq (seat_cmp (seat_of h i) (seat_of g j)) ≡ true → (h ≡ g) × (i ≡ j)
seat_exact h g i j e =
    let tie = sym (derived_is h g i j) ∙ is_eq_tie (seat_cmp (seat_of h i) (seat_of g j)) e in
    let p = exact_pairs (slice_cmp nat_cmp) nat_cmp exact_bytes exact_unsigned (host_bytes h, i) (host_bytes g, j) tie in
    (host_exact h g (ap (λ (q : List ℕ × ℕ). q.0) p), ap (λ (q : List ℕ × ℕ). q.1) p)

-- ---- one seat

pub sits-exact : (o : Option Contact) (c other : Contact) (t : Bool) → o ≡ Some other → t ≡ same c other → IsTrue t ↔ (o ≡ Some c)
sits-exact o c other t is e = (
  λ h. (let f : c ≡ other = same_exact c other (sym e ∙ h) in is ∙ ap Some (sym f)),
  λ h. (let f : other ≡ c = some-one (sym is ∙ h) in e ∙ ap (same c) f ∙ same_itself c),
)
  where
    some-one : Some other ≡ Some c → other ≡ c
    some-one e = cc

abbrev IsHeld : List Contact → Contact → Type 0
IsHeld held c = among held c ≡ true

-- among and Contains
pub contains-among : (held : List Contact) (c : Contact) → Contains held c → among held c ≡ true
contains-among held c h = list_any-from_Contains (eq_by_cmp_equiv contact_total) c held h

pub among-contains : (held : List Contact) (c : Contact) → among held c ≡ true → Contains held c
among-contains held c h = Contains-from_any same_exact c held h

-- ---- those who sit on the first n seats

abbrev listed : Option Contact → List Contact
listed None = []
listed (Some c) = c ∷ []

abbrev sitting : (ℕ → Option Contact) → ℕ → List Contact
sitting f zero = []
sitting f (suc n) = sitting f n ++ listed (f n)

listed-few : (o : Option Contact) → length (listed o) ≤ 1
listed-few None = omega arith
listed-few (Some c) = omega arith

sitting-few : (f : ℕ → Option Contact) (n : ℕ) → length (sitting f n) ≤ n
sitting-few f zero = omega arith
sitting-few f (suc n) = let le = sitting-few f n in let e = length-append (sitting f n) (listed (f n)) in let one = listed-few (f n) in omega (arith, le, e, one)

below : (a b : ℕ) → a < suc b → eqb a b ≡ false → a < b
below a b lt ne = elim (cases_eq a b) [ inl e ↦ (let t = eq-eqb a b e in absurd cc) | inr other ↦ omega (arith, lt, other) ]

-- where one is empty they are fewer
sitting-fewer : (f : ℕ → Option Contact) (n p : ℕ) → p < n → f p ≡ None → length (sitting f n) < n
sitting-fewer f zero p lt e = absurd (omega (arith, lt))
sitting-fewer f (suc n) p lt e = go (eqb p n) refl (λ l. sitting-fewer f n p l e)
  where
    go : (t : Bool) → eqb p n ≡ t → (p < n → length (sitting f n) < n) → length (sitting f n ++ listed (f n)) < suc n
    go true h r =
        let is : p ≡ n = eqb-true p n h in
        let empty : listed (f n) ≡ [] = ap (λ (i : ℕ). listed (f i)) (sym is) ∙ ap listed e in
        let len = length-append (sitting f n) (listed (f n)) in
        let none = ap (λ (l : List Contact). length l) empty in
        let few = sitting-few f n in
        omega (arith, len, none, few)
    go false h r =
        let less = r (below p n lt h) in
        let len = length-append (sitting f n) (listed (f n)) in
        let one = listed-few (f n) in
        omega (arith, len, less, one)

listed-has : (o : Option Contact) (c : Contact) → o ≡ Some c → Contains (listed o) c
listed-has None c e = absurd cc
listed-has (Some x) c e = let f : x ≡ c = cc in subst (Contains (x ∷ [])) f (Contains-push [] x)

sitting-has : (f : ℕ → Option Contact) (n i : ℕ) (c : Contact) → i < n → f i ≡ Some c → Contains (sitting f n) c
sitting-has f zero i c lt e = absurd (omega (arith, lt))
sitting-has f (suc n) i c lt e = go (eqb i n) refl (λ l. sitting-has f n i c l e)
  where
    go : (t : Bool) → eqb i n ≡ t → (i < n → Contains (sitting f n) c) → Contains (sitting f n ++ listed (f n)) c
    go true h r = Contains-append_right (sitting f n) (listed (f n)) c (listed-has (f n) c (ap f (sym (eqb-true i n h)) ∙ e))
    go false h r = Contains-append_left (sitting f n) (listed (f n)) c (r (below i n lt h))

listed-all : (P : Contact → Type 0) (o : Option Contact) → ((c : Contact) → o ≡ Some c → P c) → All P (listed o)
listed-all P None p = All-nil P
listed-all P (Some c) p = All-cons P c [] (p c refl) (All-nil P)

sitting-all : (P : Contact → Type 0) (f : ℕ → Option Contact) (n : ℕ) → ((i : ℕ) (c : Contact) → i < n → f i ≡ Some c → P c) → All P (sitting f n)
sitting-all P f zero p = All-nil P
sitting-all P f (suc n) p =
    All-append P (sitting f n) (listed (f n)) (sitting-all P f n (λ i c lt e. p i c (omega (arith, lt)) e)) (listed-all P (f n) (λ c e. p n c (omega arith) e))

none-of : (q : Contact → Bool) (cs : List Contact) → All (λ (c : Contact). q c ≡ false) cs → list_any q cs ≡ false
none-of q [] a = refl
none-of q (c ∷ cs) a = ap (λ (t : Bool). t || list_any q cs) (All-head (λ (x : Contact). q x ≡ false) c cs a) ∙ none-of q cs (All-tail (λ (x : Contact). q x ≡ false) c cs a)

differs : (x y : Contact) → (x ≡ y → ⊥) → same x y ≡ false
differs x y ne = go (same x y) refl
  where
    go : (t : Bool) → same x y ≡ t → same x y ≡ false
    go true e = absurd (ne (same_exact x y e))
    go false e = e

-- who sits once is counted once
sitting-once : (f : ℕ → Option Contact) (n : ℕ) → ((i j : ℕ) (c : Contact) → f i ≡ Some c → f j ≡ Some c → i ≡ j) → IsDistinct same (sitting f n)
unfolding IsDistinct
sitting-once f zero once = tt
sitting-once f (suc n) once = go (f n) refl (sitting-once f n once)
  where
    other : (x : Contact) → f n ≡ Some x → All (λ (y : Contact). same x y ≡ false) (sitting f n)
    other x e = sitting-all (λ (y : Contact). same x y ≡ false) f n (λ i y lt g. differs x y (λ h. (let k = once i n x (g ∙ ap Some (sym h)) e in omega (arith, k, lt))))

    go : (o : Option Contact) → f n ≡ o → IsDistinct same (sitting f n) → IsDistinct same (sitting f n ++ listed o)
    go None e d = subst (IsDistinct same) (sym (append-nil (sitting f n))) d
    go (Some x) e d = IsDistinct-push (eq_by_cmp_equiv contact_total) (sitting f n) x d (none-of (same x) (sitting f n) (other x e))

-- where none is empty they are n
sitting-full : (f : ℕ → Option Contact) (n : ℕ) (P : Contact → Type 0) → ((i : ℕ) → i < n → IsSomeAnd (f i) P) → n ≤ length (sitting f n)
sitting-full f zero P all = omega arith
sitting-full f (suc n) P all =
    let le = sitting-full f n P (λ i lt. all i (omega (arith, lt))) in
    let len = length-append (sitting f n) (listed (f n)) in
    let one = listed-one (f n) (all n (omega arith)) in
    omega (arith, le, len, one)
  where
    listed-one : (o : Option Contact) → IsSomeAnd o P → length (listed o) ≡ 1
    listed-one None s = absurd s
    listed-one (Some c) s = refl

some-and : (o : Option Contact) (P : Contact → Type 0) (c : Contact) → o ≡ Some c → IsSomeAnd o P → P c
some-and None P c e s = absurd s
some-and (Some x) P c e s = let f : x ≡ c = cc in subst P f s

and-some : (o : Option Contact) (P : Contact → Type 0) (c : Contact) → o ≡ Some c → P c → IsSomeAnd o P
and-some None P c e p = absurd cc
and-some (Some x) P c e p = let f : c ≡ x = cc in subst P f p

-- ---- when a host is crowded

-- all its seats are taken by others that are held
pub all-taken : (n : ℕ) (held : List Contact) (m : BTreeMap Seat Contact) (c : Contact) (h : Host) → 0 < n → h ≡ host c.addr → AreSeats n m → ((i : ℕ) → i < n → IsSomeAnd (sitter m h i) (IsHeld held))
    → ((i : ℕ) → i < n → sitter m h i ≢ Some c) → IsCrowded n held c
all-taken n held m c h lim is are taken absent = record {
  limited = lim;
  crowd = sitting (sitter m h) n;
  has = record {
    as_many = sitting-full (sitter m h) n (IsHeld held) taken;
    different = sitting-once (sitter m h) n (are.once h);
    each = sitting-all (Contains held) (sitter m h) n (λ i x lt e. among-contains held x (some-and (sitter m h i) (IsHeld held) x e (taken i lt)));
    of_host = sitting-all (λ (x : Contact). host x.addr ≡ host c.addr) (sitter m h) n (λ i x lt e. are.home h i x e ∙ is);
  };
  others = sitting-all (λ (x : Contact). x ≢ c) (sitter m h) n (λ i x lt e f. absent i lt (e ∙ ap Some f));
}

-- one of them isn't
pub some-free : (n : ℕ) (held : List Contact) (m : BTreeMap Seat Contact) (c : Contact) (h : Host) (p : ℕ) → h ≡ host c.addr → HasSeats n held m → p < n → ((x : Contact) → sitter m h p ≡ Some x → Contains held x → x ≡ c) → ¬ IsCrowded n held c
some-free n held m c h p is seats lt free crowded = omega (arith, few, many)
  where
    others : ℕ → Option Contact
    others i = cond (eqb i p) None (sitter m h i)

    few : length (sitting others n) < n
    few = sitting-fewer others n p lt (ap (λ (t : Bool). cond t None (sitter m h p)) (eq-eqb p p refl))

    at : (i : ℕ) (q : Contact) → Contains held q → q ≢ c → sitter m h i ≡ Some q → others i ≡ Some q
    at i q has ne e = go (eqb i p) refl
      where
        go : (t : Bool) → eqb i p ≡ t → cond t None (sitter m h i) ≡ Some q
        go true g = absurd (ne (free q (ap (sitter m h) (sym (eqb-true i p g)) ∙ e) has))
        go false g = e

    found : (q : Contact) → Contains crowded.crowd q → Contains (sitting others n) q
    found q has =
        let held_there : Contains held q = All-contains (Contains held) crowded.crowd q crowded.has.each has in
        let home : host q.addr ≡ host c.addr = All-contains (λ (x : Contact). host x.addr ≡ host c.addr) crowded.crowd q crowded.has.of_host has in
        let ne : q ≢ c = All-contains (λ (x : Contact). x ≢ c) crowded.crowd q crowded.others has in
        let seated : IsSeated n m q = All-contains (IsSeated n m) held q (seats.each crowded.limited) held_there in
        sitting-has others n seated.place q seated.within
        (at seated.place q held_there ne (ap (λ (g : Host). sitter m g seated.place) (is ∙ sym home) ∙ seated.sits))

    many : n ≤ length (sitting others n)
    many =
        let le = length-le_from_is_member (eq_by_cmp_equiv contact_total) crowded.crowd (sitting others n) crowded.has.different
        (λ q t. contains-among (sitting others n) q (found q (among-contains crowded.crowd q t))) in
        let as_many = crowded.has.as_many in
        omega (arith, le, as_many)

-- ---- a contact takes a seat

all-with : (P Q : Contact → Type 0) (xs : List Contact) → ((x : Contact) → Contains xs x → P x → Q x) → All P xs → All Q xs
all-with P Q xs f a = λ i d lt. f _ (All-contains_itself xs i d lt) (a i d lt)

one-contact : (x y : Contact) (o : Option Contact) → o ≡ Some x → o ≡ Some y → x ≡ y
one-contact x y o e f = let g : Some x ≡ Some y = sym e ∙ f in cc

module _ (n : ℕ) (held : List Contact) (m m' : BTreeMap Seat Contact) (c : Contact) (h : Host) (p : ℕ) (is : h ≡ host c.addr) (lt : p < n) (upd : Updates seat_cmp m m' (seat_of h p) (Some c)) where
  look : (R : Type 0) (g : Host) (i : ℕ) → (h ≡ g → p ≡ i → sitter m' g i ≡ Some c → R) → (sitter m' g i ≡ sitter m g i → R) → R
  look R g i here there = go (is_at (seat_cmp (seat_of h p)) (seat_of g i)) refl
    where
      go : (t : Bool) → is_at (seat_cmp (seat_of h p)) (seat_of g i) ≡ t → R
      go true e = let one = seat_exact h g p i e in here one.0 one.1 (upd.0 (seat_of g i) ∙ ap (λ (t : Bool). cond t (Some c) (sitter m g i)) e)
      go false e = there (upd.0 (seat_of g i) ∙ ap (λ (t : Bool). cond t (Some c) (sitter m g i)) e)

  takes-seats : AreSeats n m → ((i : ℕ) → i < n → sitter m h i ≢ Some c) → AreSeats n m'
  takes-seats are absent = record {
    home = λ g i x e. look (host x.addr ≡ g) g i (λ hg pi s. ap (λ (y : Contact). host y.addr) (one-contact x c (sitter m' g i) e s) ∙ sym is ∙ hg) (λ s. are.home g i x (sym s ∙ e));
    within = λ g i x e. look (i < n) g i (λ hg pi s. subst (λ (j : ℕ). j < n) pi lt) (λ s. are.within g i x (sym s ∙ e));
    once = λ g i j x e f. look (i ≡ j) g i
        (λ hg pi s. look (i ≡ j) g j (λ hg' pj s'. sym pi ∙ pj) (λ s'. absurd (nowhere g j (sym s' ∙ f ∙ ap Some (one-contact x c (sitter m' g i) e s)))))
        (λ s. look (i ≡ j) g j (λ hg pj s'. absurd (nowhere g i (sym s ∙ e ∙ ap Some (one-contact x c (sitter m' g j) f s')))) (λ s'. are.once g i j x (sym s ∙ e) (sym s' ∙ f)));
  }
    where
      nowhere : (g : Host) (i : ℕ) → sitter m g i ≡ Some c → ⊥
      nowhere g i e = absent i (are.within g i c e) (ap (λ (k : Host). sitter m k i) (is ∙ are.home g i c e) ∙ e)

  pub takes-seat : HasSeats n held m → ((i : ℕ) → i < n → sitter m h i ≢ Some c) → (¬ IsSomeAnd (sitter m h p) (IsHeld held)) → HasSeats n held m'
  takes-seat seats absent free = record {
    are = takes-seats seats.are absent;
    each = λ lim. all-with (IsSeated n m) (IsSeated n m') held
        (λ o has at. look (IsSeated n m' o) (host o.addr) at.place
        (λ hg pi s. absurd (free (and-some (sitter m h p) (IsHeld held) o (ap (λ (g : Host). sitter m g p) hg ∙ ap (sitter m (host o.addr)) pi ∙ at.sits) (contains-among held o has))))
        (λ s. record { place = at.place; within = at.within; sits = s ∙ at.sits }))
        (seats.each lim);
  }

  pub seated-then : IsSeated n m' c
  seated-then = record { place = p; within = lt; sits = ap (λ (g : Host). sitter m' g p) (sym is) ∙ upd.1 }

-- a contact that has a seat isn't crowded out
pub seated-free : (n : ℕ) (held : List Contact) (m : BTreeMap Seat Contact) (c : Contact) (h : Host) → h ≡ host c.addr → HasSeats n held m → (i : ℕ) × (i < n) × (sitter m h i ≡ Some c) → ¬ IsCrowded n held c
seated-free n held m c h is seats at = some-free n held m c h at.0 is seats at.1 (λ x e has. one-contact x c (sitter m h at.0) e at.2)

pub empty-free : (n : ℕ) (held : List Contact) (m : BTreeMap Seat Contact) (c : Contact) (h : Host) (p : ℕ) → h ≡ host c.addr → HasSeats n held m → p < n → (¬ IsSomeAnd (sitter m h p) (IsHeld held)) → ¬ IsCrowded n held c
empty-free n held m c h p is seats lt free = some-free n held m c h p is seats lt (λ x e has. absurd (free (and-some (sitter m h p) (IsHeld held) x e (contains-among held x has))))

-- what holds of who sits holds of those who are left
pub still-absent : (m m' : BTreeMap Seat Contact) (n : ℕ) (h : Host) (c : Contact) → ((g : Host) (i : ℕ) (x : Contact) → sitter m' g i ≡ Some x → sitter m g i ≡ Some x) → ((i : ℕ) → i < n → sitter m h i ≢ Some c) → (i : ℕ) → i < n → sitter m' h i ≢ Some c
still-absent m m' n h c before absent i lt e = absent i lt (before h i c e)

pub still-free : (m m' : BTreeMap Seat Contact) (held : List Contact) (h : Host) (p : ℕ) → ((g : Host) (i : ℕ) (x : Contact) → sitter m' g i ≡ Some x → sitter m g i ≡ Some x) → (¬ IsSomeAnd (sitter m h p) (λ (c : Contact). among held c ≡ true)) → ¬ IsSomeAnd (sitter m' h p) (λ (c : Contact). among held c ≡ true)
still-free m m' held h p before free some = go (sitter m' h p) refl some
  where
    go : (o : Option Contact) → sitter m' h p ≡ o → IsSomeAnd o (IsHeld held) → ⊥
    go None e s = s
    go (Some x) e s = free (and-some (sitter m h p) (IsHeld held) x (before h p x e) s)
