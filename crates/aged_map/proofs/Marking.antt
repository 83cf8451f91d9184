-- The index by age stays one through a put and a drop, and where its first mark is young nothing is old.
use Rattle.std.proofs.Common.{◌≡◌, ◌≢◌, ℕ, filter, ◌-◌, ◌<◌, ◌≤◌, nat_lt, ◌==◌, Bool, true, false, ◌&&◌, ◌||◌, cond, length, List, [], ◌∷◌, Option, Some, None, refl, sym, ap, ◌∙◌, subst, arith}
use Rattle.std.specs.Cmp.{IsTotalOrder}
use Rattle.std.specs.List.{All, list_any, slice_get}
use Rattle.std.specs.Option.{is_some, IsSomeAnd}
use Rattle.std.specs.Map.{keys_of, lookup, remove_entry}
use Rattle.std.specs.Ordering.{ordering_then, is_eq, is_gt, is_lt, nat_cmp}
use Rattle.std.specs.BTreeMap.{BTreeMap, IsOrdered, is_at, get}
use Rattle.std.specs.declared.cmp.Ordering.{Ordering}
use Rattle.std.specs.declared.cmp.Ordering.TheVariants.{Less, Equal, Greater}
use Rattle.std.proofs.lemmas.Bool.{true≢false, false≢true, ltb-true, ltb-false, eqb-true, eq-eqb, lt-ltb, and_parts}
use Rattle.std.proofs.lemmas.Cmp.{eq_by_cmp_equiv}
use Rattle.std.proofs.lemmas.List.Elements.{All-head, All-tail, All-weaker}
use Rattle.std.proofs.lemmas.Map.Made.{nil_from_lookup, is_some-lookup}
use Rattle.std.proofs.lemmas.Map.Views.{All-found}
use Rattle.aged_map.specs.Ages.{is_young, purged}
use Rattle.aged_map.specs.Marks.{mark_cmp, has_moment, AreMarked}

-- ---- over bools

-- a mark was put in the place of another of its key
renewed : (b l m old : Bool) → (b ≡ true → old ≡ l) → (l ≡ true → m ≡ true → ⊥) → cond (l && b) false (cond (m && b) true old) ≡ cond b m old
renewed true true true old here apart = absurd (apart refl refl)
renewed true true false old here apart = refl
renewed true false true old here apart = refl
renewed true false false old here apart = here refl
renewed false true true old here apart = refl
renewed false true false old here apart = refl
renewed false false true old here apart = refl
renewed false false false old here apart = refl

-- a mark was put that wasn't there
added : (b m old : Bool) → (b ≡ true → old ≡ false) → cond (m && b) true old ≡ cond b m old
added true true old here = refl
added true false old here = here refl
added false true old here = refl
added false false old here = refl

-- and taken back
taken_back : (b m old : Bool) → (b ≡ true → old ≡ false) → cond (m && b) false (cond (m && b) true old) ≡ old
taken_back true true old here = sym (here refl)
taken_back true false old here = refl
taken_back false true old here = refl
taken_back false false old here = refl

-- a mark was dropped
dropped : (b l old : Bool) → (b ≡ true → old ≡ l) → cond (l && b) false old ≡ cond b false old
dropped true true old here = refl
dropped true false old here = here refl
dropped false true old here = refl
dropped false false old here = refl

-- ---- over marks

pub none_of : {X : Type 0} (xs : List X) → (0 < length xs → false ≡ true) → xs ≡ []
none_of [] e = refl
none_of (x ∷ xs) e = absurd (false≢true (e (omega arith)))

pub not_young : (age at m : ℕ) → (at - m < age → false ≡ true) → is_young age at m ≡ false
not_young age at m old = by (nat_lt (at - m) age) refl
  where
    by : (b : Bool) → nat_lt (at - m) age ≡ b → b ≡ false
    by true e = absurd (false≢true (old (ltb-true (at - m) age e)))
    by false e = refl

-- whether a key is held, by what a look-up finds
pub held_some : {K V : Type 0} (test : K → Bool) (P : V → Type 0) (held : List (K × V)) → IsSomeAnd (lookup test held) P → list_any test (keys_of held) ≡ true
held_some {K} {V} test P held some = sym (is_some-lookup test held) ∙ by (lookup test held) some
  where
    by : (x : Option V) → IsSomeAnd x P → is_some x ≡ true
    by None e = absurd e
    by (Some v) e = refl

pub held_none : {K V : Type 0} (test : K → Bool) (held : List (K × V)) → lookup test held ≡ None → list_any test (keys_of held) ≡ true → ⊥
held_none test held none has = false≢true (sym (ap is_some none) ∙ is_some-lookup test held ∙ has)

-- what is first is what is taken from the front
pub first_is : {X : Type 0} (xs rest : List X) (x y : X) → slice_get xs 0 ≡ Some x → xs ≡ y ∷ rest → x ≡ y
first_is xs rest x y first is = let h : slice_get (y ∷ rest) 0 ≡ Some x = subst (λ l. slice_get l 0 ≡ Some x) is first in cc

-- marks are the same where their moments are and their keys
same_mark : (m n : ℕ) (r : Ordering) → is_eq (ordering_then (nat_cmp m n) r) ≡ ((m == n) && is_eq r)
same_mark m n r = by (nat_lt m n) (m == n) (λ lt e. let is : m ≡ n = eqb-true m n e in let less : m < n = ltb-true m n lt in omega arith)
  where
    by : (b d : Bool) → (b ≡ true → d ≡ true → ⊥) → is_eq (ordering_then (cond b Less (cond d Equal Greater)) r) ≡ (d && is_eq r)
    by true true apart = absurd (apart refl refl)
    by true false apart = refl
    by false true apart = refl
    by false false apart = refl

module _ {K V : Type 0} {cmp : K → K → Ordering} (o : IsTotalOrder cmp) (moment : V → ℕ) where
  is_equal : (r : Ordering) → is_eq r ≡ true → r ≡ Equal
  is_equal Less e = absurd (false≢true e)
  is_equal Equal e = refl
  is_equal Greater e = absurd (false≢true e)

  -- equal keys find the same
  same_found : (held : List (K × V)) (k q : K) → is_eq (cmp k q) ≡ true → lookup (is_at (cmp q)) held ≡ lookup (is_at (cmp k)) held
  same_found held k q e = ap (λ (f : K → Ordering). lookup (is_at f) held) (λ i x. sym (o.congr k q x (is_equal (cmp k q) e)) i)

  -- the moment of what was put
  moment_of : (b : Bool) (n : ℕ) (v : V) (x : Option V) → has_moment moment n (cond b (Some v) x) ≡ cond b (moment v == n) (has_moment moment n x)
  moment_of true n v x = refl
  moment_of false n v x = refl

  moment_without : (b : Bool) (n : ℕ) (x : Option V) → has_moment moment n (cond b None x) ≡ cond b false (has_moment moment n x)
  moment_without true n x = refl
  moment_without false n x = refl

  -- what a mark changes
  abbrev marks_with : Bool → List (ℕ × K) → List (ℕ × K) → ℕ → K → Type 0
  marks_with w old new m k = (q : ℕ × K) → list_any (is_at (mark_cmp cmp q)) new ≡ cond (is_at (mark_cmp cmp (m, k)) q) w (list_any (is_at (mark_cmp cmp q)) old)

  abbrev finds_with : Option V → List (K × V) → List (K × V) → K → Type 0
  finds_with w old new k = (q : K) → lookup (is_at (cmp q)) new ≡ cond (is_at (cmp k) q) w (lookup (is_at (cmp q)) old)

  step : (w : Bool) (old new : List (ℕ × K)) (m n : ℕ) (k q : K) → marks_with w old new m k
      → list_any (is_at (mark_cmp cmp (n, q))) new ≡ cond ((m == n) && is_eq (cmp k q)) w (list_any (is_at (mark_cmp cmp (n, q))) old)
  step w old new m n k q by = by (n, q) ∙ ap (λ b. cond b w (list_any (is_at (mark_cmp cmp (n, q))) old)) (same_mark m n (cmp k q))

  -- the value of a mark's key
  pub record HasValue (held : List (K × V)) (m : ℕ) (k : K) : Type 0 where
    pub v : V
    pub found : lookup (is_at (cmp k)) held ≡ Some v
    pub is : moment v ≡ m

  pub has_value : (held : List (K × V)) (m : ℕ) (k : K) → IsSomeAnd (lookup (is_at (cmp k)) held) (λ v. moment v ≡ m) → HasValue held m k
  has_value held m k some = by (lookup (is_at (cmp k)) held) refl some
    where
      by : (x : Option V) → lookup (is_at (cmp k)) held ≡ x → IsSomeAnd x (λ v. moment v ≡ m) → HasValue held m k
      by None e f = absurd f
      by (Some v) e f = record { v = v; found = e; is = f }

  pub marked_renew : (held held1 : List (K × V)) (ages ages1 ages2 : List (ℕ × K)) (k : K) (v : V) (last next : ℕ) → AreMarked cmp moment held ages
      → IsSomeAnd (lookup (is_at (cmp k)) held) (λ w. moment w ≡ last) → next ≡ moment v → last ≢ next
      → finds_with (Some v) held held1 k → marks_with true ages ages1 next k → marks_with false ages1 ages2 last k → AreMarked cmp moment held1 ages2
  marked_renew held held1 ages ages1 ages2 k v last next marked some next_is apart puts adds takes = λ n q.
      let value = has_value held last k some in
      let b = is_eq (cmp k q) in
      let old = list_any (is_at (mark_cmp cmp (n, q))) ages in
      let here : b ≡ true → old ≡ (last == n) = λ e. marked n q ∙ ap (has_moment moment n) (same_found held k q e ∙ value.found) ∙ ap (λ x. x == n) value.is in
      step false ages1 ages2 last n k q takes ∙ ap (λ x. cond ((last == n) && b) false x) (step true ages ages1 next n k q adds)
      ∙ renewed b (last == n) (next == n) old here (λ e f. apart (eqb-true last n e ∙ sym (eqb-true next n f)))
      ∙ ap (λ x. cond b (x == n) old) next_is ∙ ap (λ x. cond b (moment v == n) x) (marked n q)
      ∙ sym (moment_of b n v (lookup (is_at (cmp q)) held)) ∙ ap (has_moment moment n) (sym (puts q))

  pub marked_add : (held held1 : List (K × V)) (ages ages1 : List (ℕ × K)) (k : K) (v : V) (next : ℕ) → AreMarked cmp moment held ages
      → lookup (is_at (cmp k)) held ≡ None → next ≡ moment v → finds_with (Some v) held held1 k → marks_with true ages ages1 next k → AreMarked cmp moment held1 ages1
  marked_add held held1 ages ages1 k v next marked absent next_is puts adds = λ n q.
      let b = is_eq (cmp k q) in
      let old = list_any (is_at (mark_cmp cmp (n, q))) ages in
      let here : b ≡ true → old ≡ false = λ e. marked n q ∙ ap (has_moment moment n) (same_found held k q e ∙ absent) in
      step true ages ages1 next n k q adds ∙ added b (next == n) old here
      ∙ ap (λ x. cond b (x == n) old) next_is ∙ ap (λ x. cond b (moment v == n) x) (marked n q)
      ∙ sym (moment_of b n v (lookup (is_at (cmp q)) held)) ∙ ap (has_moment moment n) (sym (puts q))

  pub marked_back : (held held1 : List (K × V)) (ages ages1 ages2 : List (ℕ × K)) (k : K) (next : ℕ) → AreMarked cmp moment held ages
      → lookup (is_at (cmp k)) held ≡ None → held1 ≡ held → marks_with true ages ages1 next k → marks_with false ages1 ages2 next k → AreMarked cmp moment held1 ages2
  marked_back held held1 ages ages1 ages2 k next marked absent same adds takes = λ n q.
      let b = is_eq (cmp k q) in
      let old = list_any (is_at (mark_cmp cmp (n, q))) ages in
      let here : b ≡ true → old ≡ false = λ e. marked n q ∙ ap (has_moment moment n) (same_found held k q e ∙ absent) in
      step false ages1 ages2 next n k q takes ∙ ap (λ x. cond ((next == n) && b) false x) (step true ages ages1 next n k q adds)
      ∙ taken_back b (next == n) old here ∙ marked n q ∙ ap (λ h. has_moment moment n (lookup (is_at (cmp q)) h)) (sym same)

  pub value_of : (held : List (K × V)) (ages : List (ℕ × K)) (m : ℕ) (k : K) → AreMarked cmp moment held ages → list_any (is_at (mark_cmp cmp (m, k))) ages ≡ true → HasValue held m k
  value_of held ages m k marked has = by (lookup (is_at (cmp k)) held) refl (sym (marked m k) ∙ has)
    where
      by : (x : Option V) → lookup (is_at (cmp k)) held ≡ x → has_moment moment m x ≡ true → HasValue held m k
      by None e f = absurd (false≢true f)
      by (Some v) e f = record { v = v; found = e; is = eqb-true (moment v) m f }

  pub marked_drop : (held held1 : List (K × V)) (ages ages1 : List (ℕ × K)) (m : ℕ) (k : K) → AreMarked cmp moment held ages
      → list_any (is_at (mark_cmp cmp (m, k))) ages ≡ true → finds_with None held held1 k → marks_with false ages ages1 m k → AreMarked cmp moment held1 ages1
  marked_drop held held1 ages ages1 m k marked has takes drops = λ n q.
      let b = is_eq (cmp k q) in
      let old = list_any (is_at (mark_cmp cmp (n, q))) ages in
      let value = value_of held ages m k marked has in
      let here : b ≡ true → old ≡ (m == n) = λ e. marked n q ∙ ap (has_moment moment n) (same_found held k q e ∙ value.found) ∙ ap (λ x. x == n) value.is in
      step false ages ages1 m n k q drops ∙ dropped b (m == n) old here ∙ ap (λ x. cond b false x) (marked n q)
      ∙ sym (moment_without b n (lookup (is_at (cmp q)) held)) ∙ ap (has_moment moment n) (sym (takes q))

  -- what was old isn't missed
  old_dropped : (age at : ℕ) (held : List (K × V)) (test : K → Bool) (w : V) → lookup test held ≡ Some w → is_young age at (moment w) ≡ false
      → purged moment age at (remove_entry test held) ≡ purged moment age at held
  old_dropped age at [] test w found old = refl
  old_dropped age at (e ∷ held) test w found old = by (test e.0) found (λ f. old_dropped age at held test w f old)
    where
      by : (b : Bool) → cond b (Some e.1) (lookup test held) ≡ Some w
          → (lookup test held ≡ Some w → purged moment age at (remove_entry test held) ≡ purged moment age at held)
          → purged moment age at (cond b held (e ∷ remove_entry test held)) ≡ purged moment age at (e ∷ held)
      by true f rest =
          let is : e.1 ≡ w = cc in
          let e_old : is_young age at (moment e.1) ≡ false = ap (λ v. is_young age at (moment v)) is ∙ old in
          sym (ap (λ b. cond b (e ∷ purged moment age at held) (purged moment age at held)) e_old)
      by false f rest = ap (λ l. cond (is_young age at (moment e.1)) (e ∷ l) l) (rest f)

  pub purged_drop : (age at : ℕ) (held held1 : List (K × V)) (ages : List (ℕ × K)) (m : ℕ) (k : K) → AreMarked cmp moment held ages
      → list_any (is_at (mark_cmp cmp (m, k))) ages ≡ true → is_young age at m ≡ false → held1 ≡ remove_entry (is_at (cmp k)) held
      → purged moment age at held1 ≡ purged moment age at held
  purged_drop age at held held1 ages m k marked has old is =
      let value = value_of held ages m k marked has in
      ap (λ l. purged moment age at l) is ∙ old_dropped age at held (is_at (cmp k)) value.v value.found (ap (λ n. is_young age at n) value.is ∙ old)

  -- no mark, no value
  pub nothing_held : (age at : ℕ) (held : List (K × V)) (ages : List (ℕ × K)) → AreMarked cmp moment held ages → ages ≡ [] → purged moment age at held ≡ held
  nothing_held age at held ages marked none = subst (λ h. purged moment age at h ≡ h) (sym (nil_from_lookup (eq_by_cmp_equiv o) held (λ q. by q (lookup (is_at (cmp q)) held) refl))) refl
    where
      by : (q : K) (x : Option V) → lookup (is_at (cmp q)) held ≡ x → lookup (is_at (cmp q)) held ≡ None
      by q None e = e
      by q (Some v) e =
          let has : false ≡ (moment v == moment v) = sym (ap (list_any (is_at (mark_cmp cmp (moment v, q)))) none) ∙ marked (moment v) q ∙ ap (has_moment moment (moment v)) e in
          absurd (false≢true (has ∙ eq-eqb (moment v) (moment v) refl))

  -- no mark is below the first
  not_below : (f n : ℕ) (k : Ordering) → is_gt (ordering_then (nat_cmp f n) k) ≡ false → f ≤ n
  not_below f n k e = by (nat_lt f n) (f == n) refl refl e
    where
      by : (b d : Bool) → nat_lt f n ≡ b → (f == n) ≡ d → is_gt (ordering_then (cond b Less (cond d Equal Greater)) k) ≡ false → f ≤ n
      by true d e g h = let less : f < n = ltb-true f n e in omega arith
      by false true e g h = let is : f ≡ n = eqb-true f n g in omega arith
      by false false e g h = absurd (true≢false h)

  same_moment : (n : ℕ) (q : K) (a : ℕ × K) → is_at (mark_cmp cmp (n, q)) a ≡ true → n ≡ a.0
  same_moment n q a e = eqb-true n a.0 (and_parts (n == a.0) (is_eq (cmp q a.1)) (sym (same_mark n a.0 (cmp q a.1)) ∙ e)).0

  first_least : (f n : ℕ) (k q : K) (ages : List (ℕ × K)) → All (λ a. is_gt (mark_cmp cmp (f, k) a) ≡ false) ages → list_any (is_at (mark_cmp cmp (n, q))) ages ≡ true → f ≤ n
  first_least f n k q [] all has = absurd (false≢true has)
  first_least f n k q (a ∷ ages) all has =
      by (is_at (mark_cmp cmp (n, q)) a) refl has (λ h. first_least f n k q ages (All-tail (λ b. is_gt (mark_cmp cmp (f, k) b) ≡ false) a ages all) h)
    where
      by : (b : Bool) → is_at (mark_cmp cmp (n, q)) a ≡ b → list_any (is_at (mark_cmp cmp (n, q))) (a ∷ ages) ≡ true → (list_any (is_at (mark_cmp cmp (n, q))) ages ≡ true → f ≤ n) → f ≤ n
      by true e h rest =
          let is : n ≡ a.0 = same_moment n q a e in
          let le : f ≤ a.0 = not_below f a.0 (cmp k a.1) (All-head (λ b. is_gt (mark_cmp cmp (f, k) b) ≡ false) a ages all) in
          omega (arith, is, le)
      by false e h rest = rest (sym (ap (λ b. b || list_any (is_at (mark_cmp cmp (n, q))) ages) e) ∙ h)

  all_kept : (test : K × V → Bool) (held : List (K × V)) → All (λ e. test e ≡ true) held → ◌≡◌ {A = List (K × V)} (filter test held) held
  all_kept test [] all = refl
  all_kept test (e ∷ held) all =
      ap (λ b. cond b (e ∷ filter test held) (filter test held)) (All-head (λ x. test x ≡ true) e held all)
      ∙ ap (λ l. e ∷ l) (all_kept test held (All-tail (λ x. test x ≡ true) e held all))

  pub all_young : (age at f : ℕ) (k : K) (held : BTreeMap K V) (ages : List (ℕ × K)) → IsOrdered cmp held → AreMarked cmp moment held.entries ages
      → All (λ a. is_gt (mark_cmp cmp (f, k) a) ≡ false) ages → at - f < age → purged moment age at held.entries ≡ held.entries
  all_young age at f k held ages ordered marked first young =
      all_kept (λ e. is_young age at (moment e.1)) held.entries
      (All-weaker (λ e. get cmp held e.0 ≡ Some e.1) (λ e. is_young age at (moment e.1) ≡ true) each held.entries (All-found o held ordered))
    where
      each : (e : K × V) → get cmp held e.0 ≡ Some e.1 → is_young age at (moment e.1) ≡ true
      each e found =
          let has : list_any (is_at (mark_cmp cmp (moment e.1, e.0))) ages ≡ true = marked (moment e.1) e.0 ∙ ap (has_moment moment (moment e.1)) found ∙ eq-eqb (moment e.1) (moment e.1) refl in
          let le : f ≤ moment e.1 = first_least f (moment e.1) k e.0 ages first has in
          lt-ltb (at - moment e.1) age (omega (arith, le, young))

  -- no mark is above the last
  not_above : (l n : ℕ) (k : Ordering) → is_lt (ordering_then (nat_cmp l n) k) ≡ false → n ≤ l
  not_above l n k e = by (nat_lt l n) (l == n) refl refl e
    where
      by : (b d : Bool) → nat_lt l n ≡ b → (l == n) ≡ d → is_lt (ordering_then (cond b Less (cond d Equal Greater)) k) ≡ false → n ≤ l
      by true d e g h = absurd (true≢false h)
      by false d e g h = ltb-false l n e

  last_most : (l n : ℕ) (k q : K) (ages : List (ℕ × K)) → All (λ a. is_lt (mark_cmp cmp (l, k) a) ≡ false) ages → list_any (is_at (mark_cmp cmp (n, q))) ages ≡ true → n ≤ l
  last_most l n k q [] all has = absurd (false≢true has)
  last_most l n k q (a ∷ ages) all has =
      by (is_at (mark_cmp cmp (n, q)) a) refl has (λ h. last_most l n k q ages (All-tail (λ b. is_lt (mark_cmp cmp (l, k) b) ≡ false) a ages all) h)
    where
      by : (b : Bool) → is_at (mark_cmp cmp (n, q)) a ≡ b → list_any (is_at (mark_cmp cmp (n, q))) (a ∷ ages) ≡ true → (list_any (is_at (mark_cmp cmp (n, q))) ages ≡ true → n ≤ l) → n ≤ l
      by true e h rest =
          let is : n ≡ a.0 = same_moment n q a e in
          let le : a.0 ≤ l = not_above l a.0 (cmp k a.1) (All-head (λ b. is_lt (mark_cmp cmp (l, k) b) ≡ false) a ages all) in
          omega (arith, is, le)
      by false e h rest = rest (sym (ap (λ b. b || list_any (is_at (mark_cmp cmp (n, q))) ages) e) ∙ h)

  none_kept : (test : K × V → Bool) (held : List (K × V)) → All (λ e. test e ≡ false) held → ◌≡◌ {A = List (K × V)} (filter test held) []
  none_kept test [] all = refl
  none_kept test (e ∷ held) all =
      ap (λ b. cond b (e ∷ filter test held) (filter test held)) (All-head (λ x. test x ≡ false) e held all)
      ∙ none_kept test held (All-tail (λ x. test x ≡ false) e held all)

  pub all_old : (age at l : ℕ) (k : K) (held : BTreeMap K V) (ages : List (ℕ × K)) → IsOrdered cmp held → AreMarked cmp moment held.entries ages
      → All (λ a. is_lt (mark_cmp cmp (l, k) a) ≡ false) ages → (at - l < age → ⊥) → purged moment age at held.entries ≡ []
  all_old age at l k held ages ordered marked last old =
      none_kept (λ e. is_young age at (moment e.1)) held.entries
      (All-weaker (λ e. get cmp held e.0 ≡ Some e.1) (λ e. is_young age at (moment e.1) ≡ false) each held.entries (All-found o held ordered))
    where
      each : (e : K × V) → get cmp held e.0 ≡ Some e.1 → is_young age at (moment e.1) ≡ false
      each e found =
          let has : list_any (is_at (mark_cmp cmp (moment e.1, e.0))) ages ≡ true = marked (moment e.1) e.0 ∙ ap (has_moment moment (moment e.1)) found ∙ eq-eqb (moment e.1) (moment e.1) refl in
          let le : moment e.1 ≤ l = last_most l (moment e.1) k e.0 ages last has in
          not_young age at (moment e.1) (λ lt. absurd (old (omega (arith, le, lt))))
