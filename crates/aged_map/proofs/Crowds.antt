-- How many values of a host are held, by the keys that are told of it.
use Rattle.std.proofs.Common.{◌≡◌, ℕ, ◌+◌, ◌≤◌, List, [], ◌∷◌, length, filter, Bool, true, false, ◌||◌, cond, Option, Some, None, refl, sym, ap, ◌∙◌, arith}
use Rattle.std.specs.Cmp.{IsTotalOrder, IsEquivalence}
use Rattle.std.specs.Cmp.Lexicographic.{bytes_decides}
use Rattle.std.specs.List.{IsDistinct, AllByRecursion, list_any}
use Rattle.std.specs.List.Sorted.{IsStrictlySortedBy}
use Rattle.std.specs.Map.{keys_of, lookup}
use Rattle.std.specs.Set.{is_member}
use Rattle.std.specs.Ordering.{eq_by_cmp, is_eq, match_ordering}
use Rattle.std.specs.BTreeMap.{insert_entry, is_at}
use Rattle.std.specs.declared.cmp.Ordering.{Ordering}
use Rattle.std.specs.declared.cmp.Ordering.TheVariants.{Less, Equal, Greater}
use Rattle.std.proofs.lemmas.Bool.{true≢false, false≢true}
use Rattle.std.proofs.lemmas.Cmp.{eq_by_cmp_equiv}
use Rattle.std.proofs.lemmas.Map.{lookup-none}
use Rattle.std.proofs.lemmas.Map.Entries.{length-keys_of, none_past_head}
use Rattle.std.proofs.lemmas.Map.Keys.{IsDistinct-tail, IsDistinct-from_sorted}
use Rattle.std.proofs.lemmas.Map.Made.{length-from_same_keys, length-le_from_is_member, IsDistinct-keys_filter}
use Rattle.std.proofs.lemmas.Map.Text.{is_eq-slice_cmp}
use Rattle.std.proofs.lemmas.Slice.Eq.{bytes_eq-Decides}
use Rattle.kad_base.specs.declared.host.Host.{Host}
use Rattle.kad_base.specs.declared.host.Host.TheVariants.{V4, V6}
use Rattle.kad_base.specs.Hosts.{same_host}
use Rattle.aged_map.specs.PerHost.{at_host, has_host, is_of, host_cmp}

-- ---- hosts

pub host_exact : (a b : Host) → same_host a b ≡ true → a ≡ b
host_exact (V4 a) (V4 b) e = ap V4 ((bytes_decides a b).0 e)
host_exact (V4 a) (V6 b) e = absurd cc
host_exact (V6 a) (V4 b) e = absurd cc
host_exact (V6 a) (V6 b) e = ap V6 ((bytes_decides a b).0 e)

pub host_tie : (a b : Host) → is_eq (host_cmp a b) ≡ true → a ≡ b
host_tie (V4 a) (V4 b) e = ap V4 ((bytes_eq-Decides a b).0 (sym (is_eq-slice_cmp a b) ∙ e))
host_tie (V4 a) (V6 b) e = absurd cc
host_tie (V6 a) (V4 b) e = absurd cc
host_tie (V6 a) (V6 b) e = ap V6 ((bytes_eq-Decides a b).0 (sym (is_eq-slice_cmp a b) ∙ e))

pub host_ties : (a : Host) → is_eq (host_cmp a a) ≡ true
host_ties (V4 a) = is_eq-slice_cmp a a ∙ (bytes_eq-Decides a a).1 refl
host_ties (V6 a) = is_eq-slice_cmp a a ∙ (bytes_eq-Decides a a).1 refl

pub host_equiv : IsEquivalence (eq_by_cmp host_cmp)
host_equiv = record { refl = host_ties; symm = λ a b. by a b (eq_by_cmp host_cmp a b) (eq_by_cmp host_cmp b a) refl refl; congr = λ a b c e. ap (λ x. eq_by_cmp host_cmp x c) (host_tie a b e) }
  where
    by : (a b : Host) (x y : Bool) → eq_by_cmp host_cmp a b ≡ x → eq_by_cmp host_cmp b a ≡ y → x ≡ y
    by a b true true f g = refl
    by a b false false f g = refl
    by a b true false f g = absurd (true≢false (sym (host_ties a) ∙ ap (λ c. eq_by_cmp host_cmp c a) (host_tie a b f) ∙ g))
    by a b false true f g = absurd (true≢false (sym (host_ties a) ∙ ap (eq_by_cmp host_cmp a) (sym (host_tie b a g)) ∙ f))

-- ---- keys

pub is_eq_tie : (o : Ordering) → is_eq o ≡ true → o ≡ Equal
is_eq_tie Less e = absurd cc
is_eq_tie Equal e = refl
is_eq_tie Greater e = absurd cc

pub distinct_filter : {K : Type 0} (e : K → K → Bool) (T : K → Bool) (xs : List K) → IsDistinct e xs → IsDistinct e (filter T xs)
unfolding IsDistinct
distinct_filter e T [] d = tt
distinct_filter {K} e T (x ∷ xs) d =
    elim (T x) as (λ b. IsDistinct e (cond b (x ∷ filter T xs) (filter T xs))) [
      | true ↦ (apart xs d.0, distinct_filter e T xs d.1)
      | false ↦ distinct_filter e T xs d.1
    ]
  where
    apart : (ys : List K) → AllByRecursion (λ y. e x y ≡ false) ys → AllByRecursion (λ y. e x y ≡ false) (filter T ys)
    apart [] a = tt
    apart (y ∷ ys) a = elim (T y) as (λ b. AllByRecursion (λ y. e x y ≡ false) (cond b (y ∷ filter T ys) (filter T ys))) [ true ↦ (a.0, apart ys a.1) | false ↦ apart ys a.1 ]

-- what is found after a value was put under a key
pub lookup_put : {K V : Type 0} {cmp : K → K → Ordering} → IsTotalOrder cmp → (held : List (K × V)) (k : K) (v : V) (q : K)
    → lookup (is_at (cmp q)) (insert_entry cmp held k v) ≡ cond (eq_by_cmp cmp k q) (Some v) (lookup (is_at (cmp q)) held)
lookup_put {K} {V} {cmp} o [] k v q = ap (λ b. cond b (Some v) None) ((eq_by_cmp_equiv o).symm q k)
lookup_put {K} {V} {cmp} o (x ∷ xs) k v q = by (cmp k x.0) refl (lookup_put o xs k v q)
  where
    equiv : IsEquivalence (eq_by_cmp cmp)
    equiv = eq_by_cmp_equiv o

    at : K → Bool
    at = is_at (cmp q)

    replaced : (b c : Bool) → b ≡ c → cond c (Some v) (lookup at xs) ≡ cond b (Some v) (cond c (Some x.1) (lookup at xs))
    replaced true true e = refl
    replaced false false e = refl
    replaced true false e = absurd (true≢false e)
    replaced false true e = absurd (false≢true e)

    passed : (b c : Bool) → (b ≡ true → c ≡ true → ⊥) → cond c (Some x.1) (cond b (Some v) (lookup at xs)) ≡ cond b (Some v) (cond c (Some x.1) (lookup at xs))
    passed true true apart = absurd (apart refl refl)
    passed true false apart = refl
    passed false c apart = refl

    by : (r : Ordering) → cmp k x.0 ≡ r → lookup at (insert_entry cmp xs k v) ≡ cond (eq_by_cmp cmp k q) (Some v) (lookup at xs)
        → lookup at (match_ordering r ((k, v) ∷ x ∷ xs) ((x.0, v) ∷ xs) (x ∷ insert_entry cmp xs k v)) ≡ cond (eq_by_cmp cmp k q) (Some v) (lookup at (x ∷ xs))
    by Less f ih = ap (λ b. cond b (Some v) (lookup at (x ∷ xs))) (equiv.symm q k)
    by Equal f ih = replaced (eq_by_cmp cmp k q) (at x.0) (equiv.congr k x.0 q (ap is_eq f) ∙ equiv.symm x.0 q)
    by Greater f ih =
        ap (λ (l : Option V). cond (at x.0) (Some x.1) l) ih
        ∙ passed (eq_by_cmp cmp k q) (at x.0)
        (λ a b. false≢true (sym (ap is_eq f) ∙ equiv.congr k q x.0 a ∙ b))

module _ {K V : Type 0} {cmp : K → K → Ordering} (o : IsTotalOrder cmp) (host : K → V → Host) (alike : (a b : K) (v : V) → cmp a b ≡ Equal → host a v ≡ host b v) where
  -- the keys of the entries of a host are those that are its
  pub members : (h : Host) (q : K) (held : List (K × V)) → IsDistinct (eq_by_cmp cmp) (keys_of held) → is_member (eq_by_cmp cmp) (keys_of (at_host host h held)) q ≡ is_of cmp host held h q
  members h q [] d = refl
  members h q (x ∷ xs) d = by (eq_by_cmp cmp q x.0) refl (same_host (host x.0 x.1) h) refl (members h q xs (IsDistinct-tail (eq_by_cmp cmp) x.0 (keys_of xs) d))
    where
      e : K → K → Bool
      e = eq_by_cmp cmp

      by : (b : Bool) → eq_by_cmp cmp q x.0 ≡ b → (s : Bool) → same_host (host x.0 x.1) h ≡ s → list_any (eq_by_cmp cmp q) (keys_of (at_host host h xs)) ≡ has_host host h q (lookup (is_at (cmp q)) xs)
          → list_any (eq_by_cmp cmp q) (keys_of (cond s (x ∷ at_host host h xs) (at_host host h xs))) ≡ has_host host h q (cond b (Some x.1) (lookup (is_at (cmp q)) xs))
      by true f true g ih =
          ap (λ c. c || list_any (eq_by_cmp cmp q) (keys_of (at_host host h xs))) f
          ∙ sym (ap (λ k. same_host k h) (alike q x.0 x.1 (is_eq_tie (cmp q x.0) f)) ∙ g)
      by true f false g ih =
          ih
          ∙ ap (has_host host h q) (lookup-none (eq_by_cmp cmp q) xs (none_past_head (eq_by_cmp_equiv o) q x xs d f))
          ∙ sym (ap (λ k. same_host k h) (alike q x.0 x.1 (is_eq_tie (cmp q x.0) f)) ∙ g)
      by false f true g ih = ap (λ c. c || list_any (eq_by_cmp cmp q) (keys_of (at_host host h xs))) f ∙ ih
      by false f false g ih = ih

  -- keys that compare as equal are alike
  pub alike_of : (held : List (K × V)) (h : Host) (q x : K) → eq_by_cmp cmp q x ≡ true → is_of cmp host held h q ≡ is_of cmp host held h x
  alike_of held h q x f =
      ap (λ (t : K → Bool). has_host host h q (lookup t held)) (λ i k. (eq_by_cmp_equiv o).congr q x k f i)
      ∙ by (lookup (is_at (cmp x)) held)
    where
      by : (v : Option V) → has_host host h q v ≡ has_host host h x v
      by None = refl
      by (Some v) = ap (λ k. same_host k h) (alike q x v (is_eq_tie (cmp q x) f))

  -- as many are held of a host as there are keys in a list of them, each once
  pub crowd_is : (xs : List K) (held : List (K × V)) (h : Host) → IsDistinct (eq_by_cmp cmp) xs → IsStrictlySortedBy cmp (keys_of held)
      → ((q : K) → is_member (eq_by_cmp cmp) xs q ≡ is_of cmp host held h q) → length xs ≡ length (at_host host h held)
  crowd_is xs held h once sorted same =
      let d = IsDistinct-from_sorted cmp (keys_of held) sorted in
      length-from_same_keys (eq_by_cmp_equiv o) xs (keys_of (at_host host h held)) once (IsDistinct-keys_filter (eq_by_cmp cmp) (λ e. same_host (host e.0 e.1) h) held d)
      (λ q. same q ∙ sym (members h q held d))
      ∙ length-keys_of (at_host host h held)

  -- no more are held of a host where each that is was before
  pub crowd_falls : (held new : List (K × V)) (h : Host) → IsStrictlySortedBy cmp (keys_of held) → IsStrictlySortedBy cmp (keys_of new)
      → ((q : K) → is_of cmp host new h q ≡ true → is_of cmp host held h q ≡ true) → length (at_host host h new) ≤ length (at_host host h held)
  crowd_falls held new h sorted after was =
      let d = IsDistinct-from_sorted cmp (keys_of held) sorted in
      let n = IsDistinct-from_sorted cmp (keys_of new) after in
      let le = length-le_from_is_member (eq_by_cmp_equiv o) (keys_of (at_host host h new)) (keys_of (at_host host h held))
      (IsDistinct-keys_filter (eq_by_cmp cmp) (λ e. same_host (host e.0 e.1) h) new n)
      (λ q m. members h q held d ∙ was q (sym (members h q new n) ∙ m)) in
      omega (arith, le, length-keys_of (at_host host h new), length-keys_of (at_host host h held))

  -- whose the values are after one was put under a key
  pub of_put : (held : List (K × V)) (k : K) (v : V) (h : Host) (q : K)
      → is_of cmp host (insert_entry cmp held k v) h q ≡ cond (eq_by_cmp cmp k q) (same_host (host q v) h) (is_of cmp host held h q)
  of_put held k v h q = ap (has_host host h q) (lookup_put o held k v q) ∙ by (eq_by_cmp cmp k q)
    where
      by : (b : Bool) → has_host host h q (cond b (Some v) (lookup (is_at (cmp q)) held)) ≡ cond b (same_host (host q v) h) (is_of cmp host held h q)
      by true = refl
      by false = refl

  -- one more of its host at most
  pub crowd_put : (held : List (K × V)) (k : K) (v : V) (h : Host) → length (at_host host h (insert_entry cmp held k v)) ≤ length (at_host host h held) + cond (same_host (host k v) h) 1 0
  crowd_put [] k v h = by (k, v) (same_host (host k v) h)
    where
      by : (e : K × V) (b : Bool) → length (cond b (e ∷ []) []) ≤ 0 + cond b 1 0
      by e true = omega arith
      by e false = omega arith
  crowd_put (x ∷ xs) k v h = by (cmp k x.0) refl (crowd_put xs k v h)
    where
      one : Host → ℕ
      one g = cond (same_host g h) 1 0

      here : (b : Bool) (e : K × V) (l : List (K × V)) → length (cond b (e ∷ l) l) ≡ length l + cond b 1 0
      here true e l = omega arith
      here false e l = omega arith

      by : (r : Ordering) → cmp k x.0 ≡ r → length (at_host host h (insert_entry cmp xs k v)) ≤ length (at_host host h xs) + cond (same_host (host k v) h) 1 0
          → length (at_host host h (match_ordering r ((k, v) ∷ x ∷ xs) ((x.0, v) ∷ xs) (x ∷ insert_entry cmp xs k v))) ≤ length (at_host host h (x ∷ xs)) + cond (same_host (host k v) h) 1 0
      by Less f ih = omega (arith, here (same_host (host k v) h) (k, v) (at_host host h (x ∷ xs)))
      by Equal f ih =
          let same = ap (λ (g : Host). one g) (sym (alike k x.0 v f)) in
          omega (arith, here (same_host (host x.0 v) h) (x.0, v) (at_host host h xs), here (same_host (host x.0 x.1) h) x (at_host host h xs), same)
      by Greater f ih =
          omega (arith, ih, here (same_host (host x.0 x.1) h) x (at_host host h (insert_entry cmp xs k v)), here (same_host (host x.0 x.1) h) x (at_host host h xs))
