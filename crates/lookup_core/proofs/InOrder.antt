-- Addresses that were sorted, and of which each was kept once.
use Rattle.std.proofs.Common.{◌≡◌, ◌∷◌, ℕ, List, [], get_or, Bool, true, refl, sym, ap, subst, ◌∙◌}
use Rattle.std.specs.Prelude.{Contains, Any}
use Rattle.std.specs.List.{AllByRecursion}
use Rattle.std.specs.List.Retain.{IsFiltered, DiffersFromLast}
use Rattle.std.specs.List.Sorted.{IsSorted, IsPermutation, IsStrictlySortedBy}
use Rattle.std.specs.Ordering.{nat_cmp, is_eq}
use Rattle.std.specs.Cmp.{IsEquivalence, IsTotalOrder}
use Rattle.std.specs.Cmp.Lexicographic.{slice_cmp}
use Rattle.std.specs.declared.cmp.Ordering.{Ordering}
use Rattle.std.specs.declared.cmp.Ordering.TheVariants.{Less, Equal, Greater}
use Rattle.std.proofs.lemmas.Cmp.{eq_by_cmp_equiv}
use Rattle.std.proofs.lemmas.List.Filters.{dedup_is}
use Rattle.std.proofs.lemmas.List.Kept.{Any-dedup, Contains-from_dedup, IsStrictlySortedBy-dedup}
use Rattle.std.proofs.lemmas.List.Sorted.{IsPermutation-sym, Contains-permutation}
use Rattle.std.proofs.lemmas.Map.Lookups.{exact_pairs, exact_unsigned, exact_bytes}
use Rattle.kad_base.specs.declared.types.Ip.{Ip}
use Rattle.kad_base.specs.declared.types.Ip.TheVariants.{V4, V6}
use Rattle.kad_base.specs.declared.types.Addr.{Addr}
use Rattle.kad_base.specs.Contacts.{address_bytes}
use Rattle.kad_base.proofs.Contacts.{address_exact}
use Rattle.kad_base.specs.contracts.types.AddrOrd.TheImpl as order
use Rattle.lookup_core.specs.Gathered.{addr_cmp, IsEachOnce}

-- ---- the order of addresses

abbrev addr_of : Ip → ℕ → Addr
addr_of ip port = record { ip = ip; port = port }

derived_is : (i j : Ip) (p q : ℕ) → order.ghosts.cmp (addr_of i p) (addr_of j q) ≡ addr_cmp (addr_of i p) (addr_of j q)
derived_is (V4 a) (V4 b) p q = refl
derived_is (V4 a) (V6 b) p q = refl
derived_is (V6 a) (V4 b) p q = refl
derived_is (V6 a) (V6 b) p q = refl

pub derived_cmp : (a b : Addr) → order.ghosts.cmp a b ≡ addr_cmp a b
derived_cmp a b = derived_is a.ip b.ip a.port b.port

is_eq_tie : (o : Ordering) → is_eq o ≡ true → o ≡ Equal
is_eq_tie Less e = absurd cc
is_eq_tie Equal e = refl
is_eq_tie Greater e = absurd cc

same_addr : (i j : Ip) (p q : ℕ) → i ≡ j → p ≡ q → addr_of i p ≡ addr_of j q
same_addr i j p q e f = cc

addr_exact : (a b : Addr) → addr_cmp a b ≡ Equal → a ≡ b
addr_exact a b tie =
    let p = exact_pairs (slice_cmp nat_cmp) nat_cmp exact_bytes exact_unsigned (address_bytes a.ip, a.port) (address_bytes b.ip, b.port) tie in
    same_addr a.ip b.ip a.port b.port (address_exact a.ip b.ip (ap (λ (q : List ℕ × ℕ). q.0) p)) (ap (λ (q : List ℕ × ℕ). q.1) p)

-- ---- the list

order_as : (R : Addr → Addr → Ordering) → ((a b : Addr) → R a b ≡ addr_cmp a b) → (x : Addr) (xs : List Addr) → AllByRecursion (λ y. R x y ≡ Less) xs → AllByRecursion (λ y. addr_cmp x y ≡ Less) xs
order_as R same x [] h = tt
order_as R same x (y ∷ xs) h = (sym (same x y) ∙ h.0, order_as R same x xs h.1)

strict_as : (R : Addr → Addr → Ordering) → ((a b : Addr) → R a b ≡ addr_cmp a b) → (xs : List Addr) → IsStrictlySortedBy R xs → IsStrictlySortedBy addr_cmp xs
unfolding IsStrictlySortedBy
strict_as R same [] h = tt
strict_as R same (x ∷ xs) h = (order_as R same x xs h.0, strict_as R same xs h.1)

-- a list with the different members of another, in order
pub each_once : (xs ys : List Addr) → IsStrictlySortedBy order.ghosts.cmp ys → ((a : Addr) → Contains ys a → Contains xs a) → ((a : Addr) → Contains xs a → Any (λ b. is_eq (order.ghosts.cmp a b) ≡ true) ys) → IsEachOnce xs ys
each_once xs ys sorted of_list all = record {
  in_order = strict_as order.ghosts.cmp derived_cmp ys sorted;
  same = λ a. (of_list a, λ h. (let has = all a h in (has.0, has.2, ap (λ d. get_or ys has.0 d) (exact a has.1 has.4) ∙ has.3 ∙ sym (exact a has.1 has.4))));
}
  where
    exact : (a b : Addr) → is_eq (order.ghosts.cmp a b) ≡ true → a ≡ b
    exact a b t = addr_exact a b (is_eq_tie (addr_cmp a b) (ap is_eq (sym (derived_cmp a b)) ∙ t))

-- ---- any list

module _ {X : Type 0} (R : X → X → Ordering) (E : X → X → Bool) (total : IsTotalOrder R) (tests : (x y : X) → E x y ≡ is_eq (R x y)) where
  equivalence : IsEquivalence E
  equivalence =
      let e = eq_by_cmp_equiv total in
      record {
        refl = λ x. tests x x ∙ e.refl x;
        symm = λ x y. tests x y ∙ e.symm x y ∙ sym (tests y x);
        congr = λ x y z t. tests x z ∙ e.congr x y z (sym (tests x y) ∙ t) ∙ sym (tests y z);
      }

  pub kept_in_order : (sorted ys : List X) → IsSorted R sorted → IsFiltered (DiffersFromLast E) [] sorted ys → IsStrictlySortedBy R ys
  kept_in_order sorted ys in_order kept = subst (IsStrictlySortedBy R) (sym (dedup_is E sorted ys kept)) (IsStrictlySortedBy-dedup total tests sorted in_order)

  pub kept_of : (xs sorted ys : List X) → IsPermutation xs sorted → IsFiltered (DiffersFromLast E) [] sorted ys → (x : X) → Contains ys x → Contains xs x
  kept_of xs sorted ys moved kept x h = Contains-permutation sorted xs x (IsPermutation-sym xs sorted moved) (Contains-from_dedup E sorted x (subst (λ l. Contains l x) (dedup_is E sorted ys kept) h))

  pub kept_all : (xs sorted ys : List X) → IsPermutation xs sorted → IsFiltered (DiffersFromLast E) [] sorted ys → (x : X) → Contains xs x → Any (λ y. is_eq (R x y) ≡ true) ys
  kept_all xs sorted ys moved kept x h =
      let found = Any-dedup equivalence sorted x (Contains-permutation xs sorted x moved h) in
      subst (Any (λ y. is_eq (R x y) ≡ true)) (sym (dedup_is E sorted ys kept)) (found.0, found.1, found.2, found.3, sym (tests x found.1) ∙ found.4)
