-- Where a key is among ascending ones, and what `put`, `value_of` and `without` do there.
use Rattle.std.proofs.Common.{◌≡◌, ℕ, zero, suc, ◌-◌, ◌<◌, ◌≤◌, true, false, cond, List, [], ◌∷◌, ◌++◌, length, take, drop, get_or, Option, Some, None, Result, Ok, Err, OnOk, OnErr, refl, sym, ap, ◌∙◌, subst, arith, Ordering}
use Rattle.std.specs.List.{AllByRecursion, insert, remove}
use Rattle.std.specs.List.Sorted.{IsStrictlySortedBy}
use Rattle.std.specs.Ordering.{is_eq, match_ordering, ordering_reverse}
use Rattle.std.specs.declared.cmp.Ordering.TheVariants.{Less, Equal, Greater}
use Rattle.std.proofs.lemmas.Cmp.{nat_list_cmp_total}
use Rattle.std.proofs.lemmas.Map.Lookups.{exact_bytes}
use Rattle.std.proofs.lemmas.List.{take-append-drop}
use Rattle.std.proofs.Math.Seq.{drop-cons, take-suc}
use Rattle.std.proofs.Math.ListN.{set}
use Rattle.kad_bencode.specs.Keys.{key_cmp, keys_of, IsAscending, IsPlace, put, value_of, without}
use Rattle.kad_bencode.specs.declared.entries.Pair.{Pair}
use Rattle.kad_bencode.proofs.Limits.{all_push}

pub turned : (a b : List ℕ) → key_cmp a b ≡ Less → key_cmp b a ≡ Greater
turned a b h = nat_list_cmp_total.antisymm b a ∙ ap ordering_reverse h

pub turned_back : (a b : List ℕ) → key_cmp a b ≡ Greater → key_cmp b a ≡ Less
turned_back a b h = nat_list_cmp_total.antisymm b a ∙ ap ordering_reverse h

module _ (V : Type 0) where
  -- ---- the pairs in front have keys below

  pub put_front : (front back : List (Pair V)) (key : List ℕ) (v : V) → AllByRecursion (λ p. key_cmp key p.key ≡ Greater) front → put (front ++ back) key v ≡ front ++ put back key v
  put_front [] back key v h = refl
  put_front (p ∷ ps) back key v h =
      ap (λ o. match_ordering o (record { key = key; value = v } ∷ p ∷ (ps ++ back)) (record { key = key; value = v } ∷ (ps ++ back)) (p ∷ put (ps ++ back) key v)) h.0
      ∙ ap (λ l. p ∷ l) (put_front ps back key v h.1)

  value_front : (front back : List (Pair V)) (key : List ℕ) → AllByRecursion (λ p. key_cmp key p.key ≡ Greater) front → value_of (front ++ back) key ≡ value_of back key
  value_front [] back key h = refl
  value_front (p ∷ ps) back key h = ap (λ o. cond (is_eq o) (Some p.value) (value_of (ps ++ back) key)) h.0 ∙ value_front ps back key h.1

  pub without_front : (front back : List (Pair V)) (key : List ℕ) → AllByRecursion (λ p. key_cmp key p.key ≡ Greater) front → without (front ++ back) key ≡ front ++ without back key
  without_front [] back key h = refl
  without_front (p ∷ ps) back key h = ap (λ o. cond (is_eq o) (ps ++ back) (p ∷ without (ps ++ back) key)) h.0 ∙ ap (λ l. p ∷ l) (without_front ps back key h.1)

  put_below : (back : List (Pair V)) (key : List ℕ) (v : V) → AllByRecursion (λ p. key_cmp key p.key ≡ Less) back → put back key v ≡ record { key = key; value = v } ∷ back
  put_below [] key v h = refl
  put_below (p ∷ ps) key v h = ap (λ o. match_ordering o (record { key = key; value = v } ∷ p ∷ ps) (record { key = key; value = v } ∷ ps) (p ∷ put ps key v)) h.0

  value_below : (back : List (Pair V)) (key : List ℕ) → AllByRecursion (λ p. key_cmp key p.key ≡ Less) back → value_of back key ≡ None
  value_below [] key h = refl
  value_below (p ∷ ps) key h = ap (λ o. cond (is_eq o) (Some p.value) (value_of ps key)) h.0 ∙ value_below ps key h.1

  without_below : (back : List (Pair V)) (key : List ℕ) → AllByRecursion (λ p. key_cmp key p.key ≡ Less) back → without back key ≡ back
  without_below [] key h = refl
  without_below (p ∷ ps) key h = ap (λ o. cond (is_eq o) ps (p ∷ without ps key)) h.0 ∙ ap (λ l. p ∷ l) (without_below ps key h.1)

  -- ---- the place

  set_is : (ps : List (Pair V)) (i : ℕ) (p : Pair V) → i < length ps → set ps i p ≡ take i ps ++ p ∷ drop (suc i) ps
  set_is [] i p h = absurd (omega arith)
  set_is (q ∷ qs) zero p h = refl
  set_is (q ∷ qs) (suc i) p h = ap (λ l. q ∷ l) (set_is qs i p (omega arith))

  module _ (pairs : List (Pair V)) (key : List ℕ) where
    pub set_put : (i : ℕ) (q : Pair V) (v : V) → IsPlace pairs key (Ok i) → q ≡ get_or pairs i q → set pairs i (record { key = q.key; value = v }) ≡ put pairs key v
    set_put i q v h e =
        let d : drop i pairs ≡ q ∷ drop (suc i) pairs = drop-cons pairs i q h.0 ∙ ap (λ x. x ∷ drop (suc i) pairs) (sym e) in
        let head : q ≡ h.2 = let f : q ∷ drop (suc i) pairs ≡ h.2 ∷ h.3 = sym d ∙ h.4 in cc in
        let same : key_cmp key q.key ≡ Equal = ap (λ (x : Pair V). key_cmp key x.key) head ∙ h.5 in
        let k : key ≡ q.key = exact_bytes key q.key same in
        set_is pairs i (record { key = q.key; value = v }) h.0
        ∙ sym (ap (λ l. put l key v) (sym (take-append-drop i pairs) ∙ ap (λ l. take i pairs ++ l) d) ∙ put_front (take i pairs) (q ∷ drop (suc i) pairs) key v h.1
        ∙ ap (λ o. take i pairs ++ match_ordering o (record { key = key; value = v } ∷ q ∷ drop (suc i) pairs) (record { key = key; value = v } ∷ drop (suc i) pairs) (q ∷ put (drop (suc i) pairs) key v)) same
        ∙ ap (λ x. take i pairs ++ record { key = x; value = v } ∷ drop (suc i) pairs) k)

    pub insert_put : (i : ℕ) (v : V) → IsPlace pairs key (Err i) → insert pairs i (record { key = key; value = v }) ≡ put pairs key v
    insert_put i v h =
        sym (ap (λ l. put l key v) (sym (take-append-drop i pairs)) ∙ put_front (take i pairs) (drop i pairs) key v h.1 ∙ ap (λ l. take i pairs ++ l) (put_below (drop i pairs) key v h.2))

    pub value_there : (i : ℕ) (q : Pair V) → IsPlace pairs key (Ok i) → q ≡ get_or pairs i q → Some q.value ≡ value_of pairs key
    value_there i q h e =
        let d : drop i pairs ≡ q ∷ drop (suc i) pairs = drop-cons pairs i q h.0 ∙ ap (λ x. x ∷ drop (suc i) pairs) (sym e) in
        let head : q ≡ h.2 = let f : q ∷ drop (suc i) pairs ≡ h.2 ∷ h.3 = sym d ∙ h.4 in cc in
        let same : key_cmp key q.key ≡ Equal = ap (λ (x : Pair V). key_cmp key x.key) head ∙ h.5 in
        sym (ap (λ l. value_of l key) (sym (take-append-drop i pairs) ∙ ap (λ l. take i pairs ++ l) d) ∙ value_front (take i pairs) (q ∷ drop (suc i) pairs) key h.1
        ∙ ap (λ o. cond (is_eq o) (Some q.value) (value_of (drop (suc i) pairs) key)) same)

    pub value_free : (i : ℕ) → IsPlace pairs key (Err i) → ◌≡◌ {A = Option V} None (value_of pairs key)
    value_free i h = sym (ap (λ l. value_of l key) (sym (take-append-drop i pairs)) ∙ value_front (take i pairs) (drop i pairs) key h.1 ∙ value_below (drop i pairs) key h.2)

    pub remove_without : (i : ℕ) → IsPlace pairs key (Ok i) → remove pairs i ≡ without pairs key
    remove_without i h =
        let d : drop i pairs ≡ h.2 ∷ drop (suc i) pairs = drop-cons pairs i h.2 h.0 ∙ (let f : get_or pairs i h.2 ∷ drop (suc i) pairs ≡ h.2 ∷ h.3 = sym (drop-cons pairs i h.2 h.0) ∙ h.4 in let g : get_or pairs i h.2 ≡ h.2 = cc in ap (λ x. x ∷ drop (suc i) pairs) g) in
        sym (ap (λ l. without l key) (sym (take-append-drop i pairs) ∙ ap (λ l. take i pairs ++ l) d) ∙ without_front (take i pairs) (h.2 ∷ drop (suc i) pairs) key h.1
        ∙ ap (λ o. take i pairs ++ cond (is_eq o) (drop (suc i) pairs) (h.2 ∷ without (drop (suc i) pairs) key)) h.5)

    pub without_free : (i : ℕ) → IsPlace pairs key (Err i) → pairs ≡ without pairs key
    without_free i h = sym (ap (λ l. without l key) (sym (take-append-drop i pairs)) ∙ without_front (take i pairs) (drop i pairs) key h.1 ∙ ap (λ l. take i pairs ++ l) (without_below (drop i pairs) key h.2) ∙ take-append-drop i pairs)

  -- ---- order

  all_put : (P : List ℕ → Type 0) (ps : List (Pair V)) (key : List ℕ) (v : V) → P key → AllByRecursion P (keys_of ps) → AllByRecursion P (keys_of (put ps key v))
  all_put P [] key v h a = (h, tt)
  all_put P (p ∷ ps) key v h a =
      elim (key_cmp key p.key) as (λ o. AllByRecursion P (keys_of (match_ordering o (record { key = key; value = v } ∷ p ∷ ps) (record { key = key; value = v } ∷ ps) (p ∷ put ps key v))))
      [ Less ↦ (h, a) | Equal ↦ (h, a.1) | Greater ↦ (a.0, all_put P ps key v h a.1) ]

  all_without : (P : List ℕ → Type 0) (ps : List (Pair V)) (key : List ℕ) → AllByRecursion P (keys_of ps) → AllByRecursion P (keys_of (without ps key))
  all_without P [] key a = tt
  all_without P (p ∷ ps) key a =
      elim (is_eq (key_cmp key p.key)) as (λ b. AllByRecursion P (keys_of (cond b ps (p ∷ without ps key)))) [ true ↦ a.1 | false ↦ (a.0, all_without P ps key a.1) ]

  pub all_above : (a b : List ℕ) (ks : List (List ℕ)) → key_cmp a b ≡ Less → AllByRecursion (λ k. key_cmp b k ≡ Less) ks → AllByRecursion (λ k. key_cmp a k ≡ Less) ks
  all_above a b [] h r = tt
  all_above a b (k ∷ ks) h r = (nat_list_cmp_total.trans a b k h r.0, all_above a b ks h r.1)

  pub put_ascending : (ps : List (Pair V)) (key : List ℕ) (v : V) → IsAscending ps → IsAscending (put ps key v)
  unfolding IsStrictlySortedBy
  put_ascending [] key v h = (tt, tt)
  put_ascending (p ∷ ps) key v h =
      elim (key_cmp key p.key) as (λ o. key_cmp key p.key ≡ o → IsAscending (match_ordering o (record { key = key; value = v } ∷ p ∷ ps) (record { key = key; value = v } ∷ ps) (p ∷ put ps key v))) [
        | Less ↦ λ e. ((e, all_above key p.key (keys_of ps) e h.0), h)
        | Equal ↦ λ e. (subst (λ k. AllByRecursion (λ j. key_cmp k j ≡ Less) (keys_of ps)) (sym (exact_bytes key p.key e)) h.0, h.1)
        | Greater ↦ λ e. (all_put (λ k. key_cmp p.key k ≡ Less) ps key v (turned_back key p.key e) h.0, put_ascending ps key v h.1)
      ] refl

  pub without_ascending : (ps : List (Pair V)) (key : List ℕ) → IsAscending ps → IsAscending (without ps key)
  unfolding IsStrictlySortedBy
  without_ascending [] key h = tt
  without_ascending (p ∷ ps) key h =
      elim (is_eq (key_cmp key p.key)) as (λ b. IsAscending (cond b ps (p ∷ without ps key))) [ true ↦ h.1 | false ↦ (all_without (λ k. key_cmp p.key k ≡ Less) ps key h.0, without_ascending ps key h.1) ]

  -- ---- the search

  all_at : (P : List ℕ → Type 0) (ps : List (Pair V)) (i : ℕ) (q : Pair V) (rest : List (Pair V)) → AllByRecursion P (keys_of ps) → drop i ps ≡ q ∷ rest → P q.key
  all_at P [] i q rest a e = absurd (nothing_there i e)
    where
      nothing_there : (i : ℕ) → drop i [] ≡ q ∷ rest → ⊥
      nothing_there zero e = cc
      nothing_there (suc i) e = cc
  all_at P (p ∷ ps) zero q rest a e = let h : p ≡ q = cc in subst (λ (x : Pair V). P x.key) h a.0
  all_at P (p ∷ ps) (suc i) q rest a e = all_at P ps i q rest a.1 e

  pub below_place : (ps : List (Pair V)) (key : List ℕ) (i : ℕ) (q : Pair V) (rest : List (Pair V)) → IsAscending ps → drop i ps ≡ q ∷ rest → ((k : List ℕ) → key_cmp k q.key ≡ Less → key_cmp k key ≡ Less) → AllByRecursion (λ p. key_cmp key p.key ≡ Greater) (take i ps)
  unfolding IsStrictlySortedBy
  below_place [] key zero q rest a e h = tt
  below_place [] key (suc i) q rest a e h = tt
  below_place (p ∷ ps) key zero q rest a e h = tt
  below_place (p ∷ ps) key (suc i) q rest a e h = (turned p.key key (h p.key (all_at (λ k. key_cmp p.key k ≡ Less) ps i q rest a.0 e)), below_place ps key i q rest a.1 e h)

  module _ (pairs : List (Pair V)) (key : List ℕ) (at : ℕ) (q : Pair V) (ascending : IsAscending pairs) (positive : 0 < at) (within : at ≤ length pairs) (is : q ≡ get_or pairs (at - 1) q) where
    here : drop (at - 1) pairs ≡ q ∷ drop at pairs
    here = let e : suc (at - 1) ≡ at = omega arith in drop-cons pairs (at - 1) q (omega arith) ∙ ap (λ x. x ∷ drop (suc (at - 1)) pairs) (sym is) ∙ ap (λ n. q ∷ drop n pairs) e

    pub place_above : key_cmp key q.key ≡ Greater → AllByRecursion (λ p. key_cmp key p.key ≡ Less) (drop at pairs) → IsPlace pairs key (Err at)
    place_above h below =
        let e : suc (at - 1) ≡ at = omega arith in
        let t : take at pairs ≡ take (at - 1) pairs ++ q ∷ [] = ap (λ n. take n pairs) (sym e) ∙ take-suc pairs (at - 1) q (omega arith) ∙ ap (λ x. take (at - 1) pairs ++ x ∷ []) (sym is) in
        (within, subst (AllByRecursion (λ p. key_cmp key p.key ≡ Greater)) (sym t) (all_push (λ p. key_cmp key p.key ≡ Greater) (take (at - 1) pairs) q (below_place pairs key (at - 1) q (drop at pairs) ascending here (λ k l. nat_list_cmp_total.trans k q.key key l (turned_back key q.key h))) h), below)

    pub place_there : key_cmp key q.key ≡ Equal → IsPlace pairs key (Ok (at - 1))
    place_there h =
        (omega arith, below_place pairs key (at - 1) q (drop at pairs) ascending here (λ k l. subst (λ x. key_cmp k x ≡ Less) (sym (exact_bytes key q.key h)) l), q, drop at pairs, here, h)

    pub place_further : key_cmp key q.key ≡ Less → AllByRecursion (λ p. key_cmp key p.key ≡ Less) (drop at pairs) → AllByRecursion (λ p. key_cmp key p.key ≡ Less) (drop (at - 1) pairs)
    place_further h below = subst (AllByRecursion (λ p. key_cmp key p.key ≡ Less)) (sym here) (h, below)

  pub compared : (pairs : List (Pair V)) (key : List ℕ) (i : ℕ) (q : Pair V) (s : List ℕ) (o r : Ordering) → q ≡ get_or pairs i q → s ≡ (get_or pairs i q).key → r ≡ key_cmp key s → r ≡ o → key_cmp key q.key ≡ o
  compared pairs key i q s o r is text cmp same = ap (λ (x : Pair V). key_cmp key x.key) is ∙ ap (key_cmp key) (sym text) ∙ sym cmp ∙ same

  pub place_first : (pairs : List (Pair V)) (key : List ℕ) (at : ℕ) → at ≤ 0 → AllByRecursion (λ p. key_cmp key p.key ≡ Less) (drop at pairs) → IsPlace pairs key (Err 0)
  place_first pairs key at h below = let e : at ≡ 0 = omega arith in (omega arith, tt, subst (λ n. AllByRecursion (λ p. key_cmp key p.key ≡ Less) (drop n pairs)) e below)

  pub inserted_put : {E : Type 0} (r : Result (Unit {0}) E) (pairs new : List (Pair V)) (key : List ℕ) (i : ℕ) (v : V) → IsPlace pairs key (Err i) → OnOk r (new ≡ insert pairs i (record { key = key; value = v })) → OnOk r (new ≡ put pairs key v)
  inserted_put (Ok u) pairs new key i v h e = e ∙ insert_put pairs key i v h
  inserted_put (Err x) pairs new key i v h e = e

  pub inserted_ascending : {E : Type 0} (r : Result (Unit {0}) E) (pairs new : List (Pair V)) (key : List ℕ) (i : ℕ) (v : V) → IsPlace pairs key (Err i) → OnOk r (new ≡ insert pairs i (record { key = key; value = v })) → OnErr r (new ≡ pairs) → IsAscending pairs → IsAscending new
  inserted_ascending (Ok u) pairs new key i v h e f a = subst IsAscending (sym (e ∙ insert_put pairs key i v h)) (put_ascending pairs key v a)
  inserted_ascending (Err x) pairs new key i v h e f a = subst IsAscending (sym f) a
