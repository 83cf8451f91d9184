-- The search by key among pairs in order, and the first fresh peers.
use Rattle.std.proofs.Common.{◌≡◌, ℕ, suc, ◌-◌, ◌<◌, nat_lt, Bool, true, false, not, ◌&&◌, cond, List, [], ◌∷◌, ◌++◌, length, take, filter, refl, sym, ap, ◌∙◌, arith, length-append, append_assoc}
use Rattle.std.specs.List.{All}
use Rattle.std.specs.Ordering.{ordering_then, is_eq, is_gt, is_lt, is_le, nat_cmp}
use Rattle.std.specs.Str.{bytes_eq}
use Rattle.std.specs.Cmp.Lexicographic.{slice_cmp}
use Rattle.std.specs.declared.cmp.Ordering.{Ordering}
use Rattle.std.specs.declared.cmp.Ordering.TheVariants.{Less, Equal, Greater}
use Rattle.std.specs.declared.ops.Bound.TheVariants.{Included}
use Rattle.std.specs.BTreeMap.Range.{range_contains, entries_between}
use Rattle.std.proofs.lemmas.List.Elements.{All-head, All-tail}
use Rattle.std.proofs.lemmas.Map.Text.{is_eq-slice_cmp}
use Rattle.kad_base.specs.declared.types.Id.{Id}
use Rattle.kad_base.specs.declared.types.Addr.{Addr}
use Rattle.peer_store.specs.declared.ends.TheConstants.{FIRST, LAST}
use Rattle.peer_store.specs.Between.{IsBetween, AreBetween}
use Rattle.std.proofs.lemmas.Bool.{lt-ltb}
use Rattle.std.proofs.lemmas.Cmp.{nat_list_cmp_total, tied_itself}
use Rattle.peer_store.specs.Peers.{Pair, Held, is_fresh, fresh, peers_of, fresh_of, address_cmp, pair_cmp}
use Rattle.peer_store.proofs.Ordered.{derived, derived_address, derived_is}

-- a pair of a key is between the first and the last of the key, and no other is
same_key : (s a b : Ordering) → is_gt a ≡ false → is_lt b ≡ false → (is_le (ordering_then s a) && not (is_lt (ordering_then s b))) ≡ is_eq s
same_key Less a b f g = refl
same_key Equal Less Equal f g = refl
same_key Equal Less Greater f g = refl
same_key Equal Equal Equal f g = refl
same_key Equal Equal Greater f g = refl
same_key Equal Less Less f g = absurd cc
same_key Equal Equal Less f g = absurd cc
same_key Equal Greater b f g = absurd cc
same_key Greater a b f g = refl

in_range : (key : Id) (h : Held) → IsBetween h.0.1 → range_contains pair_cmp (Included (key, FIRST)) (Included (key, LAST)) h.0 ≡ bytes_eq key.0 h.0.0.0
in_range key h b =
    same_key (slice_cmp nat_cmp key.0 h.0.0.0) (address_cmp FIRST h.0.1) (address_cmp LAST h.0.1) b.from_first b.to_last
    ∙ is_eq-slice_cmp key.0 h.0.0.0

pub filter_alike : {X : Type 0} (p q : X → Bool) (P : X → Type 0) → ((x : X) → P x → p x ≡ q x) → (xs : List X) → All P xs → filter p xs ≡ filter q xs
filter_alike p q P same [] all = refl
filter_alike p q P same (x ∷ xs) all =
    let e = same x (All-head P x xs all) in
    let f = filter_alike p q P same xs (All-tail P x xs all) in
    cc

pub filter_twice : {X : Type 0} (p q : X → Bool) (xs : List X) → filter q (filter p xs) ≡ filter (λ x. p x && q x) xs
filter_twice p q [] = refl
filter_twice {X} p q (x ∷ xs) = by (p x) (filter_twice p q xs)
  where
    by : (b : Bool) → filter q (filter p xs) ≡ filter (λ y. p y && q y) xs → filter q (cond b (x ∷ filter p xs) (filter p xs)) ≡ cond (b && q x) (x ∷ filter (λ y. p y && q y) xs) (filter (λ y. p y && q y) xs)
    by true e = ap (λ l. cond (q x) (x ∷ l) l) e
    by false e = e

-- the range of a key
pub of_key : (held range : List Held) (key : Id) → AreBetween held → range ≡ entries_between derived (Included (key, FIRST)) (Included (key, LAST)) held → range ≡ filter (λ h. bytes_eq key.0 h.0.0.0) held
of_key held range key all is =
    is ∙ ap (λ (R : Pair → Pair → Ordering). entries_between R (Included (key, FIRST)) (Included (key, LAST)) held) derived_is
    ∙ filter_alike (λ h. range_contains pair_cmp (Included (key, FIRST)) (Included (key, LAST)) h.0) (λ h. bytes_eq key.0 h.0.0.0) (λ h. IsBetween h.0.1) (in_range key) held all

-- what the range of a key has that is fresh
pub ranged : (held range : List Held) (key : Id) (at : ℕ) → AreBetween held → range ≡ entries_between derived (Included (key, FIRST)) (Included (key, LAST)) held → fresh range at ≡ fresh_of held key at
ranged held range key at all is = ap (λ l. fresh l at) (of_key held range key all is) ∙ filter_twice (λ h. bytes_eq key.0 h.0.0.0) (is_fresh at) held

-- one peer more
pub one_more : (peers xs all : List Addr) (p : Addr) → peers ++ take (50 - length peers) (p ∷ xs) ≡ all → length peers < 50 → (peers ++ p ∷ []) ++ take (50 - length (peers ++ p ∷ [])) xs ≡ all
one_more peers xs all p is lt =
    let n : 50 - length peers ≡ suc (50 - length (peers ++ p ∷ [])) = omega (arith, length-append peers (p ∷ [])) in
    append_assoc peers (p ∷ []) (take (50 - length (peers ++ p ∷ [])) xs)
    ∙ sym (ap (λ n. peers ++ take n (p ∷ xs)) n) ∙ is

-- a fresh one that comes first
pub fresh_first : (e : Held) (s t : List Held) (at : ℕ) → s ≡ e ∷ t → at - e.1 < 1800000 → peers_of (fresh s at) ≡ e.0.1 ∷ peers_of (fresh t at)
fresh_first e s t at is young =
    let f : nat_lt (at - e.1) 1800000 ≡ true = lt-ltb (at - e.1) 1800000 young in
    ap (λ l. peers_of (fresh l at)) is ∙ ap (λ b. peers_of (cond b (e ∷ fresh t at) (fresh t at))) f

-- where nothing is fresh nothing of a key is
pub none_fresh : (held : List Held) (key : Id) (at : ℕ) → fresh held at ≡ [] → fresh_of held key at ≡ []
none_fresh [] key at none = refl
none_fresh (h ∷ held) key at none = by (is_fresh at h) (bytes_eq key.0 h.0.0.0) none (none_fresh held key at)
  where
    by : (f b : Bool) → cond f (h ∷ fresh held at) (fresh held at) ≡ [] → (fresh held at ≡ [] → fresh_of held key at ≡ []) → cond (b && f) (h ∷ fresh_of held key at) (fresh_of held key at) ≡ []
    by true b e rest = absurd cc
    by false true e rest = rest e
    by false false e rest = rest e

-- the range of a key runs forward
pub forward : (key : Id) → is_gt (derived (key, FIRST) (key, LAST)) ≡ false
forward key = ap (λ o. is_gt (ordering_then o (derived_address FIRST LAST))) (tied_itself nat_list_cmp_total key.0)
