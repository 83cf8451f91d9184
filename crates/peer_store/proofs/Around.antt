-- The list that begins at a point and goes round to it.
use Rattle.std.proofs.Common.{◌≡◌, ℕ, zero, suc, ◌+◌, ◌-◌, ◌≤◌, Bool, true, false, not, ◌&&◌, List, [], ◌∷◌, ◌++◌, length, take, filter, refl, sym, ap, ◌∙◌, arith}
use Rattle.std.specs.List.{All}
use Rattle.std.specs.Ordering.{ordering_then, is_eq, is_gt, is_lt, is_le, nat_cmp}
use Rattle.std.specs.Str.{bytes_eq}
use Rattle.std.specs.Cmp.Lexicographic.{slice_cmp}
use Rattle.std.specs.declared.cmp.Ordering.{Ordering}
use Rattle.std.specs.declared.cmp.Ordering.TheVariants.{Less, Equal, Greater}
use Rattle.std.specs.declared.ops.Bound.TheVariants.{Included, Excluded}
use Rattle.std.specs.BTreeMap.Range.{range_contains, entries_between}
use Rattle.std.proofs.Math.Seq.{take-append-add}
use Rattle.std.proofs.lemmas.Cmp.{nat_list_cmp_total, tied_itself}
use Rattle.std.proofs.lemmas.Map.Text.{is_eq-slice_cmp}
use Rattle.kad_base.specs.declared.types.Id.{Id}
use Rattle.kad_base.specs.declared.types.Addr.{Addr}
use Rattle.peer_store.specs.declared.ends.TheConstants.{FIRST, LAST}
use Rattle.peer_store.specs.Between.{IsBetween, AreBetween}
use Rattle.peer_store.specs.Peers.{Pair, Held, is_fresh, fresh, peers_of, fresh_of, address_cmp, pair_cmp, point, is_from, around, number_of, last_number, max_listed}
use Rattle.peer_store.proofs.Ordered.{derived, derived_address, address_agrees, derived_is}
use Rattle.peer_store.proofs.Listing.{filter_alike, filter_twice}

-- a pair of a key that isn't before the point is between the point and the last of the key, and no other is
from_key : (s a b : Ordering) → is_lt b ≡ false → (is_le (ordering_then s a) && not (is_lt (ordering_then s b))) ≡ (is_eq s && is_le a)
from_key Less a b f = refl
from_key Equal Less Equal f = refl
from_key Equal Less Greater f = refl
from_key Equal Equal Equal f = refl
from_key Equal Equal Greater f = refl
from_key Equal Greater b f = refl
from_key Equal Less Less f = absurd cc
from_key Equal Equal Less f = absurd cc
from_key Greater a b f = refl

-- one that is before it is from the first of the key on and below the point
below_key : (s a b : Ordering) → is_gt a ≡ false → (is_le (ordering_then s a) && not (is_le (ordering_then s b))) ≡ (is_eq s && not (is_le b))
below_key Less a b f = refl
below_key Equal Less b f = refl
below_key Equal Equal b f = refl
below_key Equal Greater b f = absurd cc
below_key Greater a b f = refl

from_range : (key : Id) (p : Addr) (h : Held) → IsBetween h.0.1 → range_contains pair_cmp (Included (key, p)) (Included (key, LAST)) h.0 ≡ (bytes_eq key.0 h.0.0.0 && is_from p h)
from_range key p h b =
    from_key (slice_cmp nat_cmp key.0 h.0.0.0) (address_cmp p h.0.1) (address_cmp LAST h.0.1) b.to_last
    ∙ ap (λ o. o && is_from p h) (is_eq-slice_cmp key.0 h.0.0.0)

below_range : (key : Id) (p : Addr) (h : Held) → IsBetween h.0.1 → range_contains pair_cmp (Included (key, FIRST)) (Excluded (key, p)) h.0 ≡ (bytes_eq key.0 h.0.0.0 && not (is_from p h))
below_range key p h b =
    below_key (slice_cmp nat_cmp key.0 h.0.0.0) (address_cmp FIRST h.0.1) (address_cmp p h.0.1) b.from_first
    ∙ ap (λ o. o && not (is_from p h)) (is_eq-slice_cmp key.0 h.0.0.0)

-- two tests may be made in either order
either : (a b c : Bool) → ((a && b) && c) ≡ ((a && c) && b)
either true true true = refl
either true true false = refl
either true false true = refl
either true false false = refl
either false b c = refl

each_either : (p q r : Held → Bool) (held : List Held) → filter (λ h. (p h && q h) && r h) held ≡ filter (λ h. (p h && r h) && q h) held
each_either p q r held = ap (λ f. filter f held) (λ i h. either (p h) (q h) (r h) i)

-- what is fresh of those of a key of which something holds
fresh_part : (key : Id) (at : ℕ) (q : Held → Bool) (held range : List Held) → range ≡ filter (λ h. bytes_eq key.0 h.0.0.0 && q h) held → fresh range at ≡ filter q (fresh_of held key at)
fresh_part key at q held range is =
    ap (λ l. fresh l at) is
    ∙ filter_twice (λ h. bytes_eq key.0 h.0.0.0 && q h) (is_fresh at) held
    ∙ each_either (λ h. bytes_eq key.0 h.0.0.0) q (is_fresh at) held
    ∙ sym (filter_twice (λ h. bytes_eq key.0 h.0.0.0 && is_fresh at h) q held)

-- what the range from the point on has that is fresh, and the range below it
pub fresh_from : (held range : List Held) (key : Id) (at : ℕ) (p : Addr) → AreBetween held → range ≡ entries_between derived (Included (key, p)) (Included (key, LAST)) held
    → fresh range at ≡ filter (is_from p) (fresh_of held key at)
fresh_from held range key at p all is =
    fresh_part key at (is_from p) held range
    (is ∙ ap (λ (R : Pair → Pair → Ordering). entries_between R (Included (key, p)) (Included (key, LAST)) held) derived_is
    ∙ filter_alike (λ h. range_contains pair_cmp (Included (key, p)) (Included (key, LAST)) h.0) (λ h. bytes_eq key.0 h.0.0.0 && is_from p h) (λ h. IsBetween h.0.1) (from_range key p) held all)

pub fresh_below : (held range : List Held) (key : Id) (at : ℕ) (p : Addr) → AreBetween held → range ≡ entries_between derived (Included (key, FIRST)) (Excluded (key, p)) held
    → fresh range at ≡ filter (λ h. not (is_from p h)) (fresh_of held key at)
fresh_below held range key at p all is =
    fresh_part key at (λ h. not (is_from p h)) held range
    (is ∙ ap (λ (R : Pair → Pair → Ordering). entries_between R (Included (key, FIRST)) (Excluded (key, p)) held) derived_is
    ∙ filter_alike (λ h. range_contains pair_cmp (Included (key, FIRST)) (Excluded (key, p)) h.0) (λ h. bytes_eq key.0 h.0.0.0 && not (is_from p h)) (λ h. IsBetween h.0.1) (below_range key p) held all)

-- the range from the first of a key to the point runs forward
pub forward_below : (key : Id) (p : Addr) → IsBetween p → is_gt (derived (key, FIRST) (key, p)) ≡ false
forward_below key p b =
    ap (λ o. is_gt (ordering_then o (derived_address FIRST p))) (tied_itself nat_list_cmp_total key.0)
    ∙ ap is_gt (address_agrees FIRST p) ∙ b.from_first

-- and so does that from a point of an IPv4 address to the last of the key
pub forward_from : (key : Id) (peers : List Addr) (first : List ℕ) → is_gt (derived (key, point peers first) (key, LAST)) ≡ false
forward_from key peers first = ap (λ o. is_gt (ordering_then o (derived_address (point peers first) LAST))) (tied_itself nat_list_cmp_total key.0)

peers_append : (xs ys : List Held) → peers_of (xs ++ ys) ≡ peers_of xs ++ peers_of ys
peers_append [] ys = refl
peers_append (x ∷ xs) ys = ap (λ l. x.0.1 ∷ l) (peers_append xs ys)

-- of the first so many and what comes after them the first so many are those of all
take_again : (n : ℕ) (xs ys : List Addr) → take n (take n xs ++ ys) ≡ take n (xs ++ ys)
take_again zero xs ys = refl
take_again (suc n) [] ys = refl
take_again (suc n) (x ∷ xs) ys = ap (λ l. x ∷ l) (take_again n xs ys)

-- what both ranges give
pub both : (held : List Held) (key : Id) (at : ℕ) (p : Addr) (from all : List Addr) (up down : List Held)
    → up ≡ filter (is_from p) (fresh_of held key at) → down ≡ filter (λ h. not (is_from p h)) (fresh_of held key at)
    → from ≡ take max_listed (peers_of up) → all ≡ take max_listed (from ++ peers_of down)
    → all ≡ take max_listed (peers_of (around p (fresh_of held key at)))
both held key at p from all up down u d f a =
    a ∙ ap (λ l. take max_listed (l ++ peers_of down)) f
    ∙ take_again max_listed (peers_of up) (peers_of down)
    ∙ ap (take max_listed) (sym (peers_append up down))
    ∙ (λ i. take max_listed (peers_of (u i ++ d i)))

-- where nothing is fresh nothing is drawn
pub none_around : (p : Addr) (l : List Held) → l ≡ [] → take max_listed (peers_of (around p l)) ≡ []
none_around p l e = ap (λ (l : List Held). take max_listed (peers_of (around p l))) e

-- what the first so many are, with those that are there already
pub already : (n : ℕ) (peers xs : List Addr) → length peers ≤ n → peers ++ take (n - length peers) xs ≡ take n (peers ++ xs)
already n peers xs le =
    sym (take-append-add peers xs (n - length peers)) ∙ ap (λ m. take m (peers ++ xs)) (let e : length peers + (n - length peers) ≡ n = omega (arith, le) in e)

-- the first so many aren't more
pub few_taken : (n : ℕ) (xs : List Addr) → length (take n xs) ≤ n
few_taken zero xs = omega arith
few_taken (suc n) [] = omega arith
few_taken (suc n) (x ∷ xs) = let few = few_taken n xs in omega (arith, few)

-- the last of addresses, and the first and last of a range
last_is : (n : ℕ) (peers : List Addr) (a : Addr) → last_number n (peers ++ a ∷ []) ≡ number_of a.ip
last_is n [] a = refl
last_is n (p ∷ peers) a = last_is (number_of p.ip) peers a

pub last_back : (n : ℕ) (held rest : List Held) (e : Held) → held ≡ rest ++ e ∷ [] → last_number n (peers_of held) ≡ number_of e.0.1.ip
last_back n held rest e is =
    ap (λ l. last_number n (peers_of l)) is ∙ ap (last_number n) (peers_append rest (e ∷ [])) ∙ last_is n (peers_of rest) e.0.1
