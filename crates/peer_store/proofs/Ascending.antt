-- The peers of a key ascend.
use Rattle.std.proofs.Common.{◌≡◌, ℕ, zero, suc, Bool, true, false, ◌&&◌, cond, List, [], ◌∷◌, take, refl, sym, ap, ◌∙◌}
use Rattle.std.specs.List.{AllByRecursion}
use Rattle.std.specs.List.Sorted.{IsStrictlySortedBy}
use Rattle.std.specs.Map.{keys_of}
use Rattle.std.specs.Ordering.{ordering_then, nat_cmp}
use Rattle.std.specs.Str.{bytes_eq}
use Rattle.std.specs.Cmp.Lexicographic.{slice_cmp}
use Rattle.std.specs.declared.cmp.Ordering.TheVariants.{Less, Equal}
use Rattle.std.proofs.lemmas.Bool.{and_parts}
use Rattle.std.proofs.lemmas.Cmp.{nat_list_cmp_total, tied_itself}
use Rattle.std.proofs.lemmas.Slice.Eq.{bytes_eq-Decides}
use Rattle.kad_base.specs.declared.types.Id.{Id}
use Rattle.kad_base.specs.declared.types.Addr.{Addr}
use Rattle.peer_store.specs.Peers.{Pair, Held, is_fresh, peers_of, fresh_of, address_cmp, pair_cmp}

-- of two pairs of one key the address decides
less_address : (key : Id) (p q : Pair) → bytes_eq key.0 p.0.0 ≡ true → bytes_eq key.0 q.0.0 ≡ true → pair_cmp p q ≡ Less → address_cmp p.1 q.1 ≡ Less
less_address key p q of_p of_q less =
    let same : p.0.0 ≡ q.0.0 = sym ((bytes_eq-Decides key.0 p.0.0).0 of_p) ∙ (bytes_eq-Decides key.0 q.0.0).0 of_q in
    let tie : slice_cmp nat_cmp p.0.0 q.0.0 ≡ Equal = ap (λ (l : List ℕ). slice_cmp nat_cmp p.0.0 l) (sym same) ∙ tied_itself nat_list_cmp_total p.0.0 in
    sym (ap (λ o. ordering_then o (address_cmp p.1 q.1)) tie) ∙ less

below_peers : (key : Id) (at : ℕ) (p : Pair) (held : List Held) → bytes_eq key.0 p.0.0 ≡ true → AllByRecursion (λ q. pair_cmp p q ≡ Less) (keys_of held)
    → AllByRecursion (λ a. address_cmp p.1 a ≡ Less) (peers_of (fresh_of held key at))
below_peers key at p [] of_p all = tt
below_peers key at p (h ∷ held) of_p all =
    by (bytes_eq key.0 h.0.0.0 && is_fresh at h)
    (λ e. less_address key p h.0 of_p (and_parts (bytes_eq key.0 h.0.0.0) (is_fresh at h) e).0 all.0) (below_peers key at p held of_p all.1)
  where
    by : (b : Bool) → (b ≡ true → address_cmp p.1 h.0.1 ≡ Less) → AllByRecursion (λ a. address_cmp p.1 a ≡ Less) (peers_of (fresh_of held key at))
        → AllByRecursion (λ a. address_cmp p.1 a ≡ Less) (peers_of (cond b (h ∷ fresh_of held key at) (fresh_of held key at)))
    by true here rest = (here refl, rest)
    by false here rest = rest

peers_ascend : (key : Id) (at : ℕ) (held : List Held) → IsStrictlySortedBy pair_cmp (keys_of held) → IsStrictlySortedBy address_cmp (peers_of (fresh_of held key at))
unfolding IsStrictlySortedBy
peers_ascend key at [] sorted = tt
peers_ascend key at (h ∷ held) sorted =
    by (bytes_eq key.0 h.0.0.0 && is_fresh at h)
    (λ e. below_peers key at h.0 held (and_parts (bytes_eq key.0 h.0.0.0) (is_fresh at h) e).0 sorted.0) (peers_ascend key at held sorted.1)
  where
    by : (b : Bool) → (b ≡ true → AllByRecursion (λ a. address_cmp h.0.1 a ≡ Less) (peers_of (fresh_of held key at)))
        → IsStrictlySortedBy address_cmp (peers_of (fresh_of held key at))
        → IsStrictlySortedBy address_cmp (peers_of (cond b (h ∷ fresh_of held key at) (fresh_of held key at)))
    by true here rest = (here refl, rest)
    by false here rest = rest

all_take : (P : Addr → Type 0) (n : ℕ) (peers : List Addr) → AllByRecursion P peers → AllByRecursion P (take n peers)
all_take P zero peers all = tt
all_take P (suc n) [] all = tt
all_take P (suc n) (p ∷ peers) all = (all.0, all_take P n peers all.1)

take_ascends : (n : ℕ) (peers : List Addr) → IsStrictlySortedBy address_cmp peers → IsStrictlySortedBy address_cmp (take n peers)
unfolding IsStrictlySortedBy
take_ascends zero peers sorted = tt
take_ascends (suc n) [] sorted = tt
take_ascends (suc n) (p ∷ peers) sorted = (all_take (λ a. address_cmp p a ≡ Less) n peers sorted.0, take_ascends n peers sorted.1)

pub listed_ascend : (key : Id) (at : ℕ) (held : List Held) → IsStrictlySortedBy pair_cmp (keys_of held)
    → IsStrictlySortedBy address_cmp (take 50 (peers_of (fresh_of held key at)))
listed_ascend key at held sorted = take_ascends 50 (peers_of (fresh_of held key at)) (peers_ascend key at held sorted)
