-- The k closest of a list (Kademlia, 2002, section 2.3), by counting who is closer.
use Rattle.std.specs.Prelude.{ℕ, zero, suc, List, [], ◌∷◌, Bool, true, not, length, filter, fold, nat_lt}
use Rattle.std.specs.Ordering.{is_lt, is_eq}
use Rattle.std.specs.declared.cmp.Ordering.{Ordering}
use Rattle.std.specs.declared.cmp.Ordering.TheVariants.{Less, Equal, Greater}
use Rattle.kad_base.specs.declared.types.Id.{Id}
use Rattle.kad_base.specs.declared.types.Contact.{Contact}
use Rattle.kad_distance.specs.Order.{closeness}

-- one of three
abbrev pub by_ordering : {A : Type 0} → Ordering → A → A → A → A
by_ordering Less a b c = a
by_ordering Equal a b c = b
by_ordering Greater a b c = c

-- x in its place among ys, if it isn't there
abbrev pub put : {K : Type 0} → (K → K → Ordering) → List K → K → List K
put R [] x = x ∷ []
put R (y ∷ ys) x = by_ordering (R y x) (y ∷ put R ys x) (y ∷ ys) (x ∷ y ∷ ys)

-- the different members of S, each once, in order
abbrev pub each_once : {K : Type 0} → (K → K → Ordering) → List K → List K
each_once R S = fold (put R) [] S

-- how many different members of S are below x
abbrev pub count_below : {K : Type 0} → (K → K → Ordering) → List K → K → ℕ
count_below R S x = length (filter (λ y. is_lt (R y x)) (each_once R S))

-- the members of S such that fewer than k different members of S are below, each once, in order
unfoldable pub least : {K : Type 0} → (K → K → Ordering) → ℕ → List K → List K
least R k S = filter (λ x. nat_lt (count_below R S x) k) (each_once R S)

-- the contacts of S with fewer than k different others of S closer to the target, each once, nearest first
abbrev pub k_closest : Id → ℕ → List Contact → List Contact
k_closest target k S = least (closeness target) k S

-- how many at the front are below x
abbrev pub place_in : {K : Type 0} → (K → K → Ordering) → List K → K → ℕ
place_in R [] x = 0
place_in R (y ∷ ys) x = by_ordering (R y x) (suc (place_in R ys x)) 0 0

-- x isn't the one at this place
abbrev pub new_at : {K : Type 0} → (K → K → Ordering) → List K → ℕ → K → Bool
new_at R [] n x = true
new_at R (y ∷ ys) zero x = not (is_eq (R y x))
new_at R (y ∷ ys) (suc n) x = new_at R ys n x
