-- Places of things that are dealt, as the code has them: whose it is, and the how many-th of its holder.
use Rattle.std.specs.Prelude.{ℕ, zero, suc, ◌+◌, ◌==◌, nat_lt, cond, List, map, slice_index_or}
use Rattle.std.specs.List.{range_with_len}
use Rattle.serve_batches.specs.declared.place.Place.{Place}

abbrev pub place : ℕ → ℕ → Place
place holder round = record { holder = holder; round = round }

-- the place behind this one, of n holders in a ring
abbrev pub behind : ℕ → Place → Place
behind n p = cond (p.holder + 1 == n) (place 0 (p.round + 1)) (place (p.holder + 1) p.round)

-- the place of the j-th thing
abbrev pub ring : ℕ → ℕ → Place
ring n zero = place 0 0
ring n (suc j) = behind n (ring n j)

-- how many things holder w has, where the next one would go to this place
abbrev pub share : Place → ℕ → ℕ
share p w = p.round + cond (nat_lt w p.holder) 1 0

-- the thing at a place, of a list for each holder
abbrev pub item_at : {A : Type 0} → A → (ℕ → List A) → Place → A
item_at none f p = slice_index_or (f p.holder) p.round none

-- the first m things, in the order in which they were dealt
abbrev pub in_order : {A : Type 0} → ℕ → A → (ℕ → List A) → ℕ → List A
in_order n none f m = map (λ j. item_at none f (ring n j)) (range_with_len 0 m)
