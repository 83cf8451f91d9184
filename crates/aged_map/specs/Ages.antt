-- A map whose values know when they were last renewed, as the list of its entries in order of the keys.
use Rattle.std.specs.Prelude.{ℕ, ◌-◌, nat_lt, Bool, List, filter, IsTrue, ◌≡◌, []}
use Rattle.std.specs.List.{list_any}
use Rattle.std.specs.Map.{keys_of}
use Rattle.std.specs.BTreeMap.{is_at}
use Rattle.std.specs.declared.cmp.Ordering.{Ordering}

-- a value of the key is held
abbrev pub Holds : {K V : Type 0} → (K → K → Ordering) → List (K × V) → K → Type 0
Holds cmp held key = IsTrue (list_any (is_at (cmp key)) (keys_of held))

-- the moment is less than the age before the other. One after that counts as 0 before it.
abbrev pub is_young : ℕ → ℕ → ℕ → Bool
is_young age at moment = nat_lt (at - moment) age

-- what is held after a purge at the moment: all that is younger than the age
abbrev pub purged : {K V : Type 0} → (V → ℕ) → ℕ → ℕ → List (K × V) → List (K × V)
purged moment age at held = filter (λ e. is_young age at (moment e.1)) held

-- nothing that is held is younger than the age
abbrev pub IsNoneFresh : {K V : Type 0} → (V → ℕ) → ℕ → ℕ → List (K × V) → Type 0
IsNoneFresh moment age at held = purged moment age at held ≡ []
