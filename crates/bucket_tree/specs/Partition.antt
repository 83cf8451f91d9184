-- Prefixes of identifiers as lists of bits, the highest first (Kademlia, 2002, section 2.4), and when they share out all
-- identifiers.
use Rattle.std.specs.Prelude.{◌≡◌, ℕ, zero, suc, ◌+◌, ◌-◌, ◌/◌, ◌%◌, Bool, true, false, cond, ◌&&◌, ◌==◌, List, [], ◌∷◌, get_or}
use Rattle.std.specs.Int.{bit_at}
use Rattle.kad_base.specs.declared.types.Id.{Id}

-- the bit at a place of some bytes, the highest bit first
abbrev pub bit : List ℕ → ℕ → Bool
bit bytes i = bit_at (get_or bytes (i / 8) 0) (7 - i % 8) == 1

-- n bits of some bytes, from place i on
unfoldable pub bits_from : ℕ → ℕ → List ℕ → List Bool
bits_from zero i bytes = []
bits_from (suc n) i bytes = bit bytes i ∷ bits_from n (i + 1) bytes

-- the 160 bits of an identifier
unfoldable pub id_bits : Id → List Bool
id_bits id = bits_from 160 0 id.0

-- two bits are one
abbrev pub same_bit : Bool → Bool → Bool
same_bit true b = b
same_bit false b = cond b false true

-- a prefix begins these bits
abbrev pub begins : List Bool → List Bool → Bool
begins [] w = true
begins (x ∷ p) [] = false
begins (x ∷ p) (y ∷ w) = same_bit x y && begins p w

-- the members that begin with a bit, each without it
abbrev pub after_bit : Bool → List (List Bool) → List (List Bool)
after_bit b [] = []
after_bit b ([] ∷ P) = after_bit b P
after_bit b ((x ∷ p) ∷ P) = cond (same_bit x b) (p ∷ after_bit b P) (after_bit b P)

-- none of the prefixes is empty
abbrev pub NoneEmpty : List (List Bool) → Type 0
NoneEmpty [] = Unit {0}
NoneEmpty ([] ∷ P) = ⊥
NoneEmpty ((x ∷ p) ∷ P) = NoneEmpty P

-- the empty prefix alone is a partition; and so are prefixes, none of them empty, of which those that begin with 0 and
-- those that begin with 1, each without that bit, are each one
pub data Partition : List (List Bool) → Type 0 where
  whole : Partition ([] ∷ [])
  halves : {P : List (List Bool)} → NoneEmpty P → Partition (after_bit false P) → Partition (after_bit true P) → Partition P

-- where the two first differ, the first has a 0
abbrev pub is_before : List Bool → List Bool → Bool
is_before [] q = false
is_before (x ∷ p) [] = false
is_before (x ∷ p) (y ∷ q) = cond x (y && is_before p q) (cond y true (is_before p q))

-- each member is before those after it
abbrev pub BeforeAll : List Bool → List (List Bool) → Type 0
BeforeAll p [] = Unit {0}
BeforeAll p (q ∷ P) = (is_before p q ≡ true) × BeforeAll p P

-- the prefixes stand in the order of the identifiers that they cover
abbrev pub Ascending : List (List Bool) → Type 0
Ascending [] = Unit {0}
Ascending (p ∷ P) = BeforeAll p P × Ascending P
