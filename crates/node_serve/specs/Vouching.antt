-- Whether a proof solves a node's puzzles, as a test, so that the calls of a query are computed from what the node answers by,
-- the query and the moment. A law (`who_is_taken`) says that it is the rule of the puzzles (S/Kademlia, 2007, section 4.1).
use Rattle.std.specs.Prelude.{ℕ, ◌-◌, ◌*◌, ◌^◌, Bool, ◌&&◌, nat_lt, List, length}
use Rattle.std.specs.Str.{bytes_eq}
use Rattle.kad_base.specs.declared.types.Proof.{Proof}
use Rattle.kad_base.specs.Bits.{number_of, xor_bytes}
use Rattle.kad_base.specs.Puzzles.{hash}

-- the bytes begin with that many zero bits
unfoldable pub begins_with_zeros : ℕ → List ℕ → Bool
begins_with_zeros bits bytes = nat_lt (number_of bytes) (2 ^ (8 * length bytes - bits))

-- the proof solves both puzzles for the identifier
unfoldable pub solves_both : ℕ → ℕ → List ℕ → Proof → Bool
solves_both c1 c2 id proof =
    bytes_eq id (hash proof.key) && (begins_with_zeros c1 (hash id) && begins_with_zeros c2 (hash (xor_bytes id proof.x)))
