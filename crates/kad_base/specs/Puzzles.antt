-- The crypto puzzles of S/Kademlia (2007, section 4.1), with SHA-1 (FIPS 180-4) as the hash H.
use Rattle.std.specs.Prelude.{◌≡◌, ℕ, List, Option, Some, None}
use Rattle.sha1.specs.Sha1.{sha1}
use Rattle.kad_base.specs.declared.types.Proof.{Proof}
use Rattle.kad_base.specs.declared.types.Report.{Report}
use Rattle.kad_base.specs.declared.types.Policy.{Policy}
use Rattle.kad_base.specs.declared.types.Policy.TheVariants.{Plain, Puzzled}
use Rattle.kad_base.specs.Bits.{xor_bytes, BeginsWithZeros}

-- H, kept closed so that no proof computes a hash
unfoldable pub hash : List ℕ → List ℕ
hash bytes = sha1 bytes

-- the identifier is the hash of the key, its hash begins with c1 zero bits, and the hash of it XOR X with c2
pub record Solves (c1 c2 : ℕ) (id : List ℕ) (proof : Proof) : Type 0 where
  pub of_key : id ≡ hash proof.key
  pub static_puzzle : BeginsWithZeros c1 (hash id)
  pub dynamic_puzzle : BeginsWithZeros c2 (hash (xor_bytes id proof.x))

abbrev pub SolvesSome : ℕ → ℕ → List ℕ → Option Proof → Type 0
SolvesSome c1 c2 id None = ⊥
SolvesSome c1 c2 id (Some proof) = Solves c1 c2 id proof

-- under Plain each report passes; else one that has a proof, which solves both puzzles
abbrev pub Passes : Policy → Report → Type 0
Passes Plain report = Unit {0}
Passes (Puzzled c1 c2) report = SolvesSome c1 c2 report.contact.id.0 report.proof
