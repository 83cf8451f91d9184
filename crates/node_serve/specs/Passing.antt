-- That a proof which a table keeps beside a contact shows, at a node's own numbers, that the contact's identifier was made
-- (S/Kademlia, Baumgart and Mies, 2007, section 4.1).
use Rattle.std.specs.Prelude.{List, Some}
use Rattle.std.specs.List.{All}
use Rattle.kad_base.specs.declared.types.Contact.{Contact}
use Rattle.kad_base.specs.declared.types.Policy.{Policy}
use Rattle.kad_base.specs.declared.types.Proof.{Proof}
use Rattle.kad_base.specs.Puzzles.{Passes}

abbrev pub PassesBeside : Policy → Contact × Proof → Type 0
PassesBeside policy e = Passes policy (record { contact = e.0; proof = Some e.1 })

-- each of them does
abbrev pub AllPass : Policy → List (Contact × Proof) → Type 0
AllPass policy proofs = All (PassesBeside policy) proofs
