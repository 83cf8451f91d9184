-- The proofs that a table keeps beside its contacts. A node shows by a proof that its identifier was made and not chosen
-- (S/Kademlia, Baumgart and Mies, 2007, section 4.1). That a table keeps the first that a contact showed, and as long as it
-- holds the contact, is this project's own.
use Rattle.std.specs.Prelude.{◌≢◌, List, map, filter, cond, Option}
use Rattle.std.specs.Option.{is_some}
use Rattle.std.specs.List.{All, Contains}
use Rattle.std.specs.Map.{lookup}
use Rattle.std.specs.BTreeMap.{insert_entry}
use Rattle.kad_base.specs.declared.types.Contact.{Contact}
use Rattle.kad_base.specs.declared.types.Proof.{Proof}
use Rattle.kad_base.specs.declared.types.Report.{Report}
use Rattle.kad_base.specs.Contacts.{contact_cmp, same, among}

-- contacts in ascending order, each with its proof
abbrev pub Proofs : Type 0
Proofs = List (Contact × Proof)

-- the proof of a contact, if there is one
abbrev pub proof_beside : Proofs → Contact → Option Proof
proof_beside proofs c = lookup (same c) proofs

-- a contact showed a proof: the first that it showed stays
abbrev pub noted : Contact → Proof → Proofs → Proofs
noted c proof proofs = cond (is_some (proof_beside proofs c)) proofs (insert_entry contact_cmp proofs c proof)

-- the proofs of those contacts that are held
abbrev pub of_held : List Contact → Proofs → Proofs
of_held held proofs = filter (λ (e : Contact × Proof). among held e.0) proofs

-- a contact as an answer names it: with its proof, if there is one
abbrev pub report_of : Proofs → Contact → Report
report_of proofs c = record { contact = c; proof = proof_beside proofs c }

abbrev pub reports_of : Proofs → List Contact → List Report
reports_of proofs contacts = map (report_of proofs) contacts

-- a list has no contact that another hasn't, but this one
abbrev pub NoneElse : List Contact → Contact → List Contact → Type 0
NoneElse held c after = All (λ (x : Contact). x ≢ c → Contains held x) after
