-- Where the contacts of a path come from (S/Kademlia, 2007, section 4.4: the paths are disjoint, so that hostile nodes which
-- one path meets don't misdirect the others): from its own seeds, and from the answers to its own queries.
use Rattle.std.specs.Prelude.{◌≡◌, ◌⊎◌, ℕ, ◌≤◌, List, [], ◌∷◌, ◌++◌, length, filter, Some, true, Contains}
use Rattle.kad_base.specs.Limits.{max_path_contacts}
use Rattle.kad_base.specs.declared.types.ClaimRule.{ClaimRule}
use Rattle.kad_base.specs.declared.types.ClaimRule.TheVariants.{Named, Asked}
use Rattle.kad_base.specs.declared.types.Contact.{Contact}
use Rattle.kad_base.specs.declared.types.Report.{Report}
use Rattle.kad_base.specs.Contacts.{among, IsUsable}
use Rattle.kad_base.specs.Puzzles.{Passes}
use Rattle.claim_book.specs.declared.types.Setting.{Setting}
use Rattle.claim_book.specs.declared.types.Thing.TheVariants.{Told}
use Rattle.claim_book.specs.declared.types.Entry.{Entry}
use Rattle.claim_book.specs.declared.types.Entry.TheVariants.{Seed, Heard, Taken}
use Rattle.claim_book.specs.Journal.{settles_on, took, path, asked, asked_on, unsettled, first_unsettled}
use Rattle.claim_book.specs.Crowded.{IsCrowded}
use Rattle.claim_book.specs.Legal.{Fits, is_of}

-- The responder named the contact to path p: its answer to that path has a report of it, which passes the policy, and the
-- node may ask the contact.
pub record Names (s : Setting) (J : List Entry) (p : ℕ) (responder c : Contact) : Type 0 where
  pub reports : List Report
  pub answer : Contains J (Heard p responder reports)
  pub report : Report
  pub named : Contains reports report
  pub of_it : report.contact ≡ c
  pub usable : IsUsable s.own c
  pub passes : Passes s.policy report

-- a contact that path p itself had asked named this one to it
pub record Descends (s : Setting) (J : List Entry) (p : ℕ) (c : Contact) : Type 0 where
  pub responder : Contact
  pub asked : among (asked_on p J) responder ≡ true
  pub named : Names s J p responder c

-- Lineage: each contact that a path took descends from an earlier answer to that same path.
unfoldable pub HasLineage : Setting → List Entry → Type 0
HasLineage s J = (before behind : List Entry) (p : ℕ) (c : Contact) → J ≡ before ++ Taken p c ∷ behind → Descends s before p c

-- the list is closed for path p: it has the path's seeds, and whatever its contacts named to that path
pub record Closed (s : Setting) (J : List Entry) (p : ℕ) (H : List Contact) : Type 0 where
  pub seeds : (c : Contact) → Contains J (Seed p c) → among H c ≡ true
  pub named : (responder c : Contact) → among H responder ≡ true → Names s J p responder c → among H c ≡ true

-- path p holds and asks contacts of the list alone
pub record StaysIn (J : List Entry) (p : ℕ) (H : List Contact) : Type 0 where
  pub holds : (c : Contact) → among (path p J) c ≡ true → among H c ≡ true
  pub asks : (c : Contact) → among (asked_on p J) c ≡ true → among H c ≡ true

-- Containment: a path stays in every list that is closed for it, whatever the other paths met.
unfoldable pub IsContained : Setting → List Entry → Type 0
IsContained s J = (p : ℕ) (H : List Contact) → Closed s J p H → StaysIn J p H

-- the entry settles the report on path p, where it stood first
pub record SettlesReport (before : List Entry) (e : Entry) (p : ℕ) (r : Report) : Type 0 where
  pub settles : settles_on p e ≡ true
  pub first : first_unsettled p before ≡ Some (Told r)

-- some path holds the contact against path p
abbrev pub IsHeld : ClaimRule → List Entry → ℕ → Contact → Type 0
IsHeld Named J p c = among (took J) c ≡ true
IsHeld Asked J p c = (among (path p J) c ≡ true) ⊎ (among (asked J) c ≡ true)

-- A report that may be believed is settled otherwise than by taking its contact only where that very contact is held, the path
-- has as many as a path may, or as many of the contact's host.
unfoldable pub TakesUnlessHeld : Setting → List Entry → Type 0
TakesUnlessHeld s J = (before behind : List Entry) (e : Entry) (p : ℕ) (r : Report) → J ≡ before ++ e ∷ behind
    → SettlesReport before e p r → IsUsable s.own r.contact → Passes s.policy r
    → (e ≡ Taken p r.contact) ⊎ IsHeld s.claim before p r.contact ⊎ (length (path p before) ≡ max_path_contacts) ⊎ IsCrowded s before p r.contact

-- So nothing that may be believed is dropped: once a path has settled all that it was told, each contact that was named to it
-- is held, or this path has as many as a path may, or as many of the contact's host.
unfoldable pub DropsNone : Setting → List Entry → Type 0
DropsNone s J = (p : ℕ) (responder c : Contact) → unsettled p J ≡ [] → Names s J p responder c
    → IsHeld s.claim J p c ⊎ (max_path_contacts ≤ length (path p J)) ⊎ IsCrowded s J p c

-- Nothing is taken away by a name: where only an ask is a claim, each contact that was named to path p is on it once the path has
-- settled all that it was told, whatever other paths were told; unless a path asked it, or path p is full or crowded by its host.
unfoldable pub LosesNoneToNames : Setting → List Entry → Type 0
LosesNoneToNames s J = s.claim ≡ Asked → (p : ℕ) (responder c : Contact) → unsettled p J ≡ [] → Names s J p responder c
    → (among (path p J) c ≡ true) ⊎ (among (asked J) c ≡ true) ⊎ (max_path_contacts ≤ length (path p J)) ⊎ IsCrowded s J p c

-- the same happened on path p, and the same contacts were asked by each path
pub record IsAlike (p : ℕ) (J K : List Entry) : Type 0 where
  pub on_path : filter (is_of p) J ≡ filter (is_of p) K
  pub asks : (q : ℕ) → asked_on q J ≡ asked_on q K
  pub asked : asked J ≡ asked K

-- what settles on path p goes by its own entries and by who was asked, and by nothing that other paths were told or took
unfoldable pub SettlesByAsks : Setting → Type 0
SettlesByAsks s = s.claim ≡ Asked → (J K : List Entry) (e : Entry) (p : ℕ) → IsAlike p J K → settles_on p e ≡ true → Fits s J e → Fits s K e

-- Each path goes by its own seeds and answers: what disjoint paths are for.
pub record GoesByOwnAnswers (s : Setting) (J : List Entry) : Type 0 where
  pub lineage : HasLineage s J
  pub contained : IsContained s J
  pub taken_unless_held : TakesUnlessHeld s J
  pub none_dropped : DropsNone s J
  pub none_lost : LosesNoneToNames s J
