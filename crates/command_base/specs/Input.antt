-- What was read of an input, and the contacts that it gives.
use Rattle.std.specs.Prelude.{◌≡◌, ◌≢◌, ◌⊎◌, ℕ, ◌+◌, ◌≤◌, List, [], ◌∷◌, ◌++◌, length, true, Option, Some, None, IfSome}
use Rattle.kad_base.specs.declared.types.Id.{Id}
use Rattle.kad_base.specs.declared.types.Contact.{Contact}
use Rattle.kad_base.specs.declared.types.Report.{Report}
use Rattle.kad_base.specs.declared.types.Policy.{Policy}
use Rattle.kad_base.specs.declared.types.Family.{Family}
use Rattle.kad_base.specs.Contacts.{IsUsable, of_family}
use Rattle.kad_base.specs.Limits.{max_input}
use Rattle.kad_base.specs.Puzzles.{Passes}
use Rattle.kad_text.specs.Lines.{lines, Reporting, IsFirstBad}
use Rattle.command_base.specs.Shown.{Shown, IsTold, HasFailed}

-- where the rest is told, nothing is left, and these bytes were read, which are no more than an input may have
abbrev pub ReadsAll : Option (List ℕ) → Option (List ℕ) → List ℕ → Type 0
ReadsAll old new input = IfSome new (λ rest. (rest ≡ []) × (old ≡ Some input) × (length input ≤ max_input))

-- where the rest is told, no more was read than an input may have
abbrev pub ReadsFew : Option (List ℕ) → Option (List ℕ) → Type 0
ReadsFew old new = IfSome new (λ rest. (front : List ℕ) × (length front ≤ max_input) × (old ≡ Some (front ++ rest)))

-- where the rest is told, one byte more was read than an input may have
abbrev pub ReadsTooMuch : Option (List ℕ) → Option (List ℕ) → Type 0
ReadsTooMuch old new = IfSome new (λ rest. (front : List ℕ) × (length front ≡ max_input + 1) × (old ≡ Some (front ++ rest)))

-- where the rest is told, no more was read than that
abbrev pub ReadsAtMost : Option (List ℕ) → Option (List ℕ) → Type 0
ReadsAtMost old new = IfSome new (λ rest. (front : List ℕ) × (length front ≤ max_input + 1) × (old ≡ Some (front ++ rest)))

-- the report's contact may begin a lookup in this network: it is usable, of the network, and passes
abbrev pub IsAdmitted : Id → Family → Policy → Report → Type 0
IsAdmitted own family policy report = IsUsable own report.contact × (of_family family report.contact.addr.ip ≡ true) × Passes policy report

-- these are the contacts of the reports that are admitted, in order
abbrev pub Admits : Id → Family → Policy → List Report → List Contact → Type 0
Admits own family policy [] contacts = contacts ≡ []
Admits own family policy (r ∷ reports) contacts =
    ((rest : List Contact) × (contacts ≡ r.contact ∷ rest) × IsAdmitted own family policy r × Admits own family policy reports rest)
    ⊎ (¬ IsAdmitted own family policy r × Admits own family policy reports contacts)

-- one report more: its contact is taken, where it is admitted
abbrev pub AdmitsOne : Id → Family → Policy → Report → List Contact → List Contact → Type 0
AdmitsOne own family policy r old new = (IsAdmitted own family policy r × (new ≡ old ++ r.contact ∷ [])) ⊎ (¬ IsAdmitted own family policy r × (new ≡ old))

-- the report's contact may be told to a table, and the report has a proof
abbrev pub IsKept : Id → Family → Policy → Report → Type 0
IsKept own family policy report = (report.proof ≢ None) × IsAdmitted own family policy report

-- these are the reports that have a proof and whose contacts are admitted, in order
abbrev pub Keeps : Id → Family → Policy → List Report → List Report → Type 0
Keeps own family policy [] kept = kept ≡ []
Keeps own family policy (r ∷ reports) kept =
    ((rest : List Report) × (kept ≡ r ∷ rest) × IsKept own family policy r × Keeps own family policy reports rest)
    ⊎ (¬ IsKept own family policy r × Keeps own family policy reports kept)

-- one report more: it is kept, or it is none of them
abbrev pub KeepsOne : Id → Family → Policy → Report → List Report → List Report → Type 0
KeepsOne own family policy r old new = (IsKept own family policy r × (new ≡ old ++ r ∷ [])) ⊎ (¬ IsKept own family policy r × (new ≡ old))

-- the input was read to its end, each of its lines is good, and these are the reports of its contact lines, in order
pub record Lists (source : Shown ℕ) (reports : List Report) : Type 0 where
  pub input : List ℕ
  pub read : ReadsAll source.before source.after input
  pub good_lines : Reporting (lines input) reports

-- each line of an input of contact lines is good
abbrev pub AreGoodLines : List ℕ → Type 0
AreGoodLines input = (reports : List Report) × Reporting (lines input) reports

-- the line of this number is the first of them that isn't
abbrev pub IsBadContactLine : List ℕ → ℕ → Type 0
IsBadContactLine input number = IsFirstBad (lines input) number

-- the input was read to its end, and it is good in this sense
pub record ReadsAs (good : List ℕ → Type 0) (source : Shown ℕ) : Type 0 where
  pub input : List ℕ
  pub read : ReadsAll source.before source.after input
  pub is_good : good input

pub record IsGood (source : Shown ℕ) : Type 0 where
  pub reports : List Report
  pub lists : Lists source reports

-- the input was read to its end, each of its lines is good, and a node with this identifier, network and policy admits
-- these contacts of it
pub record Reads (own : Id) (family : Family) (policy : Policy) (source : Shown ℕ) (contacts : List Contact) : Type 0 where
  pub input : List ℕ
  pub read : ReadsAll source.before source.after input
  pub reports : List Report
  pub good_lines : Reporting (lines input) reports
  pub admits : Admits own family policy reports contacts

-- the same, and some contact is among them
pub record ReadsSome (own : Id) (family : Family) (policy : Policy) (source : Shown ℕ) : Type 0 where
  pub contacts : List Contact
  pub reads : Reads own family policy source contacts
  pub some_one : contacts ≢ []

-- the input was read to its end, and the line of this number is bad in this sense
pub record IsBadLine (bad : List ℕ → ℕ → Type 0) (source : Shown ℕ) (number : ℕ) : Type 0 where
  pub input : List ℕ
  pub read : ReadsAll source.before source.after input
  pub is_bad : bad input number

-- the input was read to its end without a failure, and each of its lines is good
pub record ReadsWell (source : Shown ℕ) : Type 0 where
  pub told : IsTold source
  pub reads : ¬ HasFailed source
  pub reports : List Report
  pub lists : Lists source reports
