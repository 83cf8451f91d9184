-- Which entry may follow a journal.
use Rattle.std.specs.Prelude.{◌≡◌, ◌⊎◌, ℕ, ◌+◌, ◌%◌, ◌<◌, ◌≤◌, List, [], ◌∷◌, ◌++◌, length, Some, Bool, true, false, ◌==◌, ◌||◌, nat_lt, if◌then◌else◌}
use Rattle.std.specs.List.Sorted.{IsStrictlySortedBy}
use Rattle.kad_base.specs.Limits.{max_path_contacts, max_reports}
use Rattle.kad_base.specs.declared.types.ClaimRule.{ClaimRule}
use Rattle.kad_base.specs.declared.types.ClaimRule.TheVariants.{Named, Asked}
use Rattle.kad_base.specs.declared.types.Contact.{Contact}
use Rattle.kad_base.specs.declared.types.Report.{Report}
use Rattle.kad_base.specs.Contacts.{among, IsUsable}
use Rattle.kad_base.specs.Puzzles.{Passes}
use Rattle.kad_distance.specs.Order.{closeness}
use Rattle.claim_book.specs.declared.types.Setting.{Setting}
use Rattle.claim_book.specs.declared.types.Thing.TheVariants.{Responder, Told}
use Rattle.claim_book.specs.declared.types.Entry.{Entry}
use Rattle.claim_book.specs.declared.types.Entry.TheVariants.{Seed, Ask, Heard, Lost, Note, Taken, Held, Turned, Rejected, Skipped}
use Rattle.claim_book.specs.Journal.{seeds, took, path, asked, asked_on, open_on, first_unsettled, may_ask}
use Rattle.kad_base.specs.Hosts.{host}
use Rattle.claim_book.specs.Crowded.{crowd, IsCrowded}

-- the seeds stand first, dealt to the paths in turn (S/Kademlia, 2007, section 4.4): few, usable, nearest first, and none on a
-- path that its host crowds, whose turn passes without a seed
pub record SeedFits (s : Setting) (J : List Entry) (q : ℕ) (c : Contact) : Type 0 where
  pub first : length (seeds J) ≡ length J
  pub few : length J < s.k
  pub is_path : q < s.paths
  pub turn : s.per_address ≡ 0 → q ≡ length J % s.paths
  pub usable : IsUsable s.own c
  pub in_order : IsStrictlySortedBy (closeness s.target) (took J ++ c ∷ [])
  pub free : ¬ IsCrowded s J q c

-- Path q holds the contact against path p that is told of it. Where a name is a claim, the path that has it does. Where only an
-- ask is one, path p does that has it already, and else the path that asked it.
abbrev pub IsHeldBy : ClaimRule → List Entry → ℕ → Contact → ℕ → Type 0
IsHeldBy Named J p c q = among (path q J) c ≡ true
IsHeldBy Asked J p c q = (q ≡ p × (among (path p J) c ≡ true)) ⊎ ((among (path p J) c ≡ false) × (among (asked_on q J) c ≡ true))

-- no path holds the contact against path p
abbrev pub IsFree : ClaimRule → List Entry → ℕ → Contact → Type 0
IsFree Named J p c = among (took J) c ≡ false
IsFree Asked J p c = (among (path p J) c ≡ false) × (among (asked J) c ≡ false)

-- the contact is that of the first unsettled thing of the path, a report that is usable and passes
pub record Believed (s : Setting) (J : List Entry) (q : ℕ) (c : Contact) : Type 0 where
  pub report : Report
  pub contact : report.contact ≡ c
  pub first : first_unsettled q J ≡ Some (Told report)
  pub usable : IsUsable s.own c
  pub passes : Passes s.policy report

-- the entry may follow J
abbrev pub Fits : Setting → List Entry → Entry → Type 0
Fits s J (Seed q c) = SeedFits s J q c
Fits s J (Ask q c) = may_ask s q J ≡ Some c
Fits s J (Heard q c reports) = (among (open_on q J) c ≡ true) × (length reports ≤ max_reports)
Fits s J (Lost q c cause) = among (open_on q J) c ≡ true
Fits s J (Note q c) = first_unsettled q J ≡ Some (Responder c)
Fits s J (Skipped q r) = (first_unsettled q J ≡ Some (Told r)) × ¬ IsUsable s.own r.contact
Fits s J (Rejected q r) = (first_unsettled q J ≡ Some (Told r)) × IsUsable s.own r.contact × ¬ Passes s.policy r
Fits s J (Held q c by) = Believed s J q c × IsHeldBy s.claim J q c by
Fits s J (Turned q c) = Believed s J q c × IsFree s.claim J q c × ((length (path q J) ≡ max_path_contacts) ⊎ IsCrowded s J q c)
Fits s J (Taken q c) = Believed s J q c × IsFree s.claim J q c × (length (path q J) < max_path_contacts) × ¬ IsCrowded s J q c

-- each of the entries may follow those before it
abbrev pub LegalAfter : Setting → List Entry → List Entry → Type 0
LegalAfter s J [] = Unit {0}
LegalAfter s J (e ∷ es) = Fits s J e × LegalAfter s (J ++ e ∷ []) es

-- a journal each of whose entries may follow those before it
unfoldable pub Legal : Setting → List Entry → Type 0
Legal s J = LegalAfter s [] J

-- the contacts from rank i on as seeds, each on its path
abbrev pub dealt_from : ℕ → ℕ → List Contact → List Entry
dealt_from paths i [] = []
dealt_from paths i (c ∷ cs) = Seed (i % paths) c ∷ dealt_from paths (i + 1) cs

-- the contacts dealt to the paths: that of rank i to path i mod the paths
abbrev pub dealt : ℕ → List Contact → List Entry
dealt paths cs = dealt_from paths 0 cs

-- A seed stays where there is no limit, or fewer than so many of those that its path was dealt before it have its host.
abbrev pub stays : ℕ → List Entry → Entry → Bool
stays limit before (Seed q c) = (limit == 0) || nat_lt (crowd q (host c.addr) before) limit
stays limit before other = true

-- those of the entries that stay, where the ones before them were dealt first
abbrev pub staying : ℕ → List Entry → List Entry → List Entry
staying limit before [] = []
staying limit before (e ∷ es) = (if stays limit before e then e ∷ [] else []) ++ staying limit (before ++ e ∷ []) es

-- the journal of a lookup that begins with these contacts: of those that a path is dealt, the first of each host, as many as
-- the limit says
abbrev pub seeded : ℕ → ℕ → List Contact → List Entry
seeded limit paths cs = staying limit [] (dealt paths cs)

-- the entry is of path p
abbrev pub is_of : ℕ → Entry → Bool
is_of p (Seed q c) = q == p
is_of p (Ask q c) = q == p
is_of p (Heard q c reports) = q == p
is_of p (Lost q c cause) = q == p
is_of p (Note q c) = q == p
is_of p (Taken q c) = q == p
is_of p (Held q c by) = q == p
is_of p (Turned q c) = q == p
is_of p (Rejected q r) = q == p
is_of p (Skipped q r) = q == p

-- the entry is a seed
abbrev pub IsSeed : Entry → Type 0
IsSeed (Seed q c) = Unit {0}
IsSeed other = ⊥
