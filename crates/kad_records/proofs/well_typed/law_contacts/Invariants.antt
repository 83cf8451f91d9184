use Rattle.std.proofs.Common.{drop}
use Rattle.std.specs.List.{AllByRecursion}
use Rattle.kad_records.specs.Records.{IsWellContact}
use Rattle.kad_records.proofs.well_typed.law_contacts.Given as goal

abbrev pub invariant-loop-contact : goal.invariant-loop-contact
invariant-loop-contact l = AllByRecursion IsWellContact (drop l.contact-index l.contacts) → AllByRecursion IsWellContact l.contacts
