use Rattle.std.specs.Prelude.{take, map}
use Rattle.contact_table.specs.Told.{limited_table}
use Rattle.lookup_run.specs.Lookup.{TableTold}
use Rattle.command_base.specs.Started.{seen_call}
use Rattle.command_base.proofs.bootstrap.table_of.Given as goal

abbrev pub invariant-loop-contact : goal.invariant-loop-contact
invariant-loop-contact l = TableTold (map seen_call (take l.contact-index l.contacts)) (limited_table l.fn.own l.fn.k l.fn.bits l.fn.per_address) l.table
