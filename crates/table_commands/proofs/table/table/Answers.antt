use Rattle.table_commands.proofs.Tabling.{tabled}
use Rattle.table_commands.proofs.table.table.Goals as goal

pub returns-clause-ok : goal.returns-clause-ok
returns-clause-ok g c =
    tabled c.args.words.now c.args.call.now.random _ c.own_id-id.result c.in_ok-reports.reports c.as_slice.result.now c.in_ok-contacts.contacts c.as_slice-2.result.now c.in_ok-table.table c.in_ok-text_of.field-0
    c.own_id-id.ensures c.in_ok-reports.ensures.ok c.as_slice.ensures c.in_ok-contacts.ensures c.as_slice-2.ensures c.in_ok-table.ensures c.in_ok-text_of.ensures
