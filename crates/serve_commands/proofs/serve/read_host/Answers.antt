use Rattle.serve_commands.proofs.Serving.{hosted}
use Rattle.serve_commands.proofs.serve.read_host.Goals as goal

pub returns-clause-ok : goal.returns-clause-ok
returns-clause-ok g c =
    hosted c.args.service.now c.args.call.now.random _ c.args.own c.in_ok-reports.reports c.as_slice-read.result.now c.in_ok-contacts.contacts c.as_slice.result.now c.in_ok-proofs.proofs c.in_ok-table.table
    c.requires.own c.in_ok-reports.ensures.ok c.as_slice-read.ensures c.in_ok-contacts.ensures c.in_ok-proofs.ensures c.as_slice.ensures c.in_ok-table.ensures
