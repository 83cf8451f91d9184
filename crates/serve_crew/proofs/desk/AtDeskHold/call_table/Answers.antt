use Rattle.serve_crew.proofs.desk.AtDeskHold.call_table.Goals as goal

pub call_table-requires-clause-may : goal.call_table-requires-clause-may
call_table-requires-clause-may g c = c.requires.may c.args.self.now.worker.now.table.role
