use Rattle.serve_crew.proofs.desk.AtDeskHold.call_items.Goals as goal

pub call_items-requires-clause-may : goal.call_items-requires-clause-may
call_items-requires-clause-may g c = c.requires.may c.args.self.now.worker.now.items.role
