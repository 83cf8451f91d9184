use Rattle.serve_crew.proofs.worker.ServeWorker.lost.Goals as goal

pub returns-clause-tells : goal.returns-clause-tells
returns-clause-tells g c = record { reply = c.call_table.result; grew = c.call_table.ensures.does.1 }
