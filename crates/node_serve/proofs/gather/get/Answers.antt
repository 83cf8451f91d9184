use Rattle.node_serve.proofs.gather.get.Goals as goal

pub returns-in-Held-clause-item : goal.returns-in-Held-clause-item
returns-in-Held-clause-item g c = c.in-Held.ensures.step.2.1
