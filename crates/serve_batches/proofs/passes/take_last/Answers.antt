use Rattle.std.proofs.Common.{sym, ◌∙◌}
use Rattle.serve_batches.proofs.Dealing.{last_fresh}
use Rattle.serve_batches.proofs.passes.take_last.Goals as goal

pub returns-clause-left : goal.returns-clause-left
returns-clause-left g c = (last_fresh c.args.turn.now c.args.n c.pop.new.self.passes c.in-Some.pass c.requires.some (sym c.requires.fresh ∙ c.in-Some.ensures.list)).front

pub returns-clause-last : goal.returns-clause-last
returns-clause-last g c = (last_fresh c.args.turn.now c.args.n c.pop.new.self.passes c.in-Some.pass c.requires.some (sym c.requires.fresh ∙ c.in-Some.ensures.list)).last
