use Rattle.lookup_crowd.proofs.Settled.{all_can, each_some, whole_if_ok, settled_goes}
use Rattle.lookup_crowd.proofs.settle.settle_all.Goals as goal

pub settle_each-requires-clause-can : goal.settle_each-requires-clause-can
settle_each-requires-clause-can g c _ _ = all_can c.args.tables.now c.args.seekers.now c.requires.own c.requires.holds c.requires.policy c.requires.few_paths

pub returns-clause-some : goal.returns-clause-some
returns-clause-some g c = each_some c.args.seekers.now c.settle_each.new.seekers c.settle_each.ensures.len c.settle_each.ensures.each

pub returns-clause-whole : goal.returns-clause-whole
returns-clause-whole g c = whole_if_ok c.answer_of.result c.args.seekers.now c.settle_each.new.seekers c.settle_each.ensures.len c.settle_each.ensures.each c.answer_of.ensures.0

pub returns-clause-goes : goal.returns-clause-goes
returns-clause-goes g c accepts tags server progress words host told =
    settled_goes accepts tags server progress words host told c.args.seekers.now c.settle_each.new.seekers c.requires.holds (each_some c.args.seekers.now c.settle_each.new.seekers c.settle_each.ensures.len c.settle_each.ensures.each)
