use Rattle.std.proofs.Common.{◌∙◌}
use Rattle.look_many.proofs.Seating.{few_seeds, ordered_seeds, all_usable}
use Rattle.look_many.proofs.opening.open_book.Goals as goal

pub new-requires-clause-few : goal.new-requires-clause-few
new-requires-clause-few c = few_seeds c.args.server.now c.args.setting.now c.args.table.now c.args.job.now c.as_slice.result.now c.setting_of.result (c.as_slice.ensures ∙ c.in_ok-seeds.ensures.seeds) c.setting_of.ensures

pub new-requires-clause-in_order : goal.new-requires-clause-in_order
new-requires-clause-in_order c = ordered_seeds c.args.server.now c.args.setting.now c.args.table.now c.args.job.now c.as_slice.result.now c.setting_of.result (c.as_slice.ensures ∙ c.in_ok-seeds.ensures.seeds) c.setting_of.ensures

pub new-requires-clause-usable : goal.new-requires-clause-usable
new-requires-clause-usable c = all_usable c.args.server.now c.args.setting.now c.args.table.now c.args.job.now c.as_slice.result.now c.setting_of.result c.requires.usable (c.as_slice.ensures ∙ c.in_ok-seeds.ensures.seeds) c.setting_of.ensures
