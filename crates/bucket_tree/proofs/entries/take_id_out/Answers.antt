use Rattle.std.proofs.Common.{rules, not}
use Rattle.std.proofs.lemmas.Fn.{filter_same}
use Rattle.bucket_tree.specs.Rows.{same_id}
use Rattle.bucket_tree.proofs.entries.take_id_out.Goals as goal

pub returns-clause-items : goal.returns-clause-items
returns-clause-items c = filter_same _ (λ x. not (same_id x.id c.args.id.now)) _ (λ x b f' k. search rules) _ _ c.retain.ensures.filtered
