use Rattle.std.proofs.Common.{rules, not}
use Rattle.std.proofs.lemmas.Fn.{filter_same}
use Rattle.kad_base.specs.Contacts.{same}
use Rattle.bucket_tree.proofs.entries.take_out.Goals as goal

pub returns-clause-items : goal.returns-clause-items
returns-clause-items c = filter_same _ (λ e. not (same c.args.contact.now e.contact)) _ (λ x b f' k. search rules) _ _ c.retain.ensures.filtered
