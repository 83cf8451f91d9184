use Rattle.std.proofs.Common.{sym, ◌∙◌}
use Rattle.bucket_tree.proofs.Distinct.{distinct-once, once-distinct}
use Rattle.bucket_tree.proofs.sound.is_once.Goals as goal

pub returns : goal.returns
returns c = (λ e. distinct-once c.args.contacts.now (sym c.are_distinct.ensures ∙ e), λ f. c.are_distinct.ensures ∙ once-distinct c.args.contacts.now f)
