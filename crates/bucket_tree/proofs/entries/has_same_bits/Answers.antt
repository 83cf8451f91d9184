use Rattle.std.proofs.Common.{arith, rules, ◌∙◌}
use Rattle.bucket_tree.proofs.Ids.{same_bits-id}
use Rattle.bucket_tree.proofs.entries.has_same_bits.Goals as goal

pub returns-clause-bits : goal.returns-clause-bits
returns-clause-bits c = λ e. c.is_same_id.ensures ∙ same_bits-id c.args.a.now c.args.b.now (omega arith) (omega arith) (λ i. search rules) (λ i. search rules) e
