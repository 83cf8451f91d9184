use Rattle.std.proofs.Common.{sym, ap, ◌∙◌}
use Rattle.bucket_tree.specs.Rows.{same_id}
use Rattle.contact_table.proofs.Newness.{own-old, known-if}
use Rattle.contact_table.proofs.seats.is_new.Goals as goal

pub returns-then-is_own : goal.returns-then-is_own
returns-then-is_own c = (
  λ e. absurd cc,
  λ new. absurd (own-old c.args.buckets.now.own c.args.buckets.now.rows c.args.contact.now
      (ap (same_id c.args.contact.now.id) (sym c.own.ensures) ∙ sym c.is_own.ensures ∙ c.if-is_own.true) new),
)

pub returns : goal.returns
returns c = known-if c.args.buckets.now.own c.args.buckets.now.rows c.args.contact.now c.knows_id.result
    (ap (same_id c.args.contact.now.id) (sym c.own.ensures) ∙ sym c.is_own.ensures ∙ c.if-is_own.false) c.knows_id.ensures
