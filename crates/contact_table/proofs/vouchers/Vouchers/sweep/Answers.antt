use Rattle.std.proofs.Common.{rules, ap, ◌∙◌}
use Rattle.std.proofs.lemmas.Map.Made.{filter_same_pairs}
use Rattle.kad_base.specs.declared.types.Contact.{Contact}
use Rattle.kad_base.specs.declared.types.Proof.{Proof}
use Rattle.kad_base.specs.Contacts.{among}
use Rattle.contact_table.specs.Told.{held_by}
use Rattle.contact_table.specs.Vouched.{of_held}
use Rattle.contact_table.proofs.vouchers.Vouchers.sweep.Goals as goal

pub returns : goal.returns
returns c =
    filter_same_pairs _ (λ (e : Contact × Proof). among (held_by c.args.buckets.now.rows c.args.siblings.now.list) e.0) _ (λ k v b w f' t. search rules) _ _ c.retain.ensures.filtered
    ∙ ap (of_held (held_by c.args.buckets.now.rows c.args.siblings.now.list)) c.self.view_is
