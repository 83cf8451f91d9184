use Rattle.std.proofs.Common.{rules}
use Rattle.std.proofs.lemmas.Map.Made.{filter_same_pairs}
use Rattle.kad_base.specs.declared.types.Contact.{Contact}
use Rattle.kad_base.specs.Contacts.{among}
use Rattle.contact_table.specs.declared.seats.Seat.{Seat}
use Rattle.contact_table.specs.Told.{held_by}
use Rattle.contact_table.proofs.seats.sweep.Goals as goal

pub returns-clause-left : goal.returns-clause-left
returns-clause-left c = filter_same_pairs _ (λ (e : Seat × Contact). among (held_by c.args.buckets.now.rows c.args.siblings.now.list) e.1) _ (λ k v b w f' t. search rules) _ _ c.retain.ensures.filtered
