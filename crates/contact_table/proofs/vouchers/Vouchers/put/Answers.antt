use Rattle.std.proofs.Common.{ap, ◌∙◌}
use Rattle.std.specs.Map.{remove_entry}
use Rattle.std.specs.Option.{is_some}
use Rattle.std.specs.BTreeMap.{insert_entry}
use Rattle.kad_base.specs.Contacts.{contact_cmp, same}
use Rattle.contact_table.specs.Told.{held_by}
use Rattle.contact_table.specs.Vouched.{of_held, proof_beside}
use Rattle.contact_table.proofs.Vouching.{put-stands, undone}
use Rattle.contact_table.proofs.vouchers.Vouchers.put.Goals as goal

pub returns-clause-stands : goal.returns-clause-stands
returns-clause-stands c = λ after new.
    ap (of_held after) c.in-Ok.ensures.ok
    ∙ put-stands (held_by c.args.buckets.now.rows c.args.siblings.now.list) after c.args.contact.now new c.args.proof c.bound.new.self c.in-Ok.ensures.sorted
    ∙ ap (λ es. of_held after (insert_entry contact_cmp es c.args.contact.now c.args.proof)) c.bound.ensures

pub returns-clause-undone : goal.returns-clause-undone
returns-clause-undone c =
    let held = held_by c.args.buckets.now.rows c.args.siblings.now.list in
    let x = c.args.contact.now in
    ap (λ es. of_held held (remove_entry (same x) es)) c.in-Ok.ensures.ok
    ∙ undone x c.args.proof held c.bound.new.self (ap (λ es. is_some (proof_beside es x)) c.bound.ensures ∙ c.requires)
    ∙ c.bound.ensures
