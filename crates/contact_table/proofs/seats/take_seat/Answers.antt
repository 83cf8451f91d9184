use Rattle.std.proofs.Common.{◌≡◌, ◌≢◌, ◌<◌, ℕ, Some, true, sym, subst}
use Rattle.std.specs.Option.{IsSomeAnd}
use Rattle.kad_base.specs.declared.host.Host.{Host}
use Rattle.kad_base.specs.Hosts.{host}
use Rattle.kad_base.specs.declared.types.Contact.{Contact}
use Rattle.kad_base.specs.Contacts.{among}
use Rattle.contact_table.specs.Told.{held_by}
use Rattle.contact_table.specs.Seats.{sitter}
use Rattle.contact_table.proofs.Seating.{still-absent, still-free, takes-seat}
use Rattle.contact_table.proofs.seats.take_seat.Goals as goal

pub returns-in-Ok-clause-seats : goal.returns-in-Ok-clause-seats
returns-in-Ok-clause-seats c =
    let held = held_by c.args.buckets.now.rows c.args.siblings.now.list in
    let m = c.args.seats.now in
    let m' = c.bound.new.seats in
    let x = c.args.contact.now in
    let h = host x.addr in
    let absent = still-absent m m' c.args.limit h x c.bound.ensures.before c.requires.absent in
    let free = still-free m m' held h c.args.place c.bound.ensures.before c.requires.free in
    let g = c.host_of-host.result in
    takes-seat c.args.limit held m' c.insert.new.self x g c.args.place c.host_of-host.ensures c.requires.within c.in-Ok.ensures.updates (c.bound.ensures.seats c.args.limit c.requires.seats)
    (subst (λ (k : Host). (i : ℕ) → i < c.args.limit → sitter m' k i ≢ Some x) (sym c.host_of-host.ensures) absent)
    (subst (λ (k : Host). ¬ IsSomeAnd (sitter m' k c.args.place) (λ (y : Contact). among held y ≡ true)) (sym c.host_of-host.ensures) free)
