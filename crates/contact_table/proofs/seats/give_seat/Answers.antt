use Rattle.std.proofs.Common.{subst, ◌≡◌, ◌≢◌, ℕ, ◌<◌, Some, true}
use Rattle.std.specs.Option.{IsSomeAnd}
use Rattle.kad_base.specs.declared.host.Host.{Host}
use Rattle.kad_base.specs.declared.types.Contact.{Contact}
use Rattle.kad_base.specs.Contacts.{among}
use Rattle.contact_table.specs.Told.{held_by}
use Rattle.contact_table.specs.Seats.{sitter}
use Rattle.contact_table.proofs.Seating.{all-taken, seated-free, empty-free}
use Rattle.contact_table.proofs.seats.give_seat.Goals as goal

pub returns-then-is_seated-clause-free : goal.returns-then-is_seated-clause-free
returns-then-is_seated-clause-free c = λ _. seated-free c.args.limit (held_by c.args.buckets.now.rows c.args.siblings.now.list) c.args.seats.now c.args.contact.now c.host_of-host.result c.host_of-host.ensures c.requires.seats (c.is_seated.ensures.yes c.if-is_seated.true)

pub returns-in-None-clause-crowded : goal.returns-in-None-clause-crowded
returns-in-None-clause-crowded c = λ _. all-taken c.args.limit (held_by c.args.buckets.now.rows c.args.siblings.now.list) c.args.seats.now c.args.contact.now c.host_of-host.result c.requires.limited c.host_of-host.ensures c.requires.seats.are c.in-None.ensures (c.is_seated.ensures.none c.if-is_seated.false)

pub take_seat-requires-clause-absent : goal.take_seat-requires-clause-absent
take_seat-requires-clause-absent c = subst (λ (h : Host). (i : ℕ) → i < c.args.limit → sitter c.args.seats.now h i ≢ Some c.args.contact.now) c.host_of-host.ensures (c.is_seated.ensures.none c.if-is_seated.false)

pub take_seat-requires-clause-free : goal.take_seat-requires-clause-free
take_seat-requires-clause-free c = subst (λ (h : Host). ¬ IsSomeAnd (sitter c.args.seats.now h c.in-Some.place) (λ (x : Contact). among (held_by c.args.buckets.now.rows c.args.siblings.now.list) x ≡ true)) c.host_of-host.ensures c.in-Some.ensures.1

pub returns-in-Some-clause-free : goal.returns-in-Some-clause-free
returns-in-Some-clause-free c = λ _. empty-free c.args.limit (held_by c.args.buckets.now.rows c.args.siblings.now.list) c.args.seats.now c.args.contact.now c.host_of-host.result c.in-Some.place c.host_of-host.ensures c.requires.seats c.in-Some.ensures.0 c.in-Some.ensures.1
