use Rattle.std.proofs.Common.{◌≡◌, ℕ, ◌<◌, true}
use Rattle.std.specs.Option.{IsSomeAnd}
use Rattle.kad_base.specs.declared.types.Contact.{Contact}
use Rattle.kad_base.specs.Contacts.{among}
use Rattle.contact_table.specs.Told.{held_by}
use Rattle.contact_table.specs.Seats.{sitter}
use Rattle.contact_table.proofs.seats.free_place.Given as goal

abbrev pub invariant-loop-place : goal.invariant-loop-place
invariant-loop-place l = (i : ℕ) → i < l.place → IsSomeAnd (sitter l.seats l.host i) (λ (c : Contact). among (held_by l.buckets.rows l.siblings.list) c ≡ true)
