use Rattle.std.proofs.Common.{◌≡◌, [], take}
use Rattle.std.specs.Prelude.{filter}
use Rattle.kad_base.specs.Contacts.{same}
use Rattle.follow_ups.proofs.announce.place_from.Given as goal

abbrev pub invariant-loop-place : goal.invariant-loop-place
invariant-loop-place l = record { none : filter (λ t. same t.contact l.contact) (take l.place l.tokens) ≡ [] }
