use Rattle.std.proofs.Common.{◌≡◌, take}
use Rattle.follow_ups.specs.Announced.{announcements, asks_of}
use Rattle.follow_ups.proofs.listed.announcements.Given as goal

abbrev pub invariant-loop-contact : goal.invariant-loop-contact
invariant-loop-contact l = record { listed : l.list ≡ announcements (asks_of l.said) (take l.contact-index l.found) l.tokens }
