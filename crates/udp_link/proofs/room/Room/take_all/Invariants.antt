use Rattle.udp_link.specs.Held.{More}
use Rattle.udp_link.proofs.room.Room.take_all.Given as goal

abbrev pub invariant-loop : goal.invariant-loop
invariant-loop l = More l.fn.self l.self
