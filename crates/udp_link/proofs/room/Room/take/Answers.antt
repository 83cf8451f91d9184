use Rattle.std.proofs.Common.{rules}
use Rattle.udp_link.proofs.room.Room.take.Goals as goal

pub returns-clause-took : goal.returns-clause-took
returns-clause-took c = λ _. record {
  last = record { from = c.addr_of.result; bytes = c.extend_from_slice.new.self };
  were = search rules;
  length_is = search rules;
}
