use Rattle.std.proofs.Common.{rules}
use Rattle.udp_link.proofs.room.Room.give.Goals as goal

pub returns-clause-oldest : goal.returns-clause-oldest
returns-clause-oldest c = record {
  first = c.in_ok-from.field-0;
  were = search rules;
  sender = search rules;
  length_is = search rules;
  bytes = search rules;
}
