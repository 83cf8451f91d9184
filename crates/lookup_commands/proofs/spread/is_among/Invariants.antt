use Rattle.std.proofs.Common.{◌≡◌, take, false}
use Rattle.kad_base.specs.Contacts.{among}
use Rattle.lookup_commands.proofs.spread.is_among.Given as goal

abbrev pub invariant-loop-other : goal.invariant-loop-other
invariant-loop-other l = among (take l.other-index l.list) l.contact ≡ false
