use Rattle.std.specs.Str.{str_to_ascii_lowercase}
use Rattle.kad_text.proofs.GroupSpelling.{HasGroups}
use Rattle.kad_text.proofs.ipv6.groups_of.Given as goal

abbrev pub invariant-loop-i : goal.invariant-loop-i
invariant-loop-i l = HasGroups (str_to_ascii_lowercase l.text) l.ip (str_to_ascii_lowercase l.rest) l.lead l.i
