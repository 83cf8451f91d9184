use Rattle.kad_text.proofs.AddrReading.{port_utf8}
use Rattle.kad_text.proofs.ipv6.port_of.Goals as goal

pub returns-in_default-from_utf8 : goal.returns-in_default-from_utf8
returns-in_default-from_utf8 c = λ port fits e. c.in_default-from_utf8.ensures.cases.0 (port_utf8 _ port fits e)
