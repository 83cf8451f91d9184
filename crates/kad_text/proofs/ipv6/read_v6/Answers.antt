use Rattle.std.proofs.Common.{rules}
use Rattle.kad_text.proofs.AddrReading.{v6_end, v6_groups, v6_read}
use Rattle.kad_text.proofs.ipv6.read_v6.Goals as goal

pub returns-in_err-ip : goal.returns-in_err-ip
returns-in_err-ip c = rw c.from_residual.ensures (λ addr six s. let g = v6_groups _ addr six s in c.in_err-ip.ensures _ _ g.1)

pub returns-in_err-port : goal.returns-in_err-port
returns-in_err-port c = rw c.from_residual-in_err-port.ensures (λ addr six s. c.in_err-port.ensures addr.port s.fits.1 (v6_end _ _ _ addr c.in_ok-ip.ensures six s))

pub returns : goal.returns
returns c = v6_read _ _ _ _ c.in_ok-ip.ensures (search rules) c.in_ok-port.ensures
