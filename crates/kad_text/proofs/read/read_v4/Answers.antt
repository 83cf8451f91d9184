use Rattle.std.proofs.Common.{Some, None, arith, lit<}
use Rattle.std.proofs.lemmas.Str.Pattern.{split_parts}
use Rattle.kad_text.proofs.AddrReading.{addr_read, ip_parses, spelled_cut, spelled_v4, v4_spelled}
use Rattle.kad_text.proofs.read.read_v4.Goals as goal

pub returns-in_err-ip : goal.returns-in_err-ip
returns-in_err-ip c = rw c.from_residual.ensures (λ addr four s. spelled_cut _ None addr c.in_err-ip.ensures.cases (v4_spelled _ addr four s))

pub returns-in_err-ip-2 : goal.returns-in_err-ip-2
returns-in_err-ip-2 c = rw c.from_residual-in_err-ip-2.ensures (λ addr four s.
    let v = v4_spelled _ addr four s in
    let cut = spelled_cut _ (Some (c.in_ok-ip.ip, c.in_ok-ip.port)) addr c.in_ok-ip.ensures.cases v in
    ip_parses _ addr.ip c.parse.result v.v4 cut.0 c.parse.ensures.value (cc (c.ok.ensures.value, c.in_err-ip-2.was)))

pub returns-in_err-port : goal.returns-in_err-port
returns-in_err-port c = rw c.from_residual-in_err-port.ensures (λ addr four s.
    let cut = spelled_cut _ (Some (c.in_ok-ip.ip, c.in_ok-ip.port)) addr c.in_ok-ip.ensures.cases (v4_spelled _ addr four s) in
    let port = s.fits.1 in
    c.in_err-port.ensures addr.port (record { digits = cut.1; above = omega arith; below = omega (arith, c.from.ensures) }))

pub returns : goal.returns
returns c =
    let parts = split_parts 58 _ (Some (c.in_ok-ip.ip, c.in_ok-ip.port)) c.in_ok-ip.ensures.cases (lit< tt) in
    spelled_v4 _ _
    (addr_read _ _ _ _ c.parse.result c.in_ok-ip-2.ip _ parts.0 c.parse.ensures.value (cc (c.ok.ensures.value, c.in_ok-ip-2.was)) c.octets.ensures (rw c.from.ensures at c.in_ok-port.ensures))
