-- Whose an address is: limits by address count one for each host (libtorrent's `dht_restrict_search_ips`; BEP 42 reasons that
-- addresses are dear where identifiers are free). Who has one IPv6 address has its whole subnet, which is the first 64 bits
-- (RFC 4291, section 2.5.1).
use Rattle.std.specs.Prelude.{List, take, filter, Bool}
use Rattle.kad_base.specs.declared.types.Ip.{Ip}
use Rattle.kad_base.specs.declared.types.Ip.TheVariants.{V4, V6}
use Rattle.kad_base.specs.declared.types.Addr.{Addr}
use Rattle.kad_base.specs.declared.types.Contact.{Contact}
use Rattle.kad_base.specs.declared.host.Host.{Host}
use Rattle.kad_base.specs.declared.host.Host.TheVariants.{V4 as Host_four, V6 as Host_six}
use Rattle.kad_base.specs.contracts.host.HostPartialEq.TheImpl as host_eq

-- an IPv4 address, or the first 64 bits of one of IPv6
abbrev pub host_in : Ip → Host
host_in (V4 bytes) = Host_four bytes
host_in (V6 bytes) = Host_six (take 8 bytes)

-- of an address with any port
abbrev pub host : Addr → Host
host addr = host_in addr.ip

-- what `==` of two hosts answers
abbrev pub same_host : Host → Host → Bool
same_host = (host_eq.ghosts).eq

-- the contacts of a list that have this host
abbrev pub at_host : Host → List Contact → List Contact
at_host h cs = filter (λ c. same_host (host c.addr) h) cs
