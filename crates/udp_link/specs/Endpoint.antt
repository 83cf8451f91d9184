-- The IP address of a UDP endpoint, as the system's sockets and as this project have it.
use Rattle.std.specs.Prelude.{◌≡◌}
use Rattle.std.specs.declared.net.ip_addr.IpAddr.{IpAddr}
use Rattle.std.specs.declared.net.ip_addr.IpAddr.TheVariants.{V4 as System_v4, V6 as System_v6}
use Rattle.std.specs.Net.Addr.{ipv4_octets, ipv6_segments, segments_of}
use Rattle.kad_base.specs.declared.types.Ip.{Ip}
use Rattle.kad_base.specs.declared.types.Ip.TheVariants.{V4, V6}

-- the same family and the same bytes in network order
abbrev pub IsSameIp : IpAddr → Ip → Type 0
IsSameIp (System_v4 a) (V4 octets) = ipv4_octets a ≡ octets
IsSameIp (System_v6 a) (V6 octets) = ipv6_segments a ≡ segments_of octets
IsSameIp (System_v4 a) (V6 octets) = ⊥
IsSameIp (System_v6 a) (V4 octets) = ⊥
