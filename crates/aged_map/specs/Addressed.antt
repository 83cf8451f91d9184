-- Pairs of a key and an address that compare as equal have one host.
use Rattle.std.specs.Prelude.{◌≡◌, ℕ}
use Rattle.std.specs.Ordering.{ordering_then, is_eq, nat_cmp}
use Rattle.std.specs.Cmp.Lexicographic.{slice_cmp}
use Rattle.std.specs.declared.cmp.Ordering.{Ordering}
use Rattle.std.specs.declared.cmp.Ordering.TheVariants.{Less, Equal, Greater}
use Rattle.std.proofs.lemmas.Map.Lookups.{exact_bytes}
use mathlib.Core.Path.{refl, ap, sym}
use mathlib.Core.Bool.{true≢false}
use Rattle.kad_base.specs.declared.types.Id.{Id}
use Rattle.kad_base.specs.declared.types.Ip.{Ip}
use Rattle.kad_base.specs.declared.types.Ip.TheVariants.{V4, V6}
use Rattle.kad_base.specs.declared.types.Addr.{Addr}
use Rattle.kad_base.specs.contracts.types.IpOrd.TheImpl as ip_order
use Rattle.kad_base.specs.contracts.types.AddrOrd.TheImpl as addr_order
use Rattle.kad_base.specs.Hosts.{host, host_in}

first_ties : (a b : Ordering) → ordering_then a b ≡ Equal → a ≡ Equal
first_ties Less b e = absurd (true≢false (sym (ap is_eq e)))
first_ties Equal b e = refl
first_ties Greater b e = absurd (true≢false (sym (ap is_eq e)))

last_ties : (a b : Ordering) → ordering_then a b ≡ Equal → b ≡ Equal
last_ties Less b e = absurd (true≢false (sym (ap is_eq e)))
last_ties Equal b e = e
last_ties Greater b e = absurd (true≢false (sym (ap is_eq e)))

ips_alike : (a b : Ip) → (ip_order.ghosts).cmp a b ≡ Equal → host_in a ≡ host_in b
ips_alike (V4 a) (V4 b) e = ap (λ bytes. host_in (V4 bytes)) (exact_bytes a b e)
ips_alike (V4 a) (V6 b) e = absurd (true≢false (sym (ap is_eq e)))
ips_alike (V6 a) (V4 b) e = absurd (true≢false (sym (ap is_eq e)))
ips_alike (V6 a) (V6 b) e = ap (λ bytes. host_in (V6 bytes)) (exact_bytes a b e)

-- the order of pairs, by key and then by address
abbrev pub pair_order : Id × Addr → Id × Addr → Ordering
pair_order a b = ordering_then (slice_cmp nat_cmp a.0.0 b.0.0) ((addr_order.ghosts).cmp a.1 b.1)

pub pairs_alike : (a b : Id × Addr) (moment : ℕ) → pair_order a b ≡ Equal → host a.1 ≡ host b.1
pairs_alike a b moment e =
    ips_alike a.1.ip b.1.ip
    (first_ties ((ip_order.ghosts).cmp a.1.ip b.1.ip) (nat_cmp a.1.port b.1.port)
    (last_ties (slice_cmp nat_cmp a.0.0 b.0.0) ((addr_order.ghosts).cmp a.1 b.1) e))
