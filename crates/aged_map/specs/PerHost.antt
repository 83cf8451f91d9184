-- A map that holds at most so many values of one host, as the list of its entries in order of the keys, with that limit.
use Rattle.std.specs.Prelude.{◌≡◌, ℕ, ◌<◌, ◌≤◌, Bool, true, false, cond, List, [], length, filter, Option, Some, None}
use Rattle.std.specs.List.{IsDistinct}
use Rattle.std.specs.List.Sorted.{IsStrictlySortedBy}
use Rattle.std.specs.Map.{keys_of, lookup}
use Rattle.std.specs.Set.{is_member}
use Rattle.std.specs.Ordering.{eq_by_cmp}
use Rattle.std.specs.BTreeMap.{is_at}
use Rattle.std.specs.Global.{Vec}
use Rattle.std.specs.declared.cmp.Ordering.{Ordering}
use Rattle.kad_base.specs.declared.host.Host.{Host}
use Rattle.kad_base.specs.contracts.host.HostOrd.TheImpl as host_order
use Rattle.kad_base.specs.Hosts.{same_host}
use Rattle.aged_map.specs.Ages.{Holds}

-- what is held, and the most values of one host that may be: 0 is no limit
pub record Limited (K V : Type 0) : Type 0 where
  pub per_host : ℕ
  pub held : List (K × V)

-- this limit, and this held
abbrev pub limited : {K V : Type 0} → ℕ → List (K × V) → Limited K V
limited per_host held = record { per_host = per_host; held = held }

-- the same limit, and this held
abbrev pub holding : {K V : Type 0} → Limited K V → List (K × V) → Limited K V
holding s held = record { per_host = s.per_host; held = held }

-- the entries of one host
abbrev pub at_host : {K V : Type 0} → (K → V → Host) → Host → List (K × V) → List (K × V)
at_host host h held = filter (λ e. same_host (host e.0 e.1) h) held

-- as many values of the host are held as may be
pub record IsCrowded {K V : Type 0} (host : K → V → Host) (s : Limited K V) (h : Host) : Type 0 where
  pub limited : 0 < s.per_host
  pub as_many : s.per_host ≤ length (at_host host h s.held)

-- a value that isn't held yet has no place beside those of its host
abbrev pub HasNoPlaceAt : {K V : Type 0} → (K → K → Ordering) → (K → V → Host) → Limited K V → K → Host → Type 0
HasNoPlaceAt cmp host s key h = (¬ Holds cmp s.held key) × IsCrowded host s h

-- one that has a place there has none among so many
pub record HasNoPlaceAmong {K V : Type 0} (cmp : K → K → Ordering) (host : K → V → Host) (s : Limited K V) (key : K) (h : Host) (most : ℕ) : Type 0 where
  pub absent : ¬ Holds cmp s.held key
  pub free : ¬ IsCrowded host s h
  pub full : most ≤ length s.held

-- no host has more values than may be
abbrev pub HasFewOfEach : {K V : Type 0} → (K → V → Host) → Limited K V → Type 0
HasFewOfEach host s = 0 < s.per_host → (h : Host) → length (at_host host h s.held) ≤ s.per_host

-- ---- the index by host

-- the order of hosts
abbrev pub host_cmp : Host → Host → Ordering
host_cmp = (host_order.ghosts).cmp

-- the keys that are told of a host
abbrev pub keys_in : {K : Type 0} → Option (Vec K) → List K
keys_in None = []
keys_in (Some keys) = keys.items

abbrev pub told_of : {K : Type 0} → List (Host × Vec K) → Host → List K
told_of index h = keys_in (lookup (is_at (host_cmp h)) index)

-- whether what is found under the key is the host's
abbrev pub has_host : {K V : Type 0} → (K → V → Host) → Host → K → Option V → Bool
has_host host h q None = false
has_host host h q (Some v) = same_host (host q v) h

-- whether a value of the key is held, and is the host's
abbrev pub is_of : {K V : Type 0} → (K → K → Ordering) → (K → V → Host) → List (K × V) → Host → K → Bool
is_of cmp host held h q = has_host host h q (lookup (is_at (cmp q)) held)

-- those told of a host that are its still
abbrev pub cleaned : {K V : Type 0} → (K → K → Ordering) → (K → V → Host) → List (K × V) → List (Host × Vec K) → Host → List K
cleaned cmp host held index h = filter (is_of cmp host held h) (told_of index h)

-- the index that has these keys of a host, and those of each other host that it had
abbrev pub Tells : {K : Type 0} → List (Host × Vec K) → Host → List K → List (Host × Vec K) → Type 0
Tells index h keys new = (g : Host) → told_of new g ≡ cond (is_at (host_cmp h) g) keys (told_of index g)

-- where there is a limit, a key that isn't held is told of the host, which has room for it
pub record IsAdmitted {K V : Type 0} (cmp : K → K → Ordering) (host : K → V → Host) (s : Limited K V) (key : K) (h : Host) (index : List (Host × Vec K)) : Type 0 where
  pub told : 0 < s.per_host → ¬ Holds cmp s.held key → (q : K) → is_at (cmp key) q ≡ true → is_member (eq_by_cmp cmp) (told_of index h) q ≡ true
  pub room : 0 < s.per_host → ¬ Holds cmp s.held key → length (at_host host h s.held) < s.per_host

-- what is held is in order; where there is a limit each key that is held is told of its host, once, and no host has more
-- than may be
pub record IsTold {K V : Type 0} (cmp : K → K → Ordering) (host : K → V → Host) (per_host : ℕ) (held : List (K × V)) (index : List (Host × Vec K)) : Type 0 where
  pub sorted : IsStrictlySortedBy cmp (keys_of held)
  pub told : 0 < per_host → (h : Host) (q : K) → is_of cmp host held h q ≡ true → is_member (eq_by_cmp cmp) (told_of index h) q ≡ true
  pub once : (h : Host) → IsDistinct (eq_by_cmp cmp) (told_of index h)
  pub few : 0 < per_host → (h : Host) → length (at_host host h held) ≤ per_host
