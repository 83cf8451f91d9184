-- A whole network that follows from a seed: who its nodes are, and whom each of them knows. It is this project's own, after
-- Kademlia (2002, section 2.2): of each of its buckets a node knows up to 8 nodes, those of the lowest numbers.
use Rattle.std.specs.Prelude.{ℕ, ◌+◌, ◌-◌, ◌*◌, ◌/◌, ◌%◌, ◌^◌, Bool, ◌&&◌, not, List, [], ◌∷◌, map, filter, length, get_or, nat_eq, nat_lt}
use Rattle.std.specs.List.{range_with_len}
use Rattle.kad_base.specs.declared.types.Id.{Id}
use Rattle.kad_base.specs.declared.types.Ip.{Ip}
use Rattle.kad_base.specs.declared.types.Ip.TheVariants.{V4, V6}
use Rattle.kad_base.specs.declared.types.Addr.{Addr}
use Rattle.kad_base.specs.declared.types.Contact.{Contact}
use Rattle.kad_base.specs.Bits.{number_of, xor_bytes}
use Rattle.kad_base.specs.Words.{drawn_bytes}

-- what all of it follows from: a seed, how many nodes there are, and how many of a hundred are hostile
pub record Network : Type 0 where
  pub seed : List ℕ
  pub count : ℕ
  pub hostile : ℕ

-- the numbers below n
abbrev pub numbers : ℕ → List ℕ
numbers n = range_with_len 0 n

-- ---- who is there

-- who looks up in it: the first five drawn words
abbrev pub own_of : List ℕ → Id
own_of seed = record { 0 = drawn_bytes seed 0 5 }

-- what is looked up in it: five drawn words
abbrev pub target_of : List ℕ → Id
target_of seed = record { 0 = drawn_bytes seed 1000000 5 }

-- the identifier of node i: the five drawn words after those of the node before it
abbrev pub id_of : List ℕ → ℕ → Id
id_of seed i = record { 0 = drawn_bytes seed (1000005 + 5 * i) 5 }

-- node i stands at 10.x.y.z, where x, y and z are the three low bytes of i, at BitTorrent's port
abbrev pub address_of : ℕ → Addr
address_of i = record { ip = V4 (10 ∷ i / 65536 % 256 ∷ i / 256 % 256 ∷ i % 256 ∷ []); port = 6881 }

-- the number that the last three bytes of an address of IPv4 spell
abbrev pub number_at : Ip → ℕ
number_at (V4 bytes) = get_or bytes 1 0 * 65536 + get_or bytes 2 0 * 256 + get_or bytes 3 0
number_at (V6 bytes) = 0

abbrev pub node : List ℕ → ℕ → Contact
node seed i = record { id = id_of seed i; addr = address_of i }

-- of a hundred nodes in a row, from a whole hundred on, the first so many are hostile
abbrev pub is_hostile : ℕ → ℕ → Bool
is_hostile hostile i = nat_lt (i % 100) hostile

-- the nodes of a number below n that aren't hostile
abbrev pub honest_below : Network → ℕ → List Contact
honest_below net n = map (node net.seed) (filter (λ i. not (is_hostile net.hostile i)) (numbers n))

abbrev pub honest : Network → List Contact
honest net = honest_below net net.count

-- ---- whom a node knows

-- the bytes begin with that many zero bits: as a number they have as many fewer bits
unfoldable pub begins : List ℕ → ℕ → Bool
begins bytes bits = nat_lt (number_of bytes) (2 ^ (8 * length bytes - bits))

-- how many leading bits of two identifiers agree: how many of the numbers 1 to 160 are such that as many agree
unfoldable pub shared : Id → Id → ℕ
shared a b = length (filter (λ n. begins (xor_bytes a.0 b.0) (n + 1)) (numbers 160))

-- another node than i that shares with it exactly so many leading bits: one of that bucket of i
abbrev pub is_in_bucket : List ℕ → ℕ → ℕ → ℕ → Bool
is_in_bucket seed i bits m = not (nat_eq m i) && nat_eq (shared (id_of seed i) (id_of seed m)) bits

-- how many nodes of a number below n are of that bucket
abbrev pub bucket_below : List ℕ → ℕ → ℕ → ℕ → ℕ
bucket_below seed i bits n = length (filter (is_in_bucket seed i bits) (numbers n))

-- node i knows node j, another than itself, where fewer than 8 nodes of a number below j are of the bucket that j is of
abbrev pub knows : List ℕ → ℕ → ℕ → Bool
knows seed i j = not (nat_eq j i) && nat_lt (bucket_below seed i (shared (id_of seed i) (id_of seed j)) j) 8

-- the nodes of a number below n that node i knows
abbrev pub known_below : List ℕ → ℕ → ℕ → List Contact
known_below seed i n = map (node seed) (filter (knows seed i) (numbers n))

abbrev pub known : Network → ℕ → List Contact
known net i = known_below net.seed i net.count
