-- Compact records: nodes and peers as BEP 5 packs them into strings, with addresses of IPv4, and BEP 32 with those of IPv6;
-- and nodes with their proofs, which are this project's own.
use Rattle.std.specs.Prelude.{◌≡◌, ◌<◌, ℕ, ◌+◌, ◌*◌, ◌/◌, ◌%◌, List, [], ◌∷◌, ◌++◌, map, flat_map, take, drop, get_or, length, Option, Some, None}
use Rattle.std.specs.List.{range_with_len}
use Rattle.kad_base.specs.declared.types.Id.{Id}
use Rattle.kad_base.specs.declared.types.Ip.{Ip}
use Rattle.kad_base.specs.declared.types.Ip.TheVariants.{V4, V6}
use Rattle.kad_base.specs.declared.types.Family.{Family}
use Rattle.kad_base.specs.declared.types.Family.TheVariants.{Four, Six}
use Rattle.kad_base.specs.declared.types.Addr.{Addr}
use Rattle.kad_base.specs.declared.types.Contact.{Contact}
use Rattle.kad_base.specs.declared.types.Proof.{Proof}
use Rattle.kad_base.specs.declared.types.Report.{Report}
use Rattle.kad_bencode.specs.declared.value.Value.{Value}
use Rattle.kad_bencode.specs.declared.value.Value.TheVariants.{Text, List as Values}

-- ---- written

-- a port in network order
abbrev pub port_bytes : ℕ → List ℕ
port_bytes port = port / 256 ∷ port % 256 ∷ []

-- the bytes of an address, of either family
abbrev pub ip_bytes : Ip → List ℕ
ip_bytes (V4 bytes) = bytes
ip_bytes (V6 bytes) = bytes

-- an address and a port: a peer of 6 bytes, or of 18 where the address is of IPv6
abbrev pub addr_bytes : Addr → List ℕ
addr_bytes addr = ip_bytes addr.ip ++ port_bytes addr.port

-- a node of 26 bytes, or of 38: identifier, address, port
abbrev pub node_bytes : Contact → List ℕ
node_bytes c = c.id.0 ++ addr_bytes c.addr

-- a proof: the public key of 32 bytes, and X of 20
abbrev pub proof_bytes : Option Proof → List ℕ
proof_bytes None = []
proof_bytes (Some proof) = proof.key ++ proof.x

-- a node with its proof, of 78 bytes, or of 90: identifier, public key, X, address, port (this project's own)
abbrev pub proved_bytes : Report → List ℕ
proved_bytes r = r.contact.id.0 ++ proof_bytes r.proof ++ addr_bytes r.contact.addr

-- the records of a string, one after another
abbrev pub nodes_bytes : List Contact → List ℕ
nodes_bytes nodes = flat_map node_bytes nodes

-- the same of nodes with their proofs
abbrev pub snodes_bytes : List Report → List ℕ
snodes_bytes snodes = flat_map proved_bytes snodes

-- a list of strings, one for each peer (compact peer info)
abbrev pub peers_value : List Addr → Value
peers_value peers = Values (map (λ peer. Text (addr_bytes peer)) peers)

-- ---- read

-- the bytes of a list from a place on
abbrev pub part : ℕ → ℕ → List ℕ → List ℕ
part at size bytes = take size (drop at bytes)

-- the port that stands at a place, in network order
abbrev pub port_at : ℕ → List ℕ → ℕ
port_at at bytes = get_or bytes at 0 * 256 + get_or bytes (at + 1) 0

-- how many bytes an address of the family takes
abbrev pub ip_size : Family → ℕ
ip_size Four = 4
ip_size Six = 16

-- the address of the family that so many bytes are
abbrev pub ip_in : Family → List ℕ → Ip
ip_in Four bytes = V4 bytes
ip_in Six bytes = V6 bytes

-- the address of the family with its port that stands there
abbrev pub addr_at : Family → ℕ → List ℕ → Addr
addr_at family at bytes = record { ip = ip_in family (part at (ip_size family) bytes); port = port_at (at + ip_size family) bytes }

-- the 20 bytes of an identifier that stand at a place
abbrev pub id_at : ℕ → List ℕ → Id
id_at at bytes = record { 0 = part at 20 bytes }

-- the node that the bytes of a record are: 26, or 38 of IPv6
abbrev pub node_in : Family → List ℕ → Contact
node_in family bytes = record { id = id_at 0 bytes; addr = addr_at family 20 bytes }

-- the proof that stands at a place: 32 bytes of public key and 20 of X
abbrev pub proof_at : ℕ → List ℕ → Proof
proof_at at bytes = record { key = part at 32 bytes; x = part (at + 32) 20 bytes }

-- the proof within the bytes of a node, after the identifier
abbrev pub proof_in : List ℕ → Proof
proof_in bytes = proof_at 20 bytes

-- the node with its proof that the bytes of a record are: 78, or 90 of IPv6
abbrev pub proved_in : Family → List ℕ → Report
proved_in family bytes = record { contact = record { id = id_at 0 bytes; addr = addr_at family 72 bytes }; proof = Some (proof_in bytes) }

-- the records of this many bytes that a string is made of, in order
abbrev pub records_in : {A : Type 0} → ℕ → (List ℕ → A) → List ℕ → List A
records_in size read bytes = map (λ i. read (part (i * size) size bytes)) (range_with_len 0 (length bytes / size))

-- a compact record, with an address of any length: identifier, address, port
abbrev pub record_at : ℕ → ℕ → List ℕ → List ℕ × List ℕ × ℕ
record_at size at bytes = (part at 20 bytes, part (at + 20) size bytes, port_at (at + (20 + size)) bytes)

-- ---- which records there are

-- an identifier has 160 bits (Kademlia, 2002, section 2.1)
abbrev pub IsWellId : Id → Type 0
IsWellId id = length id.0 ≡ 20

-- an address of IPv4 has four bytes, one of IPv6 sixteen
abbrev pub IsWellIp : Ip → Type 0
IsWellIp (V4 bytes) = length bytes ≡ 4
IsWellIp (V6 bytes) = length bytes ≡ 16

-- a port has 16 bits
abbrev pub IsWellAddr : Addr → Type 0
IsWellAddr addr = IsWellIp addr.ip × (addr.port < 65536)

-- both parts of a contact
abbrev pub IsWellContact : Contact → Type 0
IsWellContact c = IsWellId c.id × IsWellAddr c.addr

-- a public key has 32 bytes (this project's own), and X those of an identifier (S/Kademlia, 2007, section 4.1)
abbrev pub IsWellProof : Option Proof → Type 0
IsWellProof None = Unit {0}
IsWellProof (Some proof) = (length proof.key ≡ 32) × (length proof.x ≡ 20)

-- the contact of a report, and its proof
abbrev pub IsWellReport : Report → Type 0
IsWellReport r = IsWellContact r.contact × IsWellProof r.proof

-- an address of the family: its compact records have no place for another
abbrev pub IsOf : Family → Ip → Type 0
IsOf Four (V4 bytes) = Unit {0}
IsOf Four (V6 bytes) = ⊥
IsOf Six (V4 bytes) = ⊥
IsOf Six (V6 bytes) = Unit {0}

-- an address of IPv4
abbrev pub IsV4 : Ip → Type 0
IsV4 ip = IsOf Four ip

-- a record of the family has a place for its addresses alone
abbrev pub IsNodeOf : Family → Contact → Type 0
IsNodeOf family c = IsOf family c.addr.ip

-- the records of `nodes` are of IPv4
abbrev pub IsNode : Contact → Type 0
IsNode c = IsNodeOf Four c

-- there is a proof
abbrev pub HasProof : Option Proof → Type 0
HasProof None = ⊥
HasProof (Some proof) = Unit {0}

-- a record with a proof has a place for an address of its family, and needs the proof
abbrev pub IsProvedOf : Family → Report → Type 0
IsProvedOf family r = IsOf family r.contact.addr.ip × HasProof r.proof

-- the records of `snodes` are of IPv4
abbrev pub IsProved : Report → Type 0
IsProved r = IsProvedOf Four r
