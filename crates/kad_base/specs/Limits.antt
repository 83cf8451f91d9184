-- The limits of the product, each by its one name. Unless a line says otherwise they are this project's own choice.
use Rattle.std.specs.Prelude.{ℕ}

-- the greatest k: how many contacts a lookup looks for and a bucket holds (Kademlia, 2002, section 2.1)
abbrev pub max_k : ℕ
max_k = 20

-- the most disjoint paths of a lookup (S/Kademlia, 2007, section 4.4)
abbrev pub max_paths : ℕ
max_paths = 8

-- the most queries that one path has open at once (Kademlia's alpha, section 2.3)
abbrev pub max_alpha : ℕ
max_alpha = 4

-- the most queries that are open at once, of all paths
abbrev pub max_open : ℕ
max_open = 32

-- the most contacts that a path takes, those that failed among them
abbrev pub max_path_contacts : ℕ
max_path_contacts = 256

-- how many reports of one answer are read
abbrev pub max_reports : ℕ
max_reports = 16

-- the longest time to wait for an answer, in milliseconds
abbrev pub max_timeout : ℕ
max_timeout = 60000

-- the greatest number of bits by which a bucket splits (Kademlia's b, section 4.2)
abbrev pub max_bits : ℕ
max_bits = 5

-- the most contacts of the sibling list (S/Kademlia, section 4.2)
abbrev pub max_siblings : ℕ
max_siblings = 16

-- the longest datagram that is read, in bytes
abbrev pub max_datagram : ℕ
max_datagram = 4096

-- the stray datagram of this number ends a lookup
abbrev pub max_strays : ℕ
max_strays = 1000000

-- the most receives of one round of a lookup
abbrev pub max_round_receives : ℕ
max_round_receives = 32

-- the longest that a node which serves waits in one receive, in milliseconds
abbrev pub max_wait : ℕ
max_wait = 60000

-- the most lookups that a node makes at the same time
abbrev pub max_lookups : ℕ
max_lookups = 16

-- the longest input, in bytes
abbrev pub max_input : ℕ
max_input = 1048576

-- the most peers that are stored
abbrev pub max_peers : ℕ
max_peers = 65536

-- the longest transaction id of a query that is answered, in bytes
abbrev pub max_answered_tx : ℕ
max_answered_tx = 32
