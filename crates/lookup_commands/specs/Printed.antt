-- What a lookup prints of peers and items. The lines are this project's own.
use Rattle.std.specs.Prelude.{ℕ, List, ◌++◌, length, codes, decimal, flat_map, Option, Some, None}
use Rattle.hex.specs.Hex.{encode_lower}
use Rattle.kad_base.specs.declared.types.Addr.{Addr}
use Rattle.kad_base.specs.declared.types.Id.{Id}
use Rattle.kad_text.specs.Text.{addr_text}
use Rattle.command_base.specs.Printed.{line_of, counts_text}

-- the last line of a search for peers: how many different ones there were, the counts of its lookup, and how many
-- announcements were sent
abbrev pub peers_text : ℕ → ℕ → ℕ → ℕ → ℕ → ℕ → List ℕ
peers_text peers found asked failed turned announced = codes "peers " ++ decimal peers ++ codes " " ++ counts_text found asked failed turned ++ codes " announced " ++ decimal announced

-- the output of a search for peers: a line for each peer, in order, and the counts
abbrev pub printed_peers : List Addr → ℕ → ℕ → ℕ → ℕ → ℕ → List ℕ
printed_peers peers found asked failed turned announced = flat_map (λ peer. line_of (addr_text peer)) peers ++ line_of (peers_text (length peers) found asked failed turned announced)

-- an item that was got, by its bytes in lower-case hex, or that there is none
abbrev pub item_text : Option (List ℕ) → List ℕ
item_text None = codes "none"
item_text (Some v) = codes "value " ++ encode_lower v

-- the output of a search for an item: the item, and the counts
abbrev pub printed_item : Option (List ℕ) → ℕ → ℕ → ℕ → ℕ → List ℕ
printed_item item found asked failed turned = line_of (item_text item) ++ line_of (counts_text found asked failed turned)

-- the key of an item that was put, in lower-case hex
abbrev pub key_text : Id → List ℕ
key_text key = codes "key " ++ encode_lower key.0

-- the last line of storing an item: the counts of its lookup, and how many puts were sent
abbrev pub stored_text : ℕ → ℕ → ℕ → ℕ → ℕ → List ℕ
stored_text found asked failed turned stored = counts_text found asked failed turned ++ codes " stored " ++ decimal stored

-- the output of storing an item: its key, and the counts
abbrev pub printed_stored : Id → ℕ → ℕ → ℕ → ℕ → ℕ → List ℕ
printed_stored key found asked failed turned stored = line_of (key_text key) ++ line_of (stored_text found asked failed turned stored)
