-- When a table has enough contacts of one host (libtorrent's `dht_restrict_routing_ips` keeps one node of an IP address in its
-- routing table; who has one address can take any number of ports and identifiers, BEP 42).
use Rattle.std.specs.Prelude.{◌≡◌, ◌≢◌, ℕ, ◌+◌, ◌<◌, ◌≤◌, List, length}
use Rattle.std.specs.List.{All, Contains, IsDistinct}
use Rattle.kad_base.specs.declared.types.Id.{Id}
use Rattle.kad_base.specs.declared.types.Contact.{Contact}
use Rattle.kad_base.specs.declared.host.Host.{Host}
use Rattle.kad_base.specs.Contacts.{same}
use Rattle.kad_base.specs.Hosts.{host}
use Rattle.bucket_tree.specs.Rows.{RowState, live_of}

-- so many different contacts of a list have the host
pub record HasOfHost (n : ℕ) (held : List Contact) (h : Host) (cs : List Contact) : Type 0 where
  pub as_many : n ≤ length cs
  pub different : IsDistinct same cs
  pub each : All (Contains held) cs
  pub of_host : All (λ (c : Contact). host c.addr ≡ h) cs

-- The contact's host has its n contacts: there is a limit, and that many other contacts that the table holds have its host.
pub record IsCrowded (n : ℕ) (held : List Contact) (c : Contact) : Type 0 where
  pub limited : 0 < n
  pub crowd : List Contact
  pub has : HasOfHost n held (host c.addr) crowd
  pub others : All (λ (x : Contact). x ≢ c) crowd

-- The contact's identifier is new to the buckets: it is neither the node's own nor that of a live contact.
pub record IsNew (own : Id) (rows : List RowState) (c : Contact) : Type 0 where
  pub other : c.id ≢ own
  pub unknown : All (λ (x : Contact). x.id ≢ c.id) (live_of rows)

-- No more than n of these contacts have one host, if there is a limit.
abbrev pub HasFew : ℕ → List Contact → Type 0
HasFew n held = 0 < n → (h : Host) (cs : List Contact) → HasOfHost (n + 1) held h cs → ⊥
