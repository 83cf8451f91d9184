-- When a path has enough contacts of one host.
use Rattle.std.specs.Prelude.{ℕ, ◌<◌, ◌≤◌, List, length}
use Rattle.kad_base.specs.declared.types.Contact.{Contact}
use Rattle.claim_book.specs.declared.types.Setting.{Setting}
use Rattle.claim_book.specs.declared.types.Entry.{Entry}
use Rattle.kad_base.specs.declared.host.Host.{Host}
use Rattle.claim_book.specs.Journal.{path, asked_on}
use Rattle.kad_base.specs.Hosts.{host, at_host}

-- how many contacts of the host path p began with or took, lost ones among them
abbrev pub crowd : ℕ → Host → List Entry → ℕ
crowd p h J = length (at_host h (path p J))

-- Path p is crowded by the contact's host: the lookup has a limit, and as many of the path's contacts have that host.
pub record IsCrowded (s : Setting) (J : List Entry) (p : ℕ) (c : Contact) : Type 0 where
  pub limited : 0 < s.per_address
  pub as_many : s.per_address ≤ crowd p (host c.addr) J

-- No path has more contacts of one host than the limit says, if there is one, and so none asks more.
pub record HasFewOfAHost (s : Setting) (J : List Entry) : Type 0 where
  pub has : 0 < s.per_address → (p : ℕ) (h : Host) → crowd p h J ≤ s.per_address
  pub asks : 0 < s.per_address → (p : ℕ) (h : Host) → length (at_host h (asked_on p J)) ≤ s.per_address
