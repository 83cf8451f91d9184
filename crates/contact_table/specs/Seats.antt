-- The index of a table with a limit: each host has n numbered seats, and each contact that the table holds sits on one of its
-- host's. Who has left the table may still sit there.
use Rattle.std.specs.Prelude.{◌≡◌, ℕ, ◌<◌, List, Option, Some}
use Rattle.std.specs.List.{All}
use Rattle.std.specs.BTreeMap.{BTreeMap, get}
use Rattle.std.specs.declared.cmp.Ordering.{Ordering}
use Rattle.kad_base.specs.declared.types.Contact.{Contact}
use Rattle.kad_base.specs.declared.host.Host.{Host}
use Rattle.kad_base.specs.Hosts.{host}
use Rattle.contact_table.specs.declared.seats.Seat.{Seat}
use Rattle.contact_table.specs.contracts.seats.SeatOrd.TheImpl as seat_order

-- the order of the index
abbrev pub seat_cmp : Seat → Seat → Ordering
seat_cmp = (seat_order.ghosts).cmp

-- who sits there
abbrev pub sitter : BTreeMap Seat Contact → Host → ℕ → Option Contact
sitter m h i = get seat_cmp m (record { host = h; place = i })

-- who sits somewhere has the seat's host, and sits nowhere else
pub record AreSeats (n : ℕ) (m : BTreeMap Seat Contact) : Type 0 where
  pub home : (h : Host) (i : ℕ) (c : Contact) → sitter m h i ≡ Some c → host c.addr ≡ h
  pub within : (h : Host) (i : ℕ) (c : Contact) → sitter m h i ≡ Some c → i < n
  pub once : (h : Host) (i j : ℕ) (c : Contact) → sitter m h i ≡ Some c → sitter m h j ≡ Some c → i ≡ j

pub record IsSeated (n : ℕ) (m : BTreeMap Seat Contact) (c : Contact) : Type 0 where
  pub place : ℕ
  pub within : place < n
  pub sits : sitter m (host c.addr) place ≡ Some c

-- where there is a limit, each that is held sits on a seat
pub record HasSeats (n : ℕ) (held : List Contact) (m : BTreeMap Seat Contact) : Type 0 where
  pub are : AreSeats n m
  pub each : 0 < n → All (IsSeated n m) held
