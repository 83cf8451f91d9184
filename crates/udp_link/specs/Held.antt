-- What a link's room holds: the datagrams that came while it sent.
use Rattle.std.specs.Prelude.{◌≡◌, ◌≤◌, ℕ, List, [], ◌∷◌, ◌++◌, length, take, min}
use Rattle.kad_base.specs.declared.types.Addr.{Addr}
use Rattle.udp_link.specs.declared.room.Held.{Held}

-- one datagram more after those that were held, of at most one byte more than one may have that is believed
pub record OneMore (before after : List Held) : Type 0 where
  pub last : Held
  pub were : after ≡ before ++ last ∷ []
  pub length_is : length last.bytes.items ≤ 4097

-- some datagrams more, after those that were held
pub record More (before after : List Held) : Type 0 where
  pub more : List Held
  pub were : after ≡ before ++ more

-- The one that came first is given, as much of it as the buffer has room for, and the others stay in their order.
pub record Oldest (before after : List Held) (from : Addr) (len room : ℕ) (buf : List ℕ) : Type 0 where
  pub first : Held
  pub were : before ≡ first ∷ after
  pub sender : first.from ≡ from
  pub length_is : len ≡ min (length first.bytes.items) room
  pub bytes : take len buf ≡ take len first.bytes.items
