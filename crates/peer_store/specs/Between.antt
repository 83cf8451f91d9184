-- What a search by key among pairs in order stands on: each address is between the first and the last one.
use Rattle.std.specs.Prelude.{◌≡◌, false, List}
use Rattle.std.specs.List.{All}
use Rattle.std.specs.Ordering.{is_gt, is_lt}
use Rattle.kad_base.specs.declared.types.Addr.{Addr}
use Rattle.peer_store.specs.declared.ends.TheConstants.{FIRST, LAST}
use Rattle.peer_store.specs.Peers.{Held, PeersState, IsPeers, address_cmp}

pub record IsBetween (peer : Addr) : Type 0 where
  pub from_first : is_gt (address_cmp FIRST peer) ≡ false
  pub to_last : is_lt (address_cmp LAST peer) ≡ false

-- so is the address of each pair
abbrev pub AreBetween : List Held → Type 0
AreBetween held = All (λ h. IsBetween h.0.1) held

-- what is kept
pub record IsKept (s : PeersState) : Type 0 where
  pub peers : IsPeers s
  pub between : AreBetween s.held
