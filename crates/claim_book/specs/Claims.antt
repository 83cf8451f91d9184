-- The map of claims: what it shows of each contact, and what a journal says of it. And of each host: how many contacts of it
-- each path has, where the lookup has a limit. And which path has which contact, where several may have one.
use Rattle.std.specs.Prelude.{◌≡◌, ℕ, ◌+◌, ◌<◌, List, ◌++◌, Bool, true, false, if◌then◌else◌, Option, Some, None, IsSome, unwrap_or, slice_get}
use Rattle.std.specs.List.{All}
use Rattle.indexmap.specs.IndexMap.{get}
use Rattle.kad_base.specs.declared.types.ClaimRule.{ClaimRule}
use Rattle.kad_base.specs.declared.types.ClaimRule.TheVariants.{Named, Asked}
use Rattle.kad_base.specs.declared.types.Contact.{Contact}
use Rattle.kad_base.specs.contracts.types.ContactPartialEq.TheImpl as contact_eq
use Rattle.kad_base.specs.Contacts.{among, IsUsable}
use Rattle.claim_book.specs.declared.types.Setting.{Setting}
use Rattle.claim_book.specs.declared.types.Thing.{Thing}
use Rattle.claim_book.specs.declared.types.Thing.TheVariants.{Responder, Told}
use Rattle.claim_book.specs.declared.types.Entry.{Entry}
use Rattle.kad_base.specs.declared.host.Host.{Host}
use Rattle.claim_book.specs.declared.claim_map.Claim.{Claim}
use Rattle.claim_book.specs.declared.claim_map.Claims.{Claims}
use Rattle.claim_book.specs.declared.claim_map.Seat.{Seat}
use Rattle.claim_book.specs.declared.claim_map.Spot.{Spot}
use Rattle.claim_book.specs.contracts.claim_map.SpotPartialEq.TheImpl as spot_eq_of
use Rattle.claim_book.specs.contracts.claim_map.SeatPartialEq.TheImpl as seat_eq_of
use Rattle.claim_book.specs.Journal.{path, holders, asked, askers, answered, failed, unsettled}
use Rattle.kad_base.specs.Hosts.{host}
use Rattle.claim_book.specs.Crowded.{crowd}

-- what `==` of two keys answers
abbrev pub key_eq : Contact → Contact → Bool
key_eq = (contact_eq.ghosts).eq

abbrev pub seat_eq : Seat → Seat → Bool
seat_eq = (seat_eq_of.ghosts).eq

abbrev pub spot_eq : Spot → Spot → Bool
spot_eq = (spot_eq_of.ghosts).eq

-- the key of a path and a contact
abbrev pub spot : ℕ → Contact → Spot
spot p c = record { path = p; contact = c }

-- the key of a path and a host
abbrev pub seat : ℕ → Host → Seat
seat p h = record { path = p; host = h }

-- no path has it, and nobody asked it
abbrev pub blank : Claim
blank = record { by = None; asked = false; ended = false }

-- what the map says of a contact: one that it doesn't have is as one that no path has
abbrev pub shown : Claims → Contact → Claim
shown m c = unwrap_or (get key_eq m.contacts c) blank

-- how many contacts of a host it says that path p has
abbrev pub shown_crowd : Claims → ℕ → Host → ℕ
shown_crowd m p h = unwrap_or (get seat_eq m.crowds (seat p h)) 0

-- whether it says that path p has the contact, where several paths may
abbrev pub shown_on : Claims → ℕ → Contact → Bool
shown_on m p c = unwrap_or (get spot_eq m.spots (spot p c)) false

-- whose the contact is: the path that has it, or the path that asked it
abbrev pub by_of : ClaimRule → Contact → List Entry → Option ℕ
by_of Named c J = slice_get (holders c J) 0
by_of Asked c J = slice_get (askers c J) 0

-- what the journal says of it
abbrev pub claim_of : ClaimRule → Contact → List Entry → Claim
claim_of rule c J = record { by = by_of rule c J; asked = among (asked J) c; ended = among (answered J ++ failed J) c }

-- the contact stands in the map, and so does its host on path p where the lookup has a limit, and the contact on path p where
-- several paths may have it
pub record HasRoom (s : Setting) (m : Claims) (p : ℕ) (c : Contact) : Type 0 where
  pub contact : IsSome (get key_eq m.contacts c)
  pub seated : 0 < s.per_address → IsSome (get seat_eq m.crowds (seat p (host c.addr)))
  pub spotted : s.claim ≡ Asked → IsSome (get spot_eq m.spots (spot p c))

-- a usable contact that waits to be settled on path p has its room
abbrev pub IsKnown : Setting → ℕ → Claims → Thing → Type 0
IsKnown s p m (Responder c) = Unit {0}
IsKnown s p m (Told r) = IsUsable s.own r.contact → HasRoom s m p r.contact

-- what a claim is once path p asked its contact, the contact ended, or path p took it
abbrev pub asked_claim : ClaimRule → ℕ → Claim → Claim
asked_claim Named p k = record { by = k.by; asked = true; ended = k.ended }
asked_claim Asked p k = record { by = Some p; asked = true; ended = k.ended }

abbrev pub ended_claim : Claim → Claim
ended_claim k = record { by = k.by; asked = k.asked; ended = true }

abbrev pub taken_claim : ClaimRule → ℕ → Claim → Claim
taken_claim Named p k = record { by = Some p; asked = k.asked; ended = k.ended }
taken_claim Asked p k = k

-- n is m with k at the contact
pub record Sets (m n : Claims) (c : Contact) (k : Claim) : Type 0 where
  pub contacts : (d : Contact) → get key_eq n.contacts d ≡ (if key_eq c d then Some k else get key_eq m.contacts d)
  pub crowds : n.crowds ≡ m.crowds
  pub spots : n.spots ≡ m.spots

-- n is m with the contact on path p, which has one more of its host where the lookup has a limit
pub record Takes (s : Setting) (m n : Claims) (p : ℕ) (c : Contact) : Type 0 where
  pub contacts : (d : Contact) → get key_eq n.contacts d ≡ (if key_eq c d then Some (taken_claim s.claim p (shown m c)) else get key_eq m.contacts d)
  pub crowds : 0 < s.per_address → (k : Seat) → get seat_eq n.crowds k ≡ (if seat_eq (seat p (host c.addr)) k then Some (shown_crowd m p (host c.addr) + 1) else get seat_eq m.crowds k)
  pub unlimited : s.per_address ≡ 0 → n.crowds ≡ m.crowds
  pub spots : s.claim ≡ Asked → (k : Spot) → get spot_eq n.spots k ≡ (if spot_eq (spot p c) k then Some true else get spot_eq m.spots k)

-- n has what m has, and shows the same
pub record Keeps (m n : Claims) : Type 0 where
  pub same_claims : (c : Contact) → shown n c ≡ shown m c
  pub same_crowds : (p : ℕ) (h : Host) → shown_crowd n p h ≡ shown_crowd m p h
  pub same_spots : (p : ℕ) (c : Contact) → shown_on n p c ≡ shown_on m p c
  pub contacts : (d : Contact) → IsSome (get key_eq m.contacts d) → IsSome (get key_eq n.contacts d)
  pub crowds : (k : Seat) → IsSome (get seat_eq m.crowds k) → IsSome (get seat_eq n.crowds k)
  pub spots : (k : Spot) → IsSome (get spot_eq m.spots k) → IsSome (get spot_eq n.spots k)

-- the map shows what the journal says, and has each contact that a path has or that may still be taken
pub record IsMap (s : Setting) (J : List Entry) (m : Claims) : Type 0 where
  pub claims : (c : Contact) → shown m c ≡ claim_of s.claim c J
  pub counts : 0 < s.per_address → (p : ℕ) (h : Host) → shown_crowd m p h ≡ crowd p h J
  pub on_paths : s.claim ≡ Asked → (p : ℕ) (c : Contact) → shown_on m p c ≡ among (path p J) c
  pub has : (p : ℕ) (c : Contact) → among (path p J) c ≡ true → IsSome (get key_eq m.contacts c)
  pub known : (p : ℕ) → All (IsKnown s p m) (unsettled p J)
