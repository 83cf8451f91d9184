-- Open queries, oldest first.
use Rattle.std.specs.Prelude.{◌≡◌, ◌≢◌, ℕ, ◌+◌, ◌%◌, ◌^◌, ◌<◌, ◌≤◌, List, ◌∷◌, length, Any, AllPairs, Some, slice_get, remove}
use Rattle.kad_base.specs.declared.types.Addr.{Addr}
use Rattle.kad_base.specs.declared.types.Contact.{Contact}
use Rattle.kad_base.specs.Limits.{max_open}
use Rattle.query_book.specs.declared.Query.{Query}

-- there are at most 32, no two have one transaction id, and none is due before an older one
pub record IsQueries (queries : List Query) : Type 0 where
  pub few : length queries ≤ max_open
  pub ids : AllPairs (λ a b. a.tx ≢ b.tx) queries
  pub deadlines : AllPairs (λ a b. a.deadline ≤ b.deadline) queries

-- some query has the transaction id
abbrev pub HasId : List Query → ℕ → Type 0
HasId queries tx = Any (λ q. q.tx ≡ tx) queries

-- the first of word, word + 1, .., wrapping at 2^32, that no query has as its transaction id (BEP 5 leaves the choice
-- to who asks)
pub record IsFirstFree (queries : List Query) (word tx : ℕ) : Type 0 where
  pub steps : ℕ
  pub is_id : tx ≡ (word + steps) % 2 ^ 32
  pub free : ¬ HasId queries tx
  pub taken_before : (n : ℕ) → n < steps → HasId queries ((word + n) % 2 ^ 32)

-- the query has the transaction id, and was sent to the address
abbrev pub IsOf : ℕ → Addr → Query → Type 0
IsOf tx from q = (q.tx ≡ tx) × (q.contact.addr ≡ from)

-- the query at that place has the transaction id, and was sent to the address
pub record IsOfAt (tx : ℕ) (from : Addr) (queries : List Query) (place : ℕ) : Type 0 where
  pub query : Query
  pub here : slice_get queries place ≡ Some query
  pub answers : IsOf tx from query

-- the query with the transaction id that was sent to the address is closed, and the others stay
pub record Closes (tx : ℕ) (from : Addr) (contact : Contact) (old new : List Query) : Type 0 where
  pub place : ℕ
  pub query : Query
  pub here : slice_get old place ≡ Some query
  pub answers : IsOf tx from query
  pub contact_is : contact ≡ query.contact
  pub others : new ≡ remove old place

-- the oldest query is closed, which is overdue, and the others stay
pub record ClosesOldest (at : ℕ) (contact : Contact) (old new : List Query) : Type 0 where
  pub oldest : Query
  pub others : old ≡ oldest ∷ new
  pub due : oldest.deadline ≤ at
  pub contact_is : contact ≡ oldest.contact
