-- Contacts that a lookup lost because the link would not send to them, and what the link counts of it.
use Rattle.std.specs.Prelude.{◌≡◌, ◌⊎◌, ℕ, ◌+◌, ◌^◌, ◌≤◌, List, [], ◌∷◌, length}
use Rattle.std.specs.List.{flat_map}
use Rattle.kad_base.specs.declared.types.Contact.{Contact}
use Rattle.claim_book.specs.declared.types.Cause.{Cause}
use Rattle.claim_book.specs.declared.types.Cause.TheVariants.{SendFault}
use Rattle.claim_book.specs.declared.types.Entry.{Entry}
use Rattle.claim_book.specs.declared.types.Entry.TheVariants.{Lost}

-- a contact that was lost for this cause, where that is a refused send
abbrev pub unsent_by : Contact → Cause → List Contact
unsent_by c SendFault = c ∷ []
unsent_by c other = []

abbrev pub unsent_of : Entry → List Contact
unsent_of (Lost p c cause) = unsent_by c cause
unsent_of other = []

-- the contacts of a journal that were lost so, in order
unfoldable pub unsent : List Entry → List Contact
unsent J = flat_map unsent_of J

-- a link's count of refused sends rose by so many at least, or stands at its last value
abbrev pub IsCounted : ℕ → ℕ → ℕ → Type 0
IsCounted number before after = (before + number ≤ after) ⊎ (2 ^ 64 ≤ after + 1)

-- So many sends were refused, and the link counted each. Where none was, its count is as it was.
pub record Refused (number before after : ℕ) : Type 0 where
  pub counted : IsCounted number before after
  pub none : number ≡ 0 → after ≡ before
  pub no_less : before ≤ after

-- as many as a journal has lost
abbrev pub RefusedIn : List Entry → ℕ → ℕ → Type 0
RefusedIn J before after = Refused (length (unsent J)) before after

-- from one journal to the other so many contacts more were lost so, and the link counted them
pub record Refuses (J J' : List Entry) (before after : ℕ) : Type 0 where
  pub number : ℕ
  pub more : length (unsent J') ≡ length (unsent J) + number
  pub refused : Refused number before after
