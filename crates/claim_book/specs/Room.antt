-- The room that a book keeps, so that no later call on the contacts that it knows takes memory.
use Rattle.std.specs.Prelude.{ℕ, zero, suc, ◌+◌, ◌*◌, ◌<◌, ◌≤◌, List, length}
use Rattle.std.specs.List.{sum_by}
use Rattle.kad_base.specs.Limits.{max_path_contacts}
use Rattle.kad_base.specs.Contacts.{without}
use Rattle.claim_book.specs.declared.types.Setting.{Setting}
use Rattle.claim_book.specs.declared.types.Thing.{Thing}
use Rattle.claim_book.specs.declared.types.Thing.TheVariants.{Responder, Told}
use Rattle.claim_book.specs.declared.types.Entry.{Entry}
use Rattle.claim_book.specs.declared.types.Entry.TheVariants.{Held, Turned, Rejected, Skipped}
use Rattle.claim_book.specs.Journal.{took, asked, open_any, unsettled}
use Rattle.claim_book.specs.Legal.{Legal}

-- a contact that answered is noted; a reported one is settled, and may then be asked and heard or lost
abbrev pub thing_room : Thing → ℕ
thing_room (Responder c) = 1
thing_room (Told r) = 3

-- what is unsettled on the first n paths
abbrev pub unsettled_room : ℕ → List Entry → ℕ
unsettled_room zero J = 0
unsettled_room (suc n) J = unsettled_room n J + sum_by thing_room (unsettled n J)

-- how many entries may still come, if no further contact answers
unfoldable pub room_for : ℕ → List Entry → ℕ
room_for paths J = 2 * length (without (took J) (asked J)) + length (open_any J) + unsettled_room paths J

-- how many entries less may still come once this one stands: a report that no path takes leaves nothing to come
abbrev pub frees : Entry → ℕ
frees (Held q c by) = 3
frees (Turned q c) = 3
frees (Rejected q r) = 3
frees (Skipped q r) = 3
frees other = 1

-- what a book keeps: its journal is legal, and has room for what may still come
pub record IsBook (s : Setting) (J : List Entry) (owed room : ℕ) : Type 0 where
  pub legal : Legal s J
  pub some_path : 0 < s.paths
  pub few_paths : s.paths < 256
  pub small : s.k < max_path_contacts
  pub all_owed : room_for s.paths J ≤ owed
  pub fits : length J + owed ≤ room
