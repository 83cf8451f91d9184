-- What each step of settling owes.
use Rattle.std.specs.Prelude.{◌≡◌, ◌≢◌, ℕ, ◌<◌, ◌≤◌, List, [], ◌++◌, length, slice_index_or, OnOk}
use Rattle.std.specs.List.{All}
use Rattle.kad_base.specs.declared.serial.Made.{Made}
use Rattle.kad_base.specs.Limits.{max_paths}
use Rattle.turn_book.specs.Turns.{TurnState, mine}
use Rattle.contact_table.specs.declared.calls.TableCall.{TableCall}
use Rattle.contact_table.specs.declared.calls.TableReply.{TableReply}
use Rattle.contact_table.specs.TableState.{TableState}
use Rattle.contact_table.specs.Told.{HasMemory, calls_in, seen_calls}
use Rattle.claim_book.specs.declared.types.Entry.{Entry}
use Rattle.claim_book.specs.Journal.{unsettled}
use Rattle.lookup_crowd.specs.declared.seeker.Seeker.{Seeker}
use Rattle.lookup_crowd.specs.Errands.{noted}
use Rattle.lookup_crowd.specs.inner.Crowd.{Holding}
use Rattle.lookup_crowd.specs.inner.ManySteps.{IsSeated, SettlesSome, SettlesWhole}

-- the lookup can settle what it has: what it believes is what its book settles by
pub record CanSettle (tables : TurnState TableState) (k : Seeker) : Type 0 where
  pub own : IsSeated tables k
  pub holds : Holding k
  pub policy : k.quest.policy ≡ k.lookup.book.setting.policy
  pub few_paths : k.lookup.book.setting.paths ≤ max_paths

-- ---- one lookup

-- the table was told of each contact that the new entries note, in order
pub record TellsNoted (old new : Seeker) (more : List Entry) : Type 0 where
  pub told : List (Made TableCall TableReply)
  pub grew : mine new.pass ≡ mine old.pass ++ told
  pub calls : calls_in told ≡ seen_calls (noted more)
  pub memory : All (λ m. HasMemory m.reply) told

-- something of the path is settled, or nothing, and nothing of any other
pub record SettlesOn (path : ℕ) (old new : Seeker) : Type 0 where
  pub some : SettlesSome old new
  pub others : (p : ℕ) → p ≢ path → unsettled p new.lookup.book.journal ≡ unsettled p old.lookup.book.journal
  pub tells : TellsNoted old new some.more

-- all that the first paths have is settled
pub record SettlesTo (paths : ℕ) (old new : Seeker) : Type 0 where
  pub some : SettlesSome old new
  pub left : (p : ℕ) → p < paths → unsettled p new.lookup.book.journal ≡ []
  pub tells : TellsNoted old new some.more

-- all that the lookup has is settled, unless the table had no memory
pub record Settles (old new : Seeker) : Type 0 where
  pub some : SettlesSome old new
  pub whole : OnOk new.settled (SettlesWhole old new)

-- ---- all of them

-- so it is with each
abbrev pub EachSettles : List Seeker → List Seeker → Type 0
EachSettles old new = (i : ℕ) (d : Seeker) → i < length old → Settles (slice_index_or old i d) (slice_index_or new i d)

-- one of the first paths has something to settle
pub record HasSome (J : List Entry) : Type 0 where
  pub path : ℕ
  pub within : path < max_paths
  pub left : unsettled path J ≢ []

-- more than one lookup has
pub record SeveralHaveSome (ks : List Seeker) : Type 0 where
  pub one : ℕ
  pub other : ℕ
  pub apart : one < other
  pub within : other < length ks
  pub of_one : (d : Seeker) → HasSome (slice_index_or ks one d).lookup.book.journal
  pub of_other : (d : Seeker) → HasSome (slice_index_or ks other d).lookup.book.journal
