-- What each call of a refresh owes.
use Rattle.std.specs.Prelude.{◌≡◌, ◌⊎◌, ℕ, ◌+◌, ◌<◌, ◌≤◌, List, ◌∷◌, Option, Some, None, Bool, false, not, ◌&&◌, ◌++◌}
use Rattle.kad_base.specs.declared.types.Addr.{Addr}
use Rattle.kad_base.specs.declared.types.Contact.{Contact}
use Rattle.kad_base.specs.declared.types.Event.{Event}
use Rattle.kad_base.specs.Limits.{max_strays}
use Rattle.query_book.specs.declared.Query.{Query}
use Rattle.bucket_tree.specs.declared.types.Gone.{Gone}
use Rattle.contact_table.specs.TableState.{TableState}
use Rattle.id_puzzles.specs.Drawn.{WordsState}
use Rattle.lookup_core.specs.Sealed.{Accepts}
use Rattle.table_refresh.specs.declared.types.RefreshFault.{RefreshFault}
use Rattle.table_refresh.specs.declared.types.RefreshFault.TheVariants.{LinkFault, Strays, NoMemory}
use Rattle.table_refresh.specs.declared.types.Setting.{Setting}
use Rattle.table_refresh.specs.declared.types.Progress.{Progress}
use Rattle.table_refresh.specs.declared.types.Tried.{Tried}
use Rattle.table_refresh.specs.declared.types.Tried.TheVariants.{Waits, Over}
use Rattle.lookup_core.specs.Reply.{Reply}
use Rattle.table_refresh.specs.declared.pong.Pong.{Pong}
use Rattle.table_refresh.specs.declared.pong.Pong.TheVariants.{Stray, Answer, Refusal}
use Rattle.table_refresh.specs.Refreshed.{Given, Answers, IsMatched, IsStray, Standing, is_kept, left_after, IsSeen, HasFailed, TellsFrom, EndsBy}

-- what the events of a refresh are read by
abbrev pub given_of : Setting → Accepts → List ℕ → Given
given_of setting accepts seed = record { own = setting.own; timeout = setting.timeout; sealed = setting.sealed; all = setting.all; accepts = accepts; seed = seed }

-- ---- a reply

-- a reply that is matched
pub record Replies (sealed : Bool) (accepts : Accepts) (q : Query) (from : Addr) (bytes : List ℕ) (P : Reply → Type 0) : Type 0 where
  pub said : Reply
  pub matched : IsMatched sealed accepts q from bytes said
  pub what : P said

-- one that is, its tag aside
abbrev pub RepliesBare : Accepts → Query → Addr → List ℕ → Type 0
RepliesBare accepts q from bytes = Replies false accepts q from bytes (λ said. Unit {0})

-- what the datagram is to the ping
abbrev pub IsPong : Bool → Accepts → Query → Addr → List ℕ → Pong → Type 0
IsPong sealed accepts q from bytes Stray = IsStray sealed accepts q from bytes
IsPong sealed accepts q from bytes Answer = Replies sealed accepts q from bytes (Answers q.contact)
IsPong sealed accepts q from bytes Refusal = Replies sealed accepts q from bytes (λ said. ¬ Answers q.contact said)

-- ---- telling the table

-- the contact has failed, and was kept or not
pub record FailsKept (c : Contact) (kept : Bool) (table table' : TableState) : Type 0 where
  pub gone : Gone
  pub failed : HasFailed c gone table table'
  pub is : kept ≡ is_kept gone

-- ---- where a refresh stands

abbrev pub stands : Progress → ℕ → List Contact → Bool → Option Query → Standing
stands p place due again waits = record { moment = p.moment; place = place; strays = p.strays; due = due; again = again; waits = waits; table = p.table }

-- while the ping waits
abbrev pub waiting : Progress → ℕ → List Contact → Bool → Query → Standing
waiting p place due again q = stands p place due again (Some q)

-- after a try
abbrev pub tried : Progress → ℕ → List Contact → Bool → Bool → Standing
tried p place due again kept = stands p place (left_after (kept && not again) due) (kept && not again) None

-- after a receive
abbrev pub after : Progress → ℕ → List Contact → Bool → Query → Tried → Standing
after p place due again q Waits = waiting p place due again q
after p place due again q (Over kept) = tried p place due again kept

-- ---- what a call's events tell

-- one receive, whichever the words are and the contacts that are left
abbrev pub Takes : Setting → Accepts → Query → Progress → Progress → Tried → List Event → Type 0
Takes setting accepts q old new t es = (seed : List ℕ) (place : ℕ) (due : List Contact) (again : Bool) → TellsFrom (given_of setting accepts seed) (waiting old place due again q) es (after new place due again q t)

-- the receives of a try
abbrev pub Awaits : Setting → Accepts → Query → Progress → Progress → Bool → List Event → Type 0
Awaits setting accepts q old new kept es = (seed : List ℕ) (place : ℕ) (due : List Contact) (again : Bool) → TellsFrom (given_of setting accepts seed) (waiting old place due again q) es (tried new place due again kept)

abbrev pub AwaitEnds : Setting → Accepts → Query → Progress → TableState → RefreshFault → List Event → Type 0
AwaitEnds setting accepts q old table' fault es = (seed : List ℕ) (place : ℕ) (due : List Contact) (again : Bool) → EndsBy (given_of setting accepts seed) (waiting old place due again q) fault table' place es

-- a try, whichever the contacts behind this one are
abbrev pub Tries : Setting → Accepts → Contact → WordsState → WordsState → Progress → Progress → Bool → List Event → Type 0
Tries setting accepts head words words' old new kept es = (rest : List Contact) (again : Bool) → TellsFrom (given_of setting accepts words.seed) (stands old words.place (head ∷ rest) again None) es (tried new words'.place (head ∷ rest) again kept)

abbrev pub TryEnds : Setting → Accepts → Contact → WordsState → WordsState → Progress → TableState → RefreshFault → List Event → Type 0
TryEnds setting accepts head words words' old table' fault es = (rest : List Contact) (again : Bool) → EndsBy (given_of setting accepts words.seed) (stands old words.place (head ∷ rest) again None) fault table' words'.place es

-- the tries of some contacts, whichever those behind them are
abbrev pub PingsThese : Setting → Accepts → List Contact → WordsState → WordsState → Progress → Progress → List Event → Type 0
PingsThese setting accepts these words words' old new es = (rest : List Contact) → TellsFrom (given_of setting accepts words.seed) (stands old words.place (these ++ rest) false None) es (stands new words'.place rest false None)

abbrev pub TheseEnd : Setting → Accepts → List Contact → WordsState → WordsState → Progress → TableState → RefreshFault → List Event → Type 0
TheseEnd setting accepts these words words' old table' fault es = (rest : List Contact) → EndsBy (given_of setting accepts words.seed) (stands old words.place (these ++ rest) false None) fault table' words'.place es

-- ---- one receive

-- the contact failed at this moment
pub record FailsAt (q : Query) (at : ℕ) (old new : Progress) (t : Tried) : Type 0 where
  pub kept : Bool
  pub failed : FailsKept q.contact kept old.table new.table
  pub is : t ≡ Over kept
  pub moment : new.moment ≡ at
  pub strays : new.strays ≡ old.strays

-- no reply came: the try goes on before the deadline, and is over at it
pub record GoesOn (q : Query) (at : ℕ) (old new : Progress) (t : Tried) : Type 0 where
  pub early : at < q.deadline
  pub is : t ≡ Waits
  pub after_is : new ≡ record { table = old.table; moment = at; strays = old.strays }

abbrev pub TakesNone : Query → ℕ → Progress → Progress → Tried → Type 0
TakesNone q at old new t = GoesOn q at old new t ⊎ ((q.deadline ≤ at) × FailsAt q at old new t)

-- a stray came, and wasn't the last that a refresh takes
pub record TakesStray (q : Query) (at : ℕ) (old new : Progress) (t : Tried) : Type 0 where
  pub none : TakesNone q at (record { table = old.table; moment = old.moment; strays = old.strays + 1 }) new t
  pub few : new.strays < max_strays

-- an answer came
pub record TakesAnswer (q : Query) (at : ℕ) (old new : Progress) (t : Tried) : Type 0 where
  pub seen : IsSeen q.contact old.table new.table
  pub is : t ≡ Over false
  pub moment : new.moment ≡ at
  pub strays : new.strays ≡ old.strays

-- what a datagram leaves, by what it is to the ping
abbrev pub TakesPong : Pong → Query → ℕ → Progress → Progress → Tried → Type 0
TakesPong Stray q at old new t = TakesStray q at old new t
TakesPong Answer q at old new t = TakesAnswer q at old new t
TakesPong Refusal q at old new t = FailsAt q at old new t

-- a datagram that was taken
pub record TakesDatagram (sealed : Bool) (accepts : Accepts) (q : Query) (from : Addr) (bytes : List ℕ) (at : ℕ) (old new : Progress) (t : Tried) : Type 0 where
  pub pong : Pong
  pub is : IsPong sealed accepts q from bytes pong
  pub takes : TakesPong pong q at old new t

-- one that wasn't: the last stray, or a reply, whatever its tag is, for which there was no memory
abbrev pub StopsGot : Bool → Accepts → Query → Addr → List ℕ → Progress → RefreshFault → Type 0
StopsGot sealed accepts q from bytes old LinkFault = ⊥
StopsGot sealed accepts q from bytes old Strays = IsStray sealed accepts q from bytes × (old.strays + 1 ≡ max_strays)
StopsGot sealed accepts q from bytes old NoMemory = RepliesBare accepts q from bytes
