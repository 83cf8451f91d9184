-- What a lookup starts from: its setting, by the words, and a routing table, by the words and the input (Kademlia, 2002,
-- sections 2.2 and 2.4).
use Rattle.std.specs.Prelude.{◌≢◌, ℕ, List, [], map, Option, Some, None, ◌≤◌}
use Rattle.kad_base.specs.declared.types.Id.{Id}
use Rattle.kad_base.specs.declared.types.Contact.{Contact}
use Rattle.kad_base.specs.Limits.{max_k, max_paths, max_alpha, max_bits}
use Rattle.kad_base.specs.Words.{drawn_bytes}
use Rattle.id_puzzles.specs.Drawn.{WordsState}
use Rattle.contact_table.specs.declared.calls.TableCall.TheVariants.{Seen}
use Rattle.contact_table.specs.TableState.{TableState}
use Rattle.contact_table.specs.Told.{new_table}
use Rattle.claim_book.specs.declared.types.Setting.{Setting}
use Rattle.lookup_run.specs.declared.types.LookSetting.{LookSetting}
use Rattle.lookup_core.specs.declared.quest.AskKind.{AskKind}
use Rattle.lookup_run.specs.Tells.{Given}
use Rattle.lookup_run.specs.Lookup.{setting_of, given_of, Told, TableTold}
use Rattle.kad_words.specs.declared.command.LookWords.{LookWords}
use Rattle.command_base.specs.Shown.{Shown}
use Rattle.command_base.specs.Called.{Called}
use Rattle.command_base.specs.Input.{Reads}

-- the node's identifier: the one of the words, or the first five drawn words
abbrev pub own_of : Option Id → List ℕ → Id
own_of (Some own) random = own
own_of None random = record { 0 = drawn_bytes random 0 5 }

-- what a lookup by this query is set to by its words
abbrev pub look_of : AskKind → LookWords → List ℕ → LookSetting
look_of kind look random = record {
  own = own_of look.own random;
  target = look.target;
  k = look.k;
  paths = look.paths;
  alpha = look.alpha;
  policy = look.policy;
  timeout = look.timeout;
  kind = kind;
  family = look.family;
  sealed = look.sealed;
  per_address = look.per_address;
  claim = look.claim;
}

-- what its book is set to
abbrev pub book_of : AskKind → LookWords → List ℕ → Setting
book_of kind look random = setting_of (look_of kind look random)

-- its transaction ids are drawn from the sixth word on
abbrev pub drawn_of : List ℕ → WordsState
drawn_of random = record { seed = random; place = 5 }

-- what its events are read by: the setting, the tags that are accepted, and the drawn words
abbrev pub lookup_of : AskKind → LookWords → Called → Given
lookup_of kind look called = given_of (look_of kind look called.random) called.accepts (drawn_of called.random)

-- the values of the words are within the limits
pub record IsInRange (look : LookWords) : Type 0 where
  pub some_live : 1 ≤ look.k
  pub few_live : look.k ≤ max_k
  pub some_path : 1 ≤ look.paths
  pub few_paths : look.paths ≤ max_paths
  pub some_query : 1 ≤ look.alpha
  pub few_queries : look.alpha ≤ max_alpha
  pub some_bits : 1 ≤ look.bits
  pub few_bits : look.bits ≤ max_bits

-- k and b are within the limits of a table
pub record AreTableBounds (k bits : ℕ) : Type 0 where
  pub some_live : 1 ≤ k
  pub few_live : k ≤ max_k
  pub some_bits : 1 ≤ bits
  pub few_bits : bits ≤ max_bits

-- the table is told that a contact was seen
abbrev pub seen_call : Contact → Told
seen_call c = record { role = 0; call = Seen c }

-- the table is what a new one becomes that is told of these contacts, in order, where none of its replies is want of
-- memory
abbrev pub StartsWith : LookWords → List ℕ → List Contact → TableState → Type 0
StartsWith look random contacts table = TableTold (map seen_call contacts) (new_table (own_of look.own random) look.k look.bits) table

-- a lookup that the input gives a start: some contacts, and the table that was told of them
pub record Start (look : LookWords) (random : List ℕ) (source : Shown ℕ) : Type 0 where
  pub contacts : List Contact
  pub reads : Reads (own_of look.own random) look.family look.policy source contacts
  pub some_one : contacts ≢ []
  pub table : TableState
  pub told : StartsWith look random contacts table
