-- What the top calls promise, by the command that the words ask for. A command more is a module, and a line in
-- `promise_of`.
use Rattle.std.specs.Prelude.{◌≡◌, ℕ, List, Option, Bool, IsTrue}
use Rattle.kad_base.specs.declared.types.Id.{Id}
use Rattle.kad_base.specs.declared.types.Policy.{Policy}
use Rattle.kad_base.specs.declared.types.Event.{Event}
use Rattle.kad_base.specs.Outside.{Grows}
use Rattle.kad_words.specs.Table.{Word}
use Rattle.kad_words.specs.Plain.{CommandOf}
use Rattle.kad_words.specs.declared.command.Command.{Command}
use Rattle.kad_words.specs.declared.command.Command.TheVariants.{Lookup, Peers, Get, Put, Serve, Node, Table, Refresh, Check, Mint, Sim}
use Rattle.command_base.specs.declared.status.Status.{Status}
use Rattle.command_base.specs.declared.status.Status.TheVariants.{Usage, NoMemory}
use Rattle.node_top.specs.Asked.{AsksPlain}
use Rattle.plain_commands.specs.Checked.{check_promise}
use Rattle.lookup_commands.specs.Got.{get_promise}
use Rattle.serve_commands.specs.Served.{serve_promise}
use Rattle.node_commands.specs.Several.{node_promise}
use Rattle.lookup_commands.specs.Looked.{lookup_promise}
use Rattle.plain_commands.specs.Minted.{mint_promise}
use Rattle.lookup_commands.specs.Peered.{peers_promise}
use Rattle.table_commands.specs.Refreshing.{refresh_promise}
use Rattle.command_base.specs.Input.{IsBadLine}
use Rattle.command_base.specs.Promise.{Promise}
use Rattle.command_base.specs.Shown.{Shown, HasFailed, nowhere}
use Rattle.command_base.specs.Called.{Called}
use Rattle.plain_commands.specs.Simulated.{sim_promise}
use Rattle.lookup_commands.specs.Stored.{put_promise}
use Rattle.table_commands.specs.Tabled.{table_promise}

abbrev pub promise_of : Command → Promise
promise_of (Lookup look) = lookup_promise look
promise_of (Peers look announce spread) = peers_promise look announce spread
promise_of (Get look) = get_promise look
promise_of (Put look item spread) = put_promise look item spread
promise_of (Serve words) = serve_promise words
promise_of (Node words) = node_promise words
promise_of (Table words) = table_promise words
promise_of (Refresh words) = refresh_promise words
promise_of (Check policy) = check_promise policy
promise_of (Mint words) = mint_promise words
promise_of (Sim words) = sim_promise words

-- ---- the command that the words ask for

-- the words ask for a command, and this holds of it
pub record OfCommand (words : List Word) (holds_of : Command → Type 0) : Type 0 where
  pub command : Command
  pub asked : CommandOf words command
  pub holds : holds_of command

-- ---- what it makes

-- the words ask for a command, and this is its text
abbrev pub HasText : List Word → Called → Shown ℕ → Shown Event → List ℕ → Type 0
HasText words called source link text = OfCommand words (λ c. (promise_of c).text called source link text)

-- a whole command: the words ask for it, and its text was written
pub record IsDone (words : List Word) (called : Called) (source : Shown ℕ) (link : Shown Event) (sink : Shown ℕ) : Type 0 where
  pub text : List ℕ
  pub has_text : HasText words called source link text
  pub writes : Grows sink.before sink.after (λ added. added ≡ text)

-- the words ask for a command over a link, which was begun and not ended
abbrev pub HasBegun : List Word → Called → Shown ℕ → Shown Event → Type 0
HasBegun words called source link = OfCommand words (λ c. (promise_of c).begun called source link)

-- the words ask for a command over a link, which had read what it begins with
abbrev pub HasStart : List Word → Called → Shown ℕ → Type 0
HasStart words called source = OfCommand words (λ c. (promise_of c).started called source)

-- ---- what it met

-- the words ask for a command that reads an input
abbrev pub ReadsInput : List Word → Type 0
ReadsInput words = OfCommand words (λ c. IsTrue (promise_of c).reads)

-- the words ask for a command; the input was read to its end, and the line of this number is bad by what the command reads
abbrev pub NamesBadLine : List Word → Shown ℕ → ℕ → Type 0
NamesBadLine words source number = OfCommand words (λ c. IsBadLine (promise_of c).bad source number)

-- some line of it is
abbrev pub HasBadLine : List Word → Shown ℕ → Type 0
HasBadLine words source = (number : ℕ) × NamesBadLine words source number

-- the words ask for a command that reads a saved table; the input was read to its end, and it is one that isn't sound
abbrev pub HasUnsound : List Word → Shown ℕ → Type 0
HasUnsound words source = OfCommand words (λ c. (promise_of c).unsound source)

-- the words ask for a command that looks something up, and have no value that it refuses; the input was read to its end, its
-- lines are good, and none gives a contact that is usable and passes
abbrev pub HasNoSeeds : List Word → Called → Shown ℕ → Type 0
HasNoSeeds words called source = OfCommand words (λ c. (¬ (promise_of c).refused) × (promise_of c).no_seeds called source)

-- the words ask for a command that counts strays, and the link's events end with the last that it takes: a lookup's by a
-- journal of its own
abbrev pub HasStrays : List Word → Called → Shown ℕ → Shown Event → Type 0
HasStrays words called source link = OfCommand words (λ c. (promise_of c).strays called source link)

-- the words ask for a command, and the link's events have fewer strays than it takes, if it counts them
abbrev pub HasNoLastStray : List Word → Called → Shown ℕ → Shown Event → Type 0
HasNoLastStray words called source link = OfCommand words (λ c. (promise_of c).few called source link)

-- the words ask for a command that counts strays, and the link's events show by themselves that they end with that stray:
-- those of a lookup that isn't sealed, by whatever journal
abbrev pub EndsInStrays : List Word → Called → Shown Event → Type 0
EndsInStrays words called link = OfCommand words (λ c. (promise_of c).last_stray called link)

-- the words ask for a command, and have a value that it refuses
abbrev pub HasBadValue : List Word → Type 0
HasBadValue words = OfCommand words (λ c. (promise_of c).refused)

-- the words ask for a command, and have a proof that doesn't show that the identifier was made which they, or these random bytes, give
-- the node
abbrev pub HasBadProof : List Word → List ℕ → Type 0
HasBadProof words random = OfCommand words (λ c. (promise_of c).unproved random)

-- the words ask for a search, which finds nothing
abbrev pub HasNothing : List Word → List ℕ → Type 0
HasNothing words random = OfCommand words (λ c. (promise_of c).nothing random)

-- ---- why it has no text

-- the words ask for a command, and it has this cause of this status
abbrev pub IsCaused : List Word → Called → Shown ℕ → Shown Event → Status → Type 0
IsCaused words called source link status = OfCommand words (λ c. (promise_of c).cause called source link status)

-- why there is no output, of words that may ask or not: they don't, there was no memory to read them, or the command's own
abbrev pub HasCause : Type 0 → List Word → Called → Shown ℕ → Shown Event → Status → Type 0
HasCause asks words called source link Usage = (¬ asks) × (source.after ≡ source.before)
HasCause asks words called source link NoMemory = Unit {0}
HasCause asks words called source link status = IsCaused words called source link status

-- ---- what it needs

-- what a command needs to end well
pub record GoesWell (words : List Word) (called : Called) (source : Shown ℕ) (link : Shown Event) (sink : Shown ℕ) : Type 0 where
  pub command : Command
  pub asked : CommandOf words command
  pub needs : (promise_of command).needs called source link
  pub writes : ¬ HasFailed sink

-- the same of a command that takes no link
abbrev pub GoesPlainlyWell : List Word → Called → Shown ℕ → Shown ℕ → Type 0
GoesPlainlyWell words called source sink = AsksPlain words × GoesWell words called source nowhere sink
