-- How the top call ends: what was written. All of it is this project's own.
use Rattle.std.specs.Prelude.{◌≡◌, ℕ, List}
use Rattle.kad_base.specs.declared.types.Event.{Event}
use Rattle.kad_base.specs.Outside.{Grows}
use Rattle.command_base.specs.declared.status.Status.{Status}
use Rattle.command_base.specs.declared.status.Status.TheVariants.{BadLine}
use Rattle.kad_words.specs.Table.{Word}
use Rattle.kad_words.specs.Plain.{CommandOf}
use Rattle.kad_words.specs.declared.command.Command.{Command}
use Rattle.command_base.specs.Written.{IsFront}
use Rattle.command_base.specs.Shown.{Shown}
use Rattle.command_base.specs.Called.{Called}
use Rattle.node_top.specs.Commands.{promise_of, HasText, NamesBadLine}
use Rattle.command_base.specs.Endings.{number_of, status_line, Writes, MayEnd}

-- a status that names a line of the input names the one that is bad
abbrev pub Names : List Word → Shown ℕ → Status → Type 0
Names words source (BadLine line) = NamesBadLine words source line
Names words source other = Unit {0}

-- the line of the status of this number was written
pub record WritesLine (words : List Word) (number : ℕ) (source sink : Shown ℕ) : Type 0 where
  pub status : Status
  pub numbered : number ≡ number_of status
  pub names : Names words source status
  pub writes : Writes (status_line status) sink

-- a command whose text was not written to its end: all is as in a whole one, but that a front of its text was written
pub record CutShort (words : List Word) (called : Called) (source : Shown ℕ) (link : Shown Event) (sink : Shown ℕ) : Type 0 where
  pub text : List ℕ
  pub has_text : HasText words called source link text
  pub writes : Grows sink.before sink.after (λ added. IsFront added text)

-- the status is one of those of the command that the words ask for
abbrev pub EndsByCommand : List Word → ℕ → Type 0
EndsByCommand words status = (command : Command) → CommandOf words command → MayEnd (promise_of command) status
