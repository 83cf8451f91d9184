use Rattle.std.proofs.Common.{◌≡◌, take}
use Rattle.clap.specs.Words.{app_of}
use Rattle.kad_words.specs.Taken.{app, names_of}
use Rattle.kad_words.proofs.matched.command_of.Given as goal

abbrev pub invariant-loop-choice : goal.invariant-loop-choice
invariant-loop-choice l = app_of l.command ≡ app (names_of (take l.choice-index l.choices))
