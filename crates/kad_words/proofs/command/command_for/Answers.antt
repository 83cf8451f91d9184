use Rattle.std.proofs.Common.{subst}
use Rattle.kad_words.specs.Table.{kind_word, options_of}
use Rattle.kad_words.specs.Taken.{taken_of}
use Rattle.kad_words.specs.Fitting.{AllFit}
use Rattle.kad_words.proofs.command.command_for.Goals as goal

-- Which options those of a command are is computed from all of them; here the word of the command is put in first.
pub refresh-requires : goal.refresh-requires
refresh-requires c = subst (λ kind. AllFit (options_of (kind_word kind)) (taken_of c.args.matches.now)) c.in-Refresh.is c.requires
