use Rattle.kad_words.proofs.OneCommand.{command_once, command_plain}
use Rattle.kad_words.proofs.reading.one_command.Goals as goal

pub returns-clause-one : goal.returns-clause-one
returns-clause-one c = command_once

pub returns-clause-plain : goal.returns-clause-plain
returns-clause-plain c = command_plain
