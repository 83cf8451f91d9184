use Rattle.node_top.proofs.asked.read_command.Goals as goal

pub returns-in-Err-NoMemory-clause-no_memory : goal.returns-in-Err-NoMemory-clause-no_memory
returns-in-Err-NoMemory-clause-no_memory c = λ e. c.in-Err-NoMemory.ensures.memory c.in-Err-NoMemory.field-0-is

pub returns-in-Err-NoMemory-clause-plain : goal.returns-in-Err-NoMemory-clause-plain
returns-in-Err-NoMemory-clause-plain c = λ none_. absurd (none_ (c.in-Err-NoMemory.ensures.memory c.in-Err-NoMemory.field-0-is))
