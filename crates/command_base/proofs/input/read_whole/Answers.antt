use Rattle.command_base.proofs.input.read_whole.Goals as goal

pub returns-in-Err-clause-last : goal.returns-in-Err-clause-last
returns-in-Err-clause-last g c is = record { at = c.reading.source; well = c.reading.invariant.well; failed = c.in-Err.ensures.failed; nothing_more = c.in-Err.ensures.err }
