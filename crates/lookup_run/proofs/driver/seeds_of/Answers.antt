use Rattle.lookup_run.proofs.Looking.{seeds_told}
use Rattle.lookup_run.proofs.driver.seeds_of.Goals as goal

pub returns-in-List-clause-told : goal.returns-in-List-clause-told
returns-in-List-clause-told c = seeds_told c.args.look.now c.args.table.now c.apply.new.self c.in-List.list c.in-List.ensures.step c.in-List.ensures.after
