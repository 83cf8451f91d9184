use Rattle.lookup_core.specs.declared.state.Lookup.{Lookup}
use Rattle.lookup_core.proofs.Opening.{last_closed, unsent_holds}
use Rattle.lookup_core.proofs.state.Lookup.unsent.Goals as goal

pub lose-requires : goal.lose-requires
lose-requires c = c.requires.1.is_open

pub returns-clause-queries : goal.returns-clause-queries
returns-clause-queries c before h = last_closed c.args.asked before c.args.self.now c.take.new.self c.take.result h c.take.ensures.some c.take.ensures.none

pub returns-clause-holds : goal.returns-clause-holds
returns-clause-holds c held =
    let new : Lookup = record { book = c.lose.new.book; queries = c.take.new.self } in
    let r = c.requires in
    unsent_holds c.args.asked r.0 c.args.self.now new c.legal.ensures r.1 (last_closed c.args.asked r.0 c.args.self.now c.take.new.self c.take.result r.1 c.take.ensures.some c.take.ensures.none) c.lose.ensures held
