use Rattle.lookup_core.specs.declared.state.Lookup.{Lookup}
use Rattle.lookup_core.proofs.Expiring.{oldest_open, oldest_holds}
use Rattle.lookup_core.proofs.state.Lookup.overdue.Goals as goal

pub lose-requires : goal.lose-requires
lose-requires c = oldest_open c.args.at c.in-Some.contact c.args.self.now.queries c.overdue.new.self c.args.self.now.book.journal c.in-Some.ensures.some c.requires.is_open

pub returns-in-Some-clause-some : goal.returns-in-Some-clause-some
returns-in-Some-clause-some c = record { legal = c.legal.ensures; closes = c.in-Some.ensures.some; book = c.lose.ensures }

pub returns-in-Some-clause-holds : goal.returns-in-Some-clause-holds
returns-in-Some-clause-holds c =
    let new : Lookup = record { book = c.lose.new.book; queries = c.overdue.new.self } in
    oldest_holds c.args.at c.in-Some.contact c.args.self.now new c.requires (record { legal = c.legal.ensures; closes = c.in-Some.ensures.some; book = c.lose.ensures })
