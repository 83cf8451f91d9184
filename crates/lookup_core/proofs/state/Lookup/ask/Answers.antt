use Rattle.std.proofs.Common.{sym}
use Rattle.lookup_core.specs.declared.state.Lookup.{Lookup}
use Rattle.lookup_core.proofs.Opening.{room_of, ask_holds}
use Rattle.lookup_core.proofs.state.Lookup.ask.Goals as goal

pub open-tx-requires-clause-room : goal.open-tx-requires-clause-room
open-tx-requires-clause-room c = room_of c.args.quest.now c.args.moment c.args.words.now c.args.path c.in-Some.contact c.args.self.now c.requires c.in-Some.ensures.legal c.in-Some.ensures.contact

pub returns-clause-some : goal.returns-clause-some
returns-clause-some c = record {
  legal = c.in-Some.ensures.legal;
  may = sym c.in-Some.ensures.contact;
  id = c.open-tx.ensures.id;
  book = c.in-Some.ensures.after;
  queries = c.open-tx.ensures.queries;
}

pub returns-clause-holds : goal.returns-clause-holds
returns-clause-holds c =
    let new : Lookup = record { book = c.next.new.book; queries = c.open-tx.new.queries } in
    ask_holds _ _ c.args.path c.args.self.now new (record { contact = c.in-Some.contact; tx = c.open-tx.result }) c.requires.holds
    (record { legal = c.in-Some.ensures.legal; may = sym c.in-Some.ensures.contact; id = c.open-tx.ensures.id; book = c.in-Some.ensures.after; queries = c.open-tx.ensures.queries })
