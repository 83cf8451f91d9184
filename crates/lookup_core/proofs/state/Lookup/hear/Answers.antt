use Rattle.lookup_core.specs.declared.state.Lookup.{Lookup}
use Rattle.lookup_core.specs.Reply.{reply_seen}
use Rattle.lookup_core.proofs.Matching.{stands_open}
use Rattle.lookup_core.proofs.Holding.{reply_holds}
use Rattle.lookup_core.proofs.state.Lookup.hear.Goals as goal

pub on_reply-requires : goal.on_reply-requires
on_reply-requires c = stands_open c.args.self.now.book.journal c.args.self.now.queries c.args.place c.at.result c.requires.holds.is_open c.at.ensures

pub returns-clause-hears : goal.returns-clause-hears
returns-clause-hears c = record { query = c.at.result; was_open = c.at.ensures; closes = c.remove.ensures.others; hears = c.in_ok-taken.ensures.hears }

pub returns-clause-holds : goal.returns-clause-holds
returns-clause-holds c =
    let new : Lookup = record { book = c.on_reply.new.book; queries = c.remove.new.self } in
    reply_holds c.args.quest.now c.args.place (reply_seen c.args.reply) c.args.self.now new c.in_ok-taken.taken c.requires.holds c.legal.ensures
    (record { query = c.at.result; was_open = c.at.ensures; closes = c.remove.ensures.others; hears = c.in_ok-taken.ensures.hears })
