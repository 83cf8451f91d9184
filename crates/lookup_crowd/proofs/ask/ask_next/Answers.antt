use Rattle.kad_base.specs.Words.{word}
use Rattle.lookup_core.specs.Timeouts.{deadline_of}
use Rattle.lookup_core.proofs.Opening.{last_opened}
use Rattle.lookup_crowd.specs.inner.ManySteps.{is_sent, is_unsent}
use Rattle.std.proofs.Common.{refl, ap}
use Rattle.lookup_core.specs.declared.state.Lookup.{Lookup}
use Rattle.lookup_core.specs.SendFaults.{unsent}
use Rattle.lookup_core.proofs.Refusing.{refuses_none, refuses_sent, refuses_unsent}
use Rattle.lookup_crowd.proofs.ask.ask_next.Goals as goal

pub returns-then-send_query-clause-some : goal.returns-then-send_query-clause-some
returns-then-send_query-clause-some g c asked = is_sent c.in-Some.asked c.in-Some.ensures.some (c.send_query.ensures.sent c.if-send_query.true)

pub unsent-requires : goal.unsent-requires
unsent-requires g c =
    let k = c.args.seeker.now in
    (k.lookup.queries, last_opened (word c.args.words.now.seed c.args.words.now.place) (deadline_of c.args.moment k.quest.timeout) c.args.path k.lookup c.ask.new.self c.in-Some.asked c.in-Some.ensures.some)

pub returns-clause-some : goal.returns-clause-some
returns-clause-some g c asked =
    let k = c.args.seeker.now in
    let last = last_opened (word c.args.words.now.seed c.args.words.now.place) (deadline_of c.args.moment k.quest.timeout) c.args.path k.lookup c.ask.new.self c.in-Some.asked c.in-Some.ensures.some in
    is_unsent c.in-Some.asked c.ask.new.self c.in-Some.ensures.some (c.unsent.ensures.queries k.lookup.queries last) c.unsent.ensures.book (c.send_query.ensures.unsent c.if-send_query.false)

pub returns-in-None-clause-refuses : goal.returns-in-None-clause-refuses
returns-in-None-clause-refuses g c = refuses_none _ _ _ _ (ap (λ (k : Lookup). unsent k.book.journal) c.in-None.ensures.same) refl

pub returns-then-send_query-clause-refuses : goal.returns-then-send_query-clause-refuses
returns-then-send_query-clause-refuses g c = refuses_sent c.args.path c.in-Some.asked.contact c.args.seeker.now.lookup.book c.ask.new.self.book _ _ c.in-Some.ensures.some.book (c.if-send_query.ensures.well refl)

pub returns-clause-refuses : goal.returns-clause-refuses
returns-clause-refuses g c =
    refuses_unsent c.args.path _ c.in-Some.asked.contact _ c.args.seeker.now.lookup.book c.ask.new.self.book c.unsent.new.self.book _ _ c.in-Some.ensures.some.book c.unsent.ensures.book c.if-send_query.ensures.send_faults (c.if-send_query.ensures.failed refl)
