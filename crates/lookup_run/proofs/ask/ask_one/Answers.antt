use Rattle.std.proofs.Common.{refl, sym, ap, subst}
use Rattle.lookup_core.specs.declared.quest.Quest.{Quest}
use Rattle.lookup_core.specs.LookupSteps.{CanAsk}
use Rattle.lookup_run.specs.declared.types.LookupState.{LookupState}
use Rattle.lookup_core.proofs.Opening.{last_opened, lost_added}
use Rattle.lookup_run.proofs.Asking.{can_ask, asking_of, sent_asks, unsent_asks}
use Rattle.lookup_core.specs.declared.state.Lookup.{Lookup}
use Rattle.lookup_core.specs.SendFaults.{unsent}
use Rattle.lookup_core.proofs.Refusing.{refuses_none, refuses_sent, refuses_unsent}
use Rattle.lookup_run.proofs.ask.ask_one.Goals as goal

pub ask-requires : goal.ask-requires
ask-requires g c = subst (λ (q : Quest). CanAsk q c.args.work.now.progress.moment c.args.words.now c.args.work.now.lookup) (sym c.quest.ensures)
    (can_ask c.args.look.now c.args.words.now c.args.work.now c.requires.limits c.requires.keeps c.requires.has_words c.legal.ensures)

pub returns-then-send_query-clause-some : goal.returns-then-send_query-clause-some
returns-then-send_query-clause-some g c sent =
    let w = c.args.work.now in
    let r = c.requires in
    let a = c.in-Some.asked in
    let asks = rw c.quest.ensures at c.in-Some.ensures.some in
    let asking = asking_of c.args.look.now c.args.path c.args.words.now c.ask.new.words w c.ask.new.self a r.limits r.path r.keeps r.has_words r.round_over r.settled r.none_below asks c.in-Some.ensures.drawn in
    (sent_asks c.args.look.now c.args.path a.contact a.tx c.args.words.now c.ask.new.words w _ _ _ asking (record { table = refl; progress = refl; gathered = refl }) asks.book asks.queries c.in-Some.ensures.holds (c.if-send_query.ensures.sent refl)).0

pub returns-then-send_query-clause-less : goal.returns-then-send_query-clause-less
returns-then-send_query-clause-less g c sent =
    let w : LookupState = c.args.work.now in
    let r = c.requires in
    let a = c.in-Some.asked in
    let asks = rw c.quest.ensures at c.in-Some.ensures.some in
    let asking = asking_of c.args.look.now c.args.path c.args.words.now c.ask.new.words w c.ask.new.self a r.limits r.path r.keeps r.has_words r.round_over r.settled r.none_below asks c.in-Some.ensures.drawn in
    (sent_asks c.args.look.now c.args.path a.contact a.tx c.args.words.now c.ask.new.words w (record w { lookup = c.ask.new.self }) _ _ asking (record { table = refl; progress = refl; gathered = refl }) asks.book asks.queries c.in-Some.ensures.holds (c.if-send_query.ensures.sent refl)).1

pub returns-then-send_query-clause-refuses : goal.returns-then-send_query-clause-refuses
returns-then-send_query-clause-refuses g c =
    let w : LookupState = c.args.work.now in
    let asks = c.in-Some.ensures.some in
    refuses_sent c.args.path c.in-Some.asked.contact w.lookup.book c.ask.new.self.book _ _ asks.book (c.if-send_query.ensures.well refl)

pub unsent-requires : goal.unsent-requires
unsent-requires g c = (c.args.work.now.lookup.queries, last_opened _ _ c.args.path c.args.work.now.lookup c.ask.new.self c.in-Some.asked c.in-Some.ensures.some)

pub returns-clause-some : goal.returns-clause-some
returns-clause-some g c sent =
    let w = c.args.work.now in
    let r = c.requires in
    let a = c.in-Some.asked in
    let asks = rw c.quest.ensures at c.in-Some.ensures.some in
    let asking = asking_of c.args.look.now c.args.path c.args.words.now c.ask.new.words w c.ask.new.self a r.limits r.path r.keeps r.has_words r.round_over r.settled r.none_below asks c.in-Some.ensures.drawn in
    let book = lost_added _ _ c.args.path w.lookup c.ask.new.self c.unsent.new.self a asks c.unsent.ensures.book in
    let queries = c.unsent.ensures.queries w.lookup.queries (last_opened _ _ c.args.path w.lookup c.ask.new.self a asks) in
    (unsent_asks c.args.look.now c.args.path a.contact a.tx c.args.words.now c.ask.new.words w _ _ _ asking (record { table = refl; progress = refl; gathered = refl }) book queries (c.unsent.ensures.holds c.in-Some.ensures.holds) (c.if-send_query.ensures.unsent refl)).0

pub returns-clause-less : goal.returns-clause-less
returns-clause-less g c sent =
    let w : LookupState = c.args.work.now in
    let r = c.requires in
    let a = c.in-Some.asked in
    let asks = rw c.quest.ensures at c.in-Some.ensures.some in
    let asking = asking_of c.args.look.now c.args.path c.args.words.now c.ask.new.words w c.ask.new.self a r.limits r.path r.keeps r.has_words r.round_over r.settled r.none_below asks c.in-Some.ensures.drawn in
    let book = lost_added _ _ c.args.path w.lookup c.ask.new.self c.unsent.new.self a asks c.unsent.ensures.book in
    let queries = c.unsent.ensures.queries w.lookup.queries (last_opened _ _ c.args.path w.lookup c.ask.new.self a asks) in
    (unsent_asks c.args.look.now c.args.path a.contact a.tx c.args.words.now c.ask.new.words w (record w { lookup = c.unsent.new.self }) _ _ asking (record { table = refl; progress = refl; gathered = refl }) book queries (c.unsent.ensures.holds c.in-Some.ensures.holds) (c.if-send_query.ensures.unsent refl)).1

pub returns-clause-refuses : goal.returns-clause-refuses
returns-clause-refuses g c =
    let w : LookupState = c.args.work.now in
    let asks = c.in-Some.ensures.some in
    refuses_unsent c.args.path _ c.in-Some.asked.contact _ w.lookup.book c.ask.new.self.book c.unsent.new.self.book _ _ asks.book c.unsent.ensures.book c.if-send_query.ensures.send_faults (c.if-send_query.ensures.refused refl)

pub returns-in-None-clause-refuses : goal.returns-in-None-clause-refuses
returns-in-None-clause-refuses g c =
    let w : LookupState = c.args.work.now in
    refuses_none w.lookup.book.journal c.ask.new.self.book.journal _ _ (ap (λ (k : Lookup). unsent k.book.journal) c.in-None.ensures.same) refl
