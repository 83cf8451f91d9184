use Rattle.std.proofs.Common.{◌∙◌, refl}
use Rattle.lookup_run.proofs.Asking.{asks_not, asks_then, asks_over}
use Rattle.lookup_core.proofs.Refusing.{refuses_none, refuses_then}
use Rattle.lookup_run.proofs.ask.ask_path.Goals as goal

pub asking-init : goal.asking-init
asking-init g c =
    let r = c.requires in
    record {
      asks = asks_not c.args.look.now c.args.path c.args.words.now c.args.work.now _ r.keeps r.has_words r.settled r.none_below;
      moment = refl;
      refuses = refuses_none c.args.work.now.lookup.book.journal c.args.work.now.lookup.book.journal _ _ refl refl;
      faults = refl;
      kept = refl;
    }

pub asking-preserved : goal.asking-preserved
asking-preserved g c =
    let p = c.args.path in
    let i = c.asking.invariant in
    record {
      asks = asks_then c.args.look.now p p p c.args.words.now c.asking.words c.ask_one.new.words c.args.work.now c.asking.work c.ask_one.new.work _ _ _ i.asks (c.asking-test.ensures.some refl);
      moment = c.ask_one.ensures.moment ∙ i.moment;
      refuses = refuses_then c.args.work.now.lookup.book.journal c.asking.work.lookup.book.journal c.ask_one.new.work.lookup.book.journal _ _ _ i.refuses c.ask_one.ensures.refuses;
      faults = c.ask_one.ensures.recv_faults ∙ i.faults;
      kept = c.ask_one.ensures.kept ∙ i.kept;
    }

pub returns-clause-asks : goal.returns-clause-asks
returns-clause-asks g c =
    let p = c.args.path in
    asks_over c.args.look.now p c.args.words.now c.asking.words c.ask_one.new.words c.args.work.now c.asking.work c.ask_one.new.work _ _ _ c.asking.invariant.asks (c.asking-test.ensures.none refl)

pub returns-clause-refuses : goal.returns-clause-refuses
returns-clause-refuses g c = refuses_then c.args.work.now.lookup.book.journal c.asking.work.lookup.book.journal c.ask_one.new.work.lookup.book.journal _ _ _ c.asking.invariant.refuses c.ask_one.ensures.refuses
