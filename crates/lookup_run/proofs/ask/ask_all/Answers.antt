use Rattle.std.proofs.Common.{◌+◌, ◌∙◌, refl, arith, ap}
use Rattle.lookup_run.specs.declared.types.Progress.{Progress}
use Rattle.lookup_run.proofs.Asking.{asks_then, asks_not}
use Rattle.lookup_core.proofs.Refusing.{refuses_none, refuses_then}
use Rattle.lookup_run.proofs.ask.ask_all.Goals as goal

pub loop-path-init : goal.loop-path-init
loop-path-init g c =
    let b = c.requires.begins in
    record {
      asks = asks_not c.args.look.now 0 c.args.words.now c.args.work.now _ b.keeps b.has_words b.settled (λ q lt. absurd (omega (arith, lt)));
      moment = refl;
      refuses = refuses_none c.args.work.now.lookup.book.journal c.args.work.now.lookup.book.journal _ _ refl refl;
      faults = refl;
      kept = refl;
    }

pub loop-path-preserved : goal.loop-path-preserved
loop-path-preserved g c =
    let p = c.loop-path.path in
    let i = c.loop-path.invariant in
    record {
      asks = asks_then c.args.look.now 0 p (p + 1) c.args.words.now c.loop-path.words c.ask_path.new.words c.args.work.now c.loop-path.work c.ask_path.new.work _ _ _ i.asks c.ask_path.ensures.asks;
      moment = c.ask_path.ensures.moment ∙ i.moment;
      refuses = refuses_then c.args.work.now.lookup.book.journal c.loop-path.work.lookup.book.journal c.ask_path.new.work.lookup.book.journal _ _ _ i.refuses c.ask_path.ensures.refuses;
      faults = c.ask_path.ensures.recv_faults ∙ i.faults;
      kept = c.ask_path.ensures.kept ∙ i.kept;
    }

pub ask_path-requires-clause-round_over : goal.ask_path-requires-clause-round_over
ask_path-requires-clause-round_over g c = ap (λ (x : Progress). x.receives) c.loop-path.invariant.asks.progress ∙ c.requires.begins.round_over
