use Rattle.std.proofs.Common.{◌∙◌, refl, arith}
use Rattle.lookup_crowd.proofs.AskingAll.{asks_none, asks_then}
use Rattle.lookup_crowd.proofs.Losing.{loses_none, loses_then}
use Rattle.lookup_crowd.proofs.ask.ask_path.Goals as goal

pub asking-init : goal.asking-init
asking-init g c =
    let r = c.requires in
    record {
      len = refl;
      asks = λ accepts tags server host. asks_none accepts tags server host c.args.words.now c.args.words.now c.args.seekers.now c.args.seekers.now c.args.progress.now _ _ c.args.owners.now.items c.args.owners.now.items r.may refl refl refl refl;
      may = r.may;
      none_before = r.none_before;
      moment = refl;
      faults = refl;
      loses = loses_none _ _ _ _ refl (omega arith);
      kept = refl;
    }

pub asking-preserved : goal.asking-preserved
asking-preserved g c =
    let i = c.asking.invariant in
    let e = c.ask_written.ensures in
    let new = c.ask_written.new in
    record {
      len = e.len ∙ i.len;
      asks = λ accepts tags server host. asks_then accepts tags server host c.args.words.now c.asking.words new.words c.args.seekers.now c.asking.seekers new.seekers c.args.progress.now _ _ _ c.args.owners.now.items c.asking.owners.items new.owners.items (i.asks accepts tags server host) (e.asks accepts tags server host);
      may = e.may;
      none_before = e.none_before;
      moment = e.moment ∙ i.moment;
      faults = e.recv_faults ∙ i.faults;
      loses = loses_then _ _ _ _ _ _ i.loses e.loses;
      kept = e.kept ∙ i.kept;
    }

pub returns-in-Ok-false-clause-asks : goal.returns-in-Ok-false-clause-asks
returns-in-Ok-false-clause-asks g c accepts tags server host =
    let new = c.ask_written.new in
    asks_then accepts tags server host c.args.words.now c.asking.words new.words c.args.seekers.now c.asking.seekers new.seekers c.args.progress.now _ _ _ c.args.owners.now.items c.asking.owners.items new.owners.items (c.asking.invariant.asks accepts tags server host) (c.ask_written.ensures.asks accepts tags server host)

pub returns-in-Err-clause-asks : goal.returns-in-Err-clause-asks
returns-in-Err-clause-asks g c accepts tags server host =
    let new = c.ask_written.new in
    asks_then accepts tags server host c.args.words.now c.asking.words new.words c.args.seekers.now c.asking.seekers new.seekers c.args.progress.now _ _ _ c.args.owners.now.items c.asking.owners.items new.owners.items (c.asking.invariant.asks accepts tags server host) (c.ask_written.ensures.asks accepts tags server host)

pub returns-in-Err-clause-loses : goal.returns-in-Err-clause-loses
returns-in-Err-clause-loses g c = loses_then _ _ _ _ _ _ c.asking.invariant.loses c.ask_written.ensures.loses

pub returns-in-Ok-false-clause-loses : goal.returns-in-Ok-false-clause-loses
returns-in-Ok-false-clause-loses g c = loses_then _ _ _ _ _ _ c.asking.invariant.loses c.ask_written.ensures.loses
