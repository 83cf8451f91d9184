use Rattle.std.proofs.Common.{◌∙◌, refl, arith}
use Rattle.lookup_crowd.proofs.AskingAll.{asks_none, asks_then, none_here, none_all}
use Rattle.lookup_crowd.proofs.Losing.{loses_none, loses_then}
use Rattle.lookup_crowd.proofs.ask.ask_all.Goals as goal

pub loop-i-init : goal.loop-i-init
loop-i-init g c =
    let r = c.requires in
    record {
      len = refl;
      asks = λ accepts tags server host. asks_none accepts tags server host c.args.words.now c.args.words.now c.args.seekers.now c.args.seekers.now c.args.progress.now _ _ c.args.owners.now.items c.args.owners.now.items r.may refl refl refl refl;
      may = r.may;
      none_before = none_here c.args.seekers.now;
      moment = refl;
      faults = refl;
      loses = loses_none _ _ _ _ refl (omega arith);
      kept = refl;
    }

pub loop-i-preserved : goal.loop-i-preserved
loop-i-preserved g c =
    let i = c.loop-i.invariant in
    let e = c.ask_lookup.ensures in
    let new = c.ask_lookup.new in
    record {
      len = e.len ∙ i.len;
      asks = λ accepts tags server host. asks_then accepts tags server host c.args.words.now c.loop-i.words new.words c.args.seekers.now c.loop-i.seekers new.seekers c.args.progress.now _ _ _ c.args.owners.now.items c.loop-i.owners.items new.owners.items (i.asks accepts tags server host) (e.asks accepts tags server host);
      may = e.may;
      none_before = c.in-Ok.ensures.none;
      moment = e.moment ∙ i.moment;
      faults = e.recv_faults ∙ i.faults;
      loses = loses_then _ _ _ _ _ _ i.loses e.loses;
      kept = e.kept ∙ i.kept;
    }

pub returns-in-Err-clause-asks : goal.returns-in-Err-clause-asks
returns-in-Err-clause-asks g c accepts tags server host =
    let new = c.ask_lookup.new in
    asks_then accepts tags server host c.args.words.now c.loop-i.words new.words c.args.seekers.now c.loop-i.seekers new.seekers c.args.progress.now _ _ _ c.args.owners.now.items c.loop-i.owners.items new.owners.items (c.loop-i.invariant.asks accepts tags server host) (c.ask_lookup.ensures.asks accepts tags server host)

pub returns-clause-none : goal.returns-clause-none
returns-clause-none g c =
    let i = c.loop-i.invariant in
    let same = i.len in
    let over = c.loop-i-test.false in
    none_all c.loop-i.i c.loop-i.seekers (omega (arith, same, over)) i.none_before

pub returns-in-Err-clause-loses : goal.returns-in-Err-clause-loses
returns-in-Err-clause-loses g c = loses_then _ _ _ _ _ _ c.loop-i.invariant.loses c.ask_lookup.ensures.loses
