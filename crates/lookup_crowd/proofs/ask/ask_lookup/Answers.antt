use Rattle.std.proofs.Common.{◌≡◌, ◌∙◌, refl, subst, arith}
use Rattle.kad_base.specs.Limits.{max_paths}
use Rattle.lookup_crowd.specs.inner.ManySteps.{NoneBefore}
use Rattle.lookup_crowd.proofs.AskingAll.{asks_none, asks_then, none_next}
use Rattle.lookup_crowd.proofs.Losing.{loses_none, loses_then}
use Rattle.lookup_crowd.proofs.ask.ask_lookup.Goals as goal

pub loop-path-init : goal.loop-path-init
loop-path-init g c =
    let r = c.requires in
    record {
      len = refl;
      asks = λ accepts tags server host. asks_none accepts tags server host c.args.words.now c.args.words.now c.args.seekers.now c.args.seekers.now c.args.progress.now _ _ c.args.owners.now.items c.args.owners.now.items r.may refl refl refl refl;
      may = r.may;
      none_before = r.none_before;
      moment = refl;
      faults = refl;
      loses = loses_none _ _ _ _ refl (omega arith);
      kept = refl;
    }

pub loop-path-preserved : goal.loop-path-preserved
loop-path-preserved g c =
    let i = c.loop-path.invariant in
    let e = c.ask_path.ensures in
    let new = c.ask_path.new in
    record {
      len = e.len ∙ i.len;
      asks = λ accepts tags server host. asks_then accepts tags server host c.args.words.now c.loop-path.words new.words c.args.seekers.now c.loop-path.seekers new.seekers c.args.progress.now _ _ _ c.args.owners.now.items c.loop-path.owners.items new.owners.items (i.asks accepts tags server host) (e.asks accepts tags server host);
      may = e.may;
      none_before = c.in-Ok.ensures.none;
      moment = e.moment ∙ i.moment;
      faults = e.recv_faults ∙ i.faults;
      loses = loses_then _ _ _ _ _ _ i.loses e.loses;
      kept = e.kept ∙ i.kept;
    }

pub returns-in-Err-clause-asks : goal.returns-in-Err-clause-asks
returns-in-Err-clause-asks g c accepts tags server host =
    let new = c.ask_path.new in
    asks_then accepts tags server host c.args.words.now c.loop-path.words new.words c.args.seekers.now c.loop-path.seekers new.seekers c.args.progress.now _ _ _ c.args.owners.now.items c.loop-path.owners.items new.owners.items (c.loop-path.invariant.asks accepts tags server host) (c.ask_path.ensures.asks accepts tags server host)

pub returns-clause-none : goal.returns-clause-none
returns-clause-none g c =
    let i = c.loop-path.invariant in
    let all : c.loop-path.path ≡ max_paths = (let over = c.loop-path-test.false in let few = c.loop-path.auto.path-end in omega (arith, over, few)) in
    none_next c.args.i c.loop-path.seekers c.args.progress.now c.loop-path.words i.may (subst (λ n. NoneBefore c.args.i n c.loop-path.seekers) all i.none_before)

pub returns-in-Err-clause-loses : goal.returns-in-Err-clause-loses
returns-in-Err-clause-loses g c = loses_then _ _ _ _ _ _ c.loop-path.invariant.loses c.ask_path.ensures.loses
