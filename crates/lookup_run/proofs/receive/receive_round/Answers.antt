use Rattle.std.proofs.Common.{rules, ◌∙◌}
use Rattle.std.proofs.lemmas.Result.{err_from_is_err_and}
use Rattle.lookup_run.specs.declared.types.LookFault.TheVariants.{LinkFault, Strays}
use Rattle.lookup_run.proofs.Early.{on_err_of, passed_on, passed_other}
use Rattle.lookup_run.proofs.WholeRound.{next_receive, stops_after, stray_after, few_after}
use Rattle.kad_base.proofs.Failing.{fails_later}
use Rattle.lookup_run.proofs.receive.receive_round.Goals as goal

pub receiving-preserved : goal.receiving-preserved
receiving-preserved g c = record {
  so_far = next_receive c.args.look.now (g.G.SealCheck.accepted c.args.seal.now) c.args.work.now c.receiving.work c.receive-in-receiving.new.work _ _ _ c.receiving.invariant.so_far c.in_ok-receive-2.ensures.ok;
  room = search rules;
  moment = search rules;
  faults = search rules;
  well = c.in_ok-receive-2.ensures.well (λ e. cc) ∙ c.receiving.invariant.well;
  sends = search rules;
  kept = search rules;
}

pub returns-in_err-receive-2-clause-stops : goal.returns-in_err-receive-2-clause-stops
returns-in_err-receive-2-clause-stops g c =
    on_err_of c.from_residual-in_err-receive-2.result (stops_after c.args.look.now (g.G.SealCheck.accepted c.args.seal.now) c.args.work.now c.receiving.work c.receive-in-receiving.new.work _ _ _ c.receiving.invariant.so_far c.in_err-receive-2.ensures.stops)

pub returns-in_err-receive-2-clause-well : goal.returns-in_err-receive-2-clause-well
returns-in_err-receive-2-clause-well g c other =
    let f = c.in_err-receive-2 in
    let out = err_from_is_err_and c.from_residual-in_err-receive-2.result c.from_residual-in_err-receive-2.ensures.1 in
    f.ensures.well (passed_other LinkFault c.from_residual-in_err-receive-2.result out.0 f.field-0.0 out.1 out.2 other) ∙ c.receiving.invariant.well

pub returns-in_err-receive-2-clause-strays : goal.returns-in_err-receive-2-clause-strays
returns-in_err-receive-2-clause-strays g c is =
    let f = c.in_err-receive-2 in
    let out = err_from_is_err_and c.from_residual-in_err-receive-2.result c.from_residual-in_err-receive-2.ensures.1 in
    stray_after c.args.look.now (g.G.SealCheck.accepted c.args.seal.now) c.args.work.now c.receiving.work _ _ _ c.receiving.invariant.so_far (f.ensures.strays (passed_on Strays c.from_residual-in_err-receive-2.result out.0 f.field-0.0 out.1 out.2 is))

pub returns-in_err-receive-2-clause-few_strays : goal.returns-in_err-receive-2-clause-few_strays
returns-in_err-receive-2-clause-few_strays g c is =
    let f = c.in_err-receive-2 in
    let out = err_from_is_err_and c.from_residual-in_err-receive-2.result c.from_residual-in_err-receive-2.ensures.1 in
    few_after c.args.look.now (g.G.SealCheck.accepted c.args.seal.now) c.args.work.now c.receiving.work _ _ _ c.receiving.invariant.so_far (f.ensures.few_strays (passed_on LinkFault c.from_residual-in_err-receive-2.result out.0 f.field-0.0 out.1 out.2 is))

pub returns-in_err-receive-clause-well : goal.returns-in_err-receive-clause-well
returns-in_err-receive-clause-well g c other =
    let f = c.in_err-receive in
    let out = err_from_is_err_and c.from_residual.result c.from_residual.ensures.1 in
    f.ensures.well (passed_other LinkFault c.from_residual.result out.0 f.field-0.0 out.1 out.2 other)

pub returns-in_err-receive-clause-strays : goal.returns-in_err-receive-clause-strays
returns-in_err-receive-clause-strays g c is =
    let f = c.in_err-receive in
    let out = err_from_is_err_and c.from_residual.result c.from_residual.ensures.1 in
    f.ensures.strays (passed_on Strays c.from_residual.result out.0 f.field-0.0 out.1 out.2 is)

pub returns-in_err-receive-clause-few_strays : goal.returns-in_err-receive-clause-few_strays
returns-in_err-receive-clause-few_strays g c is =
    let f = c.in_err-receive in
    let out = err_from_is_err_and c.from_residual.result c.from_residual.ensures.1 in
    f.ensures.few_strays (passed_on LinkFault c.from_residual.result out.0 f.field-0.0 out.1 out.2 is)

pub returns-in_err-receive-2-clause-last : goal.returns-in_err-receive-2-clause-last
returns-in_err-receive-2-clause-last g c is =
    let f = c.in_err-receive-2 in
    let out = err_from_is_err_and c.from_residual-in_err-receive-2.result c.from_residual-in_err-receive-2.ensures.1 in
    fails_later _ _ _ _ _ c.receiving.invariant.well (f.ensures.last (passed_on LinkFault c.from_residual-in_err-receive-2.result out.0 f.field-0.0 out.1 out.2 is))

pub returns-in_err-receive-clause-last : goal.returns-in_err-receive-clause-last
returns-in_err-receive-clause-last g c is =
    let f = c.in_err-receive in
    let out = err_from_is_err_and c.from_residual.result c.from_residual.ensures.1 in
    f.ensures.last (passed_on LinkFault c.from_residual.result out.0 f.field-0.0 out.1 out.2 is)
