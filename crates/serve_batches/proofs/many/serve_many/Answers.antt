use Rattle.std.proofs.Common.{◌≡◌, ℕ, Option, [], sym, subst, ◌∙◌, arith, IfOk}
use Rattle.std.specs.Prelude.{IfErr}
use Rattle.kad_base.specs.Outside.{Happens}
use Rattle.contact_table.specs.TableState.{TableState}
use Rattle.node_serve.specs.declared.service.ServeCounts.{ServeCounts}
use Rattle.node_serve.specs.declared.service.ServeFault.TheVariants.{NoMemory}
use Rattle.serve_crew.specs.Opening.{AreEmpty}
use Rattle.serve_batches.specs.ManyServed.{ManyBegun}
use Rattle.serve_batches.specs.Serving.{ServesAll, StopsServing, begun}
use Rattle.serve_batches.proofs.Closing.{nothing_begun, ok_served, err_begun}
use Rattle.serve_batches.proofs.Dealing.{crew_count, crew_can}
use Rattle.serve_batches.proofs.Returning.{crew_roomy, are_back, have_all}
use Rattle.kad_base.proofs.Happening.{happens_none}
use Rattle.serve_batches.proofs.many.serve_many.Goals as goal

pub returns-in_default-clause-begun : goal.returns-in_default-clause-begun
returns-in_default-clause-begun g c = happens_none _ _ (nothing_begun (g.G.Seal.tag_of c.args.seal.now) c.args.setting c.args.duty.workers c.args.duty.began c.args.duty.lasting c.args.table)

pub returns-in-Err-clause-begun : goal.returns-in-Err-clause-begun
returns-in-Err-clause-begun g c = happens_none _ _ (nothing_begun (g.G.Seal.tag_of c.args.seal.now) c.args.setting c.args.duty.workers c.args.duty.began c.args.duty.lasting c.args.table)

pub returns-in-Err-open-clause-begun : goal.returns-in-Err-open-clause-begun
returns-in-Err-open-clause-begun g c =
    happens_none _ _
    (subst (λ (t : TableState). ManyBegun (g.G.Seal.tag_of c.args.seal.now) c.args.setting c.args.duty.workers c.args.duty.began c.args.duty.lasting c.args.table t NoMemory []) (sym c.in-Err-open.ensures.refused)
    (nothing_begun (g.G.Seal.tag_of c.args.seal.now) c.args.setting c.args.duty.workers c.args.duty.began c.args.duty.lasting c.args.table))

pub serve_helped-answer-requires-clause-can : goal.serve_helped-answer-requires-clause-can
serve_helped-answer-requires-clause-can g c κs within = crew_can c.in-Ok-open.opened.0 c.args.duty.workers c.deal_passes.new.crew.items c.deal_passes.ensures.crew

pub serve_helped-answer-requires-clause-roomy : goal.serve_helped-answer-requires-clause-roomy
serve_helped-answer-requires-clause-roomy g c κs within = crew_roomy c.in-Ok-open.opened.0 c.args.duty.workers c.deal_passes.new.crew.items c.deal_passes.ensures.crew c.deal_passes.ensures.slots

pub serve_helped-answer-requires-clause-workers : goal.serve_helped-answer-requires-clause-workers
serve_helped-answer-requires-clause-workers g c κs within =
    let count = crew_count c.in-Ok-open.opened.0 c.args.duty.workers c.deal_passes.new.crew.items c.deal_passes.ensures.crew in
    let some = c.requires.some in
    omega (arith, count, some)

pub gather_passes-requires : goal.gather_passes-requires
gather_passes-requires g c =
    let count = crew_count c.in-Ok-open.opened.0 c.args.duty.workers c.deal_passes.new.crew.items c.deal_passes.ensures.crew in
    subst (λ n. AreEmpty n n c.deal_passes.new.rows) (sym (c.serve_helped-answer.ensures.len ∙ count)) c.deal_passes.ensures.dealt

pub close-requires : goal.close-requires
close-requires g c =
    let crew = c.deal_passes.new.crew.items in
    let w = c.serve_helped-answer in
    have_all c.in-Ok-open.opened.0 c.args.duty.workers crew w.new.crew.items c.deal_passes.ensures.crew w.ensures.len w.ensures.roles c.gather_passes.new.rows c.in-Ok-open.ensures.fresh.roles c.gather_passes.ensures

pub returns-clause-ok : goal.returns-clause-ok
returns-clause-ok g c =
    let turns = c.in-Ok-open.opened.0 in
    let n = c.args.duty.workers in
    let crew = c.deal_passes.new.crew.items in
    let is = c.deal_passes.ensures.crew in
    let w = c.serve_helped-answer in
    ok_served (g.G.Seal.tag_of c.args.seal.now) c.args.setting n c.args.duty.began c.args.duty.lasting turns c.gather_passes.new.rows c.args.table c.close.result c.in-Ok-open.ensures.opens c.close.ensures
    crew w.new.crew.items is (are_back turns n crew w.new.crew.items is w.ensures.len w.ensures.roles c.gather_passes.new.rows c.gather_passes.ensures) _ _ w.result (rw c.end_of.ensures at w.ensures.ok)

pub returns-clause-begun : goal.returns-clause-begun
returns-clause-begun g c =
    let turns = c.in-Ok-open.opened.0 in
    let n = c.args.duty.workers in
    let crew = c.deal_passes.new.crew.items in
    let is = c.deal_passes.ensures.crew in
    let w = c.serve_helped-answer in
    let two = c.requires.some in
    err_begun (g.G.Seal.tag_of c.args.seal.now) c.args.setting n c.args.duty.began c.args.duty.lasting turns c.gather_passes.new.rows c.args.table c.close.result c.in-Ok-open.ensures.opens c.close.ensures
    crew w.new.crew.items is (are_back turns n crew w.new.crew.items is w.ensures.len w.ensures.roles c.gather_passes.new.rows c.gather_passes.ensures) _ _ w.result (omega (arith, two)) (rw c.end_of.ensures at w.ensures.err)
