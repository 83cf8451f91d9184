use Rattle.std.proofs.Common.{◌≡◌, ◌∙◌, ℕ, Option, true, false, Err, inl, inr, ap, sym, subst, rules, arith}
use Rattle.node_serve.specs.Lasting.{end_of, is_over}
use Rattle.node_serve.specs.declared.service.ServeFault.TheVariants.{LinkFault}
use Rattle.node_serve.specs.Responded.{server_at, serve_state, Stops}
use Rattle.node_serve.proofs.Receiving.{received_more, all_made, all_stop}
use Rattle.kad_base.proofs.Failing.{fails_later}
use Rattle.node_serve.proofs.service.serve_loop.Goals as goal

pub receive-requires-clause-in_time : goal.receive-requires-clause-in_time
receive-requires-clause-in_time g c = sym c.is_over.ensures ∙ c.if-is_over.false

pub loop-i-preserved : goal.loop-i-preserved
loop-i-preserved g c =
    let i = c.loop-i.invariant in
    let goes : is_over (end_of c.args.began c.args.lasting.minutes) c.loop-i.server.moment ≡ false = ap (λ (e : Option ℕ). is_over e c.loop-i.server.moment) (sym c.end_of-end.ensures) ∙ sym c.is_over.ensures ∙ c.if-is_over.false in
    record {
      all = received_more (g.G.Seal.tag_of c.args.seal.now) (end_of c.args.began c.args.lasting.minutes) c.loop-i.i (server_at c.args.node c.args.began) c.loop-i.server c.receive.new.server _ _ _ goes i.all
          (rw c.end_of-end.ensures at c.in-Ok.ensures.ok);
      few = (let a = i.few in let b = c.in-Ok.ensures.few in omega (arith, a, b));
      fewer = c.in-Ok.ensures.fewer;
      faults = (let a = i.faults in let b = c.receive.ensures.recv_faults in omega (arith, a, b));
      well = c.in-Ok.ensures.well (λ e. cc) ∙ i.well;
      kept = c.receive.ensures.kept ∙ i.kept;
    }

pub returns-then-is_over-clause-ok : goal.returns-then-is_over-clause-ok
returns-then-is_over-clause-ok g c =
    let l = c.left_by-table.ensures in
    let over : is_over (end_of c.args.began c.args.lasting.minutes) c.loop-i.server.moment ≡ true = ap (λ (e : Option ℕ). is_over e c.loop-i.server.moment) (sym c.end_of-end.ensures) ∙ sym c.is_over.ensures ∙ c.if-is_over.true in
    all_made (g.G.Seal.tag_of c.args.seal.now) c.args.node c.args.began c.args.lasting c.loop-i.i c.loop-i.server c.left_by-table.result.0 _ _ _ _ (search rules) (inr over) l.table l.received l.replied c.loop-i.invariant.all

pub returns-clause-ok : goal.returns-clause-ok
returns-clause-ok g c =
    let l = c.left_by-table-2.ensures in
    let whole : c.loop-i.i ≡ c.args.lasting.receives = search rules in
    all_made (g.G.Seal.tag_of c.args.seal.now) c.args.node c.args.began c.args.lasting c.loop-i.i c.loop-i.server c.left_by-table-2.result.0 _ _ _ _ (omega (arith, whole)) (inl whole) l.table l.received l.replied c.loop-i.invariant.all

pub returns-in-Err-clause-well : goal.returns-in-Err-clause-well
returns-in-Err-clause-well g c other = c.in-Err.ensures.well (λ is. (let fault : c.in-Err.fault ≡ LinkFault = cc in other (ap (λ x. Err x) fault))) ∙ c.loop-i.invariant.well

pub returns-in-Err-clause-begun : goal.returns-in-Err-clause-begun
returns-in-Err-clause-begun g c =
    all_stop (g.G.Seal.tag_of c.args.seal.now) c.args.node c.args.began c.args.lasting c.loop-i.i c.loop-i.server c.into_table.result c.in-Err.fault _ _ _ (search rules) (c.into_table.ensures ∙ c.in-Err.ensures.table) c.loop-i.invariant.all
    (subst (λ (e : Option ℕ). Stops e c.in-Err.fault (serve_state c.loop-i.server) (g.L.Link.told c.loop-i.link) (g.L.Link.told c.receive.new.link)) c.end_of-end.ensures c.in-Err.ensures.stops)

pub returns-in-Err-clause-last : goal.returns-in-Err-clause-last
returns-in-Err-clause-last g c is = fails_later _ _ _ _ _ c.loop-i.invariant.well (c.in-Err.ensures.last (let fault : c.in-Err.fault ≡ LinkFault = cc in ap (λ x. Err x) fault))
