use Rattle.std.proofs.Common.{◌≡◌, ◌∙◌, Err, ap, sym, subst}
use Rattle.lookup_run.specs.declared.types.LookFault.TheVariants.{Strays, LinkFault}
use Rattle.lookup_run.proofs.Rounding.{round_over, has_received, stops_receiving, strays_receiving, few_receiving}
use Rattle.lookup_run.specs.inner.RoundSteps.{StopsRound}
use Rattle.lookup_core.proofs.Refusing.{refuses_none, refuses_then}
use Rattle.kad_base.proofs.Failing.{fails_later}
use Rattle.lookup_run.proofs.round.ask_and_receive.Goals as goal

pub returns-then-is_empty-clause-over : goal.returns-then-is_empty-clause-over
returns-then-is_empty-clause-over g c scheduling _ = round_over scheduling c.args.look.now (g.G.SealCheck.accepted c.args.seal.now) c.args.words.now c.ask_all.new.words c.args.work.now c.ask_all.new.work _ _ c.ask_all.ensures.asks (c.is_empty.ensures.0 c.if-is_empty.true)

pub returns-in-Ok-clause-more : goal.returns-in-Ok-clause-more
returns-in-Ok-clause-more g c _ = has_received c.args.look.now (g.G.SealCheck.accepted c.args.seal.now) c.args.words.now c.ask_all.new.words c.args.work.now c.ask_all.new.work c.receive_round.new.work _ _ _ c.ask_all.ensures.asks c.in-Ok.ensures.ok

pub returns-in-Err-clause-stops : goal.returns-in-Err-clause-stops
returns-in-Err-clause-stops g c scheduling =
    subst (StopsRound scheduling c.args.look.now (g.G.SealCheck.accepted c.args.seal.now) c.args.words.now c.ask_all.new.words c.args.work.now c.receive_round.new.work (g.L.Link.told c.args.link.now) (g.L.Link.told c.receive_round.new.link) (g.L.Link.send_faults c.args.link.now)) (sym c.receive_round.ensures.send_faults)
    (stops_receiving scheduling c.args.look.now (g.G.SealCheck.accepted c.args.seal.now) c.args.words.now c.ask_all.new.words c.args.work.now c.ask_all.new.work c.receive_round.new.work _ _ _ c.ask_all.ensures.asks (c.in-Err.ensures.stops c.ask_all.new.words) _ _ c.ask_all.ensures.refuses)

pub returns-in-Err-clause-well : goal.returns-in-Err-clause-well
returns-in-Err-clause-well g c other = c.in-Err.ensures.well (λ is. (let fault : c.in-Err.fault ≡ LinkFault = cc in other (ap (λ x. Err x) fault))) ∙ c.ask_all.ensures.recv_faults

pub returns-in-Err-clause-strays : goal.returns-in-Err-clause-strays
returns-in-Err-clause-strays g c scheduling is =
    let fault : c.in-Err.fault ≡ Strays = cc in
    strays_receiving scheduling c.args.look.now (g.G.SealCheck.accepted c.args.seal.now) c.args.words.now c.ask_all.new.words c.args.work.now c.ask_all.new.work _ _ _ c.ask_all.ensures.asks (c.in-Err.ensures.strays (ap (λ x. Err x) fault) c.ask_all.new.words)

pub returns-in-Err-clause-few_strays : goal.returns-in-Err-clause-few_strays
returns-in-Err-clause-few_strays g c scheduling is =
    let fault : c.in-Err.fault ≡ LinkFault = cc in
    few_receiving scheduling c.args.look.now (g.G.SealCheck.accepted c.args.seal.now) c.args.words.now c.ask_all.new.words c.args.work.now c.ask_all.new.work _ _ _ c.ask_all.ensures.asks (c.in-Err.ensures.few_strays (ap (λ x. Err x) fault) c.ask_all.new.words)

pub returns-in-Ok-clause-well : goal.returns-in-Ok-clause-well
returns-in-Ok-clause-well g c other = c.in-Ok.ensures.well (λ e. cc) ∙ c.ask_all.ensures.recv_faults

pub returns-in-Ok-clause-refuses : goal.returns-in-Ok-clause-refuses
returns-in-Ok-clause-refuses g c =
    let there = c.ask_all.new.work.lookup.book.journal in
    refuses_then c.args.work.now.lookup.book.journal there c.receive_round.new.work.lookup.book.journal _ _ _ c.ask_all.ensures.refuses (refuses_none there c.receive_round.new.work.lookup.book.journal _ _ c.in-Ok.ensures.ok.same_unsent c.receive_round.ensures.send_faults)

pub returns-in-Err-clause-last : goal.returns-in-Err-clause-last
returns-in-Err-clause-last g c is = fails_later _ _ _ _ _ c.ask_all.ensures.recv_faults (c.in-Err.ensures.last (let fault : c.in-Err.fault ≡ LinkFault = cc in ap (λ x. Err x) fault))
