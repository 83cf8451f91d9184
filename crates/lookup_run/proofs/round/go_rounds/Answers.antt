use Rattle.std.proofs.Common.{◌≡◌, ◌∙◌, Err, None, refl, sym, arith, ap, rules}
use Rattle.lookup_run.specs.declared.types.LookFault.TheVariants.{Strays, LinkFault, NoMemory}
use Rattle.lookup_run.specs.inner.RoundSteps.{MaySettle}
use Rattle.lookup_run.proofs.Early.{on_ok, on_err, err_of}
use Rattle.lookup_run.proofs.Rounding.{round_more, stops_settling_round, rounds_none, rounds_then, rounds_over, rounds_stop, rounds_stray, rounds_few}
use Rattle.lookup_core.proofs.Refusing.{refuses_none, refuses_then}
use Rattle.kad_base.proofs.Failing.{fails_later}
use Rattle.lookup_run.proofs.round.go_rounds.Goals as goal

pub rounds-init : goal.rounds-init
rounds-init g c = record {
  rounding = rounds_none g.O.Schedule.scheduling c.args.look.now (g.G.SealCheck.accepted c.args.seal.now) c.args.words.now c.args.work _ c.requires.begins;
  moment = c.requires.moment;
  room = refl;
  refuses = refuses_none c.args.work.lookup.book.journal c.args.work.lookup.book.journal _ _ refl refl;
  faults = omega arith;
  well = refl;
  kept = refl;
}

pub rounds-smaller : goal.rounds-smaller
rounds-smaller g c =
    let h = c.in-Ok-true.ensures.more c.in-Ok-true.field-0-test in
    let may : MaySettle c.args.look.now c.ask_and_receive.new.work = record { limits = c.requires.limits; keeps = h.keeps; round_over = h.round_over } in
    let settled = c.requires.settles c.ask_and_receive.new.work c.settle-after.result may c.settle-after.ensures in
    let told = g.L.Link.told c.ask_and_receive.new.link in
    (round_more g.O.Schedule.scheduling c.args.look.now (g.G.SealCheck.accepted c.args.seal.now) c.rounds.words c.ask_and_receive.new.words c.rounds.work c.ask_and_receive.new.work c.settle-after.result.0 (g.L.Link.told c.rounds.link) told h (on_ok c.settle-after.result.1 c.in-Ok.field-0 c.in-Ok.is (settled.ok told))).lighter

pub rounds-preserved : goal.rounds-preserved
rounds-preserved g c =
    let h = c.in-Ok-true.ensures.more c.in-Ok-true.field-0-test in
    let may : MaySettle c.args.look.now c.ask_and_receive.new.work = record { limits = c.requires.limits; keeps = h.keeps; round_over = h.round_over } in
    let settled = c.requires.settles c.ask_and_receive.new.work c.settle-after.result may c.settle-after.ensures in
    let i = c.rounds.invariant in
    let told = g.L.Link.told c.ask_and_receive.new.link in
    let more = round_more g.O.Schedule.scheduling c.args.look.now (g.G.SealCheck.accepted c.args.seal.now) c.rounds.words c.ask_and_receive.new.words c.rounds.work c.ask_and_receive.new.work c.settle-after.result.0 _ told h (on_ok c.settle-after.result.1 c.in-Ok.field-0 c.in-Ok.is (settled.ok told)) in
    record {
      rounding = rounds_then g.O.Schedule.scheduling c.args.look.now (g.G.SealCheck.accepted c.args.seal.now) c.args.words.now c.rounds.words c.ask_and_receive.new.words c.args.work c.rounds.work c.settle-after.result.0 _ _ _ i.rounding more;
      moment = c.in-Ok-true.ensures.moment ∙ sym (ap (λ s. s.moment) (on_ok c.settle-after.result.1 c.in-Ok.field-0 c.in-Ok.is (settled.ok None)).progress);
      room = search rules;
      refuses = refuses_then c.args.work.lookup.book.journal c.rounds.work.lookup.book.journal c.settle-after.result.0.lookup.book.journal _ _ _ i.refuses
          (refuses_then c.rounds.work.lookup.book.journal c.ask_and_receive.new.work.lookup.book.journal c.settle-after.result.0.lookup.book.journal _ _ _ c.in-Ok-true.ensures.refuses
          (refuses_none c.ask_and_receive.new.work.lookup.book.journal c.settle-after.result.0.lookup.book.journal _ _ (on_ok c.settle-after.result.1 c.in-Ok.field-0 c.in-Ok.is (settled.ok told)).same_unsent refl));
      faults = (let a = i.faults in let b = c.ask_and_receive.ensures.recv_faults in omega (arith, a, b));
      well = c.in-Ok-true.ensures.well (λ e. cc) ∙ i.well;
      kept = c.ask_and_receive.ensures.kept ∙ i.kept;
    }

pub returns-in-Ok-false-clause-over : goal.returns-in-Ok-false-clause-over
returns-in-Ok-false-clause-over g c =
    rounds_over g.O.Schedule.scheduling c.args.look.now (g.G.SealCheck.accepted c.args.seal.now) c.args.words.now c.rounds.words c.ask_and_receive.new.words c.args.work c.rounds.work c.ask_and_receive.new.work _ _ _ c.rounds.invariant.rounding (c.in-Ok-false.ensures.over g.O.Schedule.scheduling c.in-Ok-false.field-0-test)

pub returns-in-Ok-false-clause-refuses : goal.returns-in-Ok-false-clause-refuses
returns-in-Ok-false-clause-refuses g c = refuses_then c.args.work.lookup.book.journal c.rounds.work.lookup.book.journal c.ask_and_receive.new.work.lookup.book.journal _ _ _ c.rounds.invariant.refuses c.in-Ok-false.ensures.refuses

pub returns-in-Ok-false-clause-well : goal.returns-in-Ok-false-clause-well
returns-in-Ok-false-clause-well g c other = c.in-Ok-false.ensures.well (λ e. cc) ∙ c.rounds.invariant.well

pub returns-in-Err-clause-well : goal.returns-in-Err-clause-well
returns-in-Err-clause-well g c other = c.in-Err.ensures.well (λ is. (let fault : c.in-Err.fault ≡ LinkFault = cc in other (ap (λ x. Err x) fault))) ∙ c.rounds.invariant.well

pub returns-in-Err-clause-stops : goal.returns-in-Err-clause-stops
returns-in-Err-clause-stops g c =
    rounds_stop g.O.Schedule.scheduling c.args.look.now (g.G.SealCheck.accepted c.args.seal.now) c.args.words.now c.rounds.words c.ask_and_receive.new.words c.args.work c.rounds.work c.ask_and_receive.new.work _ _ _ c.rounds.invariant.rounding _ _ _ c.rounds.invariant.refuses (c.in-Err.ensures.stops g.O.Schedule.scheduling)

pub returns-in-Err-clause-strays : goal.returns-in-Err-clause-strays
returns-in-Err-clause-strays g c is =
    let fault : c.in-Err.fault ≡ Strays = cc in
    rounds_stray g.O.Schedule.scheduling c.args.look.now (g.G.SealCheck.accepted c.args.seal.now) c.args.words.now c.rounds.words c.args.work c.rounds.work _ _ _ c.rounds.invariant.rounding (c.in-Err.ensures.strays g.O.Schedule.scheduling (ap (λ x. Err x) fault))

pub returns-in-Err-clause-few_strays : goal.returns-in-Err-clause-few_strays
returns-in-Err-clause-few_strays g c is =
    let fault : c.in-Err.fault ≡ LinkFault = cc in
    rounds_few g.O.Schedule.scheduling c.args.look.now (g.G.SealCheck.accepted c.args.seal.now) c.args.words.now c.rounds.words c.args.work c.rounds.work _ _ _ c.rounds.invariant.rounding (c.in-Err.ensures.few_strays g.O.Schedule.scheduling (ap (λ x. Err x) fault))

pub returns-in-Err-settled-clause-stops : goal.returns-in-Err-settled-clause-stops
returns-in-Err-settled-clause-stops g c =
    let h = c.in-Ok-true.ensures.more c.in-Ok-true.field-0-test in
    let may : MaySettle c.args.look.now c.ask_and_receive.new.work = record { limits = c.requires.limits; keeps = h.keeps; round_over = h.round_over } in
    let settled = c.requires.settles c.ask_and_receive.new.work c.settle-after.result may c.settle-after.ensures in
    let told = g.L.Link.told c.ask_and_receive.new.link in
    let stop = stops_settling_round g.O.Schedule.scheduling c.args.look.now (g.G.SealCheck.accepted c.args.seal.now) c.rounds.words c.ask_and_receive.new.words c.rounds.work c.ask_and_receive.new.work c.settle-after.result.0 _ told h (on_err c.settle-after.result.1 c.in-Err-settled.fault c.in-Err-settled.is (settled.stops told) (g.G.SealCheck.accepted c.args.seal.now) c.ask_and_receive.new.words) _ _ c.in-Ok-true.ensures.refuses in
    rounds_stop g.O.Schedule.scheduling c.args.look.now (g.G.SealCheck.accepted c.args.seal.now) c.args.words.now c.rounds.words c.ask_and_receive.new.words c.args.work c.rounds.work c.settle-after.result.0 _ _ _ c.rounds.invariant.rounding _ _ _ c.rounds.invariant.refuses stop

pub returns-in-Err-settled-clause-well : goal.returns-in-Err-settled-clause-well
returns-in-Err-settled-clause-well g c other = c.in-Ok-true.ensures.well (λ e. cc) ∙ c.rounds.invariant.well

pub returns-in-Err-settled-clause-few_strays : goal.returns-in-Err-settled-clause-few_strays
returns-in-Err-settled-clause-few_strays g c is =
    let h = c.in-Ok-true.ensures.more c.in-Ok-true.field-0-test in
    let may : MaySettle c.args.look.now c.ask_and_receive.new.work = record { limits = c.requires.limits; keeps = h.keeps; round_over = h.round_over } in
    let settled = c.requires.settles c.ask_and_receive.new.work c.settle-after.result may c.settle-after.ensures in
    let full : c.in-Err-settled.fault ≡ NoMemory = err_of c.settle-after.result.1 c.in-Err-settled.fault (λ f. f ≡ NoMemory) c.in-Err-settled.is settled.fault in
    let link : c.in-Err-settled.fault ≡ LinkFault = cc in
    absurd cc

pub returns-in-Err-clause-last : goal.returns-in-Err-clause-last
returns-in-Err-clause-last g c is = fails_later _ _ _ _ _ c.rounds.invariant.well (c.in-Err.ensures.last (let fault : c.in-Err.fault ≡ LinkFault = cc in ap (λ x. Err x) fault))

pub returns-in-Err-settled-clause-last : goal.returns-in-Err-settled-clause-last
returns-in-Err-settled-clause-last g c is =
    let h = c.in-Ok-true.ensures.more c.in-Ok-true.field-0-test in
    let may : MaySettle c.args.look.now c.ask_and_receive.new.work = record { limits = c.requires.limits; keeps = h.keeps; round_over = h.round_over } in
    let settled = c.requires.settles c.ask_and_receive.new.work c.settle-after.result may c.settle-after.ensures in
    let full : c.in-Err-settled.fault ≡ NoMemory = err_of c.settle-after.result.1 c.in-Err-settled.fault (λ f. f ≡ NoMemory) c.in-Err-settled.is settled.fault in
    let link : c.in-Err-settled.fault ≡ LinkFault = cc in
    absurd cc

pub returns-in-Err-settled-clause-strays : goal.returns-in-Err-settled-clause-strays
returns-in-Err-settled-clause-strays g c is =
    let h = c.in-Ok-true.ensures.more c.in-Ok-true.field-0-test in
    let may : MaySettle c.args.look.now c.ask_and_receive.new.work = record { limits = c.requires.limits; keeps = h.keeps; round_over = h.round_over } in
    let settled = c.requires.settles c.ask_and_receive.new.work c.settle-after.result may c.settle-after.ensures in
    let full : c.in-Err-settled.fault ≡ NoMemory = err_of c.settle-after.result.1 c.in-Err-settled.fault (λ f. f ≡ NoMemory) c.in-Err-settled.is settled.fault in
    let strays : c.in-Err-settled.fault ≡ Strays = cc in
    absurd cc
