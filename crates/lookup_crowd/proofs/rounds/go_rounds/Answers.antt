use Rattle.std.proofs.Common.{◌∙◌, refl, ◌≡◌, Err, ap, arith}
use Rattle.lookup_crowd.specs.inner.Crowd.{Stand, stand}
use Rattle.lookup_crowd.proofs.Gone.{hands_same, hands_then, gone_none, gone_then, gone_settled, ends_behind, ends_settled, begins_settled, seats_stay, seats_then, seats_settled, seated_still, ready_policy, ready_paths}
use Rattle.kad_base.proofs.Failing.{fails_later}
use Rattle.lookup_crowd.specs.declared.seeker.ManyFault.TheVariants.{LinkFault}
use Rattle.lookup_crowd.proofs.Losing.{loses_none, loses_then, lost_settled}
use Rattle.lookup_crowd.proofs.rounds.go_rounds.Goals as goal

pub rounds-init : goal.rounds-init
rounds-init g c = record {
  gone = gone_none (g.G.SealCheck.accepted c.args.site.now.seal.now) (g.G.Seal.tag_of c.args.site.now.seal.now) c.args.site.now.desk.setting.now _ c.args.owners.now.items;
  begins = c.requires.begins;
  same = hands_same c.args.driver.now.host;
  len = refl;
  seats = seats_stay c.args.seekers.now;
  seated = c.requires.seated;
  moment = c.requires.moment;
  recv_faults = refl;
  loses = loses_none _ _ _ _ refl (omega arith);
  kept = refl;
}

pub returns-in-Ok-false-clause-seats : goal.returns-in-Ok-false-clause-seats
returns-in-Ok-false-clause-seats g c = seats_then c.args.seekers.now c.rounds.seekers c.ask_and_receive.new.seekers c.rounds.invariant.seats c.ask_and_receive.ensures.seats

pub returns-in-Ok-false-clause-goes : goal.returns-in-Ok-false-clause-goes
returns-in-Ok-false-clause-goes g c =
    gone_then (g.G.SealCheck.accepted c.args.site.now.seal.now) (g.G.Seal.tag_of c.args.site.now.seal.now) c.args.site.now.desk.setting.now _ (stand c.rounds.seekers c.rounds.driver.progress c.rounds.words c.rounds.driver.host (g.L.Link.told c.rounds.link)) _ _ _ _ c.rounds.invariant.gone c.in-Ok-false.ensures.goes

pub returns-in-Err-clause-seats : goal.returns-in-Err-clause-seats
returns-in-Err-clause-seats g c = seats_then c.args.seekers.now c.rounds.seekers c.ask_and_receive.new.seekers c.rounds.invariant.seats c.ask_and_receive.ensures.seats

pub returns-in-Err-clause-ends : goal.returns-in-Err-clause-ends
returns-in-Err-clause-ends g c =
    ends_behind (g.G.SealCheck.accepted c.args.site.now.seal.now) (g.G.Seal.tag_of c.args.site.now.seal.now) c.args.site.now.desk.setting.now c.in-Err.fault _ (stand c.rounds.seekers c.rounds.driver.progress c.rounds.words c.rounds.driver.host (g.L.Link.told c.rounds.link)) _ _ _ _ _ c.rounds.invariant.gone c.in-Err.ensures.ends

pub settle_all-requires-clause-own : goal.settle_all-requires-clause-own
settle_all-requires-clause-own g c κs within = seated_still c.args.site.now.desk.turns.now.table c.rounds.seekers c.ask_and_receive.new.seekers c.rounds.invariant.seated c.ask_and_receive.ensures.seats

pub settle_all-requires-clause-policy : goal.settle_all-requires-clause-policy
settle_all-requires-clause-policy g c κs within = ready_policy _ c.ask_and_receive.new.seekers (c.in-Ok-true.ensures.received c.in-Ok-true.field-0-test).ready

pub settle_all-requires-clause-few_paths : goal.settle_all-requires-clause-few_paths
settle_all-requires-clause-few_paths g c κs within = ready_paths _ c.ask_and_receive.new.seekers (c.in-Ok-true.ensures.received c.in-Ok-true.field-0-test).ready

pub rounds-preserved : goal.rounds-preserved
rounds-preserved g c =
    let accepts = g.G.SealCheck.accepted c.args.site.now.seal.now in
    let tags = g.G.Seal.tag_of c.args.site.now.seal.now in
    let server = c.args.site.now.desk.setting.now in
    let begun : Stand = stand c.rounds.seekers c.rounds.driver.progress c.rounds.words c.rounds.driver.host (g.L.Link.told c.rounds.link) in
    let mid : Stand = stand c.ask_and_receive.new.seekers c.ask_and_receive.new.driver.progress c.ask_and_receive.new.words c.ask_and_receive.new.driver.host (g.L.Link.told c.ask_and_receive.new.link) in
    let now : Stand = stand c.settle_all.new.seekers c.ask_and_receive.new.driver.progress c.ask_and_receive.new.words c.ask_and_receive.new.driver.host (g.L.Link.told c.ask_and_receive.new.link) in
    let whole = c.in-Ok.ensures.whole in
    let received = c.in-Ok-true.ensures.received c.in-Ok-true.field-0-test in
    let settles = c.settle_all.ensures.goes accepts tags server c.ask_and_receive.new.driver.progress c.ask_and_receive.new.words c.ask_and_receive.new.driver.host (g.L.Link.told c.ask_and_receive.new.link) in
    let seats = seats_then c.args.seekers.now c.rounds.seekers c.ask_and_receive.new.seekers c.rounds.invariant.seats c.ask_and_receive.ensures.seats in
    let settled = seats_settled c.ask_and_receive.new.seekers c.settle_all.new.seekers c.settle_all.ensures.some in
    record {
      gone = gone_then accepts tags server _ begun now _ _ _ c.rounds.invariant.gone (gone_then accepts tags server begun mid now _ _ _ c.in-Ok-true.ensures.goes (gone_settled accepts tags server mid now _ refl refl settles whole));
      begins = begins_settled mid now received refl refl c.settle_all.ensures.len c.settle_all.ensures.some whole;
      same = hands_then c.args.driver.now.host c.rounds.driver.host c.ask_and_receive.new.driver.host c.rounds.invariant.same c.ask_and_receive.ensures.same;
      len = c.settle_all.ensures.len ∙ c.ask_and_receive.ensures.len ∙ c.rounds.invariant.len;
      seats = seats_then c.args.seekers.now c.ask_and_receive.new.seekers c.settle_all.new.seekers seats settled;
      seated = seated_still c.args.site.now.desk.turns.now.table c.ask_and_receive.new.seekers c.settle_all.new.seekers (seated_still c.args.site.now.desk.turns.now.table c.rounds.seekers c.ask_and_receive.new.seekers c.rounds.invariant.seated c.ask_and_receive.ensures.seats) settled;
      moment = c.in-Ok-true.ensures.moment;
      recv_faults = c.ask_and_receive.ensures.well (λ is. cc) ∙ c.rounds.invariant.recv_faults;
      loses = loses_then c.args.seekers.now c.ask_and_receive.new.seekers c.settle_all.new.seekers _ _ _ (loses_then c.args.seekers.now c.rounds.seekers c.ask_and_receive.new.seekers _ _ _ c.rounds.invariant.loses c.in-Ok-true.ensures.loses)
          (loses_none _ _ _ _ (lost_settled _ _ c.settle_all.ensures.some) (omega arith));
      kept = c.ask_and_receive.ensures.kept ∙ c.rounds.invariant.kept;
    }

pub returns-in-Err-settle_all-clause-seats : goal.returns-in-Err-settle_all-clause-seats
returns-in-Err-settle_all-clause-seats g c =
    seats_then c.args.seekers.now c.ask_and_receive.new.seekers c.settle_all.new.seekers (seats_then c.args.seekers.now c.rounds.seekers c.ask_and_receive.new.seekers c.rounds.invariant.seats c.ask_and_receive.ensures.seats)
    (seats_settled c.ask_and_receive.new.seekers c.settle_all.new.seekers c.settle_all.ensures.some)

pub returns-in-Err-settle_all-clause-ends : goal.returns-in-Err-settle_all-clause-ends
returns-in-Err-settle_all-clause-ends g c =
    let accepts = g.G.SealCheck.accepted c.args.site.now.seal.now in
    let tags = g.G.Seal.tag_of c.args.site.now.seal.now in
    let server = c.args.site.now.desk.setting.now in
    let begun : Stand = stand c.rounds.seekers c.rounds.driver.progress c.rounds.words c.rounds.driver.host (g.L.Link.told c.rounds.link) in
    let mid : Stand = stand c.ask_and_receive.new.seekers c.ask_and_receive.new.driver.progress c.ask_and_receive.new.words c.ask_and_receive.new.driver.host (g.L.Link.told c.ask_and_receive.new.link) in
    let now : Stand = stand c.settle_all.new.seekers c.ask_and_receive.new.driver.progress c.ask_and_receive.new.words c.ask_and_receive.new.driver.host (g.L.Link.told c.ask_and_receive.new.link) in
    let settles = c.settle_all.ensures.goes accepts tags server c.ask_and_receive.new.driver.progress c.ask_and_receive.new.words c.ask_and_receive.new.driver.host (g.L.Link.told c.ask_and_receive.new.link) in
    ends_behind accepts tags server _ _ begun _ _ _ _ _ c.rounds.invariant.gone
    (ends_behind accepts tags server _ begun mid _ _ _ _ _ (c.in-Ok-true.ensures.goes) (ends_settled accepts tags server mid now refl refl settles c.settle_all.ensures.some c.all_legal.ensures))

pub returns-in-Err-clause-last : goal.returns-in-Err-clause-last
returns-in-Err-clause-last g c is = fails_later _ _ _ _ _ c.rounds.invariant.recv_faults (c.in-Err.ensures.last (let fault : c.in-Err.fault ≡ LinkFault = cc in ap (λ x. Err x) fault))

pub returns-in-Ok-false-clause-loses : goal.returns-in-Ok-false-clause-loses
returns-in-Ok-false-clause-loses g c = loses_then c.args.seekers.now c.rounds.seekers c.ask_and_receive.new.seekers _ _ _ c.rounds.invariant.loses c.in-Ok-false.ensures.loses
