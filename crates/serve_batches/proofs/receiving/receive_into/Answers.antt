use Rattle.std.proofs.Common.{◌≡◌, ◌<◌, true, false, length, sym, ap, subst, ◌∙◌, rules, arith}
use Rattle.std.specs.Prelude.{min}
use Rattle.node_serve.specs.Lasting.{is_over}
use Rattle.serve_batches.specs.Ring.{behind}
use Rattle.serve_batches.specs.declared.place.Place.{Place}
use Rattle.serve_batches.specs.Crew.{slots_of}
use Rattle.serve_batches.proofs.Arriving.{Arrived, AllInTime, has_slot, same_crew_more, roomy_after, arrived_more, arrived_over, in_time_more, arrived_quiet, arrived_cut, arrived_all}
use Rattle.serve_batches.proofs.Circling.{place_within, place_small}
use Rattle.kad_base.proofs.Failing.{fails_later}
use Rattle.serve_batches.proofs.receiving.receive_into.Goals as goal

pub receive_at-requires-clause-within : goal.receive_at-requires-clause-within
receive_at-requires-clause-within g c =
    let len = c.loop-made.invariant.same.len in
    let some = c.requires.workers in
    place_within (length c.loop-made.crew) c.loop-made.made c.loop-made.place c.loop-made.invariant.arrived.place_is (omega (arith, len, some))

pub receive_at-requires-clause-room : goal.receive_at-requires-clause-room
receive_at-requires-clause-room g c =
    let len = c.loop-made.invariant.same.len in
    let some = c.requires.workers in
    let few : c.loop-made.made < 32 = search rules in
    subst (λ (p : Place). p.round < length (slots_of c.loop-made.crew p.holder)) (sym c.loop-made.invariant.arrived.place_is)
    (has_slot c.loop-made.crew c.loop-made.made (roomy_after c.args.crew.now c.loop-made.crew c.loop-made.invariant.same c.requires.roomy) (omega (arith, len, some)) few)

pub next-place-requires-clause-within : goal.next-place-requires-clause-within
next-place-requires-clause-within g c =
    let len = c.loop-made.invariant.same.len in
    let some = c.requires.workers in
    let w = place_within (length c.loop-made.crew) c.loop-made.made c.loop-made.place c.loop-made.invariant.arrived.place_is (omega (arith, len, some)) in
    omega (arith, w, len)

pub next-place-requires-clause-few : goal.next-place-requires-clause-few
next-place-requires-clause-few g c = place_small (length c.loop-made.crew) c.loop-made.made c.loop-made.place c.loop-made.invariant.arrived.place_is (search rules)

pub returns-in-Ok-Quiet-clause-ok : goal.returns-in-Ok-Quiet-clause-ok
returns-in-Ok-Quiet-clause-ok g c =
    let p = c.in-Ok-Quiet in
    let grows = rw p.field-0-is at p.ensures.told in
    let lt = c.loop-made-test.true in
    let most = c.min-most.ensures in
    let few : c.loop-made.made < min c.args.left 32 = omega (arith, lt, most) in
    arrived_quiet c.args.end c.args.moment c.loop-made.crew c.receive_at.new.crew c.loop-made.made c.loop-made.place c.loop-made.until _ _ _ c.loop-made.invariant.arrived p.ensures.same p.ensures.put c.args.left p.at few c.loop-made.invariant.in_time grows

pub returns-in-Err-clause-err : goal.returns-in-Err-clause-err
returns-in-Err-clause-err g c =
    let lt = c.loop-made-test.true in
    let most = c.min-most.ensures in
    let few : c.loop-made.made < min c.args.left 32 = omega (arith, lt, most) in
    arrived_cut c.args.end c.args.moment c.loop-made.crew c.loop-made.made c.loop-made.place c.loop-made.until c.args.left _ _ _ c.requires.goes c.loop-made.invariant.in_time c.loop-made.invariant.arrived few c.in-Err.ensures.still

pub loop-made-preserved : goal.loop-made-preserved
loop-made-preserved g c =
    let i = c.loop-made.invariant in
    let p = c.in-Ok-Packet in
    let grows = rw p.field-0-is at p.ensures.told in
    let came = rw p.field-0-is at p.ensures.took in
    let len = i.same.len in
    let some = c.requires.workers in
    let few : c.loop-made.made < 32 = search rules in
    let room = subst (λ (q : Place). q.round < length (slots_of c.loop-made.crew q.holder)) (sym i.arrived.place_is)
    (has_slot c.loop-made.crew c.loop-made.made (roomy_after c.args.crew.now c.loop-made.crew i.same c.requires.roomy) (omega (arith, len, some)) few) in
    let goes : is_over c.args.end c.in-Ok-Packet.at ≡ false = sym c.is_over.ensures ∙ c.if-is_over.false in
    let faults = i.faults in
    let more = p.ensures.recv_faults in
    record {
      same = same_crew_more c.args.crew.now c.loop-made.crew c.receive_at.new.crew i.same p.ensures.same;
      arrived = arrived_more c.args.end c.args.moment c.loop-made.crew c.receive_at.new.crew c.loop-made.made c.loop-made.place c.loop-made.until _ _ _ i.arrived p.ensures.same p.ensures.put p.at c.next-place.result room
          (c.next-place.ensures.next ∙ ap (λ n. behind n c.loop-made.place) (sym len)) came grows;
      in_time = in_time_more c.args.end c.args.moment c.loop-made.crew c.receive_at.new.crew c.loop-made.made c.loop-made.place c.loop-made.until _ _ (g.L.Link.told c.receive_at.new.link) i.arrived p.ensures.same p.ensures.put p.at room came goes i.in_time;
      faults = omega (arith, faults, more);
      well = p.ensures.well ∙ i.well;
      kept = p.ensures.kept ∙ i.kept;
    }

pub returns-then-is_over-clause-ok : goal.returns-then-is_over-clause-ok
returns-then-is_over-clause-ok g c =
    let i = c.loop-made.invariant in
    let p = c.in-Ok-Packet in
    let grows = rw p.field-0-is at p.ensures.told in
    let came = rw p.field-0-is at p.ensures.took in
    let len = i.same.len in
    let some = c.requires.workers in
    let lt = c.loop-made-test.true in
    let most = c.min-most.ensures in
    let few : c.loop-made.made < min c.args.left 32 = omega (arith, lt, most) in
    let room = subst (λ (q : Place). q.round < length (slots_of c.loop-made.crew q.holder)) (sym i.arrived.place_is)
    (has_slot c.loop-made.crew c.loop-made.made (roomy_after c.args.crew.now c.loop-made.crew i.same c.requires.roomy) (omega (arith, len, some)) (omega (arith, few))) in
    let past : is_over c.args.end c.in-Ok-Packet.at ≡ true = sym c.is_over.ensures ∙ c.if-is_over.true in
    arrived_over c.args.end c.args.moment c.loop-made.crew c.receive_at.new.crew c.loop-made.made c.loop-made.place c.loop-made.until _ _ _ i.arrived p.ensures.same p.ensures.put c.args.left p.at c.next-place.result room
    (c.next-place.ensures.next ∙ ap (λ n. behind n c.loop-made.place) (sym len)) came grows few past i.in_time

pub returns-clause-ok : goal.returns-clause-ok
returns-clause-ok g c =
    let whole : c.loop-made.made ≡ c.min-most.result = search rules in
    arrived_all c.args.end c.args.moment c.loop-made.crew c.min-most.result c.loop-made.place c.loop-made.until c.args.left _ _
    (subst (AllInTime c.args.end c.loop-made.crew) whole c.loop-made.invariant.in_time)
    (subst (λ m. Arrived c.args.end c.args.moment c.loop-made.crew m c.loop-made.place c.loop-made.until (g.L.Link.told c.args.link.now) (g.L.Link.told c.loop-made.link)) whole c.loop-made.invariant.arrived)
    c.min-most.ensures

pub returns-in-Err-clause-last : goal.returns-in-Err-clause-last
returns-in-Err-clause-last g c = fails_later _ _ _ _ _ c.loop-made.invariant.well c.in-Err.ensures.last
