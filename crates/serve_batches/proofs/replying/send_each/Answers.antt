use Rattle.std.proofs.Common.{◌<◌, length, sym, subst, refl, ◌∙◌, rules, arith}
use Rattle.serve_batches.specs.declared.place.Place.{Place}
use Rattle.serve_batches.specs.Crew.{slots_of}
use Rattle.serve_batches.proofs.Arriving.{has_slot}
use Rattle.serve_batches.proofs.Circling.{ring_next, place_within, place_small}
use Rattle.serve_batches.proofs.Sending.{sent_more}
use Rattle.serve_batches.proofs.replying.send_each.Goals as goal

pub send_at-sent-requires-clause-within : goal.send_at-sent-requires-clause-within
send_at-sent-requires-clause-within g c = place_within (length c.args.crew.now) c.loop-j.j c.loop-j.place c.loop-j.invariant.place c.requires.some

pub send_at-sent-requires-clause-room : goal.send_at-sent-requires-clause-room
send_at-sent-requires-clause-room g c =
    let few : c.loop-j.j < 32 = search rules in
    subst (λ (p : Place). p.round < length (slots_of c.args.crew.now p.holder)) (sym c.loop-j.invariant.place) (has_slot c.args.crew.now c.loop-j.j c.requires.roomy c.requires.some few)

pub next-place-requires-clause-within : goal.next-place-requires-clause-within
next-place-requires-clause-within g c =
    let w = place_within (length c.args.crew.now) c.loop-j.j c.loop-j.place c.loop-j.invariant.place c.requires.some in
    omega (arith, w)

pub next-place-requires-clause-few : goal.next-place-requires-clause-few
next-place-requires-clause-few g c = place_small (length c.args.crew.now) c.loop-j.j c.loop-j.place c.loop-j.invariant.place (search rules)

pub loop-j-preserved : goal.loop-j-preserved
loop-j-preserved g c =
    let crew = c.args.crew.now in
    let i = c.loop-j.invariant in
    let most = i.most in
    let one = c.send_at-sent.ensures.most in
    record {
      place = ring_next (length crew) (length crew) c.loop-j.j c.loop-j.place c.next-place.result refl i.place c.next-place.ensures.next;
      most = omega (arith, most, one);
      told = sent_more crew c.loop-j.j c.loop-j.sent c.send_at-sent.result c.loop-j.place _ _ _ i.place i.told c.send_at-sent.ensures.count c.send_at-sent.ensures.told;
      faults = c.send_at-sent.ensures.recv_faults ∙ i.faults;
      kept = c.send_at-sent.ensures.kept ∙ i.kept;
    }
