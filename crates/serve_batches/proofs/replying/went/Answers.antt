use Rattle.std.proofs.Common.{◌<◌, length, sym, subst, refl, rules, arith}
use Rattle.serve_batches.specs.declared.place.Place.{Place}
use Rattle.serve_batches.specs.Crew.{slots_of}
use Rattle.serve_batches.specs.Slots.{SlotState, Went}
use Rattle.serve_batches.proofs.Arriving.{has_slot}
use Rattle.serve_batches.proofs.Circling.{ring_next, place_within, place_small}
use Rattle.serve_batches.proofs.Sending.{went_more}
use Rattle.serve_batches.proofs.replying.went.Goals as goal

pub slot_of-requires-clause-within : goal.slot_of-requires-clause-within
slot_of-requires-clause-within c = place_within (length c.args.crew.now) c.loop-j.j c.loop-j.place c.loop-j.invariant.place c.requires.some

pub slot_of-requires-clause-room : goal.slot_of-requires-clause-room
slot_of-requires-clause-room c =
    let few : c.loop-j.j < 32 = search rules in
    subst (λ (p : Place). p.round < length (slots_of c.args.crew.now p.holder)) (sym c.loop-j.invariant.place) (has_slot c.args.crew.now c.loop-j.j c.requires.roomy c.requires.some few)

pub next-place-requires-clause-within : goal.next-place-requires-clause-within
next-place-requires-clause-within c =
    let w = place_within (length c.args.crew.now) c.loop-j.j c.loop-j.place c.loop-j.invariant.place c.requires.some in
    omega (arith, w)

pub next-place-requires-clause-few : goal.next-place-requires-clause-few
next-place-requires-clause-few c = place_small (length c.args.crew.now) c.loop-j.j c.loop-j.place c.loop-j.invariant.place (search rules)

pub loop-j-preserved : goal.loop-j-preserved
loop-j-preserved c =
    let crew = c.args.crew.now in
    record {
      place = ring_next (length crew) (length crew) c.loop-j.j c.loop-j.place c.next-place.result refl c.loop-j.invariant.place c.next-place.ensures.next;
      went = went_more crew c.loop-j.j c.loop-j.place c.loop-j.invariant.place c.loop-j.invariant.went (subst (λ (x : SlotState). Went x.answered) c.slot_of.ensures c.in-Ok.ensures.ok);
    }
