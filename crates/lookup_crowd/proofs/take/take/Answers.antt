use Rattle.std.proofs.Common.{◌<◌, length, refl, subst, sym, arith}
use Rattle.std.proofs.lemmas.Option.{slice_get_within, get_or_from_slice_get}
use Rattle.lookup_crowd.specs.inner.Crowd.{Holding}
use Rattle.lookup_core.specs.Reply.{said_seen}
use Rattle.lookup_crowd.proofs.Heard.{same_seats, seats_set}
use Rattle.lookup_crowd.proofs.Lists.{all_at}
use Rattle.lookup_crowd.proofs.Several.{first_hears, silent_all, unasked_all}
use Rattle.lookup_crowd.proofs.take.take.Goals as goal

pub returns-then-is_unasked-clause-seats : goal.returns-then-is_unasked-clause-seats
returns-then-is_unasked-clause-seats g c = same_seats c.args.seekers.now

pub returns-then-is_unasked-clause-ok : goal.returns-then-is_unasked-clause-ok
returns-then-is_unasked-clause-ok g c = (unasked_all (g.G.SealCheck.accepted c.args.seal.now) c.args.from c.args.bytes.now c.args.seekers.now (c.is_unasked.ensures c.if-is_unasked.true), refl)

pub returns-in-None-clause-seats : goal.returns-in-None-clause-seats
returns-in-None-clause-seats g c = same_seats c.args.seekers.now

pub returns-in-None-clause-ok : goal.returns-in-None-clause-ok
returns-in-None-clause-ok g c = (silent_all (g.G.SealCheck.accepted c.args.seal.now) c.args.from c.args.bytes.now c.args.seekers.now c.requires c.in-None.ensures, refl)

pub bounds-seekers-i : goal.bounds-seekers-i
bounds-seekers-i g c = (let w = (rw c.in-Ok-Some.field-0-is at c.in-Ok-Some.ensures) c.args.bytes.now c.in-Some.ensures in slice_get_within c.args.seekers.now c.in-Ok-Some.i w.one w.here)

pub offset_bounds-seekers-i : goal.offset_bounds-seekers-i
offset_bounds-seekers-i g c =
    let w = (rw c.in-Ok-Some.field-0-is at c.in-Ok-Some.ensures) c.args.bytes.now c.in-Some.ensures in
    let lt : c.in-Ok-Some.i < length c.args.seekers.now = slice_get_within c.args.seekers.now c.in-Ok-Some.i w.one w.here in
    omega (arith, lt)

pub hear-requires-clause-holds : goal.hear-requires-clause-holds
hear-requires-clause-holds g c =
    let w = (rw c.in-Ok-Some.field-0-is at c.in-Ok-Some.ensures) c.args.bytes.now c.in-Some.ensures in
    all_at Holding c.args.seekers.now c.in-Ok-Some.i c.index-seekers-i.result c.requires (slice_get_within c.args.seekers.now c.in-Ok-Some.i w.one w.here)

pub hear-requires-clause-open : goal.hear-requires-clause-open
hear-requires-clause-open g c =
    let w = (rw c.in-Ok-Some.field-0-is at c.in-Ok-Some.ensures) c.args.bytes.now c.in-Some.ensures in
    subst (λ k. c.in-Ok-Some.place < length k.lookup.queries) (sym (get_or_from_slice_get c.args.seekers.now c.in-Ok-Some.i w.one c.index-seekers-i.result w.here))
    (slice_get_within w.one.lookup.queries c.in-Ok-Some.place w.waits.query w.waits.here)

pub returns-in_err-hear-in-Ok-Some-clause-seats : goal.returns-in_err-hear-in-Ok-Some-clause-seats
returns-in_err-hear-in-Ok-Some-clause-seats g c = seats_set c.args.seekers.now c.args.seekers.now c.in-Ok-Some.i c.index-seekers-i.result c.hear.new.seeker refl c.hear.ensures.seat

pub returns-in_ok-hear-in-Ok-Some-clause-seats : goal.returns-in_ok-hear-in-Ok-Some-clause-seats
returns-in_ok-hear-in-Ok-Some-clause-seats g c = seats_set c.args.seekers.now c.args.seekers.now c.in-Ok-Some.i c.index-seekers-i.result c.hear.new.seeker refl c.hear.ensures.seat

pub returns-in_ok-hear-in-Ok-Some-clause-ok : goal.returns-in_ok-hear-in-Ok-Some-clause-ok
returns-in_ok-hear-in-Ok-Some-clause-ok g c =
    let w = (rw c.in-Ok-Some.field-0-is at c.in-Ok-Some.ensures) c.args.bytes.now c.in-Some.ensures in
    first_hears (g.G.SealCheck.accepted c.args.seal.now) c.args.from c.args.bytes.now (said_seen c.in-Some.said) c.args.seekers.now (c.in-Ok-Some.i, c.in-Ok-Some.place) c.index-seekers-i.result c.hear.new.seeker c.in-Some.ensures.says w
    c.in_ok-hear-in-Ok-Some.ensures.ok c.hear.ensures.seat

pub returns-in-Ok-None-clause-seats : goal.returns-in-Ok-None-clause-seats
returns-in-Ok-None-clause-seats g c = same_seats c.args.seekers.now

pub returns-in-Err-clause-seats : goal.returns-in-Err-clause-seats
returns-in-Err-clause-seats g c = same_seats c.args.seekers.now

pub returns-in-Ok-None-clause-ok : goal.returns-in-Ok-None-clause-ok
returns-in-Ok-None-clause-ok g c = ((rw c.in-Ok-None.field-0-is at c.in-Ok-None.ensures) c.args.bytes.now c.in-Some.ensures, refl)
