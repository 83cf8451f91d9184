use Rattle.std.proofs.Common.{◌≡◌, true, None, false, rules}
use Rattle.std.specs.Prelude.{IfOk, OnErr}
use Rattle.kad_base.specs.Outside.{Grows}
use Rattle.follow_ups.specs.Announced.{AnnouncesSome, asks_of}
use Rattle.lookup_commands.specs.Followed.{chosen}
use Rattle.follow_ups.proofs.Announcing.{Sends}
use Rattle.lookup_commands.proofs.Following.{chosen_plainly, chosen_spread, said_to}
use Rattle.lookup_commands.proofs.follow.follow_up.Goals as goal

pub returns-then-not-spread-clause-ok : goal.returns-then-not-spread-clause-ok
returns-then-not-spread-clause-ok g c =
    let o = c.args.outcome.now in
    let plain : c.args.spread ≡ false = search rules in
    said_to (asks_of c.args.said.now) (chosen c.args.spread c.args.look.now o) _ o.tokens _
    (λ all. IfOk c.announce.result (λ sent. Grows (g.L.Link.told c.args.link.now) (g.L.Link.told c.announce.new.link) (Sends true None c.args.words.now.seed c.args.words.now.place all sent)))
    (chosen_plainly c.args.spread c.args.look.now o c.as_slice.result.now plain c.as_slice.ensures) c.as_slice-tokens.ensures c.announce.ensures.ok

pub returns-then-not-spread-clause-err : goal.returns-then-not-spread-clause-err
returns-then-not-spread-clause-err g c =
    let o = c.args.outcome.now in
    let plain : c.args.spread ≡ false = search rules in
    said_to (asks_of c.args.said.now) (chosen c.args.spread c.args.look.now o) _ o.tokens _
    (λ all. OnErr c.announce.result (Grows (g.L.Link.told c.args.link.now) (g.L.Link.told c.announce.new.link) (AnnouncesSome true None c.args.words.now.seed c.args.words.now.place all)))
    (chosen_plainly c.args.spread c.args.look.now o c.as_slice.result.now plain c.as_slice.ensures) c.as_slice-tokens.ensures c.announce.ensures.err

pub returns-clause-ok : goal.returns-clause-ok
returns-clause-ok g c =
    let o = c.args.outcome.now in
    let is_spread : c.args.spread ≡ true = search rules in
    said_to (asks_of c.args.said.now) (chosen c.args.spread c.args.look.now o) _ o.tokens _
    (λ all. IfOk c.announce-2.result (λ sent. Grows (g.L.Link.told c.args.link.now) (g.L.Link.told c.announce-2.new.link) (Sends true None c.args.words.now.seed c.args.words.now.place all sent)))
    (chosen_spread c.args.spread c.args.look.now o _ c.as_slice-2.result.now c.in_ok-contacts.contacts is_spread c.as_slice-journal.ensures c.in_ok-contacts.ensures c.as_slice-2.ensures) c.as_slice-tokens.ensures c.announce-2.ensures.ok

pub returns-clause-err : goal.returns-clause-err
returns-clause-err g c =
    let o = c.args.outcome.now in
    let is_spread : c.args.spread ≡ true = search rules in
    said_to (asks_of c.args.said.now) (chosen c.args.spread c.args.look.now o) _ o.tokens _
    (λ all. OnErr c.announce-2.result (Grows (g.L.Link.told c.args.link.now) (g.L.Link.told c.announce-2.new.link) (AnnouncesSome true None c.args.words.now.seed c.args.words.now.place all)))
    (chosen_spread c.args.spread c.args.look.now o _ c.as_slice-2.result.now c.in_ok-contacts.contacts is_spread c.as_slice-journal.ensures c.in_ok-contacts.ensures c.as_slice-2.ensures) c.as_slice-tokens.ensures c.announce-2.ensures.err
