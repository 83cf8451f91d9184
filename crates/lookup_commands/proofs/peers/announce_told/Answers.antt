use Rattle.std.specs.Prelude.{true, None, IfOk, OnErr}
use Rattle.kad_base.specs.Outside.{Grows}
use Rattle.follow_ups.specs.Announced.{AnnouncesSome}
use Rattle.lookup_commands.specs.Followed.{chosen}
use Rattle.follow_ups.proofs.Announcing.{Sends, owes_some}
use Rattle.lookup_commands.proofs.peers.announce_told.Goals as goal

pub returns-clause-ok : goal.returns-clause-ok
returns-clause-ok g c =
    let o = c.args.outcome.now in
    owes_some c.args.port c.in-Some.port c.args.own c.args.look.now.target (chosen c.args.spread c.args.look.now o) o.tokens
    (λ all. IfOk c.follow_up.result (λ sent. Grows (g.L.Link.told c.args.link.now) (g.L.Link.told c.follow_up.new.link) (Sends true None c.args.words.now.seed c.args.words.now.place all sent)))
    c.in-Some.is c.follow_up.ensures.ok

pub returns-clause-err : goal.returns-clause-err
returns-clause-err g c =
    let o = c.args.outcome.now in
    owes_some c.args.port c.in-Some.port c.args.own c.args.look.now.target (chosen c.args.spread c.args.look.now o) o.tokens
    (λ all. OnErr c.follow_up.result (Grows (g.L.Link.told c.args.link.now) (g.L.Link.told c.follow_up.new.link) (AnnouncesSome true None c.args.words.now.seed c.args.words.now.place all)))
    c.in-Some.is c.follow_up.ensures.err
