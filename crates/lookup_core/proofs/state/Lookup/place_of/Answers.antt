use Rattle.std.proofs.Common.{refl, ap}
use Rattle.std.proofs.lemmas.Option.{slice_get_within}
use Rattle.query_book.specs.declared.Query.{Query}
use Rattle.lookup_core.specs.Reply.{said_seen}
use Rattle.lookup_core.proofs.Matching.{unasked, unsealed, found_place, stands_there}
use Rattle.lookup_core.proofs.state.Lookup.place_of.Goals as goal

pub returns-in-None : goal.returns-in-None
returns-in-None g c bytes reads = unasked c.args.quest.now (g.G.SealCheck.accepted c.args.seal.now) c.args.self.now c.args.from bytes (said_seen c.args.said.now) c.requires reads.says (c.in-None.ensures.none.0 refl)

pub at-requires : goal.at-requires
at-requires g c = (let at = c.in-Some.ensures.some in slice_get_within c.args.self.now.queries c.in-Some.place at.query at.here)

pub returns-then-not-sealed : goal.returns-then-not-sealed
returns-then-not-sealed g c bytes reads =
    let at = c.in-Some.ensures.some in
    unsealed c.args.quest.now (g.G.SealCheck.accepted c.args.seal.now) c.args.self.now c.args.from bytes (said_seen c.args.said.now) c.in-Some.place c.at.result.contact c.requires c.len.ensures.valid reads.says at
    (ap (λ (q : Query). q.contact) (stands_there c.args.self.now.queries c.in-Some.place c.at.result at.query c.at.ensures at.here))
    (λ h. (let sealed = (c.in_ok-sealed.ensures bytes reads.spelled).1 h in let lacks = c.if-not-sealed.true in absurd cc))

pub returns : goal.returns
returns g c bytes reads =
    let at = c.in-Some.ensures.some in
    found_place c.args.quest.now (g.G.SealCheck.accepted c.args.seal.now) c.args.self.now c.args.from bytes (said_seen c.args.said.now) c.in-Some.place c.at.result.contact c.len.ensures.valid at
    (ap (λ (q : Query). q.contact) (stands_there c.args.self.now.queries c.in-Some.place c.at.result at.query c.at.ensures at.here)) ((c.in_ok-sealed.ensures bytes reads.spelled).0 c.if-not-sealed.false)
