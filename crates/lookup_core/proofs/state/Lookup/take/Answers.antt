use Rattle.std.proofs.Common.{refl}
use Rattle.std.proofs.lemmas.Option.{slice_get_within}
use Rattle.lookup_core.specs.Reply.{said_seen}
use Rattle.lookup_core.proofs.Matching.{silent, take_result}
use Rattle.lookup_core.proofs.state.Lookup.take.Goals as goal

pub returns-in-None-clause-takes : goal.returns-in-None-clause-takes
returns-in-None-clause-takes g c = (silent c.args.quest.now (g.G.SealCheck.accepted c.args.seal.now) c.args.self.now c.args.from c.args.bytes.now c.requires c.in-None.ensures, refl)

pub hear-requires-clause-open : goal.hear-requires-clause-open
hear-requires-clause-open g c = (let of = (rw c.in-Some-2.is at c.in_ok-place.ensures) c.args.bytes.now c.in-Some.ensures in slice_get_within c.args.self.now.queries c.in-Some-2.place of.query of.here)

pub returns-in-Some-2-clause-takes : goal.returns-in-Some-2-clause-takes
returns-in-Some-2-clause-takes g c =
    let of = (rw c.in-Some-2.is at c.in_ok-place.ensures) c.args.bytes.now c.in-Some.ensures in
    take_result c.args.quest.now (g.G.SealCheck.accepted c.args.seal.now) c.args.from c.args.bytes.now (said_seen c.in-Some.said) c.in-Some-2.place c.args.self.now c.hear.new.self c.hear.result c.in-Some.ensures.says of c.hear.ensures.hears

pub returns-in-None-2-clause-takes : goal.returns-in-None-2-clause-takes
returns-in-None-2-clause-takes g c = ((rw c.in-None-2.is at c.in_ok-place.ensures) c.args.bytes.now c.in-Some.ensures, refl)
