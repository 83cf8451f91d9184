use Rattle.std.proofs.Common.{refl}
use Rattle.lookup_run.specs.declared.types.LookupState.{LookupState}
use Rattle.lookup_run.proofs.Matching.{takes_stray, is_last_stray}
use Rattle.lookup_run.proofs.receive.take_datagram.Goals as goal

pub returns-in-Stray-clause-ok : goal.returns-in-Stray-clause-ok
returns-in-Stray-clause-ok g c =
    let old : LookupState = c.args.work.now in
    let stray = rw c.in-Stray.is at c.in_ok-taken.ensures.takes in
    let none = rw c.quest.ensures at stray.0 in
    takes_stray c.args.look.now (g.G.SealCheck.accepted c.args.seal.now) c.args.from c.args.bytes.now old (record old { lookup = c.take.new.self; progress = c.take_stray.new.progress }) c.take_stray.result none c.take_stray.ensures.ok stray.1 refl refl

pub returns-in-Stray-clause-strays : goal.returns-in-Stray-clause-strays
returns-in-Stray-clause-strays g c =
    let stray = rw c.in-Stray.is at c.in_ok-taken.ensures.takes in
    let none = rw c.quest.ensures at stray.0 in
    is_last_stray c.args.look.now (g.G.SealCheck.accepted c.args.seal.now) c.args.from c.args.bytes.now c.args.work.now c.take_stray.result none c.take_stray.ensures.err
