use Rattle.std.proofs.Common.{◌≡◌, ◌<◌, false, rules, arith}
use Rattle.lookup_core.specs.Reply.{said_seen}
use Rattle.table_refresh.proofs.Replying.{stray_silent, stray_other, stray_untagged, matched_ping}
use Rattle.table_refresh.proofs.pong.pong_of.Goals as goal

pub returns-in-None-clause-ok : goal.returns-in-None-clause-ok
returns-in-None-clause-ok g c =
    let small : c.args.query.now.tx < 4294967296 = omega arith in
    stray_silent c.args.setting.now.sealed (g.G.SealCheck.accepted c.args.seal.now) c.args.query.now c.args.from c.args.bytes.now small c.in-None.ensures

pub returns-then-said-tx-clause-ok : goal.returns-then-said-tx-clause-ok
returns-then-said-tx-clause-ok g c =
    let small : c.args.query.now.tx < 4294967296 = omega arith in
    stray_other c.args.setting.now.sealed (g.G.SealCheck.accepted c.args.seal.now) c.args.query.now c.args.from c.args.bytes.now (said_seen c.in-Some.said) small c.in-Some.ensures.says c.if-said-tx.true

pub returns-in-Ok-false-clause-ok : goal.returns-in-Ok-false-clause-ok
returns-in-Ok-false-clause-ok g c =
    let small : c.args.query.now.tx < 4294967296 = omega arith in
    stray_untagged c.args.setting.now.sealed (g.G.SealCheck.accepted c.args.seal.now) c.args.query.now c.args.from c.args.bytes.now (said_seen c.in-Some.said) small c.in-Some.ensures.says
    (λ h. (let is = (c.in-Ok-false.ensures c.args.bytes.now c.in-Some.ensures.spelled).1 h in let no = c.in-Ok-false.field-0-test in absurd cc))

pub returns-in-Err-clause-err : goal.returns-in-Err-clause-err
returns-in-Err-clause-err g c =
    let source : c.args.from ≡ c.args.query.now.contact.addr = search rules in
    let same : c.in-Some.said.tx ≡ c.args.query.now.tx = search rules in
    record {
      said = (said_seen c.in-Some.said).reply;
      matched = matched_ping false (g.G.SealCheck.accepted c.args.seal.now) c.args.query.now c.args.from c.args.bytes.now (said_seen c.in-Some.said) source same c.in-Some.ensures.says tt;
      what = tt;
    }
