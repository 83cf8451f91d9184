use Rattle.std.proofs.Common.{◌≡◌, ◌+◌, eqb, rules}
use Rattle.std.proofs.lemmas.Iterator.Consumers.{YieldsList-turn, YieldsList-end, YieldsList-from_enumerate}
use Rattle.std.proofs.lemmas.Iterator.Splits.{YieldsList-from_slice_split}
use Rattle.std.proofs.lemmas.List.{length_push}
use Rattle.kad_text.specs.Lines.{lines}
use Rattle.node_commands.proofs.JobLaws.{names_end, turn_more, turn_unsaid}
use Rattle.kad_text.proofs.LineLaws.{turn_of}
use Rattle.serve_commands.proofs.Serving.{err_is}
use Rattle.node_commands.proofs.jobs.read_input.Goals as goal

pub loop-i-preserved : goal.loop-i-preserved
loop-i-preserved c =
    let all = YieldsList-from_enumerate (YieldsList-from_slice_split _ (λ b. eqb b 10) c.args.bytes.now (cc) (cc) (cc) (λ x b q k. search rules)) (cc) in
    let t = YieldsList-turn all c.loop-i.yielded _ c.loop-i.yielded_by _ _ (c.in-Some.i, c.in-Some.line) c.in-Some.is c.next.ensures.steps in
    turn_more (lines c.args.bytes.now) c.loop-i.reports _ c.loop-i.jobs _ _ _ _ _ (turn_of _ _ _ _ t) (length_push c.loop-i.yielded _) c.loop-i.invariant c.in-Ok.ensures.ok

pub returns-in-Err-Bad-clause-bad : goal.returns-in-Err-Bad-clause-bad
returns-in-Err-Bad-clause-bad c = λ number e.
    let same : number ≡ c.in-Some.i + 1 = cc e in
    let all = YieldsList-from_enumerate (YieldsList-from_slice_split _ (λ b. eqb b 10) c.args.bytes.now (cc) (cc) (cc) (λ x b q k. search rules)) (cc) in
    let t = YieldsList-turn all c.loop-i.yielded _ c.loop-i.yielded_by _ _ (c.in-Some.i, c.in-Some.line) c.in-Some.is c.next.ensures.steps in
    turn_unsaid (lines c.args.bytes.now) c.loop-i.reports c.loop-i.jobs _ c.in-Some.i number _ (turn_of _ _ _ _ t) c.loop-i.invariant (c.take_line.ensures.bad (err_is _ _ _ c.in-Err-Bad.is c.in-Err-Bad.field-0-is)) same

pub returns-clause-ok : goal.returns-clause-ok
returns-clause-ok c =
    let all = YieldsList-from_enumerate (YieldsList-from_slice_split _ (λ b. eqb b 10) c.args.bytes.now (cc) (cc) (cc) (λ x b q k. search rules)) (cc) in
    names_end (lines c.args.bytes.now) c.loop-i.reports c.loop-i.jobs _ (YieldsList-end all c.loop-i.yielded _ c.loop-i.yielded_by _ _ c.in-None.is c.next.ensures.steps).1 c.loop-i.invariant
