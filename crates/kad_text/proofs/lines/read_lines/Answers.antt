use Rattle.std.proofs.Common.{◌≡◌, ◌+◌, [], ◌∷◌, ◌++◌, eqb, rules}
use Rattle.std.proofs.lemmas.Iterator.Consumers.{YieldsList-turn, YieldsList-end, YieldsList-from_enumerate}
use Rattle.std.proofs.lemmas.Iterator.Splits.{YieldsList-from_slice_split}
use Rattle.std.proofs.lemmas.List.{length_push}
use Rattle.kad_text.specs.Lines.{lines}
use Rattle.kad_text.proofs.LineLaws.{turn_of, turn_none, turn_some, turn_bad, turns_end}
use Rattle.kad_text.proofs.lines.read_lines.Goals as goal

pub loop-i-preserved-in-Ok-None : goal.loop-i-preserved-in-Ok-None
loop-i-preserved-in-Ok-None c =
    let all = YieldsList-from_enumerate (YieldsList-from_slice_split _ (λ b. eqb b 10) c.args.bytes.now (cc) (cc) (cc) (λ x b q k. search rules)) (cc) in
    let t = YieldsList-turn all c.loop-i.yielded _ c.loop-i.yielded_by _ _ (c.in-Some.i, c.in-Some.line) c.in-Some.is c.next.ensures.steps in
    turn_none (lines c.args.bytes.now) _ _ _ _ _ (turn_of _ _ _ _ t) (length_push c.loop-i.yielded _) c.loop-i.invariant (rw c.in-Ok-None.field-0-is at c.in-Ok-None.ensures)

pub loop-i-preserved : goal.loop-i-preserved
loop-i-preserved c =
    let grown : c.push.new.self ≡ c.loop-i.reports ++ c.in-Ok-Some.report ∷ [] = search rules in
    let all = YieldsList-from_enumerate (YieldsList-from_slice_split _ (λ b. eqb b 10) c.args.bytes.now (cc) (cc) (cc) (λ x b q k. search rules)) (cc) in
    let t = YieldsList-turn all c.loop-i.yielded _ c.loop-i.yielded_by _ _ (c.in-Some.i, c.in-Some.line) c.in-Some.is c.next.ensures.steps in
    turn_some (lines c.args.bytes.now) c.loop-i.reports c.push.new.self _ _ _ _ c.in-Ok-Some.report (turn_of _ _ _ _ t) (length_push c.loop-i.yielded _) c.loop-i.invariant (rw c.in-Ok-Some.field-0-is at c.in-Ok-Some.ensures) grown

pub returns-in-Err-clause-bad : goal.returns-in-Err-clause-bad
returns-in-Err-clause-bad c = λ number e.
    let same : number ≡ c.in-Some.i + 1 = cc e in
    let all = YieldsList-from_enumerate (YieldsList-from_slice_split _ (λ b. eqb b 10) c.args.bytes.now (cc) (cc) (cc) (λ x b q k. search rules)) (cc) in
    let t = YieldsList-turn all c.loop-i.yielded _ c.loop-i.yielded_by _ _ (c.in-Some.i, c.in-Some.line) c.in-Some.is c.next.ensures.steps in
    turn_bad (lines c.args.bytes.now) c.loop-i.reports _ c.in-Some.i number _ (turn_of _ _ _ _ t) c.loop-i.invariant c.in-Err.ensures same

pub returns-clause-ok : goal.returns-clause-ok
returns-clause-ok c =
    let all = YieldsList-from_enumerate (YieldsList-from_slice_split _ (λ b. eqb b 10) c.args.bytes.now (cc) (cc) (cc) (λ x b q k. search rules)) (cc) in
    turns_end (lines c.args.bytes.now) c.loop-i.reports _ (YieldsList-end all c.loop-i.yielded _ c.loop-i.yielded_by _ _ c.in-None.is c.next.ensures.steps).1 c.loop-i.invariant
