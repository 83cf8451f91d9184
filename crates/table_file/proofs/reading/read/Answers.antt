use Rattle.std.proofs.Common.{◌≡◌, sym, ap, ◌∙◌, subst, length, Err}
use Rattle.table_file.specs.declared.draft.Misfit.TheVariants as misfit
use Rattle.table_file.specs.Reading.{IsBadLine}
use Rattle.table_file.proofs.BadLine.{all_read, one_more, refused, unfinished}
use Rattle.table_file.proofs.Failing.{failed_once}
use Rattle.table_file.proofs.PartSpelling.{empty_of, nonempty}
use Rattle.table_file.proofs.reading.read.Goals.{in_default-draft-via-in-Ended+else-is_empty, in_default-draft-via-in_default-draft}
use Rattle.table_file.proofs.reading.read.Goals as goal

pub returns-in-Err-Misplaced-clause-bad : goal.returns-in-Err-Misplaced-clause-bad
returns-in-Err-Misplaced-clause-bad c = λ number e.
    let same : c.loop-line.number ≡ number = cc e in
    let misplaced : c.next.result ≡ Err misfit.Misplaced = cc (c.in-Err-Misplaced.is, c.in-Err-Misplaced.field-0-is) in
    subst (IsBadLine c.args.bytes.now) same (refused _ _ _ _ _ _ c.loop-line.invariant c.in-Some.ensures (c.next.ensures.misplaced misplaced))

pub loop-line-preserved : goal.loop-line-preserved
loop-line-preserved c = one_more _ _ _ _ _ _ _ c.loop-line.invariant c.in-Some.ensures c.in-Ok.ensures.ok

pub returns-in-Ended-clause-ok : goal.returns-in-Ended-clause-ok
returns-in-Ended-clause-ok c = all_read _ _ _ _ _ c.loop-line.invariant c.in-Ended.is (empty_of _ (sym c.if-is_empty.true ∙ c.is_empty.ensures))

pub returns-in-Ended-clause-few : goal.returns-in-Ended-clause-few
returns-in-Ended-clause-few c = failed_once _ _ (all_read _ _ _ _ _ c.loop-line.invariant c.in-Ended.is (empty_of _ (sym c.if-is_empty.true ∙ c.is_empty.ensures)))

pub returns-in_default-draft-clause-bad : goal.returns-in_default-draft-clause-bad
returns-in_default-draft-clause-bad c = λ number e.
    let same : c.loop-line.number ≡ number = cc e in
    let bytes = c.args.bytes.now in
    elim c.in_default-draft.branch [
      | in_default-draft-via-in-Ended+else-is_empty w ↦
          subst (IsBadLine bytes) same (unfinished _ _ _ _ c.loop-line.invariant c.in_default.ensures (λ saved f r. nonempty _ (sym w.if-is_empty.false ∙ w.is_empty.ensures) (ap length r)))
      | in_default-draft-via-in_default-draft w ↦
          subst (IsBadLine bytes) same (unfinished _ _ _ _ c.loop-line.invariant c.in_default.ensures (λ saved f r. w.in_default-draft.not-Ended saved f))
    ]
