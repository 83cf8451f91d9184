use Rattle.std.proofs.Common.{refl}
use Rattle.table_file.specs.declared.line.Line.TheVariants as line
use Rattle.table_file.proofs.Chain.{table_unfit}
use Rattle.table_file.proofs.draft.take_table.Goals.{in-Empty, in_default}
use Rattle.table_file.proofs.draft.take_table.Goals as goal

pub returns-clause-misplaced : goal.returns-clause-misplaced
returns-clause-misplaced c = λ e.
    let h = c.args.head in
    elim c.match-draft.branch [
      | in-Empty w ↦ absurd (cc (w.result-is, e))
      | in_default w ↦ table_unfit c.args.draft (line.Table h.own h.k h.b) refl w.in_default.not-Empty
    ]
