use Rattle.std.proofs.Common.{sym, ◌∙◌, subst}
use Rattle.table_file.specs.Drafts.{IsUnfit, lines_of_draft}
use Rattle.table_file.proofs.Once.{line_once}
use Rattle.table_file.proofs.reading.next.Goals as goal

pub returns-in-Some-clause-misplaced : goal.returns-in-Some-clause-misplaced
returns-in-Some-clause-misplaced c = λ e l s.
    let read = c.in-Some.ensures in
    subst (IsUnfit (lines_of_draft c.args.draft)) (line_once _ l read.fits s.fits (sym read.printed ∙ s.printed)) (c.take.ensures.misplaced e)
