use Rattle.std.proofs.Common.{arith}
use Rattle.std.proofs.lemmas.List.Elements.{All-more}
use Rattle.table_file.specs.declared.line.Line.TheVariants as line
use Rattle.kad_text.specs.Text.{FitsContact}
use Rattle.table_file.proofs.Fitting.{line_more}
use Rattle.table_file.proofs.writing.put_siblings.Goals as goal

pub loop-contact-preserved : goal.loop-contact-preserved
loop-contact-preserved c = (
  line_more (λ x. line.Sibling x) c.args.siblings.now c.loop-contact.contact-index _ c.args.output.now _ _ (omega arith) c.loop-contact.invariant.0 c.in_ok-put_sibling.ensures.text,
  All-more FitsContact c.args.siblings.now c.loop-contact.contact-index _ (omega arith) c.loop-contact.invariant.1 c.in_ok-put_sibling.ensures.fits,
)
