use Rattle.std.proofs.Common.{arith}
use Rattle.std.proofs.lemmas.List.Elements.{All-more}
use Rattle.bucket_tree.specs.declared.types.Live.{Live}
use Rattle.table_file.specs.declared.line.Line.TheVariants as line
use Rattle.kad_text.specs.Text.{FitsContact}
use Rattle.table_file.proofs.Fitting.{line_more}
use Rattle.table_file.proofs.writing.put_lives.Goals as goal

pub loop-entry-preserved : goal.loop-entry-preserved
loop-entry-preserved c = (
  line_more (λ x. line.Live x) c.args.live.now c.loop-entry.entry-index _ c.args.output.now _ _ (omega arith) c.loop-entry.invariant.0 c.in_ok-put_live.ensures.text,
  All-more (λ (e : Live). FitsContact e.contact) c.args.live.now c.loop-entry.entry-index _ (omega arith) c.loop-entry.invariant.1 c.in_ok-put_live.ensures.fits,
)
