use Rattle.std.proofs.Common.{Some, None, rules}
use Rattle.std.proofs.lemmas.Bool.Decides.{Decides-eqb}
use Rattle.std.proofs.lemmas.Slice.Eq.{strip_prefix_is}
use Rattle.node_commands.proofs.JobForms.{named_at, untexted, unworded}
use Rattle.node_commands.proofs.job_line.read_id_behind.Goals as goal

pub returns-in_err-digits : goal.returns-in_err-digits
returns-in_err-digits c = rw c.from_residual.ensures (unworded c.args.word.now c.args.line.now (strip_prefix_is Decides-eqb c.args.line.now c.args.word.now None c.in_err-digits.ensures.cases))

pub returns-in_default : goal.returns-in_default
returns-in_default c =
    untexted c.args.word.now c.args.line.now c.in_ok-digits.digits.now (strip_prefix_is Decides-eqb c.args.line.now c.args.word.now (Some c.in_ok-digits.digits) c.in_ok-digits.ensures.cases) c.in_default.ensures.cases.0

pub returns : goal.returns
returns c =
    named_at c.args.word.now c.args.line.now c.in_ok-digits.digits.now c.in-Ok.text.now c.read_id.result (strip_prefix_is Decides-eqb c.args.line.now c.args.word.now (Some c.in_ok-digits.digits) c.in_ok-digits.ensures.cases) (search rules) c.read_id.ensures
