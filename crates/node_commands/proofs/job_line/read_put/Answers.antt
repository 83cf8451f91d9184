use Rattle.std.proofs.Common.{Some, rules}
use Rattle.std.specs.Prelude.{codes}
use Rattle.std.proofs.lemmas.Bool.Decides.{Decides-eqb}
use Rattle.std.proofs.lemmas.Slice.Eq.{strip_prefix_is}
use Rattle.node_commands.proofs.JobForms.{put_no_item, put_text}
use Rattle.node_commands.proofs.job_line.read_put.Goals as goal

pub returns-in_default-from_utf8 : goal.returns-in_default-from_utf8
returns-in_default-from_utf8 c =
    put_text c.args.line.now c.in-Some.digits.now (strip_prefix_is Decides-eqb c.args.line.now (codes "put ") (Some c.in-Some.digits) c.in-Some.ensures.cases) c.in_default-from_utf8.ensures.cases.0

pub returns-then-not-branch : goal.returns-then-not-branch
returns-then-not-branch c =
    put_no_item c.args.line.now c.in-Some.digits.now c.in-Ok.text.now c.in_ok-v.v (strip_prefix_is Decides-eqb c.args.line.now (codes "put ") (Some c.in-Some.digits) c.in-Some.ensures.cases) (search rules) c.in_ok-v.ensures (search rules)
