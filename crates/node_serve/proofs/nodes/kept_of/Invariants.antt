use Rattle.std.proofs.Common.{◌≡◌, drop}
use Rattle.node_serve.specs.Replies.{kept_proof}
use Rattle.node_serve.proofs.nodes.kept_of.Given as goal

abbrev pub invariant-loop-report : goal.invariant-loop-report
invariant-loop-report l = kept_proof (drop l.report-index l.fn.proofs) l.fn.contact ≡ kept_proof l.fn.proofs l.fn.contact
