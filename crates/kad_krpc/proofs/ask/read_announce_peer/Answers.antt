use Rattle.std.proofs.Common.{◌∙◌}
use Rattle.kad_krpc.specs.Asking.{announced_by}
use Rattle.kad_krpc.proofs.ask.read_announce_peer.Goals as goal

pub returns : goal.returns
returns c = c.read_announced.ensures ∙ (λ i. announced_by c.args.id (c.get.ensures i) (c.get-2.ensures i) (c.get-3.ensures i) (c.get-4.ensures i))
