use Rattle.std.proofs.Common.{ap, ◌∙◌}
use Rattle.kad_base.specs.declared.types.Id.{Id}
use Rattle.fake_net.specs.Network.{id_of, shared}
use Rattle.fake_net.proofs.Sharing.{shared_is}
use Rattle.fake_net.proofs.nodes.Nodes.shared.Goals as goal

pub returns-clause-shared : goal.returns-clause-shared
returns-clause-shared c =
    shared_is c.id.result c.id-2.result c.shared_bits.result c.shared_bits.ensures.within c.shared_bits.ensures.agree c.shared_bits.ensures.differ
    ∙ ap (λ (x : Id). shared x c.id-2.result) c.id.ensures
    ∙ ap (λ (x : Id). shared (id_of c.args.self.now.seed c.args.i) x) c.id-2.ensures
