use Rattle.std.proofs.Common.{◌<◌, ap, subst, sym, ◌∙◌, vec_len}
use Rattle.fake_net.specs.Network.{Network, id_of}
use Rattle.fake_net.proofs.Choosing.{id_at}
use Rattle.fake_net.proofs.nodes.Nodes.id.Goals as goal

pub returns : goal.returns
returns c =
    let lt : c.args.i < vec_len c.self.inside.ids = subst (λ (n : Network). c.args.i < n.count) (sym c.self.view_is) c.requires in
    id_at c.self.inside.seed (vec_len c.self.inside.ids) c.args.i c.self.inside.ids.items c.index.result.now c.self.invariant.0 lt c.index.ensures
    ∙ ap (λ (n : Network). id_of n.seed c.args.i) c.self.view_is
