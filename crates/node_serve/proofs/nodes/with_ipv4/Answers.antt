use Rattle.std.proofs.Common.{rules, ap, ◌∙◌}
use Rattle.std.proofs.lemmas.Fn.{filter_same}
use Rattle.kad_base.specs.declared.types.Contact.{Contact}
use Rattle.node_serve.specs.Replies.{is_v4, of_ipv4}
use Rattle.node_serve.proofs.nodes.with_ipv4.Goals as goal

pub returns : goal.returns
returns c =
    c.from_vec.ensures
    ∙ filter_same _ (λ (other : Contact). is_v4 other.addr.ip) _ (λ x b f' k. search rules) _ _ c.retain.ensures.filtered
    ∙ ap of_ipv4 c.into_vec-items.ensures
