use Rattle.std.proofs.Common.{rules, ap, ◌∙◌}
use Rattle.std.proofs.lemmas.Fn.{filter_same}
use Rattle.kad_base.specs.declared.types.Report.{Report}
use Rattle.node_serve.specs.Replies.{is_v4, reports_of_ipv4}
use Rattle.node_serve.proofs.nodes.reports_with_ipv4.Goals as goal

pub returns : goal.returns
returns c =
    c.from_vec.ensures
    ∙ filter_same _ (λ (other : Report). is_v4 other.contact.addr.ip) _ (λ x b f' k. search rules) _ _ c.retain.ensures.filtered
    ∙ ap reports_of_ipv4 c.into_vec-items.ensures
