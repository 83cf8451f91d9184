use Rattle.std.proofs.Common.{◌∙◌}
use Rattle.follow_ups.specs.Announced.{asks_of}
use Rattle.follow_ups.proofs.Announcing.{datagram_is, may_write}
use Rattle.follow_ups.proofs.announce.datagram.Goals as goal

pub encode-requires : goal.encode-requires
encode-requires c = may_write c.brought.result c.args.said.now c.args.token.now.token c.in_ok-ask_for.field-0 c.in_ok-ask_for.ensures c.requires

pub returns : goal.returns
returns c =
    datagram_is c.args.read_only c.args.proof c.brought.result c.encode.result c.in_ok-from_slice.field-0 c.args.tx c.in_ok-ask_for.field-0 (asks_of c.args.said.now c.args.token.now.token)
    (c.in_ok-from_slice.ensures ∙ c.to_le_bytes.ensures) c.brought.ensures c.in_ok-ask_for.ensures c.encode.ensures.form
