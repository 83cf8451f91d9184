use Rattle.std.proofs.Common.{ℕ, take, sym, subst, rules, arith}
use Rattle.std.specs.Prelude.{IsNone}
use Rattle.std.proofs.lemmas.List.{length-take}
use Rattle.kad_krpc.specs.Form.{message_pairs}
use Rattle.kad_krpc.specs.Seal.{IsUntagged}
use Rattle.node_serve.proofs.Tagging.{no_room}
use Rattle.node_serve.proofs.sealing.put_tag.Goals as goal

pub unreachable-requires : goal.unreachable-requires
unreachable-requires g c =
    let reply = c.args.reply.now in
    let pairs = message_pairs reply in
    let untagged : IsUntagged (take c.args.length c.args.out.now) pairs = subst (λ b. IsUntagged b pairs) (sym c.requires.written) (c.form_is_untagged.ensures reply c.message_is_well_typed.ensures c.requires.forms) in
    let none : IsNone c.tag_into.result = search rules in
    let long = (c.tag_into.ensures.none pairs untagged).0 none in
    no_room reply c.args.out.now _ c.args.length c.requires.written c.requires.room long (omega (arith, length-take {A = ℕ}, c.tag-size.ensures.bound))
