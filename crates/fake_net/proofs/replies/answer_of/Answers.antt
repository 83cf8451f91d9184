use Rattle.std.proofs.Common.{sym, ◌∙◌}
use Rattle.fake_net.proofs.Answering.{reply_writable}
use Rattle.fake_net.proofs.replies.answer_of.Goals as goal

pub encode-requires : goal.encode-requires
encode-requires c =
    reply_writable c.args.nodes.now c.args.i c.in_ok-tx.tx c.args.target.now c.in-Some.message (sym c.in-Some.is ∙ c.in_ok-message.ensures)
