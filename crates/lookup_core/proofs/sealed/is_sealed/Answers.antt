use Rattle.lookup_core.specs.Reply.{reply_seen}
use Rattle.lookup_core.specs.Sealed.{speaker}
use Rattle.lookup_core.proofs.Tags.{asks_for}
use Rattle.lookup_core.proofs.sealed.is_sealed.Goals as goal

pub returns : goal.returns
returns g c = asks_for (g.G.SealCheck.accepted c.args.seal.now) c.args.said.now.top (speaker c.args.contact.now (reply_seen c.args.said.now.reply)) c.speaker.result c.args.sealed c.has_tag.result c.if-not-sealed.false c.speaker.ensures c.has_tag.ensures
