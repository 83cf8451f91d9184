use Rattle.look_many.proofs.Tagging.{put_tx}
use Rattle.look_many.proofs.follow.write_tx.Goals as goal

pub returns : goal.returns
returns c = put_tx c.args.bytes.now c.put_bytes.new.buf _ c.args.tx c.put_bytes.result c.to_le_bytes.ensures c.requires c.put_bytes.ensures.place c.put_bytes.ensures.part c.put_bytes.ensures.rest
