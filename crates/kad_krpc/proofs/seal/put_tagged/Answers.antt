use Rattle.kad_krpc.proofs.Sealing.{puts_tagged}
use Rattle.kad_krpc.proofs.seal.put_tagged.Goals as goal

pub returns : goal.returns
returns c pairs u = puts_tagged c.args.bytes.now c.args.tag.now pairs c.place_for-place.result c.place_for-place.ensures.place u c.put_part-at.ensures c.put_text-at.ensures c.put_part.ensures
