use Rattle.serve_batches.proofs.Rings.{dealt_in_order}
use Rattle.serve_batches.proofs.laws.each_has_its_share.Goals as goal

pub returns : goal.returns
returns c n w m none lists lt room = dealt_in_order none n w lists m lt room
