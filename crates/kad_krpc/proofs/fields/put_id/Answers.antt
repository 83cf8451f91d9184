use Rattle.std.proofs.Common.{◌∷◌, ap, arith}
use Rattle.kad_bencode.proofs.Putting.{puts_then}
use Rattle.kad_krpc.proofs.Put.{id_text}
use Rattle.kad_krpc.proofs.fields.put_id.Goals as goal

pub returns : goal.returns
returns c = puts_then (ap (λ l. 100 ∷ l) (id_text c.args.id.now.0 (omega arith))) c.put_part-at.ensures c.put_part.ensures
