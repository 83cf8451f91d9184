use Rattle.std.proofs.Common.{rules, arith}
use Rattle.peer_store.proofs.Extremes.{greatest_bytes_last}
use Rattle.peer_store.proofs.ends.none_after.Goals as goal

pub returns : goal.returns
returns c = greatest_bytes_last 16 c.args.bytes.now (omega (arith, c.told-bytes)) (λ i. search rules)
