use Rattle.std.proofs.Common.{◌≡◌, length, Some, refl, arith, length-append}
use Rattle.kad_bencode.proofs.Putting.{puts_then}
use Rattle.kad_records.specs.Records.{proof_bytes}
use Rattle.kad_krpc.proofs.Queries.{sk_text}
use Rattle.kad_krpc.proofs.sender.put_sk.Goals as goal

pub returns : goal.returns
returns c =
    let proof = c.args.proof.now in
    let long : length (proof_bytes (Some proof)) ≡ 52 = let l = length-append proof.key proof.x in omega (arith, l) in
    puts_then (sk_text proof long) c.put_part-at.ensures
    (puts_then refl c.put_part-at-2.ensures c.put_part.ensures)
