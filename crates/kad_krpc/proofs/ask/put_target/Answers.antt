use Rattle.std.proofs.Common.{◌++◌}
use Rattle.std.specs.Prelude.{codes}
use Rattle.kad_bencode.specs.declared.value.Value.TheVariants.{Text}
use Rattle.kad_bencode.proofs.Putting.{puts_more, puts_closed}
use Rattle.kad_krpc.specs.Fields.{pair}
use Rattle.kad_krpc.specs.Asking.{proof_pair, want_pair}
use Rattle.kad_krpc.proofs.ask.put_target.Goals as goal

pub returns : goal.returns
returns c =
    let i = pair (codes "id") (Text c.args.id.now.0) in
    let k = proof_pair c.args.proof.now in
    let t = pair (codes "target") (Text c.args.target.now.0) in
    let w = want_pair c.args.want in
    puts_closed (i ++ k ++ t ++ w)
    (puts_more (i ++ k ++ t) w
    (puts_more (i ++ k) t
    (puts_more i k c.put_id-at.ensures c.put_proof-at.ensures) c.put_text-at.ensures) c.put_want-at.ensures) c.put_part.ensures
