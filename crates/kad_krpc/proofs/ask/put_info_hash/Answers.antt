use Rattle.std.proofs.Common.{◌++◌, subst, append_assoc}
use Rattle.std.specs.Prelude.{codes}
use Rattle.kad_bencode.specs.declared.value.Value.TheVariants.{Text, Dict}
use Rattle.kad_bencode.specs.Spelling.{text_of}
use Rattle.kad_bencode.specs.Written.{Puts}
use Rattle.kad_bencode.proofs.Putting.{puts_more, puts_closed}
use Rattle.kad_krpc.specs.Fields.{pair}
use Rattle.kad_krpc.specs.Asking.{proof_pair, want_pair}
use Rattle.kad_krpc.proofs.ask.put_info_hash.Goals as goal

pub returns : goal.returns
returns c =
    let i = pair (codes "id") (Text c.args.id.now.0) in
    let h = pair (codes "info_hash") (Text c.args.info_hash.now.0) in
    let k = proof_pair c.args.proof.now in
    let w = want_pair c.args.want in
    subst (λ ps. Puts c.args.buf.now c.put_part.new.buf c.args.at (text_of (Dict ps)) c.put_part.result) (append_assoc (i ++ h) k w)
    (puts_closed (i ++ h ++ k ++ w)
    (puts_more (i ++ h ++ k) w
    (puts_more (i ++ h) k
    (puts_more i h c.put_id-at.ensures c.put_text-at.ensures) c.put_proof-at.ensures) c.put_want-at.ensures) c.put_part.ensures)
