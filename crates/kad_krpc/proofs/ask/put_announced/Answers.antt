use Rattle.std.proofs.Common.{◌++◌, subst, sym, arith, pos, w64}
use Rattle.std.specs.Prelude.{codes}
use Rattle.kad_bencode.specs.declared.value.Value.TheVariants.{Int, Text, Dict}
use Rattle.kad_bencode.specs.Written.{Puts, PutsPairs}
use Rattle.kad_bencode.proofs.Putting.{puts_same, puts_more, puts_closed}
use Rattle.kad_krpc.specs.Fields.{pair}
use Rattle.kad_krpc.specs.Asking.{announced, proof_pair}
use Rattle.kad_krpc.proofs.Put.{one_text}
use Rattle.kad_bencode.specs.Spelling.{text_of}
use Rattle.std.proofs.lemmas.Int.{to_z_pos}
use Rattle.kad_krpc.proofs.ask.put_announced.Goals as goal

pub returns-in-Given : goal.returns-in-Given
returns-in-Given c =
    let i = pair (codes "id") (Text c.args.id.now.0) in
    let h = pair (codes "info_hash") (Text c.args.info_hash.now.0) in
    let p = pair (codes "port") (Int (pos c.in-Given.number)) in
    let k = proof_pair c.args.proof.now in
    let t = pair (codes "token") (Text c.args.token.now) in
    subst (λ port. Puts c.args.buf.now c.put_part.new.buf c.args.at (text_of (Dict (announced c.args.proof.now c.args.id.now c.args.info_hash.now port c.args.token.now))) c.put_part.result) (sym c.in-Given.is)
    (puts_closed (i ++ h ++ p ++ k ++ t)
    (puts_more (i ++ h ++ p ++ k) t
    (puts_more (i ++ h ++ p) k
    (puts_more (i ++ h) p
    (puts_more i h c.put_id-at.ensures c.put_text-at.ensures)
    (subst (λ z. PutsPairs c.put_text-at.new.buf c.put_number-at.new.buf c.put_text-at.result (pair (codes "port") (Int z)) c.put_number-at.result) (to_z_pos w64 c.in-Given.number (omega arith)) c.put_number-at.ensures))
    c.put_proof-at.ensures)
    c.put_text-at-in-Given.ensures)
    c.put_part.ensures)

pub returns-in-Implied : goal.returns-in-Implied
returns-in-Implied c =
    let i = pair (codes "id") (Text c.args.id.now.0) in
    let m = pair (codes "implied_port") (Int (pos 1)) in
    let h = pair (codes "info_hash") (Text c.args.info_hash.now.0) in
    let p = pair (codes "port") (Int (pos 1)) in
    let k = proof_pair c.args.proof.now in
    let t = pair (codes "token") (Text c.args.token.now) in
    subst (λ port. Puts c.args.buf.now c.put_part-in-Implied.new.buf c.args.at (text_of (Dict (announced c.args.proof.now c.args.id.now c.args.info_hash.now port c.args.token.now))) c.put_part-in-Implied.result) (sym c.in-Implied.is)
    (puts_closed (i ++ m ++ h ++ p ++ k ++ t)
    (puts_more (i ++ m ++ h ++ p ++ k) t
    (puts_more (i ++ m ++ h ++ p) k
    (puts_more (i ++ m ++ h) p
    (puts_more (i ++ m) h
    (puts_more i m c.put_id-at-in-Implied.ensures (puts_same (one_text (codes "implied_port")) c.put_part-at.ensures))
    c.put_text-at-in-Implied.ensures)
    (puts_same (one_text (codes "port")) c.put_part-at-in-Implied.ensures))
    c.put_proof-at-in-Implied.ensures)
    c.put_text-at-in-Implied-2.ensures)
    c.put_part-in-Implied.ensures)
