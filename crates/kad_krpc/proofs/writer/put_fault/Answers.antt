use Rattle.std.proofs.Common.{[], ◌∷◌, ◌++◌, subst, w64}
use Rattle.std.specs.Prelude.{codes}
use Rattle.kad_bencode.specs.declared.value.Value.TheVariants.{Int, Text, List as Values}
use Rattle.kad_bencode.specs.Written.{Puts}
use Rattle.kad_bencode.proofs.Putting.{puts_more, puts_first, puts_last}
use Rattle.kad_krpc.specs.Fields.{pair}
use Rattle.kad_krpc.proofs.Put.{string_pair}
use Rattle.std.proofs.lemmas.Int.{to_z-of_z}
use Rattle.kad_bencode.specs.Spelling.{text_of}
use Rattle.kad_krpc.proofs.writer.put_fault.Goals as goal

pub returns : goal.returns
returns c =
    let e = pair (codes "e") (Values (Int c.args.code ∷ Text c.args.said.now ∷ [])) in
    let t = pair (codes "t") (Text c.args.tx.now) in
    puts_last (e ++ t) (pair (codes "y") (Text (codes "e"))) (codes "1:y1:e") (string_pair (codes "y") (codes "e"))
    (puts_more e t (puts_first (codes "e") (Values (Int c.args.code ∷ Text c.args.said.now ∷ [])) c.put_part-at.ensures
    (subst (λ z. Puts c.put_part-at.new.buf c.put_error-at.new.buf c.put_part-at.result (text_of (Values (Int z ∷ Text c.args.said.now ∷ []))) c.put_error-at.result) (to_z-of_z w64 c.args.code c.ranges.code) c.put_error-at.ensures)) c.put_text-at.ensures) c.put_part.ensures
