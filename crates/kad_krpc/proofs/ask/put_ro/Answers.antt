use Rattle.std.proofs.Common.{subst, sym}
use Rattle.std.specs.Prelude.{codes}
use Rattle.kad_bencode.specs.Written.{PutsPairs}
use Rattle.kad_bencode.proofs.Putting.{puts_same}
use Rattle.kad_krpc.specs.Asking.{read_only_pair}
use Rattle.kad_krpc.proofs.Put.{one_text}
use Rattle.kad_krpc.proofs.ask.put_ro.Goals as goal

pub returns-then-read_only : goal.returns-then-read_only
returns-then-read_only c =
    subst (λ b. PutsPairs c.args.buf.now c.put_part.new.buf c.args.at (read_only_pair b) c.put_part.result) (sym c.if-read_only.true)
    (puts_same (one_text (codes "ro")) c.put_part.ensures)
