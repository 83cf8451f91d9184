use Rattle.std.proofs.Common.{arith}
use Rattle.kad_text.proofs.GroupSpelling.{cased}
use Rattle.kad_text.proofs.ipv6.group_of.Goals.{then-text-lt5-via-then-text-lt5, then-text-lt5-via-else-text-lt5+then-text-lead}
use Rattle.kad_text.proofs.ipv6.group_of.Goals as goal

pub returns-then-text-lt5 : goal.returns-then-text-lt5
returns-then-text-lt5 c = λ bytes rest s.
    let g = cased _ _ bytes rest c.requires s in
    let room = g.0 in
    elim c.then-text-lt5.branch [
      | then-text-lt5-via-then-text-lt5 w ↦ omega arith
      | then-text-lt5-via-else-text-lt5+then-text-lead w ↦ w.if-text-lead.true g.1
    ]

pub returns-in_err-bytes : goal.returns-in_err-bytes
returns-in_err-bytes c = rw c.from_residual.ensures (λ bytes rest s. c.in_err-bytes.ensures bytes (cased _ _ bytes rest c.requires s).2)
