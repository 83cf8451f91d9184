use Rattle.std.proofs.Common.{◌∙◌}
use Rattle.kad_bencode.specs.Faults.{pairs_of}
use Rattle.kad_bencode.specs.Spelling.{pairs_text}
use Rattle.kad_bencode.proofs.Putting.{puts_same}
use Rattle.kad_krpc.specs.Asking.{want_pair}
use Rattle.kad_krpc.proofs.Put.{four_text, six_text, both_text}
use Rattle.kad_krpc.proofs.ask.put_want.Goals as goal

pub returns-in-true-true : goal.returns-in-true-true
returns-in-true-true c =
    puts_same ((λ i. pairs_text (pairs_of (want_pair (record { four = c.in-true-true.is-0 i; six = c.in-true-true.is-1 i })))) ∙ both_text) c.put_part.ensures

pub returns-in-true-false : goal.returns-in-true-false
returns-in-true-false c =
    puts_same ((λ i. pairs_text (pairs_of (want_pair (record { four = c.in-true-false.is-0 i; six = c.in-true-false.is-1 i })))) ∙ four_text) c.put_part-in-true-false.ensures

pub returns-in-false-true : goal.returns-in-false-true
returns-in-false-true c =
    puts_same ((λ i. pairs_text (pairs_of (want_pair (record { four = c.in-false-true.is-0 i; six = c.in-false-true.is-1 i })))) ∙ six_text) c.put_part-in-false-true.ensures
