use Rattle.std.proofs.Common.{◌≡◌, arith, sym}
use Rattle.kad_text.proofs.NumberSpelling.{spelled_is, number_cases}
use Rattle.kad_text.proofs.read.read_number.Goals as goal
use Rattle.kad_text.proofs.read.read_number.Goals.{then-number-least-via-then-number-least, then-number-least-via-else-number-least+then-most-number}

pub returns-in_err-number : goal.returns-in_err-number
returns-in_err-number c = rw c.from_residual.ensures (λ n s.
    let e = spelled_is _ _ _ c.parse.result _ n c.ranges.most.fits c.parse.ensures.value.0 (sym c.ok.ensures.value) s in
    cc (e, c.in_err-number.was))

pub returns-then-number-least : goal.returns-then-number-least
returns-then-number-least c = λ n s.
    let e = spelled_is _ _ _ c.parse.result _ n c.ranges.most.fits c.parse.ensures.value.0 (sym c.ok.ensures.value) s in
    let one : n ≡ c.in_ok-number.number = cc (e, c.in_ok-number.was) in
    let above = s.above in
    let below = s.below in
    elim c.then-number-least.branch [
      | then-number-least-via-then-number-least w ↦ omega arith
      | then-number-least-via-else-number-least+then-most-number w ↦ omega arith
    ]

pub returns : goal.returns
returns c =
    rw c.then_some.ensures (number_cases _ _ _ _ _ _ c.parse.result c.ranges.most.fits c.parse.ensures.value.0 (cc (c.ok.ensures.value, c.in_ok-number.was)) c.if-number-least.false c.if-most-number.false c.format.ensures.text c.eq.ensures)
