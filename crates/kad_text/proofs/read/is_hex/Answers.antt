use Rattle.std.proofs.Common.{◌≡◌, length, ◌%◌, arith}
use Rattle.kad_text.proofs.HexSpelling.{digits_spell, spelled_even}
use Rattle.kad_text.proofs.read.is_hex.Goals as goal

pub returns-then-text-eq1 : goal.returns-then-text-eq1
returns-then-text-eq1 c = (λ t. cc t, λ s. let even = spelled_even c.args.text.now s in let odd = c.if-text-eq1.true in absurd (omega (arith, even, odd)))

pub returns : goal.returns
returns c =
    let odd = c.if-text-eq1.false in
    let even : length c.args.text.now % 2 ≡ 0 = omega (arith, odd) in
    digits_spell c.args.text.now c.as_bytes.result.now c.are_digits.result even c.as_bytes.ensures.value c.are_digits.ensures
