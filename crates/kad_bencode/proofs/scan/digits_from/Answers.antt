use Rattle.std.proofs.Common.{◌+◌, ◌-◌, ◌^◌, min, get_or, ap, ◌∙◌}
use Rattle.kad_bencode.proofs.Reading.{digits_begin, digits_step}
use Rattle.kad_bencode.proofs.scan.digits_from.Goals as goal

pub loop-next-init : goal.loop-next-init
loop-next-init c = digits_begin _ _ c.requires.within c.requires.nonzero

pub loop-next-preserved : goal.loop-next-preserved
loop-next-preserved c =
    digits_step c.args.bytes.now c.args.first c.loop-next.number c.loop-next.next c.saturating_add-number.result c.loop-next.invariant c.loop-next-test.true c.if-bytes-next-ge48.true c.if-bytes-next-le57.true
    (c.saturating_add-number.ensures ∙ ap (λ m. min (m + (get_or c.args.bytes.now c.loop-next.next 0 - 48)) (2 ^ 64 - 1)) c.saturating_mul.ensures)
