use Rattle.std.proofs.Common.{[], refl}
use Rattle.std.proofs.lemmas.Result.{err_from_is_err_and}
use Rattle.kad_bencode.specs.Spelling.{in_order}
use Rattle.kad_bencode.proofs.Nested.{awaits_first, whole, trailing}
use Rattle.kad_bencode.proofs.Verifying.{handed}
use Rattle.kad_bencode.proofs.verify.whole_in.Goals as goal

pub returns-in_err-next : goal.returns-in_err-next
returns-in_err-next c =
    let p = err_from_is_err_and c.from_residual.result c.from_residual.ensures.1 in
    handed c.args.bytes.now c.from_residual.result _ p.0 _ p.1 p.2 (c.in_err-next.ensures.reads [] refl (awaits_first c.args.bytes.now))

pub returns-then-next-bytes : goal.returns-then-next-bytes
returns-then-next-bytes c = let v = c.in_ok-next.ensures.reads [] refl (awaits_first c.args.bytes.now) in trailing c.args.bytes.now c.in_ok-next.next v c.if-next-bytes.true

pub returns : goal.returns
returns c = let v = c.in_ok-next.ensures.reads [] refl (awaits_first c.args.bytes.now) in (in_order v.tree, whole c.args.bytes.now c.in_ok-next.next v c.if-next-bytes.false)
