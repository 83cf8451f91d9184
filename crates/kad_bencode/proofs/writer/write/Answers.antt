use Rattle.std.proofs.Common.{◌≡◌, arith, length, ◌∙◌}
use Rattle.kad_bencode.proofs.Putting.{appended}
use Rattle.kad_bencode.proofs.writer.write.Goals as goal

pub returns-clause-ok : goal.returns-clause-ok
returns-clause-ok c =
    let made = c.in_ok-resize.ensures.len in
    let long = c.as_mut_slice.ensures.len in
    let from : c.len-from.result ≡ length c.args.to.now.items = grind arith in
    let small = c.len-from.type_inv in
    appended c.args.to.now.items _ _ from (omega (arith, small)) c.put_value-end.ensures.place
    (c.as_mut_slice.ensures.value ∙ c.in_ok-resize.ensures.items) (grind (arith, long, made)) made c.put_value-end-2.ensures
