use Rattle.std.proofs.Common.{◌≡◌, ◌<◌, length, ◌∙◌, arith}
use Rattle.kad_krpc.proofs.Put.{measured, all_put, whole_vec}
use Rattle.kad_krpc.proofs.seal.with_tag.Goals as goal

pub returns : goal.returns
returns c pairs u =
    let small = c.in_ok-text.text.small in
    let within = c.in_ok-text.text.ok.1 in
    let few : c.put_tagged-length.result < 9223372036854775808 = grind (arith, small, within) in
    let measure = measured (c.put_tagged-length.ensures pairs u) (λ e. omega (arith, few, e)) in
    let put = c.put_tagged-end.ensures pairs u in
    let room = put.room in
    let there : length c.as_mut_slice.result.now ≡ c.put_tagged-length.result = grind arith in
    whole_vec c.from_vec.result c.put_tagged-end.new.buf _ c.in_ok-text.text.len (grind (arith, room, there)) c.from_vec.ensures
    ∙ all_put there measure (omega (arith, few)) put
