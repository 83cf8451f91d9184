use Rattle.std.proofs.Common.{◌≡◌, ◌+◌, ◌<◌, ◌^◌, length, get_or, rules, arith}
use Rattle.kad_bencode.proofs.Reading.{digit_read}
use Rattle.kad_bencode.proofs.scan.short_end.Goals as goal

pub returns-clause-reads : goal.returns-clause-reads
returns-clause-reads c p a =
    let low = c.if-digit-lt48.false in
    let high = c.if-digit-gt57.false in
    let long = c.if-next-bytes.false in
    let small : length c.args.bytes.now < 2 ^ 64 = omega arith in
    let colon : get_or c.args.bytes.now (c.args.at + 1) 0 ≡ 58 = search rules in
    digit_read c.args.bytes.now c.args.at p a (omega (arith, low)) (omega (arith, high)) colon (omega (arith, long)) small
