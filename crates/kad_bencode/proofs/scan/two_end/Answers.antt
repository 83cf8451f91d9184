use Rattle.std.proofs.Common.{◌≡◌, ◌+◌, ◌<◌, ◌^◌, length, get_or, rules, arith}
use Rattle.kad_bencode.proofs.Reading.{two_read}
use Rattle.kad_bencode.proofs.scan.two_end.Goals as goal

pub returns-clause-reads : goal.returns-clause-reads
returns-clause-reads c p a =
    let least = c.if-tens-lt49.false in
    let most = c.if-tens-gt57.false in
    let low = c.if-ones-lt48.false in
    let high = c.if-ones-gt57.false in
    let long = c.if-next-bytes.false in
    let small : length c.args.bytes.now < 2 ^ 64 = omega arith in
    let colon : get_or c.args.bytes.now (c.args.at + 2) 0 ≡ 58 = search rules in
    two_read c.args.bytes.now c.args.at p a (omega (arith, least)) (omega (arith, most)) (omega (arith, low)) (omega (arith, high)) colon (omega (arith, long)) small
