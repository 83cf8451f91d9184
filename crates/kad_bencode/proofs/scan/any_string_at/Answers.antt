use Rattle.std.proofs.Common.{◌≡◌, ◌+◌, ◌-◌, ◌<◌, ◌^◌, take, drop, length, ap, arith}
use Rattle.kad_bencode.proofs.Reading.{no_length_unended, empty_read, no_string, length_unended, body_short, string_read}
use Rattle.kad_bencode.proofs.scan.any_string_at.Goals as goal

pub returns-then-not-has_byte-clause-reads : goal.returns-then-not-has_byte-clause-reads
returns-then-not-has_byte-clause-reads c p a = no_length_unended c.args.bytes.now c.args.at p a c.if-has_byte.ensures c.if-not-has_byte.ensures

pub returns-then-has_byte-clause-reads : goal.returns-then-has_byte-clause-reads
returns-then-has_byte-clause-reads c p a =
    let e : c.args.at - c.args.at ≡ 0 = omega arith in
    empty_read c.args.bytes.now c.args.at p (take (c.args.at - c.args.at) (drop c.args.at c.args.bytes.now)) (ap (λ n. take n (drop c.args.at c.args.bytes.now)) e) a c.if-has_byte.ensures c.if-not-has_byte.ensures

pub returns-then-not-has_number-clause-reads : goal.returns-then-not-has_number-clause-reads
returns-then-not-has_number-clause-reads c p a = no_string c.args.bytes.now c.args.at p a c.if-has_byte.ensures c.if-not-has_number.ensures

pub returns-then-not-has_byte-2-clause-reads : goal.returns-then-not-has_byte-2-clause-reads
returns-then-not-has_byte-2-clause-reads c p a = length_unended c.args.bytes.now c.args.at p c.digits_from-length.result.0 c.digits_from-length.result.1 a c.digits_from-length.ensures c.if-not-has_byte-2.ensures

pub returns-then-length-rest-clause-reads : goal.returns-then-length-rest-clause-reads
returns-then-length-rest-clause-reads c p a = body_short c.args.bytes.now c.args.at p c.digits_from-length.result.0 c.digits_from-length.result.1 a c.digits_from-length.ensures c.if-not-has_byte-2.ensures c.if-length-rest.true

pub returns-clause-reads : goal.returns-clause-reads
returns-clause-reads c p a =
    let e : c.digits_from-length.result.1 + 1 + c.digits_from-length.result.0 - (c.digits_from-length.result.1 + 1) ≡ c.digits_from-length.result.0 = omega arith in
    let small : length c.args.bytes.now < 2 ^ 64 = omega arith in
    string_read c.args.bytes.now c.args.at p c.digits_from-length.result.0 c.digits_from-length.result.1
    (take (c.digits_from-length.result.1 + 1 + c.digits_from-length.result.0 - (c.digits_from-length.result.1 + 1)) (drop (c.digits_from-length.result.1 + 1) c.args.bytes.now))
    (ap (λ n. take n (drop (c.digits_from-length.result.1 + 1) c.args.bytes.now)) e) a c.digits_from-length.ensures c.if-not-has_byte-2.ensures c.if-length-rest.false small
