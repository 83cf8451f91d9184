use Rattle.std.proofs.Common.{◌≡◌, ◌+◌, ◌-◌, ◌<◌, ◌^◌, take, drop, length, refl, ap, arith}
use Rattle.kad_bencode.proofs.Reading.{six_read}
use Rattle.kad_bencode.proofs.scan.string_at.Goals as goal

pub returns-then-has_six-clause-reads : goal.returns-then-has_six-clause-reads
returns-then-has_six-clause-reads c p a =
    let e : c.args.at + 8 - (c.args.at + 2) ≡ 6 = omega arith in
    let small : length c.args.bytes.now < 2 ^ 64 = omega arith in
    six_read c.args.bytes.now c.args.at p (take (c.args.at + 8 - (c.args.at + 2)) (drop (c.args.at + 2) c.args.bytes.now))
    (ap (λ n. take n (drop (c.args.at + 2) c.args.bytes.now)) e) a (c.if-has_six.ensures.long refl) (c.if-has_six.ensures.six refl) (c.if-has_six.ensures.colon refl) small

pub returns-in-Some-clause-reads : goal.returns-in-Some-clause-reads
returns-in-Some-clause-reads c p a = c.in-Some.ensures.reads p a
