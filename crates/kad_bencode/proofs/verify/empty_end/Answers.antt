use Rattle.std.proofs.Common.{◌+◌, ◌≡◌, subst, [], refl, arith}
use Rattle.kad_bencode.specs.Machine.{ReadsValue}
use Rattle.kad_bencode.proofs.Nested.{list_opened, dictionary_opened, opened_value, list_ends, pairs_end}
use Rattle.kad_bencode.proofs.verify.empty_end.Goals as goal

pub returns-then-has_byte-2-clause-reads : goal.returns-then-has_byte-2-clause-reads
returns-then-has_byte-2-clause-reads c os few a =
    let next : (c.args.at + 1) + 1 ≡ c.args.at + 2 = omega arith in
    subst (ReadsValue c.args.bytes.now c.args.at os) next (opened_value c.args.bytes.now c.args.at os _
    (list_ends c.args.bytes.now (c.args.at + 1) (c.args.at + 1) os (record { trees = []; reached = list_opened c.args.bytes.now c.args.at os a c.if-has_byte-2.ensures; fits = tt })
    (omega (arith, few)) (omega arith) c.if-has_byte.ensures))

pub returns-then-has_byte-3-clause-reads : goal.returns-then-has_byte-3-clause-reads
returns-then-has_byte-3-clause-reads c os few a =
    let next : (c.args.at + 1) + 1 ≡ c.args.at + 2 = omega arith in
    subst (ReadsValue c.args.bytes.now c.args.at os) next (opened_value c.args.bytes.now c.args.at os _
    (pairs_end c.args.bytes.now (c.args.at + 1) (c.args.at + 1) os (record { pairs = []; reached = dictionary_opened c.args.bytes.now c.args.at os a c.if-has_byte-3.ensures; fits = (omega (arith, few), tt, refl) })
    (omega arith) c.if-has_byte.ensures))
