use Rattle.kad_bencode.proofs.Reading.{no_number, number_unended, number_read, number_big}
use Rattle.kad_bencode.proofs.scan.number_at.Goals as goal

pub returns-then-not-has_number-clause-reads : goal.returns-then-not-has_number-clause-reads
returns-then-not-has_number-clause-reads c os a = no_number c.args.bytes.now c.args.at c.args.first c.args.negative os a c.requires c.if-not-has_number.ensures

pub returns-then-not-has_byte-clause-reads : goal.returns-then-not-has_byte-clause-reads
returns-then-not-has_byte-clause-reads c os a = number_unended c.args.bytes.now c.args.at c.args.first c.args.negative os c.digits_from-number.result.0 c.digits_from-number.result.1 a c.digits_from-number.ensures c.if-not-has_byte.ensures

pub returns-in-Some-clause-reads : goal.returns-in-Some-clause-reads
returns-in-Some-clause-reads c os a =
    number_read c.args.bytes.now c.args.at c.args.first c.args.negative os c.digits_from-number.result.0 c.digits_from-number.result.1 c.in-Some.value a c.digits_from-number.ensures c.if-not-has_byte.ensures c.in-Some.ensures.0 c.in-Some.ensures.1

pub returns-in-None-clause-reads : goal.returns-in-None-clause-reads
returns-in-None-clause-reads c os a =
    number_big c.args.bytes.now c.args.at c.args.first c.args.negative os c.digits_from-number.result.0 c.digits_from-number.result.1 a c.digits_from-number.ensures c.if-not-has_byte.ensures c.in-None.ensures
