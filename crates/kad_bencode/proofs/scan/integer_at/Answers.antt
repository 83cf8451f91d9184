use Rattle.kad_bencode.proofs.Reading.{zero_unended, zero_read, awaits_minus, awaits_plus}
use Rattle.kad_bencode.proofs.scan.integer_at.Goals as goal

pub returns-then-not-has_byte-clause-reads : goal.returns-then-not-has_byte-clause-reads
returns-then-not-has_byte-clause-reads c os a = zero_unended c.args.bytes.now c.args.at os a c.requires.within c.requires.begins c.if-has_byte.ensures c.if-not-has_byte.ensures

pub returns-then-has_byte-clause-reads : goal.returns-then-has_byte-clause-reads
returns-then-has_byte-clause-reads c os a = zero_read c.args.bytes.now c.args.at os a c.requires.within c.requires.begins c.if-has_byte.ensures c.if-not-has_byte.ensures

pub returns-then-has_byte-2-clause-reads : goal.returns-then-has_byte-2-clause-reads
returns-then-has_byte-2-clause-reads c os a = c.number_at.ensures.reads os (awaits_minus c.args.bytes.now c.args.at os a c.requires.within c.requires.begins c.if-has_byte-2.ensures)

pub returns-clause-reads : goal.returns-clause-reads
returns-clause-reads c os a = c.number_at-2.ensures.reads os (awaits_plus c.args.bytes.now c.args.at os a c.requires.within c.requires.begins c.if-has_byte.ensures c.if-has_byte-2.ensures)
