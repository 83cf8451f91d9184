use Rattle.std.proofs.Common.{◌<◌, refl, arith}
use Rattle.kad_bencode.proofs.Skipping.{opens_list, opens_dictionary, closes, empty_closes, awaits_number, behind_filled, no_inside}
use Rattle.kad_bencode.specs.declared.value.Value.TheVariants as value
use Rattle.kad_bencode.proofs.scan.part_at.Goals as goal

pub returns-then-has_byte-clause-reads : goal.returns-then-has_byte-clause-reads
returns-then-has_byte-clause-reads c t b a = opens_list c.args.bytes.now t b c.args.at c.args.depth a c.if-has_byte.ensures

pub returns-then-has_byte-2-clause-reads : goal.returns-then-has_byte-2-clause-reads
returns-then-has_byte-2-clause-reads c t b a =
    empty_closes c.args.bytes.now t b c.args.at c.args.depth (opens_list c.args.bytes.now t b c.args.at c.args.depth a c.if-has_byte.ensures) c.if-has_byte-2.ensures

pub returns-then-has_byte-4-clause-reads : goal.returns-then-has_byte-4-clause-reads
returns-then-has_byte-4-clause-reads c t b a =
    empty_closes c.args.bytes.now t b c.args.at c.args.depth (opens_dictionary c.args.bytes.now t b c.args.at c.args.depth a c.if-has_byte-3.ensures) c.if-has_byte-4.ensures

pub returns-then-has_byte-3-clause-reads : goal.returns-then-has_byte-3-clause-reads
returns-then-has_byte-3-clause-reads c t b a = opens_dictionary c.args.bytes.now t b c.args.at c.args.depth a c.if-has_byte-3.ensures

pub returns-then-depth-eq0-clause-reads : goal.returns-then-depth-eq0-clause-reads
returns-then-depth-eq0-clause-reads c t b a = let h : 0 < c.args.depth = (closes c.args.bytes.now t b c.args.at c.args.depth a c.if-has_byte-5.ensures).0 in omega (arith, h, c.if-depth-eq0.true)

pub returns-then-has_byte-5-clause-reads : goal.returns-then-has_byte-5-clause-reads
returns-then-has_byte-5-clause-reads c t b a = (closes c.args.bytes.now t b c.args.at c.args.depth a c.if-has_byte-5.ensures).1

pub returns-in-Ok-clause-reads : goal.returns-in-Ok-clause-reads
returns-in-Ok-clause-reads c t b a =
    let w = awaits_number c.args.bytes.now t b c.args.at c.args.depth a c.if-has_byte-6.ensures in
    let r = c.in-Ok.ensures.reads w.0 w.2 in
    behind_filled c.args.bytes.now t b w.0 (value.Int c.in-Ok.field-0-0) c.in-Ok.next c.args.depth w.1 r.within r.reached

pub returns-in-Err-clause-reads : goal.returns-in-Err-clause-reads
returns-in-Err-clause-reads c t b a =
    let w = awaits_number c.args.bytes.now t b c.args.at c.args.depth a c.if-has_byte-6.ensures in
    no_inside c.args.bytes.now t b _ (c.in-Err.ensures.reads w.0 w.2) c.in-Err.ensures.inside

pub returns-then-has_digit-clause-reads : goal.returns-then-has_digit-clause-reads
returns-then-has_digit-clause-reads c t b a =
    let low = c.if-has_digit.ensures.least refl in
    let high = c.if-has_digit.ensures.most refl in
    c.string_part.ensures.reads t b a (λ e. omega (arith, low, high, e)) (λ e. omega (arith, low, high, e)) (λ e. omega (arith, low, high, e)) (λ e. omega (arith, low, high, e))

pub returns-clause-reads : goal.returns-clause-reads
returns-clause-reads c t b a =
    c.string_part-2.ensures.reads t b a (c.if-has_byte-6.ensures c.requires.within) (c.if-has_byte.ensures c.requires.within) (c.if-has_byte-3.ensures c.requires.within) (c.if-has_byte-5.ensures c.requires.within)
