use Rattle.std.proofs.Common.{[], ap, ◌∙◌, Some}
use Rattle.kad_bencode.proofs.Nested.{awaits_integer, awaits_first}
use Rattle.kad_bencode.proofs.Skipping.{no_inside}
use Rattle.kad_bencode.proofs.Reading.{bits}
use Rattle.kad_bencode.proofs.Pieces.{begins, no_int, int_read}
use Rattle.kad_bencode.proofs.piece.int_in.Goals as goal

pub returns-then-not-has_byte : goal.returns-then-not-has_byte
returns-then-not-has_byte c v s = no_int c.args.bytes.now v s c.if-not-has_byte.ensures

pub returns-in-Ok : goal.returns-in-Ok
returns-in-Ok c v s =
    let r = c.in-Ok.ensures.reads [] (awaits_integer c.args.bytes.now 0 [] (awaits_first c.args.bytes.now)) in
    ap Some (bits c.in-Ok.number r.plain) ∙ int_read c.args.bytes.now v s _ _ r.within r.reached

pub returns-in-Err : goal.returns-in-Err
returns-in-Err c v s =
    absurd (no_inside c.args.bytes.now s.tree (begins c.args.bytes.now v s) _ (c.in-Err.ensures.reads [] (awaits_integer c.args.bytes.now 0 [] (awaits_first c.args.bytes.now))) c.in-Err.ensures.inside)
