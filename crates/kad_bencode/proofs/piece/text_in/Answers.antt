use Rattle.std.proofs.Common.{[], refl}
use Rattle.kad_bencode.specs.Machine.{AsValue}
use Rattle.kad_bencode.proofs.Nested.{awaits_text, awaits_first}
use Rattle.kad_bencode.proofs.Skipping.{no_inside}
use Rattle.kad_bencode.proofs.Pieces.{begins, no_text, text_read}
use Rattle.kad_bencode.proofs.piece.text_in.Goals as goal

pub returns-then-has_byte : goal.returns-then-has_byte
returns-then-has_byte c v s = no_text c.args.bytes.now v s 105 refl c.if-has_byte.ensures

pub returns-then-has_byte-2 : goal.returns-then-has_byte-2
returns-then-has_byte-2 c v s = no_text c.args.bytes.now v s 108 refl c.if-has_byte-2.ensures

pub returns-then-has_byte-3 : goal.returns-then-has_byte-3
returns-then-has_byte-3 c v s = no_text c.args.bytes.now v s 100 refl c.if-has_byte-3.ensures

pub returns-in-Ok : goal.returns-in-Ok
returns-in-Ok c v s =
    let r = c.in-Ok.ensures.reads (AsValue []) (awaits_text c.args.bytes.now 0 [] (awaits_first c.args.bytes.now) c.if-has_byte.ensures c.if-has_byte-2.ensures c.if-has_byte-3.ensures) in
    text_read c.args.bytes.now v s _ _ r.within r.reached

pub returns-in-Err : goal.returns-in-Err
returns-in-Err c v s =
    absurd (no_inside c.args.bytes.now s.tree (begins c.args.bytes.now v s) _ (c.in-Err.ensures.reads (AsValue []) (awaits_text c.args.bytes.now 0 [] (awaits_first c.args.bytes.now) c.if-has_byte.ensures c.if-has_byte-2.ensures c.if-has_byte-3.ensures)) c.in-Err.ensures.inside)
