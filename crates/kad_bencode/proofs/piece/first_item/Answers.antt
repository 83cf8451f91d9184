use Rattle.std.proofs.Common.{arith, sym, subst, take}
use Rattle.std.proofs.lemmas.List.{take_rest}
use Rattle.kad_bencode.specs.Naming.{IsCut}
use Rattle.kad_bencode.proofs.Listing.{none_left, cut_off}
use Rattle.kad_bencode.proofs.piece.first_item.Goals as goal

pub returns-then-bytes-eq0-clause-cuts : goal.returns-then-bytes-eq0-clause-cuts
returns-then-bytes-eq0-clause-cuts c = none_left c.args.bytes.now (omega (arith, c.if-bytes-eq0.true))

pub returns-clause-cuts : goal.returns-clause-cuts
returns-clause-cuts c ts a =
    subst (IsCut ts (take c.past-to.result c.args.bytes.now)) (sym (take_rest c.args.bytes.now c.past-to.result))
    (cut_off c.args.bytes.now c.past-to.result (omega (arith, c.if-bytes-eq0.false)) c.past-to.ensures.ends ts a)
