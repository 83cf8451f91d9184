use Rattle.std.proofs.Common.{sym, subst}
use Rattle.kad_bencode.specs.Keys.{value_of}
use Rattle.kad_krpc.proofs.Gathered.{pair_before}
use Rattle.kad_krpc.proofs.members.gather.Goals as goal

pub loop-key-init : goal.loop-key-init
loop-key-init g c = λ end f. f

pub loop-key-preserved : goal.loop-key-preserved
loop-key-preserved g c = λ end f.
    c.loop-key.invariant end (subst (λ look. g.S.Slots.filled c.loop-key.filled look end) (pair_before c.loop-key.pairs c.next.new.self c.in-Some.key.now c.in-Some.value c.in-Some.ensures) (c.keep.ensures (value_of c.next.new.self) end f))

pub returns : goal.returns
returns g c =
    c.loop-key.invariant c.loop-key.filled
    (subst (λ pairs. g.S.Slots.filled c.loop-key.filled (value_of pairs) c.loop-key.filled) (sym c.in_default.ensures.0) c.law_done.ensures)
