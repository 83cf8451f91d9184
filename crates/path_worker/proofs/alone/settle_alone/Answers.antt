use Rattle.std.proofs.Common.{◌+◌, ◌∷◌, [], refl, sym, ap, ◌∙◌, arith}
use Rattle.std.proofs.lemmas.List.{length-append}
use Rattle.path_worker.proofs.Joined.{settling_none, settling_more, settles_all}
use Rattle.path_worker.proofs.alone.settle_alone.Goals as goal

pub settling-init : goal.settling-init
settling-init g c = record {
  settling = settling_none c.args.path c.args.book.now c.args.table.now;
  counted = refl;
  left = omega arith;
  few = c.few_unsettled.ensures c.args.path;
}

pub settling-preserved : goal.settling-preserved
settling-preserved g c =
    let h = c.settling.invariant.settling in
    let one = c.in_ok-settle_first.ensures.some c.if-branch.true in
    record {
      settling = settling_more c.args.path c.args.book.now c.settling.book c.settle_first.new.book c.args.table.now c.settling.table c.settle_first.new.table h one;
      counted = ap (λ n. n + 1) c.settling.invariant.counted ∙ sym (length-append h.more (one.one.entry ∷ []));
      left = (let less = one.one.less in let left = c.settling.invariant.left in omega arith);
      few = c.settling.invariant.few;
    }

pub returns-clause-ok : goal.returns-clause-ok
returns-clause-ok g c = settles_all c.args.path c.args.book.now c.settling.book c.settle_first.new.book c.args.table.now c.settling.table c.settle_first.new.table c.settling.invariant.settling c.settling.count c.settling.invariant.counted (c.in_ok-settle_first.ensures.none c.if-branch.false)
