use Rattle.std.proofs.Common.{◌+◌, sym, subst}
use Rattle.kad_bencode.proofs.Forming.{RowsSoFar, no_rows, row_next, rows_last, rows_more}
use Rattle.kad_bencode.proofs.form.rows_of.Goals as goal

pub loop-i-init : goal.loop-i-init
loop-i-init c ps a z = subst (λ l. RowsSoFar c.args.pairs.now l 0 ps) (sym c.new-rows.ensures.items) (no_rows c.args.pairs.now ps a)

pub loop-i-preserved : goal.loop-i-preserved
loop-i-preserved c ps a z =
    subst (λ l. RowsSoFar c.in-Some.others.now l (c.loop-i.i + 1) ps) (sym c.in_ok-push-in-Some.ensures.items)
    (rows_more c.loop-i.rest.now c.loop-i.rows.items c.loop-i.i c.args.sizes.now ps z (c.loop-i.invariant ps a z) c.in-Some.others.now (record { head = c.head_of-head.result; key = c.in-Some.key; text = c.in-Some.text }) c.loop-i-test.true c.in-Some.ensures)

pub returns-in-None : goal.returns-in-None
returns-in-None c ps a z =
    let x = row_next c.loop-i.rest.now c.loop-i.rows.items c.loop-i.i c.args.sizes.now ps z (c.loop-i.invariant ps a z) c.loop-i-test.true in
    absurd (c.in-None.ensures x.0 x.1 x.3 x.4)

pub returns : goal.returns
returns c ps a z = rows_last c.loop-i.rest.now c.loop-i.rows.items c.loop-i.i c.args.sizes.now ps z (c.loop-i.invariant ps a z) c.loop-i-test.false
