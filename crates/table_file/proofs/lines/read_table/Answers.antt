use Rattle.std.proofs.Common.{arith}
use Rattle.table_file.proofs.LineSpelling.{is_table, table_cut, table_read, table_uncut, table_uncut_behind}
use Rattle.table_file.proofs.lines.read_table.Goals as goal

pub returns-in_err-own : goal.returns-in_err-own
returns-in_err-own c = rw c.from_residual.ensures (λ l s. table_uncut _ l c.in_err-own.ensures (is_table _ l s))

pub returns-in_err-k : goal.returns-in_err-k
returns-in_err-k c = rw c.from_residual-in_err-k.ensures (λ l s. table_uncut_behind _ _ _ l c.in_ok-own.ensures c.in_err-k.ensures (is_table _ l s))

pub returns-in_err-own-2 : goal.returns-in_err-own-2
returns-in_err-own-2 c = rw c.from_residual-in_err-own-2.ensures (λ l s.
    let t = is_table _ l s in
    c.in_err-own-2.ensures t.own (table_cut _ _ _ _ _ l c.in_ok-own.ensures c.in_ok-k.ensures t).0)

pub returns-in_err-k-2 : goal.returns-in_err-k-2
returns-in_err-k-2 c = rw c.from_residual-in_err-k-2.ensures (λ l s.
    let t = is_table _ l s in
    let fits = t.fits in
    c.in_err-k-2.ensures t.k (omega arith) (table_cut _ _ _ _ _ l c.in_ok-own.ensures c.in_ok-k.ensures t).1)

pub returns-in_err-b : goal.returns-in_err-b
returns-in_err-b c = rw c.from_residual-in_err-b.ensures (λ l s.
    let t = is_table _ l s in
    let fits = t.fits in
    c.in_err-b.ensures t.b (omega arith) (table_cut _ _ _ _ _ l c.in_ok-own.ensures c.in_ok-k.ensures t).2)

pub returns : goal.returns
returns c = table_read _ _ _ _ _ _ _ _ c.in_ok-own.ensures c.in_ok-k.ensures c.in_ok-own-2.ensures c.in_ok-k-2.ensures c.in_ok-b.ensures
