use Rattle.table_file.proofs.LineSpelling.{is_live, live_cut, live_read, live_uncut, live_uncut_behind}
use Rattle.table_file.proofs.lines.read_live.Goals as goal

pub returns-in_err-id : goal.returns-in_err-id
returns-in_err-id c = rw c.from_residual.ensures (λ l s. live_uncut _ l c.in_err-id.ensures (is_live _ l s))

pub returns-in_err-addr : goal.returns-in_err-addr
returns-in_err-addr c = rw c.from_residual-in_err-addr.ensures (λ l s. live_uncut_behind _ _ _ l c.in_ok-id.ensures c.in_err-addr.ensures (is_live _ l s))

pub returns-in_err-id-2 : goal.returns-in_err-id-2
returns-in_err-id-2 c = rw c.from_residual-in_err-id-2.ensures (λ l s.
    let t = is_live _ l s in
    c.in_err-id-2.ensures t.entry.contact.id (live_cut _ _ _ _ _ l c.in_ok-id.ensures c.in_ok-addr.ensures t).0)

pub returns-in_err-addr-2 : goal.returns-in_err-addr-2
returns-in_err-addr-2 c = rw c.from_residual-in_err-addr-2.ensures (λ l s.
    let t = is_live _ l s in
    c.in_err-addr-2.ensures t.entry.contact.addr (live_cut _ _ _ _ _ l c.in_ok-id.ensures c.in_ok-addr.ensures t).1)

pub returns-in_err-failures : goal.returns-in_err-failures
returns-in_err-failures c = rw c.from_residual-in_err-failures.ensures (λ l s.
    let t = is_live _ l s in
    c.in_err-failures.ensures t.entry.failures t.few (live_cut _ _ _ _ _ l c.in_ok-id.ensures c.in_ok-addr.ensures t).2)

pub returns : goal.returns
returns c = live_read _ _ _ _ _ _ _ _ c.in_ok-id.ensures c.in_ok-addr.ensures c.in_ok-id-2.ensures c.in_ok-addr-2.ensures c.in_ok-failures.ensures
