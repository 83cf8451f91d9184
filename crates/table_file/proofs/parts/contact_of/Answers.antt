use Rattle.table_file.proofs.PartSpelling.{contact_cut, contact_read, contact_uncut}
use Rattle.table_file.proofs.parts.contact_of.Goals as goal

pub returns-in_err-id : goal.returns-in_err-id
returns-in_err-id c = rw c.from_residual.ensures (λ k s. contact_uncut _ k c.in_err-id.ensures s)

pub returns-in_err-id-2 : goal.returns-in_err-id-2
returns-in_err-id-2 c = rw c.from_residual-in_err-id-2.ensures (λ k s. c.in_err-id-2.ensures k.id (contact_cut _ _ _ k c.in_ok-id.ensures s).0)

pub returns-in_err-addr : goal.returns-in_err-addr
returns-in_err-addr c = rw c.from_residual-in_err-addr.ensures (λ k s. c.in_err-addr.ensures k.addr (contact_cut _ _ _ k c.in_ok-id.ensures s).1)

pub returns : goal.returns
returns c = contact_read _ _ _ _ _ c.in_ok-id.ensures c.in_ok-id-2.ensures c.in_ok-addr.ensures
