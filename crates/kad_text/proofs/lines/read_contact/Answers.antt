use Rattle.std.proofs.Common.{Some, None, lit<}
use Rattle.std.proofs.lemmas.Str.Pattern.{split_parts}
use Rattle.kad_text.proofs.LineSpelling.{line_cut, follows_cut, proved_line}
use Rattle.kad_text.proofs.lines.read_contact.Goals as goal

pub returns-in_err-id : goal.returns-in_err-id
returns-in_err-id c = rw c.from_residual.ensures (λ report s. line_cut _ None report c.in_err-id.ensures.cases s)

pub returns-in_err-id-2 : goal.returns-in_err-id-2
returns-in_err-id-2 c = rw c.from_residual-in_err-id-2.ensures (λ report s.
    c.in_err-id-2.ensures report.contact.id (line_cut _ (Some (c.in_ok-id.id, c.in_ok-id.rest)) report c.in_ok-id.ensures.cases s).0)

pub returns-in_err-addr-in-None : goal.returns-in_err-addr-in-None
returns-in_err-addr-in-None c = rw c.from_residual-in_err-addr-in-None.ensures (λ report s.
    let f = (line_cut _ (Some (c.in_ok-id.id, c.in_ok-id.rest)) report c.in_ok-id.ensures.cases s).1 in
    c.in_err-addr-in-None.ensures report.contact.addr (follows_cut _ report None c.in-None.ensures.cases f).0)

pub returns-in_err-addr-in-Some : goal.returns-in_err-addr-in-Some
returns-in_err-addr-in-Some c = rw c.from_residual-in_err-addr-in-Some.ensures (λ report s.
    let f = (line_cut _ (Some (c.in_ok-id.id, c.in_ok-id.rest)) report c.in_ok-id.ensures.cases s).1 in
    c.in_err-addr-in-Some.ensures report.contact.addr (follows_cut _ report (Some (c.in-Some.addr, c.in-Some.proof)) c.in-Some.ensures.cases f).0)

pub returns-in_err-proof-in-Some : goal.returns-in_err-proof-in-Some
returns-in_err-proof-in-Some c = rw c.from_residual-in_err-proof-in-Some.ensures (λ report s.
    let f = (line_cut _ (Some (c.in_ok-id.id, c.in_ok-id.rest)) report c.in_ok-id.ensures.cases s).1 in
    let p = (follows_cut _ report (Some (c.in-Some.addr, c.in-Some.proof)) c.in-Some.ensures.cases f).1 in
    c.in_err-proof-in-Some.ensures p.it p.spells)

pub returns-in_ok-proof-in-Some : goal.returns-in_ok-proof-in-Some
returns-in_ok-proof-in-Some c =
    let line = split_parts 32 _ (Some (c.in_ok-id.id, c.in_ok-id.rest)) c.in_ok-id.ensures.cases (lit< tt) in
    let rest = split_parts 32 _ (Some (c.in-Some.addr, c.in-Some.proof)) c.in-Some.ensures.cases (lit< tt) in
    proved_line _ _ _ _ _ _ _ _ line.0 rest.0 c.in_ok-id-2.ensures c.in_ok-addr-in-Some.ensures c.in_ok-proof-in-Some.ensures
