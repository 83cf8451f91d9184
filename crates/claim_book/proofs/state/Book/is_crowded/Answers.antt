use Rattle.std.proofs.Common.{subst, sym, arith}
use Rattle.claim_book.specs.State.{BookState}
use Rattle.kad_base.specs.Hosts.{host}
use Rattle.claim_book.specs.Crowded.{IsCrowded}
use Rattle.claim_book.proofs.state.Book.is_crowded.Goals as goal

pub returns : goal.returns
returns c =
    let s = c.self.inside.setting in
    let J = c.self.inside.journal.items in
    let counts = c.self.invariant.map.counts in
    let says = c.is_crowded.ensures in (
      λ h. subst (λ (b : BookState). IsCrowded b.setting b.journal c.args.path c.args.contact.now) c.self.view_is (
          let t = says.0 h in
          let many = t.1 in
          record { limited = t.0; as_many = (let is = counts t.0 c.args.path (host c.args.contact.now.addr) in omega arith) }),
      λ x.
          let y = subst (λ (b : BookState). IsCrowded b.setting b.journal c.args.path c.args.contact.now) (sym c.self.view_is) x in
          let many = y.as_many in
          says.1 (y.limited, (let is = counts y.limited c.args.path (host c.args.contact.now.addr) in omega arith)),
    )
