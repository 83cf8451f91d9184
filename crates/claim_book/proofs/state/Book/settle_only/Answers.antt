use Rattle.std.proofs.Common.{sym, subst, arith}
use Rattle.claim_book.specs.State.{BookState}
use Rattle.claim_book.specs.Legal.{Fits}
use Rattle.claim_book.proofs.Kept.{some_owed}
use Rattle.claim_book.proofs.Pathed.{quiet}
use Rattle.claim_book.proofs.Whole.{settles_within, whole_passed}
use Rattle.claim_book.proofs.state.Book.settle_only.Goals as goal

pub put-requires-clause-some : goal.put-requires-clause-some
put-requires-clause-some c =
    let fits = subst (λ (b : BookState). Fits b.setting b.journal c.args.entry) (sym c.self.view_is) c.requires.fits in
    some_owed c.self.inside.setting c.self.inside.journal.items c.args.entry _ _ c.self.invariant.book fits (quiet c.args.path c.args.entry c.requires.only).owed

pub index_mut-requires : goal.index_mut-requires
index_mut-requires c =
    let fits = subst (λ (b : BookState). Fits b.setting b.journal c.args.entry) (sym c.self.view_is) c.requires.fits in
    let lt = settles_within c.self.inside.setting c.self.inside.journal.items _ _ _ _ _ c.args.path c.args.entry c.self.invariant fits (quiet c.args.path c.args.entry c.requires.only).settles in
    omega arith

pub invariant_of-self : goal.invariant_of-self
invariant_of-self c =
    let fits = subst (λ (b : BookState). Fits b.setting b.journal c.args.entry) (sym c.self.view_is) c.requires.fits in
    let e = c.settle_one.ensures in
    whole_passed c.self.inside.setting c.self.inside.journal.items _ c.args.entry c.args.path _ _ _ _ _ _ _ _ _ c.self.invariant fits c.requires.only
    c.put.ensures.items c.put.ensures.owed c.put.ensures.room c.index_mut.ensures.value e.near e.fresh e.count e.opens e.queue
