use Rattle.std.proofs.Common.{refl, sym, subst, arith}
use Rattle.std.proofs.lemmas.Bool.{eq-eqb}
use Rattle.claim_book.specs.declared.types.Entry.TheVariants.{Turned}
use Rattle.claim_book.specs.State.{BookState}
use Rattle.claim_book.specs.Legal.{Fits}
use Rattle.claim_book.proofs.Kept.{some_owed}
use Rattle.claim_book.proofs.Whole.{few_turned, settles_within, whole_turned}
use Rattle.claim_book.proofs.state.Book.turn_away.Goals as goal

pub put-requires-clause-some : goal.put-requires-clause-some
put-requires-clause-some c =
    let fits = subst (λ (b : BookState). Fits b.setting b.journal (Turned c.args.path c.args.contact)) (sym c.self.view_is) c.requires in
    some_owed c.self.inside.setting c.self.inside.journal.items (Turned c.args.path c.args.contact) _ _ c.self.invariant.book fits tt

pub index_mut-requires : goal.index_mut-requires
index_mut-requires c =
    let fits = subst (λ (b : BookState). Fits b.setting b.journal (Turned c.args.path c.args.contact)) (sym c.self.view_is) c.requires in
    let lt = settles_within c.self.inside.setting c.self.inside.journal.items _ _ _ _ _ c.args.path (Turned c.args.path c.args.contact) c.self.invariant fits (eq-eqb c.args.path c.args.path refl) in
    omega arith

pub overflow_add-self : goal.overflow_add-self
overflow_add-self c = (let few = few_turned c.self.inside.setting c.self.inside.journal.items _ _ c.self.inside.counts c.self.invariant.book c.self.invariant.counted in omega arith)

pub invariant_of-self : goal.invariant_of-self
invariant_of-self c =
    let fits = subst (λ (b : BookState). Fits b.setting b.journal (Turned c.args.path c.args.contact)) (sym c.self.view_is) c.requires in
    let e = c.settle_one.ensures in
    whole_turned c.self.inside.setting c.self.inside.journal.items _ c.args.path c.args.contact _ _ _ _ _ _ _ _ _ _ c.self.invariant fits
    c.put.ensures.items c.put.ensures.owed c.put.ensures.room c.index_mut.ensures.value e.near e.fresh e.count e.opens e.queue refl refl refl
