use Rattle.std.proofs.Common.{◌≡◌, rules, Some, refl, sym, subst, arith}
use Rattle.claim_book.specs.declared.types.Entry.TheVariants.{Ask}
use Rattle.claim_book.specs.State.{BookState}
use Rattle.claim_book.specs.Journal.{may_ask}
use Rattle.claim_book.proofs.Claims.{may_ask_says}
use Rattle.claim_book.proofs.Kept.{some_owed}
use Rattle.claim_book.proofs.Mapped.{knows_near}
use Rattle.claim_book.proofs.Pathed.{path_at}
use Rattle.claim_book.proofs.Whole.{few_asked, ask_within, whole_asked, whole_lent}
use Rattle.claim_book.proofs.state.Book.ask.Goals as goal

pub put-requires-clause-some : goal.put-requires-clause-some
put-requires-clause-some c =
    let fits = subst (λ (b : BookState). may_ask b.setting c.args.path b.journal ≡ Some c.args.contact) (sym c.self.view_is) c.requires in
    some_owed c.self.inside.setting c.self.inside.journal.items (Ask c.args.path c.args.contact) _ _ c.self.invariant.book fits tt

pub mark_asked-requires : goal.mark_asked-requires
mark_asked-requires c =
    let fits = subst (λ (b : BookState). may_ask b.setting c.args.path b.journal ≡ Some c.args.contact) (sym c.self.view_is) c.requires in
    record { known = knows_near c.self.inside.setting c.args.path c.self.inside.journal.items c.self.inside.claims c.args.contact c.self.invariant.map fits }

pub index_mut-requires : goal.index_mut-requires
index_mut-requires c =
    let fits = subst (λ (b : BookState). may_ask b.setting c.args.path b.journal ≡ Some c.args.contact) (sym c.self.view_is) c.requires in
    let lt = ask_within c.self.inside.setting c.self.inside.journal.items _ _ _ _ _ c.args.path c.args.contact c.self.invariant fits in
    omega arith

pub ask_one-requires : goal.ask_one-requires
ask_one-requires c =
    let s = c.self.inside.setting in
    let J = c.self.inside.journal.items in
    let fits = subst (λ (b : BookState). may_ask b.setting c.args.path b.journal ≡ Some c.args.contact) (sym c.self.view_is) c.requires in
    let few = (may_ask_says s c.args.path J c.args.contact fits).few in
    let lt = ask_within s J _ _ _ _ _ c.args.path c.args.contact c.self.invariant fits in
    let x = path_at s J _ c.args.path c.index_mut.result.now c.self.invariant.paths lt c.index_mut.ensures.value in
    let opens = x.opened in
    omega arith

pub overflow_add-self : goal.overflow_add-self
overflow_add-self c = (let few = few_asked c.self.inside.setting c.self.inside.journal.items _ _ c.self.inside.counts c.self.invariant.book c.self.invariant.counted in omega arith)

pub invariant_of-self : goal.invariant_of-self
invariant_of-self c =
    let fits = subst (λ (b : BookState). may_ask b.setting c.args.path b.journal ≡ Some c.args.contact) (sym c.self.view_is) c.requires in
    let e = c.ask_one.ensures in
    whole_lent c.self.inside.setting c.self.inside.journal.items _ c.args.path c.args.contact _ _ _ _ _ _ _ _ _ _ _ _ c.self.invariant (search rules) fits
    c.put.ensures.items c.put.ensures.owed c.put.ensures.room c.mark_asked.ensures.each c.index_mut.ensures.value e.near e.fresh e.fresh_room e.count e.opens e.queue c.lend.ensures.len c.lend.ensures.each refl refl refl

pub invariant_of-self-else-eq : goal.invariant_of-self-else-eq
invariant_of-self-else-eq c =
    let fits = subst (λ (b : BookState). may_ask b.setting c.args.path b.journal ≡ Some c.args.contact) (sym c.self.view_is) c.requires in
    let e = c.ask_one.ensures in
    whole_asked c.self.inside.setting c.self.inside.journal.items _ c.args.path c.args.contact _ _ _ _ _ _ _ _ _ _ _ c.self.invariant (search rules) fits
    c.put.ensures.items c.put.ensures.owed c.put.ensures.room c.mark_asked.ensures.each c.index_mut.ensures.value e.near e.fresh e.fresh_room e.count e.opens e.queue refl refl refl
