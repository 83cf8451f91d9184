use Rattle.std.proofs.Common.{◌≡◌, true, refl, sym, subst, arith}
use Rattle.kad_base.specs.Contacts.{among}
use Rattle.claim_book.specs.declared.types.Entry.TheVariants.{Lost}
use Rattle.claim_book.specs.State.{BookState}
use Rattle.claim_book.specs.Journal.{open_on}
use Rattle.claim_book.proofs.Kept.{some_owed}
use Rattle.claim_book.proofs.Mapped.{knows_open}
use Rattle.claim_book.proofs.Filters.{some_open}
use Rattle.claim_book.proofs.Pathed.{path_at}
use Rattle.claim_book.proofs.Whole.{few_failed, open_within, whole_lost}
use Rattle.claim_book.proofs.state.Book.lose.Goals as goal

pub put-requires-clause-some : goal.put-requires-clause-some
put-requires-clause-some c =
    let fits = subst (λ (b : BookState). among (open_on c.args.path b.journal) c.args.contact ≡ true) (sym c.self.view_is) c.requires in
    some_owed c.self.inside.setting c.self.inside.journal.items (Lost c.args.path c.args.contact c.args.cause) _ _ c.self.invariant.book fits tt

pub mark_ended-requires : goal.mark_ended-requires
mark_ended-requires c =
    let fits = subst (λ (b : BookState). among (open_on c.args.path b.journal) c.args.contact ≡ true) (sym c.self.view_is) c.requires in
    record { known = knows_open c.self.inside.setting c.args.path c.self.inside.journal.items c.self.inside.claims c.args.contact c.self.invariant.book.legal c.self.invariant.map fits }

pub index_mut-requires : goal.index_mut-requires
index_mut-requires c =
    let fits = subst (λ (b : BookState). among (open_on c.args.path b.journal) c.args.contact ≡ true) (sym c.self.view_is) c.requires in
    let lt = open_within c.self.inside.setting c.self.inside.journal.items _ _ _ _ _ c.args.path c.args.contact c.self.invariant fits in
    omega arith

pub lose_one-requires : goal.lose_one-requires
lose_one-requires c =
    let s = c.self.inside.setting in
    let J = c.self.inside.journal.items in
    let fits = subst (λ (b : BookState). among (open_on c.args.path b.journal) c.args.contact ≡ true) (sym c.self.view_is) c.requires in
    let lt = open_within s J _ _ _ _ _ c.args.path c.args.contact c.self.invariant fits in
    let x = path_at s J _ c.args.path c.index_mut.result.now c.self.invariant.paths lt c.index_mut.ensures.value in
    let opens = x.opened in
    let some = some_open c.args.path J c.args.contact fits in
    omega arith

pub overflow_add-self : goal.overflow_add-self
overflow_add-self c = (let few = few_failed c.self.inside.setting c.self.inside.journal.items _ _ c.self.inside.counts c.self.invariant.book c.self.invariant.counted in omega arith)

pub invariant_of-self : goal.invariant_of-self
invariant_of-self c =
    let fits = subst (λ (b : BookState). among (open_on c.args.path b.journal) c.args.contact ≡ true) (sym c.self.view_is) c.requires in
    let e = c.lose_one.ensures in
    whole_lost c.self.inside.setting c.self.inside.journal.items _ c.args.path c.args.contact c.args.cause _ _ _ _ _ _ _ _ _ _ _ c.self.invariant fits
    c.put.ensures.items c.put.ensures.owed c.put.ensures.room c.mark_ended.ensures.each c.index_mut.ensures.value e.near e.near_room e.fresh e.count e.opens e.queue refl refl refl
