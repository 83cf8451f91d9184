use Rattle.std.proofs.Common.{refl, sym, subst, arith}
use Rattle.std.proofs.lemmas.Bool.{eq-eqb}
use Rattle.claim_book.specs.declared.types.Entry.TheVariants.{Taken}
use Rattle.claim_book.specs.State.{BookState}
use Rattle.claim_book.specs.Legal.{Fits}
use Rattle.claim_book.proofs.Kept.{some_owed}
use Rattle.claim_book.proofs.Mapped.{knows_front, counts_free}
use Rattle.claim_book.proofs.Pathed.{path_at, has_place}
use Rattle.claim_book.proofs.Whole.{settles_within, whole_taken}
use Rattle.claim_book.proofs.state.Book.take.Goals as goal

pub put-requires-clause-some : goal.put-requires-clause-some
put-requires-clause-some c =
    let fits = subst (λ (b : BookState). Fits b.setting b.journal (Taken c.args.path c.args.contact)) (sym c.self.view_is) c.requires in
    some_owed c.self.inside.setting c.self.inside.journal.items (Taken c.args.path c.args.contact) _ _ c.self.invariant.book fits tt

pub mark_taken-requires : goal.mark_taken-requires
mark_taken-requires c =
    let fits = subst (λ (b : BookState). Fits b.setting b.journal (Taken c.args.path c.args.contact)) (sym c.self.view_is) c.requires in
    let s = c.self.inside.setting in
    let J = c.self.inside.journal.items in
    record {
      known = knows_front s c.args.path J c.self.inside.claims c.args.contact c.self.invariant.map fits;
      free = counts_free s c.args.path J c.self.inside.claims c.args.contact c.self.invariant.map fits.3;
    }

pub index_mut-requires : goal.index_mut-requires
index_mut-requires c =
    let fits = subst (λ (b : BookState). Fits b.setting b.journal (Taken c.args.path c.args.contact)) (sym c.self.view_is) c.requires in
    let lt = settles_within c.self.inside.setting c.self.inside.journal.items _ _ _ _ _ c.args.path (Taken c.args.path c.args.contact) c.self.invariant fits (eq-eqb c.args.path c.args.path refl) in
    omega arith

pub take_one-requires : goal.take_one-requires
take_one-requires c =
    let s = c.self.inside.setting in
    let J = c.self.inside.journal.items in
    let fits = subst (λ (b : BookState). Fits b.setting b.journal (Taken c.args.path c.args.contact)) (sym c.self.view_is) c.requires in
    let lt = settles_within s J _ _ _ _ _ c.args.path (Taken c.args.path c.args.contact) c.self.invariant fits (eq-eqb c.args.path c.args.path refl) in
    let x = path_at s J _ c.args.path c.index_mut.result.now c.self.invariant.paths lt c.index_mut.ensures.value in
    has_place s J c.args.path c.index_mut.result.now x fits.2

pub invariant_of-self : goal.invariant_of-self
invariant_of-self c =
    let fits = subst (λ (b : BookState). Fits b.setting b.journal (Taken c.args.path c.args.contact)) (sym c.self.view_is) c.requires in
    let e = c.take_one.ensures.gains in
    whole_taken c.self.inside.setting c.self.inside.journal.items _ c.args.path c.args.contact _ _ _ _ _ _ _ _ _ _ c.self.invariant fits
    c.put.ensures.items c.put.ensures.owed c.put.ensures.room c.mark_taken.ensures c.index_mut.ensures.value e.near e.near_room e.fresh e.fresh_room e.count e.opens c.take_one.ensures.queue
