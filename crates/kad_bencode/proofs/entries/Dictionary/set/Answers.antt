use Rattle.std.proofs.Common.{◌≡◌, ◌∙◌, subst, Ok, Err, OnOk, sym, ap}
use Rattle.kad_bencode.specs.Keys.{IsPlace, IsAscending, put}
use Rattle.kad_bencode.proofs.Places.{set_put, put_ascending, inserted_put, inserted_ascending}
use Rattle.kad_bencode.proofs.entries.Dictionary.set.Goals as goal

pub invariant_of-self : goal.invariant_of-self
invariant_of-self g c =
    subst IsAscending (sym (set_put g.row.V.Denot c.self.inside.pairs.items c.args.key c.in-Ok.at c.index_mut.result.now c.args.value
    (subst (λ l. IsPlace l c.args.key (Ok c.in-Ok.at)) c.as_slice.ensures.value (subst (λ k. IsPlace c.as_slice.result.now k (Ok c.in-Ok.at)) c.as_slice-2.ensures c.in-Ok.ensures)) c.index_mut.ensures.value))
    (put_ascending g.row.V.Denot c.self.inside.pairs.items c.args.key c.args.value c.self.invariant)

pub invariant_of-self-in-Err : goal.invariant_of-self-in-Err
invariant_of-self-in-Err g c =
    inserted_ascending g.row.V.Denot c.insert_at.result c.self.inside.pairs.items c.insert_at.new.items.items c.args.key c.in-Err.at c.args.value
    (subst (λ l. IsPlace l c.args.key (Err c.in-Err.at)) c.as_slice.ensures.value (subst (λ k. IsPlace c.as_slice.result.now k (Err c.in-Err.at)) c.as_slice-2.ensures c.in-Err.ensures))
    c.insert_at.ensures.ok c.insert_at.ensures.err c.self.invariant

pub returns-in-Ok-clause-ok : goal.returns-in-Ok-clause-ok
returns-in-Ok-clause-ok g c =
    set_put g.row.V.Denot c.self.inside.pairs.items c.args.key c.in-Ok.at c.index_mut.result.now c.args.value
    (subst (λ l. IsPlace l c.args.key (Ok c.in-Ok.at)) c.as_slice.ensures.value (subst (λ k. IsPlace c.as_slice.result.now k (Ok c.in-Ok.at)) c.as_slice-2.ensures c.in-Ok.ensures)) c.index_mut.ensures.value
    ∙ ap (λ l. put l c.args.key c.args.value) c.self.view_is

pub returns-in-Err-clause-ok : goal.returns-in-Err-clause-ok
returns-in-Err-clause-ok g c =
    subst (λ l. OnOk c.insert_at.result (c.insert_at.new.items.items ≡ put l c.args.key c.args.value)) c.self.view_is
    (inserted_put g.row.V.Denot c.insert_at.result c.self.inside.pairs.items c.insert_at.new.items.items c.args.key c.in-Err.at c.args.value
    (subst (λ l. IsPlace l c.args.key (Err c.in-Err.at)) c.as_slice.ensures.value (subst (λ k. IsPlace c.as_slice.result.now k (Err c.in-Err.at)) c.as_slice-2.ensures c.in-Err.ensures))
    c.insert_at.ensures.ok)
