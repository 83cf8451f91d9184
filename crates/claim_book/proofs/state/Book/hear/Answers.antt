use Rattle.std.proofs.Common.{◌≡◌, ◌+◌, ◌*◌, ◌++◌, ◌≤◌, List, length, true, vec_capacity, ap, sym, subst, ◌∙◌, arith}
use Rattle.std.specs.List.{All}
use Rattle.std.specs.VecDeque.{deque_capacity}
use Rattle.std.proofs.lemmas.List.{length-set, get_or-set_same}
use Rattle.kad_base.specs.declared.types.Report.{Report}
use Rattle.kad_base.specs.Contacts.{among}
use Rattle.claim_book.specs.declared.types.Thing.TheVariants.{Told}
use Rattle.claim_book.specs.declared.path.Path.{Path}
use Rattle.claim_book.specs.State.{BookState}
use Rattle.claim_book.specs.Journal.{open_on, things_in}
use Rattle.claim_book.specs.Claims.{IsKnown}
use Rattle.claim_book.proofs.Mapped.{knows_open}
use Rattle.claim_book.proofs.Filters.{some_open}
use Rattle.claim_book.proofs.Pathed.{path_at}
use Rattle.claim_book.proofs.Whole.{open_within, wider_open, whole_heard}
use Rattle.claim_book.proofs.state.Book.hear.Goals as goal

pub index_mut-requires : goal.index_mut-requires
index_mut-requires c =
    let fits = subst (λ (b : BookState). among (open_on c.args.path b.journal) c.args.contact ≡ true) (sym c.self.view_is) c.requires.asks in
    let lt = open_within c.self.inside.setting c.self.inside.journal.items _ _ _ _ _ c.args.path c.args.contact c.self.invariant fits in
    omega arith

pub invariant_of-self : goal.invariant_of-self
invariant_of-self c =
    let e = c.make_room.ensures in
    let fits = subst (λ (b : BookState). among (open_on c.args.path b.journal) c.args.contact ≡ true) (sym c.self.view_is) c.requires.asks in
    let w = wider_open _ _ c.make_room.new.journal.items c.args.path _ _ _ (vec_capacity c.make_room.new.journal) _ c.make_room.new.claims _ c.index_mut.result.now c.make_room.new.path _ c.self.invariant fits e.journal e.room e.kept c.index_mut.ensures.value e.near e.fresh e.count e.opens e.queue in
    w.0

pub mark_ended-requires : goal.mark_ended-requires
mark_ended-requires c =
    let e = c.make_room.ensures in
    let fits = subst (λ (b : BookState). among (open_on c.args.path b.journal) c.args.contact ≡ true) (sym c.self.view_is) c.requires.asks in
    let w = wider_open _ _ c.make_room.new.journal.items c.args.path _ _ _ (vec_capacity c.make_room.new.journal) _ c.make_room.new.claims _ c.index_mut.result.now c.make_room.new.path _ c.self.invariant fits e.journal e.room e.kept c.index_mut.ensures.value e.near e.fresh e.count e.opens e.queue in
    record { known = knows_open c.self.inside.setting c.args.path c.make_room.new.journal.items c.make_room.new.claims c.args.contact w.0.book.legal w.0.map w.1 }

pub index_mut-requires-2 : goal.index_mut-requires-2
index_mut-requires-2 c =
    let fits = subst (λ (b : BookState). among (open_on c.args.path b.journal) c.args.contact ≡ true) (sym c.self.view_is) c.requires.asks in
    let lt = open_within c.self.inside.setting c.self.inside.journal.items _ _ _ _ _ c.args.path c.args.contact c.self.invariant fits in
    let n = length-set c.self.inside.paths.items c.args.path c.make_room.new.path in
    omega arith

pub hear_one-requires-clause-some : goal.hear_one-requires-clause-some
hear_one-requires-clause-some c =
    let e = c.make_room.ensures in
    let fits = subst (λ (b : BookState). among (open_on c.args.path b.journal) c.args.contact ≡ true) (sym c.self.view_is) c.requires.asks in
    let w = wider_open _ _ c.make_room.new.journal.items c.args.path _ _ _ (vec_capacity c.make_room.new.journal) _ c.make_room.new.claims _ c.index_mut.result.now c.make_room.new.path _ c.self.invariant fits e.journal e.room e.kept c.index_mut.ensures.value e.near e.fresh e.count e.opens e.queue in
    let lt = open_within _ _ _ _ _ _ _ c.args.path c.args.contact c.self.invariant fits in
    let n = length-set c.self.inside.paths.items c.args.path c.make_room.new.path in
    let x = path_at _ c.make_room.new.journal.items _ c.args.path c.index_mut-2.result.now w.0.paths (omega arith) c.index_mut-2.ensures.value in
    let opens = x.opened in
    let some = some_open c.args.path c.make_room.new.journal.items c.args.contact w.1 in
    omega arith

pub hear_one-requires-clause-room : goal.hear_one-requires-clause-room
hear_one-requires-clause-room c =
    let fits = subst (λ (b : BookState). among (open_on c.args.path b.journal) c.args.contact ≡ true) (sym c.self.view_is) c.requires.asks in
    let lt = open_within c.self.inside.setting c.self.inside.journal.items _ _ _ _ _ c.args.path c.args.contact c.self.invariant fits in
    let is : c.index_mut-2.result.now ≡ c.make_room.new.path = c.index_mut-2.ensures.value ∙ get_or-set_same c.self.inside.paths.items c.args.path c.make_room.new.path c.index_mut-2.result.now lt in
    let wide = subst (λ (l : List Report). length c.make_room.new.path.queue.items + (length l + 1) ≤ deque_capacity c.make_room.new.path.queue) (c.as_slice.ensures ∙ sym c.as_slice-2.ensures) c.in_ok-make_room.ensures.wide in
    subst (λ (x : Path). length x.queue.items + (length c.as_slice-2.result.now + 1) ≤ deque_capacity x.queue) (sym is) wide

pub invariant_of-self-2 : goal.invariant_of-self-2
invariant_of-self-2 c =
    let e = c.make_room.ensures in
    let fits = subst (λ (b : BookState). among (open_on c.args.path b.journal) c.args.contact ≡ true) (sym c.self.view_is) c.requires.asks in
    let w = wider_open _ _ c.make_room.new.journal.items c.args.path _ _ _ (vec_capacity c.make_room.new.journal) _ c.make_room.new.claims _ c.index_mut.result.now c.make_room.new.path _ c.self.invariant fits e.journal e.room e.kept c.index_mut.ensures.value e.near e.fresh e.count e.opens e.queue in
    let h = c.hear_one.ensures in
    let more : c.put.new.owed + 1 ≡ c.self.inside.owed + (3 * length c.args.reports + 1) = omega (arith, c.put.ensures.owed, c.len.ensures) in
    let knows = subst (All (λ r. IsKnown c.self.inside.setting c.args.path c.make_room.new.claims (Told r))) c.as_slice.ensures c.in_ok-make_room.ensures.known in
    let gives = h.queue ∙ ap (λ l. c.index_mut-2.result.now.queue.items ++ things_in c.args.contact l) c.as_slice-2.ensures in
    whole_heard _ c.make_room.new.journal.items _ c.args.path c.args.contact c.args.reports _ _ _ _ _ _ _ _ _ _ w.0 (w.1, c.requires.few) c.put.ensures.items more c.put.ensures.room knows c.mark_ended.ensures.each c.index_mut-2.ensures.value h.near h.fresh h.count h.opens gives
