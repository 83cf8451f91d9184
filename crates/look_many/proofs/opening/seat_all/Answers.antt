use Rattle.std.proofs.Common.{◌+◌, ◌-◌, ◌<◌, [], ◌∷◌, ◌++◌, length, map, sym, ap, subst, ◌∙◌, arith}
use Rattle.std.specs.Prelude.{take, drop}
use Rattle.std.specs.List.{AllZip, range_with_len}
use Rattle.std.proofs.lemmas.List.{take_more, map-append, length-append}
use Rattle.std.proofs.lemmas.List.FromFn.{map-range_with_len_more}
use Rattle.turn_book.specs.Turns.{fresh}
use Rattle.lookup_crowd.specs.declared.seeker.Seeker.{Seeker}
use Rattle.look_many.specs.ManyLooked.{quest_for}
use Rattle.look_many.specs.inner.Seats.{IsBookFor, IsSeekerFor}
use Rattle.look_many.proofs.Seating.{zip_left, zip_next, zip_more, row_left, row_next, seeker_for}
use Rattle.look_many.proofs.opening.seat_all.Goals as goal

pub next_book-book-requires : goal.next_book-book-requires
next_book-book-requires c = record { some = zip_left (IsBookFor c.args.desk.now.setting.now c.args.setting.now c.args.desk.now.turns.now.table.start) c.args.jobs.now c.loop-i.books.items c.loop-i.i c.loop-i-test.true c.loop-i.invariant.books }

pub next_pass-pass-requires : goal.next_pass-pass-requires
next_pass-pass-requires c =
    let lt : c.loop-i.i < length c.args.jobs.now = c.loop-i-test.true in
    record { some = row_left (fresh c.args.desk.now.turns.now.table.id) c.loop-i.stack.items (1 + c.loop-i.i) (length c.args.jobs.now - c.loop-i.i) (omega (arith, lt)) c.loop-i.invariant.stack }

pub loop-i-preserved : goal.loop-i-preserved
loop-i-preserved c =
    let ts = c.args.jobs.now in
    let i = c.loop-i.i in
    let lt : c.loop-i.i < length c.args.jobs.now = c.loop-i-test.true in
    let server = c.args.desk.now.setting.now in
    let setting = c.args.setting.now in
    let table = c.args.desk.now.turns.now.table.start in
    let inv = c.loop-i.invariant in
    let book = c.next_book-book.result in
    let pass = c.next_pass-pass.result in
    let f = fresh c.args.desk.now.turns.now.table.id in
    let job = c.index-jobs-i.result in
    let more = zip_next (IsBookFor server setting table) ts _ book i (i + 1) job (omega arith) lt (subst (AllZip (IsBookFor server setting table) (drop i ts)) c.next_book-book.ensures.next inv.books) in
    let n = length ts - i in
    let next = row_next f _ pass (1 + i) (1 + (i + 1)) (length ts - i) (length ts - (i + 1)) (omega (arith, lt)) (omega arith) (sym c.next_pass-pass.ensures.next ∙ inv.stack) in
    let k : Seeker = _ in
    let items = c.push_reserved.ensures.items in
    let count = inv.count in
    let len = ap length items in
    let one = length-append c.loop-i.seekers.items (k ∷ []) in
    let same = c.push_reserved.ensures.capacity in
    let room = inv.room in
    record {
      books = more.1;
      stack = next.1;
      seekers = subst (AllZip (IsSeekerFor server setting table) (take (i + 1) ts)) (sym items) (subst (λ l. AllZip (IsSeekerFor server setting table) l (c.loop-i.seekers.items ++ k ∷ [])) (sym (take_more ts i job lt))
          (zip_more (IsSeekerFor server setting table) (take i ts) c.loop-i.seekers.items _ k inv.seekers (seeker_for server setting table _ book c.quest_of.result c.new.result _ _ c.nothing.result more.0 (c.quest_of.ensures ∙ ap (quest_for server setting) c.index-jobs-i.is) c.new.ensures.book c.new.ensures.queries (record { no_peers = c.nothing.ensures.peers; no_tokens = c.nothing.ensures.tokens; no_items = c.nothing.ensures.items }))));
      passes = ap (map (λ (x : Seeker). x.pass)) items ∙ map-append (λ (x : Seeker). x.pass) c.loop-i.seekers.items (k ∷ []) ∙ ap (λ l. l ++ pass ∷ []) inv.passes ∙ ap (λ p. map f (range_with_len 1 i) ++ p ∷ []) next.0 ∙ sym (map-range_with_len_more f 1 i (1 + i) (omega arith));
      count = omega (arith, len, one, count);
      room = omega (arith, room, same);
      same = c.next_book-book.ensures.room ∙ inv.same;
    }
