use Rattle.std.proofs.Common.{◌≡◌, ◌+◌, rules, refl, sym, ap, subst, ◌∙◌, arith, Err}
use Rattle.std.specs.Prelude.{map, reverse, vec_capacity}
use Rattle.kad_base.proofs.Failing.{fails_later}
use Rattle.serve_crew.specs.Opening.{AreEmpty, HaveRoles}
use Rattle.serve_crew.proofs.Growing.{same_none}
use Rattle.lookup_crowd.specs.declared.seeker.ManyFault.TheVariants.{LinkFault}
use Rattle.look_many.specs.ManyLooked.{AreSent}
use Rattle.look_many.specs.inner.Seats.{AreBack, done_of}
use Rattle.look_many.specs.inner.Ends.{task}
use Rattle.look_many.proofs.Starting.{all_begin_at, all_some}
use Rattle.look_many.proofs.Back.{seated_through, starts_at, of_desk, alone, returned_through, all_over, all_done, all_handed}
use Rattle.look_many.proofs.Promised.{ends_finished}
use Rattle.look_many.proofs.Losing.{counts_unsent}
use Rattle.look_many.proofs.driver.work.Goals as goal

pub go-ended-requires-clause-jobs : goal.go-ended-requires-clause-jobs
go-ended-requires-clause-jobs g c κs within =
    let s = seated_through c.args.site.now.desk.setting.now c.args.wanted.now.setting c.args.site.now.desk.turns.now.table c.args.wanted.now.jobs.now c.seat-host.new.room.seekers.items c.as_mut_slice.result.now c.as_mut_slice.ensures.value c.seat-host.ensures.seekers c.seat-host.ensures.passes in
    sym s.count

pub go-ended-requires-clause-own : goal.go-ended-requires-clause-own
go-ended-requires-clause-own g c κs within =
    of_desk c.args.site.now.desk c.seat-host.result c.seat-host.result c.seat-host.ensures.host (same_none c.seat-host.result)

pub go-ended-requires-clause-seated : goal.go-ended-requires-clause-seated
go-ended-requires-clause-seated g c κs within =
    let s = seated_through c.args.site.now.desk.setting.now c.args.wanted.now.setting c.args.site.now.desk.turns.now.table c.args.wanted.now.jobs.now c.seat-host.new.room.seekers.items c.as_mut_slice.result.now c.as_mut_slice.ensures.value c.seat-host.ensures.seekers c.seat-host.ensures.passes in
    s.own

pub go-ended-requires-clause-begins : goal.go-ended-requires-clause-begins
go-ended-requires-clause-begins g c κs within =
    let s = seated_through c.args.site.now.desk.setting.now c.args.wanted.now.setting c.args.site.now.desk.turns.now.table c.args.wanted.now.jobs.now c.seat-host.new.room.seekers.items c.as_mut_slice.result.now c.as_mut_slice.ensures.value c.seat-host.ensures.seekers c.seat-host.ensures.passes in
    all_begin_at c.args.site.now.desk.setting.now c.args.wanted.now.setting c.args.site.now.desk.turns.now.table.start c.requires.limits c.requires.small c.args.wanted.now.jobs.now _ s.seekers c.requires.few c.requires.place refl refl refl refl

pub go-ended-requires-clause-some_query : goal.go-ended-requires-clause-some_query
go-ended-requires-clause-some_query g c κs within =
    let s = seated_through c.args.site.now.desk.setting.now c.args.wanted.now.setting c.args.site.now.desk.turns.now.table c.args.wanted.now.jobs.now c.seat-host.new.room.seekers.items c.as_mut_slice.result.now c.as_mut_slice.ensures.value c.seat-host.ensures.seekers c.seat-host.ensures.passes in
    all_some c.args.site.now.desk.setting.now c.args.wanted.now.setting c.args.site.now.desk.turns.now.table.start c.requires.limits c.requires.small c.args.wanted.now.jobs.now c.as_mut_slice.result.now s.seekers

pub put_back-requires-clause-own : goal.put_back-requires-clause-own
put_back-requires-clause-own g c =
    of_desk c.args.site.now.desk c.seat-host.result c.go-ended.new.driver.host c.seat-host.ensures.host c.go-ended.ensures.same

pub put_back-requires-clause-alone : goal.put_back-requires-clause-alone
put_back-requires-clause-alone g c =
    alone c.args.site.now.desk c.seat-host.result c.go-ended.new.driver.host c.seat-host.ensures.host c.go-ended.ensures.same

pub put_back-requires-clause-seated : goal.put_back-requires-clause-seated
put_back-requires-clause-seated g c =
    let s = seated_through c.args.site.now.desk.setting.now c.args.wanted.now.setting c.args.site.now.desk.turns.now.table c.args.wanted.now.jobs.now c.seat-host.new.room.seekers.items c.as_mut_slice.result.now c.as_mut_slice.ensures.value c.seat-host.ensures.seekers c.seat-host.ensures.passes in
    let x = returned_through c.args.site.now.desk.setting.now c.args.wanted.now.setting c.args.site.now.desk.turns.now.table c.args.wanted.now.jobs.now c.seat-host.new.room.seekers.len c.seat-host.new.room.seekers.items c.as_mut_slice.result.now c.go-ended.new.seekers s c.as_mut_slice.ensures.value (search rules) c.go-ended.ensures.len c.go-ended.ensures.seats in
    x.own

pub put_back-requires-clause-roles : goal.put_back-requires-clause-roles
put_back-requires-clause-roles g c =
    let s = seated_through c.args.site.now.desk.setting.now c.args.wanted.now.setting c.args.site.now.desk.turns.now.table c.args.wanted.now.jobs.now c.seat-host.new.room.seekers.items c.as_mut_slice.result.now c.as_mut_slice.ensures.value c.seat-host.ensures.seekers c.seat-host.ensures.passes in
    let x = returned_through c.args.site.now.desk.setting.now c.args.wanted.now.setting c.args.site.now.desk.turns.now.table c.args.wanted.now.jobs.now c.seat-host.new.room.seekers.len c.seat-host.new.room.seekers.items c.as_mut_slice.result.now c.go-ended.new.seekers s c.as_mut_slice.ensures.value (search rules) c.go-ended.ensures.len c.go-ended.ensures.seats in
    x.roles

pub put_back-requires-clause-turns : goal.put_back-requires-clause-turns
put_back-requires-clause-turns g c =
    let s = seated_through c.args.site.now.desk.setting.now c.args.wanted.now.setting c.args.site.now.desk.turns.now.table c.args.wanted.now.jobs.now c.seat-host.new.room.seekers.items c.as_mut_slice.result.now c.as_mut_slice.ensures.value c.seat-host.ensures.seekers c.seat-host.ensures.passes in
    let x = returned_through c.args.site.now.desk.setting.now c.args.wanted.now.setting c.args.site.now.desk.turns.now.table c.args.wanted.now.jobs.now c.seat-host.new.room.seekers.len c.seat-host.new.room.seekers.items c.as_mut_slice.result.now c.go-ended.new.seekers s c.as_mut_slice.ensures.value (search rules) c.go-ended.ensures.len c.go-ended.ensures.seats in
    subst (λ n. HaveRoles (n + 1) 1 c.args.site.now.desk.turns.now) (sym x.count) c.requires.fresh.roles

pub put_back-requires-clause-empty : goal.put_back-requires-clause-empty
put_back-requires-clause-empty g c =
    let s = seated_through c.args.site.now.desk.setting.now c.args.wanted.now.setting c.args.site.now.desk.turns.now.table c.args.wanted.now.jobs.now c.seat-host.new.room.seekers.items c.as_mut_slice.result.now c.as_mut_slice.ensures.value c.seat-host.ensures.seekers c.seat-host.ensures.passes in
    let x = returned_through c.args.site.now.desk.setting.now c.args.wanted.now.setting c.args.site.now.desk.turns.now.table c.args.wanted.now.jobs.now c.seat-host.new.room.seekers.len c.seat-host.new.room.seekers.items c.as_mut_slice.result.now c.go-ended.new.seekers s c.as_mut_slice.ensures.value (search rules) c.go-ended.ensures.len c.go-ended.ensures.seats in
    subst (λ n. AreEmpty (n + 1) 1 c.seat-host.new.rows) (sym x.count) c.seat-host.ensures.empty

pub put_back-requires-clause-done_room : goal.put_back-requires-clause-done_room
put_back-requires-clause-done_room g c =
    let s = seated_through c.args.site.now.desk.setting.now c.args.wanted.now.setting c.args.site.now.desk.turns.now.table c.args.wanted.now.jobs.now c.seat-host.new.room.seekers.items c.as_mut_slice.result.now c.as_mut_slice.ensures.value c.seat-host.ensures.seekers c.seat-host.ensures.passes in
    let x = returned_through c.args.site.now.desk.setting.now c.args.wanted.now.setting c.args.site.now.desk.turns.now.table c.args.wanted.now.jobs.now c.seat-host.new.room.seekers.len c.seat-host.new.room.seekers.items c.as_mut_slice.result.now c.go-ended.new.seekers s c.as_mut_slice.ensures.value (search rules) c.go-ended.ensures.len c.go-ended.ensures.seats in
    let count = x.count in
    let same = ap vec_capacity c.seat-host.ensures.done in
    let room = c.requires.done_room in
    omega (arith, count, same, room)

pub finish_all-requires : goal.finish_all-requires
finish_all-requires g c =
    let s = seated_through c.args.site.now.desk.setting.now c.args.wanted.now.setting c.args.site.now.desk.turns.now.table c.args.wanted.now.jobs.now c.seat-host.new.room.seekers.items c.as_mut_slice.result.now c.as_mut_slice.ensures.value c.seat-host.ensures.seekers c.seat-host.ensures.passes in
    let x = returned_through c.args.site.now.desk.setting.now c.args.wanted.now.setting c.args.site.now.desk.turns.now.table c.args.wanted.now.jobs.now c.seat-host.new.room.seekers.len c.seat-host.new.room.seekers.items c.as_mut_slice.result.now c.go-ended.new.seekers s c.as_mut_slice.ensures.value (search rules) c.go-ended.ensures.len c.go-ended.ensures.seats in
    all_over c.put_back.new.done.items c.go-ended.new.seekers (c.put_back.ensures.done ∙ ap (λ l. map done_of (reverse l)) x.are) c.in-Ok.ensures.went.over

pub returns-in-Err-clause-stopped : goal.returns-in-Err-clause-stopped
returns-in-Err-clause-stopped g c =
    let s = seated_through c.args.site.now.desk.setting.now c.args.wanted.now.setting c.args.site.now.desk.turns.now.table c.args.wanted.now.jobs.now c.seat-host.new.room.seekers.items c.as_mut_slice.result.now c.as_mut_slice.ensures.value c.seat-host.ensures.seekers c.seat-host.ensures.passes in
    let x = returned_through c.args.site.now.desk.setting.now c.args.wanted.now.setting c.args.site.now.desk.turns.now.table c.args.wanted.now.jobs.now c.seat-host.new.room.seekers.len c.seat-host.new.room.seekers.items c.as_mut_slice.result.now c.go-ended.new.seekers s c.as_mut_slice.ensures.value (search rules) c.go-ended.ensures.len c.go-ended.ensures.seats in
    let job = task (g.G.SealCheck.accepted c.args.site.now.seal.now) (g.G.Seal.tag_of c.args.site.now.seal.now) c.args.site.now.desk.setting.now c.args.wanted.now.setting c.args.wanted.now.jobs.now c.args.wanted.now.lasting in
    let begun = starts_at job c.args.site.now.desk.turns.now c.args.words.now (g.L.Link.told c.args.link.now) (g.L.Link.told c.now-began.new.self) c.as_mut_slice.result.now c.seat-host.result c.now-began.result c.end_of.result s c.seat-host.ensures.host c.end_of.ensures c.now-began.ensures.told in
    let back = subst (AreBack c.put_back.new.rows c.go-ended.new.driver.host) x.are c.put_back.ensures.back in
    record { old = _; starts = begun; host = c.go-ended.new.driver.host; seekers = c.go-ended.new.seekers; len = c.go-ended.ensures.len; ends = c.in-Err.ensures.ends; back = back }

pub returns-clause-stopped : goal.returns-clause-stopped
returns-clause-stopped g c =
    let s = seated_through c.args.site.now.desk.setting.now c.args.wanted.now.setting c.args.site.now.desk.turns.now.table c.args.wanted.now.jobs.now c.seat-host.new.room.seekers.items c.as_mut_slice.result.now c.as_mut_slice.ensures.value c.seat-host.ensures.seekers c.seat-host.ensures.passes in
    let x = returned_through c.args.site.now.desk.setting.now c.args.wanted.now.setting c.args.site.now.desk.turns.now.table c.args.wanted.now.jobs.now c.seat-host.new.room.seekers.len c.seat-host.new.room.seekers.items c.as_mut_slice.result.now c.go-ended.new.seekers s c.as_mut_slice.ensures.value (search rules) c.go-ended.ensures.len c.go-ended.ensures.seats in
    let job = task (g.G.SealCheck.accepted c.args.site.now.seal.now) (g.G.Seal.tag_of c.args.site.now.seal.now) c.args.site.now.desk.setting.now c.args.wanted.now.setting c.args.wanted.now.jobs.now c.args.wanted.now.lasting in
    let begun = starts_at job c.args.site.now.desk.turns.now c.args.words.now (g.L.Link.told c.args.link.now) (g.L.Link.told c.now-began.new.self) c.as_mut_slice.result.now c.seat-host.result c.now-began.result c.end_of.result s c.seat-host.ensures.host c.end_of.ensures c.now-began.ensures.told in
    let back = subst (AreBack c.put_back.new.rows c.go-ended.new.driver.host) x.are c.put_back.ensures.back in
    record { old = _; starts = begun; host = c.go-ended.new.driver.host; seekers = c.go-ended.new.seekers; len = c.go-ended.ensures.len; ends = ends_finished job _ _ _ _ c.go-ended.ensures.same c.in-Ok.ensures.went; back = back }

pub returns-in-Ok-finish_all-clause-ok : goal.returns-in-Ok-finish_all-clause-ok
returns-in-Ok-finish_all-clause-ok g c =
    let s = seated_through c.args.site.now.desk.setting.now c.args.wanted.now.setting c.args.site.now.desk.turns.now.table c.args.wanted.now.jobs.now c.seat-host.new.room.seekers.items c.as_mut_slice.result.now c.as_mut_slice.ensures.value c.seat-host.ensures.seekers c.seat-host.ensures.passes in
    let x = returned_through c.args.site.now.desk.setting.now c.args.wanted.now.setting c.args.site.now.desk.turns.now.table c.args.wanted.now.jobs.now c.seat-host.new.room.seekers.len c.seat-host.new.room.seekers.items c.as_mut_slice.result.now c.go-ended.new.seekers s c.as_mut_slice.ensures.value (search rules) c.go-ended.ensures.len c.go-ended.ensures.seats in
    let job = task (g.G.SealCheck.accepted c.args.site.now.seal.now) (g.G.Seal.tag_of c.args.site.now.seal.now) c.args.site.now.desk.setting.now c.args.wanted.now.setting c.args.wanted.now.jobs.now c.args.wanted.now.lasting in
    let begun = starts_at job c.args.site.now.desk.turns.now c.args.words.now (g.L.Link.told c.args.link.now) (g.L.Link.told c.now-began.new.self) c.as_mut_slice.result.now c.seat-host.result c.now-began.result c.end_of.result s c.seat-host.ensures.host c.end_of.ensures c.now-began.ensures.told in
    let back = subst (AreBack c.put_back.new.rows c.go-ended.new.driver.host) x.are c.put_back.ensures.back in
    let done = c.put_back.ensures.done ∙ ap (λ l. map done_of (reverse l)) x.are in
    record {
      old = _;
      new = _;
      owners = c.go-ended.new.log.owners.items;
      said = c.go-ended.new.log.said.items;
      starts = begun;
      went = c.in-Ok.ensures.went;
      same = c.go-ended.ensures.same;
      back = back;
      told_is = refl;
      words_are = refl;
      found = all_done c.put_back.new.done.items c.go-ended.new.seekers c.in-Ok-finish_all.outcomes done c.in-Ok-finish_all.ensures.found;
      handed = all_handed c.put_back.new.done.items c.go-ended.new.seekers c.in-Ok-finish_all.outcomes done c.in-Ok-finish_all.ensures.found;
      sent_are = subst (λ l. AreSent l 0 c.in-Ok-finish_all.outcomes) c.as_slice.ensures.value c.in-Ok-finish_all.ensures.sent;
      owners_are = c.from_vec.ensures;
      received_are = refl;
      replied_are = refl;
    }

pub returns-in-Err-clause-last : goal.returns-in-Err-clause-last
returns-in-Err-clause-last g c is = fails_later _ _ _ _ _ c.now-began.ensures.no_recv_fault (c.in-Err.ensures.last (let fault : c.in-Err.fault ≡ LinkFault = cc in ap (λ x. Err x) fault))

pub returns-in-Ok-finish_all-clause-refused : goal.returns-in-Ok-finish_all-clause-refused
returns-in-Ok-finish_all-clause-refused g c =
    let s = seated_through c.args.site.now.desk.setting.now c.args.wanted.now.setting c.args.site.now.desk.turns.now.table c.args.wanted.now.jobs.now c.seat-host.new.room.seekers.items c.as_mut_slice.result.now c.as_mut_slice.ensures.value c.seat-host.ensures.seekers c.seat-host.ensures.passes in
    let x = returned_through c.args.site.now.desk.setting.now c.args.wanted.now.setting c.args.site.now.desk.turns.now.table c.args.wanted.now.jobs.now c.seat-host.new.room.seekers.len c.seat-host.new.room.seekers.items c.as_mut_slice.result.now c.go-ended.new.seekers s c.as_mut_slice.ensures.value (search rules) c.go-ended.ensures.len c.go-ended.ensures.seats in
    let found = all_done c.put_back.new.done.items c.go-ended.new.seekers c.in-Ok-finish_all.outcomes (c.put_back.ensures.done ∙ ap (λ l. map done_of (reverse l)) x.are) c.in-Ok-finish_all.ensures.found in
    counts_unsent c.args.site.now.desk.setting.now c.args.wanted.now.setting c.args.site.now.desk.turns.now.table.start c.args.wanted.now.jobs.now c.as_mut_slice.result.now c.go-ended.new.seekers c.in-Ok-finish_all.outcomes _ _ _ s.seekers c.now-began.ensures.no_send_fault c.in-Ok.ensures.loses found
