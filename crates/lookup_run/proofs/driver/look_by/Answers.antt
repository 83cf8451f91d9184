use Rattle.std.proofs.Common.{◌∙◌, subst}
use Rattle.kad_base.proofs.Failing.{fails_later}
use Rattle.lookup_run.specs.declared.types.LookFault.TheVariants.{LinkFault}
use Rattle.lookup_run.specs.Lookup.{LooksUp}
use Rattle.lookup_run.proofs.Closing.{on_ok_then, same_fault, Went, looked_up, never_looked}
use Rattle.lookup_run.proofs.Looking.{opening_of, begins_of, all_over}
use Rattle.lookup_run.proofs.driver.look_by.Goals as goal

pub returns-in-Err-clause-looks : goal.returns-in-Err-clause-looks
returns-in-Err-clause-looks g c = never_looked g.O.Schedule.scheduling c.args.setting.now (g.G.SealCheck.accepted c.args.seal.now) c.args.words.now c.args.table _ _ _ _ _ c.requires.limits.some_path c.requires.usable c.in-Err.ensures.err

pub go_rounds-work-requires-clause-begins : goal.go_rounds-work-requires-clause-begins
go_rounds-work-requires-clause-begins g c =
    let o = opening_of c.args.setting.now c.args.words.now c.args.table _ _ _ _ (g.L.Link.told c.args.link.now) (g.L.Link.told c.begin-work.new.link) c.in-Ok.ensures.book c.in-Ok.ensures.told c.begin-work.ensures.begun c.begin-work.ensures.told c.requires.place in
    begins_of _ _ _ _ _ _ _ _ _ o

pub close-requires : goal.close-requires
close-requires g c =
    let r = c.go_rounds-work in
    on_ok_then r.result.1 r.ensures.over (λ over. all_over g.O.Schedule.scheduling c.args.setting.now (g.G.SealCheck.accepted c.args.seal.now) c.args.words.now r.new.words c.begin-work.result r.result.0 _ _ c.requires.limits over c.legal.ensures)

pub returns-clause-looks : goal.returns-clause-looks
returns-clause-looks g c =
    let r = c.go_rounds-work in
    let o = opening_of c.args.setting.now c.args.words.now c.args.table _ _ _ _ (g.L.Link.told c.args.link.now) (g.L.Link.told c.begin-work.new.link) c.in-Ok.ensures.book c.in-Ok.ensures.told c.begin-work.ensures.begun c.begin-work.ensures.told c.requires.place in
    let e = r.ensures in
    let went : Went g.O.Schedule.scheduling c.args.setting.now (g.G.SealCheck.accepted c.args.seal.now) c.args.words.now r.new.words c.begin-work.result r.result.0 (g.L.Link.told c.begin-work.new.link) (g.L.Link.told r.new.link) (g.L.Link.recv_faults c.begin-work.new.link) (g.L.Link.recv_faults r.new.link) (g.L.Link.send_faults c.begin-work.new.link) (g.L.Link.send_faults r.new.link) r.result.1 = record { over = e.over; refuses = e.refuses; stops = e.stops; strays = e.strays; few_strays = e.few_strays; link = e.link; recv_faults = e.recv_faults; well = e.well } in
    subst (λ n. LooksUp g.O.Schedule.scheduling c.args.setting.now (g.G.SealCheck.accepted c.args.seal.now) c.args.table c.close.result.0 c.args.words.now r.new.words (g.L.Link.told c.args.link.now) (g.L.Link.told r.new.link) (g.L.Link.recv_faults c.args.link.now) (g.L.Link.recv_faults r.new.link) n (g.L.Link.send_faults r.new.link) (g.L.Link.kept c.args.link.now) (g.L.Link.kept r.new.link) c.close.result.1) c.begin-work.ensures.send_faults
    (looked_up g.O.Schedule.scheduling c.args.setting.now (g.G.SealCheck.accepted c.args.seal.now) c.args.words.now r.new.words c.args.table _ _ _ _ c.begin-work.result r.result.0 _ _ _ _ _ _ _ _ _ _ r.result.1 c.close.result.1 o went c.begin-work.ensures.recv_faults (e.kept ∙ c.begin-work.ensures.kept) c.legal.ensures c.close.ensures.table c.close.ensures.done c.close.ensures.fault c.close.ensures.link)

pub returns-clause-last : goal.returns-clause-last
returns-clause-last g c is =
    let r = c.go_rounds-work in
    fails_later _ _ _ _ _ c.begin-work.ensures.recv_faults (r.ensures.last (same_fault r.result.1 c.close.result.1 LinkFault (λ e. absurd cc) c.close.ensures.fault is))
