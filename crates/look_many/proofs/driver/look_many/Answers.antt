use Rattle.std.proofs.Common.{inr, subst, ◌∙◌}
use Rattle.contact_table.specs.TableState.{TableState}
use Rattle.serve_crew.specs.Opening.{Opens}
use Rattle.look_many.specs.inner.Ends.{task}
use Rattle.look_many.proofs.Closing.{none_began, ok_looked, err_stopped}
use Rattle.look_many.proofs.driver.look_many.Goals as goal

pub returns-in-Err-clause-stopped : goal.returns-in-Err-clause-stopped
returns-in-Err-clause-stopped g c = inr (none_began c.args.table c.take_room.new.table c.args.words.now (g.L.Link.told c.args.link.now) c.take_room.ensures.table)

pub returns-in-Err-open-clause-stopped : goal.returns-in-Err-open-clause-stopped
returns-in-Err-open-clause-stopped g c =
    inr (none_began c.args.table c.in-Err-open.field-0.state c.args.words.now (g.L.Link.told c.args.link.now) (c.in-Err-open.ensures.refused ∙ c.take_room.ensures.table))

pub returns-clause-ok : goal.returns-clause-ok
returns-clause-ok g c =
    let w = c.work-answer in
    let turns = c.in-Ok-open.opened.0 in
    ok_looked
    (task (g.G.SealCheck.accepted c.args.given.now.seal.now) (g.G.Seal.tag_of c.args.given.now.seal.now) c.args.given.now.server.now c.args.wanted.now.setting c.args.wanted.now.jobs.now c.args.wanted.now.lasting)
    turns w.new.rows c.args.table c.close.result (subst (λ (t : TableState). Opens t turns) c.take_room.ensures.table c.in-Ok-open.ensures.opens) c.close.ensures c.requires.limits c.requires.small c.args.words.now w.new.words (g.L.Link.told c.args.link.now) (g.L.Link.told w.new.link) w.result w.ensures.ok

pub returns-clause-stopped : goal.returns-clause-stopped
returns-clause-stopped g c =
    let w = c.work-answer in
    let turns = c.in-Ok-open.opened.0 in
    err_stopped
    (task (g.G.SealCheck.accepted c.args.given.now.seal.now) (g.G.Seal.tag_of c.args.given.now.seal.now) c.args.given.now.server.now c.args.wanted.now.setting c.args.wanted.now.jobs.now c.args.wanted.now.lasting)
    turns w.new.rows c.args.table c.close.result (subst (λ (t : TableState). Opens t turns) c.take_room.ensures.table c.in-Ok-open.ensures.opens) c.close.ensures c.requires.limits c.requires.small c.args.words.now w.new.words (g.L.Link.told c.args.link.now) (g.L.Link.told w.new.link) w.result w.ensures.stopped
