use Rattle.std.proofs.Common.{inr, sym, ◌∙◌}
use Rattle.command_base.specs.Called.{called_with}
use Rattle.command_base.specs.Shown.{shown, shown_link}
use Rattle.command_base.proofs.Results.{err_began}
use Rattle.node_commands.specs.Several.{lasting_of}
use Rattle.node_commands.proofs.Severally.{node_text, outcomes_long, ran_of, starts_carried, starts_pass, starts_usable}
use Rattle.node_commands.proofs.node.do_jobs.Goals as goal

pub look_all-ended-requires-clause-usable : goal.look_all-ended-requires-clause-usable
look_all-ended-requires-clause-usable g c κs within = starts_usable _ _ _ _ _ _ c.in_ok-start.ensures.ok _ c.own_id-own.ensures

pub look_all-ended-requires-clause-proofs : goal.look_all-ended-requires-clause-proofs
look_all-ended-requires-clause-proofs g c κs within = starts_pass _ _ _ _ _ _ c.in_ok-start.ensures.ok

pub look_all-ended-requires-clause-carried : goal.look_all-ended-requires-clause-carried
look_all-ended-requires-clause-carried g c κs within = starts_carried _ _ _ _ _ _ c.in_ok-start.ensures.ok _ c.as_slice.ensures

pub text_of-requires : goal.text_of-requires
text_of-requires g c =
    let s = c.in_ok-start.start in
    let link = shown_link g.L.Link.told g.L.Link.recv_faults g.L.Link.send_faults c.args.link.now c.look_all-ended.new.link in
    let called = called_with c.args.call.now.random (g.C.PacedCheck.slow c.args.call.now.check.now) (g.G.SealCheck.accepted c.args.call.now.seal.now) (g.G.Seal.tag_of c.args.call.now.seal.now) in
    outcomes_long c.args.words.now.look (lasting_of c.args.words.now) c.args.words.now.proof called c.as_slice.result.now c.as_slice-2.result.now s.table s.proofs link c.in-Ok.looked.many c.in-Ok.looked.table c.in-Ok.ensures.ok (c.as_slice-2.ensures ∙ sym c.as_slice.ensures)

pub returns-in_err-text_of-clause-no_memory : goal.returns-in_err-text_of-clause-no_memory
returns-in_err-text_of-clause-no_memory g c =
    let s = c.in_ok-start.start in
    let source = shown g.S.Source.left g.S.Source.faults c.args.source.now c.read_start.new.source in
    let link = shown_link g.L.Link.told g.L.Link.recv_faults g.L.Link.send_faults c.args.link.now c.look_all-ended.new.link in
    let called = called_with c.args.call.now.random (g.C.PacedCheck.slow c.args.call.now.check.now) (g.G.SealCheck.accepted c.args.call.now.seal.now) (g.G.Seal.tag_of c.args.call.now.seal.now) in
    err_began c.from_residual-in_err-text_of.result _ _ (inr (ran_of c.args.words.now.look (lasting_of c.args.words.now) c.args.words.now.proof called source link s.jobs c.as_slice.result.now s.table s.proofs c.in-Ok.looked.many c.in_ok-start.ensures.ok c.in-Ok.looked.table c.in-Ok.ensures.ok c.in-Ok.ensures.refused c.as_slice.ensures))

pub returns-clause-ok : goal.returns-clause-ok
returns-clause-ok g c =
    let s = c.in_ok-start.start in
    let source = shown g.S.Source.left g.S.Source.faults c.args.source.now c.read_start.new.source in
    let link = shown_link g.L.Link.told g.L.Link.recv_faults g.L.Link.send_faults c.args.link.now c.look_all-ended.new.link in
    let called = called_with c.args.call.now.random (g.C.PacedCheck.slow c.args.call.now.check.now) (g.G.SealCheck.accepted c.args.call.now.seal.now) (g.G.Seal.tag_of c.args.call.now.seal.now) in
    let ran = ran_of c.args.words.now.look (lasting_of c.args.words.now) c.args.words.now.proof called source link s.jobs c.as_slice.result.now s.table s.proofs c.in-Ok.looked.many c.in_ok-start.ensures.ok c.in-Ok.looked.table c.in-Ok.ensures.ok c.in-Ok.ensures.refused c.as_slice.ensures in
    node_text c.args.words.now.look (lasting_of c.args.words.now) c.args.words.now.proof c.args.words.now.table called source link ran c.as_slice-2.result.now c.in_ok-text_of.field-0 c.requires c.as_slice-2.ensures c.in_ok-text_of.ensures
