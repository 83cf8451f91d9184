use Rattle.std.proofs.Common.{◌≡◌}
use Rattle.lookup_core.specs.declared.quest.AskKind.TheVariants.{GetItem}
use Rattle.command_base.specs.Called.{called_with}
use Rattle.command_base.specs.Shown.{shown, shown_link}
use Rattle.command_base.proofs.Results.{err_began}
use Rattle.lookup_commands.proofs.Getting.{gets_reached}
use Rattle.lookup_commands.proofs.Reaching.{begun_reached}
use Rattle.lookup_commands.proofs.get.get.Goals as goal

pub returns-in_err-text_of-clause-no_memory : goal.returns-in_err-text_of-clause-no_memory
returns-in_err-text_of-clause-no_memory g c =
    let source = shown g.S.Source.left g.S.Source.faults c.args.source.now c.run_lookup.new.source in
    let link = shown_link g.L.Link.told g.L.Link.recv_faults g.L.Link.send_faults c.args.link.now c.run_lookup.new.link in
    err_began c.from_residual-in_err-text_of.result _ (c.run_lookup.new.link ≡ c.args.link.now) (begun_reached GetItem c.args.look.now (called_with c.args.call.now.random (g.C.PacedCheck.slow c.args.call.now.check.now) (g.G.SealCheck.accepted c.args.call.now.seal.now) (g.G.Seal.tag_of c.args.call.now.seal.now)) source link c.in_ok-reached.reached c.in_ok-reached.ensures.ok)

pub returns-clause-ok : goal.returns-clause-ok
returns-clause-ok g c =
    let source = shown g.S.Source.left g.S.Source.faults c.args.source.now c.run_lookup.new.source in
    let link = shown_link g.L.Link.told g.L.Link.recv_faults g.L.Link.send_faults c.args.link.now c.run_lookup.new.link in
    gets_reached c.args.look.now (called_with c.args.call.now.random (g.C.PacedCheck.slow c.args.call.now.check.now) (g.G.SealCheck.accepted c.args.call.now.seal.now) (g.G.Seal.tag_of c.args.call.now.seal.now)) source link c.in_ok-reached.reached c.in_ok-text_of.field-0 c.in_ok-reached.ensures.ok c.in_ok-text_of.ensures
