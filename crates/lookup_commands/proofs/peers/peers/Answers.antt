use Rattle.std.proofs.Common.{◌≡◌, inr}
use Rattle.command_base.specs.Called.{called_with}
use Rattle.command_base.proofs.Results.{err_began}
use Rattle.lookup_core.specs.declared.quest.AskKind.TheVariants.{GetPeers}
use Rattle.lookup_commands.specs.Peered.{announcing_to}
use Rattle.lookup_commands.proofs.Following.{announced_some, all_some}
use Rattle.lookup_commands.proofs.Peering.{peers_at, printed_same}
use Rattle.lookup_commands.proofs.peers.peers.Goals as goal

pub returns-in_err-announced-clause-no_memory : goal.returns-in_err-announced-clause-no_memory
returns-in_err-announced-clause-no_memory g c =
    let told = g.L.Link.told in
    let faults = g.L.Link.recv_faults in
    let sends = g.L.Link.send_faults in
    err_began c.from_residual-in_err-announced.result _ (c.announce_told.new.link ≡ c.args.link.now)
    (inr (announced_some GetPeers c.args.look.now c.args.spread (announcing_to c.args.look.now c.args.port) (called_with c.args.call.now.random (g.C.PacedCheck.slow c.args.call.now.check.now) (g.G.SealCheck.accepted c.args.call.now.seal.now) (g.G.Seal.tag_of c.args.call.now.seal.now)) _ (told c.args.link.now) (told c.run_lookup.new.link) (told c.announce_told.new.link) (faults c.args.link.now) (faults c.run_lookup.new.link) (faults c.announce_told.new.link) (sends c.args.link.now) (sends c.run_lookup.new.link) (sends c.announce_told.new.link) c.in_ok-reached.reached
    c.in_ok-reached.ensures.ok c.announce_told.ensures.send_faults c.in_err-announced.ensures.err))

pub returns-in_err-print_peers-clause-no_memory : goal.returns-in_err-print_peers-clause-no_memory
returns-in_err-print_peers-clause-no_memory g c =
    let told = g.L.Link.told in
    let faults = g.L.Link.recv_faults in
    let sends = g.L.Link.send_faults in
    err_began c.from_residual-in_err-print_peers.result _ (c.announce_told.new.link ≡ c.args.link.now)
    (inr (announced_some GetPeers c.args.look.now c.args.spread (announcing_to c.args.look.now c.args.port) (called_with c.args.call.now.random (g.C.PacedCheck.slow c.args.call.now.check.now) (g.G.SealCheck.accepted c.args.call.now.seal.now) (g.G.Seal.tag_of c.args.call.now.seal.now)) _ (told c.args.link.now) (told c.run_lookup.new.link) (told c.announce_told.new.link) (faults c.args.link.now) (faults c.run_lookup.new.link) (faults c.announce_told.new.link) (sends c.args.link.now) (sends c.run_lookup.new.link) (sends c.announce_told.new.link) c.in_ok-reached.reached
    c.in_ok-reached.ensures.ok c.announce_told.ensures.send_faults (all_some _ _ _ c.in_ok-announced.announced _ _ c.in_ok-announced.ensures.ok)))

pub returns-clause-ok : goal.returns-clause-ok
returns-clause-ok g c =
    let told = g.L.Link.told in
    let faults = g.L.Link.recv_faults in
    let sends = g.L.Link.send_faults in
    peers_at c.args.look.now c.args.port c.args.spread (called_with c.args.call.now.random (g.C.PacedCheck.slow c.args.call.now.check.now) (g.G.SealCheck.accepted c.args.call.now.seal.now) (g.G.Seal.tag_of c.args.call.now.seal.now)) _ (told c.args.link.now) (told c.run_lookup.new.link) (told c.announce_told.new.link) (faults c.args.link.now) (faults c.run_lookup.new.link) (faults c.announce_told.new.link) (sends c.args.link.now) (sends c.run_lookup.new.link) (sends c.announce_told.new.link) c.in_ok-reached.reached c.in_ok-announced.announced c.in_ok-print_peers.field-0
    c.in_ok-reached.ensures.ok c.announce_told.ensures.send_faults c.in_ok-announced.ensures.ok (printed_same _ _ _ _ _ _ _ _ _ c.in_ok-print_peers.ensures c.as_slice.ensures c.len.ensures)
