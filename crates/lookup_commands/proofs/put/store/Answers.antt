use Rattle.std.proofs.Common.{◌≡◌, inr}
use Rattle.lookup_core.specs.declared.quest.AskKind.TheVariants.{GetItem}
use Rattle.command_base.specs.Called.{called_with}
use Rattle.lookup_commands.specs.Stored.{putting_to}
use Rattle.command_base.proofs.Results.{err_began}
use Rattle.lookup_commands.proofs.Following.{announced_some, all_some}
use Rattle.lookup_commands.proofs.Storing.{printed_same, puts_at}
use Rattle.lookup_commands.proofs.put.store.Goals as goal

pub returns-in_err-stored-clause-no_memory : goal.returns-in_err-stored-clause-no_memory
returns-in_err-stored-clause-no_memory g c =
    let told = g.L.Link.told in
    let faults = g.L.Link.recv_faults in
    let sends = g.L.Link.send_faults in
    err_began c.from_residual-in_err-stored.result _ (c.follow_up.new.link ≡ c.args.link.now)
    (inr (announced_some GetItem c.args.look.now c.args.spread (putting_to c.args.item.now) (called_with c.args.call.now.random (g.C.PacedCheck.slow c.args.call.now.check.now) (g.G.SealCheck.accepted c.args.call.now.seal.now) (g.G.Seal.tag_of c.args.call.now.seal.now)) _ (told c.args.link.now) (told c.run_lookup.new.link) (told c.follow_up.new.link) (faults c.args.link.now) (faults c.run_lookup.new.link) (faults c.follow_up.new.link) (sends c.args.link.now) (sends c.run_lookup.new.link) (sends c.follow_up.new.link) c.in_ok-reached.reached
    c.in_ok-reached.ensures.ok c.follow_up.ensures.send_faults
    c.in_err-stored.ensures.err))

pub returns-in_err-print_stored-clause-no_memory : goal.returns-in_err-print_stored-clause-no_memory
returns-in_err-print_stored-clause-no_memory g c =
    let told = g.L.Link.told in
    let faults = g.L.Link.recv_faults in
    let sends = g.L.Link.send_faults in
    err_began c.from_residual-in_err-print_stored.result _ (c.follow_up.new.link ≡ c.args.link.now)
    (inr (announced_some GetItem c.args.look.now c.args.spread (putting_to c.args.item.now) (called_with c.args.call.now.random (g.C.PacedCheck.slow c.args.call.now.check.now) (g.G.SealCheck.accepted c.args.call.now.seal.now) (g.G.Seal.tag_of c.args.call.now.seal.now)) _ (told c.args.link.now) (told c.run_lookup.new.link) (told c.follow_up.new.link) (faults c.args.link.now) (faults c.run_lookup.new.link) (faults c.follow_up.new.link) (sends c.args.link.now) (sends c.run_lookup.new.link) (sends c.follow_up.new.link) c.in_ok-reached.reached
    c.in_ok-reached.ensures.ok c.follow_up.ensures.send_faults (all_some _ _ _ c.in_ok-stored.stored _ _
    c.in_ok-stored.ensures.ok)))

pub returns-clause-ok : goal.returns-clause-ok
returns-clause-ok g c =
    let told = g.L.Link.told in
    let faults = g.L.Link.recv_faults in
    let sends = g.L.Link.send_faults in
    puts_at c.args.look.now c.args.item.now c.args.spread (called_with c.args.call.now.random (g.C.PacedCheck.slow c.args.call.now.check.now) (g.G.SealCheck.accepted c.args.call.now.seal.now) (g.G.Seal.tag_of c.args.call.now.seal.now)) _ (told c.args.link.now) (told c.run_lookup.new.link) (told c.follow_up.new.link) (faults c.args.link.now) (faults c.run_lookup.new.link) (faults c.follow_up.new.link) (sends c.args.link.now) (sends c.run_lookup.new.link) (sends c.follow_up.new.link) c.in_ok-reached.reached c.in_ok-stored.stored c.in_ok-print_stored.field-0
    c.in_ok-reached.ensures.ok c.follow_up.ensures.send_faults
    c.in_ok-stored.ensures.ok (printed_same _ _ _ _ _ _ _ _ c.in_ok-print_stored.ensures c.len-found.ensures)
