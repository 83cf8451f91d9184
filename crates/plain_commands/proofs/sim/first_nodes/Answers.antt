use Rattle.std.proofs.Common.{None, ap}
use Rattle.kad_base.specs.declared.types.Contact.{Contact}
use Rattle.kad_base.specs.declared.types.Report.{Report}
use Rattle.fake_net.proofs.Numbering.{mapped_one}
use Rattle.plain_commands.specs.Simulated.{report_of}
use Rattle.plain_commands.proofs.sim.first_nodes.Goals as goal

named : Contact → Report
named c = record { contact = c; proof = None }

pub loop-i-preserved : goal.loop-i-preserved
unfolding named
loop-i-preserved c = mapped_one (report_of c.args.net.now.network.seed) c.loop-i.i c.loop-i.reports c.push.new.self (named c.contact.result) c.loop-i.invariant (ap named c.contact.ensures) c.in_ok-push.ensures.ok
