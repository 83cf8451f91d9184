use Rattle.std.proofs.Common.{ℕ, List, sym, ap, rules, ◌∙◌, ◌≢◌, refl}
use Rattle.kad_words.specs.declared.command.Command.TheVariants.{Lookup, Peers, Get, Put, Serve, Node, Refresh}
use Rattle.command_base.specs.Shown.{nowhere}
use Rattle.node_top.proofs.Lawfully.{lawful}
use Rattle.node_top.proofs.Causes.{begun_at, cause_at, text_at, unrefused, unvouched, linkless}
use Rattle.command_base.specs.declared.status.Status.TheVariants.{LinkFault}
use Rattle.command_base.proofs.Results.{err_at, err_then}
use Rattle.command_base.specs.Endings.{number_of}
use Rattle.node_top.proofs.commands.output_of.Goals as goal

pub returns-in-Lookup-clause-cause : goal.returns-in-Lookup-clause-cause
returns-in-Lookup-clause-cause g c = cause_at c.lookup.result _ _ _ _ _ (sym c.in-Lookup.is) c.lookup.ensures.cause

pub returns-in-Peers-clause-cause : goal.returns-in-Peers-clause-cause
returns-in-Peers-clause-cause g c = cause_at c.peers.result _ _ _ _ _ (sym c.in-Peers.is) c.peers.ensures.cause

pub returns-in-Get-clause-cause : goal.returns-in-Get-clause-cause
returns-in-Get-clause-cause g c = cause_at c.get.result _ _ _ _ _ (sym c.in-Get.is) c.get.ensures.cause

pub returns-in-Put-clause-ok : goal.returns-in-Put-clause-ok
returns-in-Put-clause-ok g c = text_at c.put.result _ _ _ _ _ (ap (λ (v : List ℕ). Put c.in-Put.look v c.in-Put.spread) c.as_slice.ensures ∙ sym c.in-Put.is) c.put.ensures.ok

pub returns-in-Put-clause-cause : goal.returns-in-Put-clause-cause
returns-in-Put-clause-cause g c = cause_at c.put.result _ _ _ _ _ (ap (λ (v : List ℕ). Put c.in-Put.look v c.in-Put.spread) c.as_slice.ensures ∙ sym c.in-Put.is) c.put.ensures.cause

pub returns-in-Put-clause-no_memory : goal.returns-in-Put-clause-no_memory
returns-in-Put-clause-no_memory g c = begun_at c.put.result _ _ _ _ _ _ (ap (λ (v : List ℕ). Put c.in-Put.look v c.in-Put.spread) c.as_slice.ensures ∙ sym c.in-Put.is) c.put.ensures.no_memory

pub returns-in-Serve-clause-cause : goal.returns-in-Serve-clause-cause
returns-in-Serve-clause-cause g c = cause_at c.serve.result _ _ _ _ _ (sym c.in-Serve.is) c.serve.ensures.cause

pub returns-in-Node-clause-cause : goal.returns-in-Node-clause-cause
returns-in-Node-clause-cause g c = cause_at c.node.result _ _ _ _ _ (sym c.in-Node.is) c.node.ensures.cause

pub returns-in-Node-clause-no_memory : goal.returns-in-Node-clause-no_memory
returns-in-Node-clause-no_memory g c = begun_at c.node.result _ _ _ _ _ _ (sym c.in-Node.is) c.node.ensures.no_memory

pub returns-in-Refresh-clause-cause : goal.returns-in-Refresh-clause-cause
returns-in-Refresh-clause-cause g c = cause_at c.refresh.result _ _ _ _ _ (sym c.in-Refresh.is) c.refresh.ensures.cause

pub returns-in-Refresh-clause-no_memory : goal.returns-in-Refresh-clause-no_memory
returns-in-Refresh-clause-no_memory g c = begun_at c.refresh.result _ _ _ _ _ _ (sym c.in-Refresh.is) c.refresh.ensures.no_memory

-- ---- none of them refuses a value but that which puts one

pub returns-in-Lookup-clause-unread : goal.returns-in-Lookup-clause-unread
returns-in-Lookup-clause-unread g c = unrefused c.lookup.result _ (Lookup c.in-Lookup.look) (λ refused. refused) _ _ _ c.lookup.ensures.cause

pub returns-in-Peers-clause-unread : goal.returns-in-Peers-clause-unread
returns-in-Peers-clause-unread g c = unrefused c.peers.result _ (Peers c.in-Peers.look c.in-Peers.announce c.in-Peers.spread) (λ refused. refused) _ _ _ c.peers.ensures.cause

pub returns-in-Get-clause-unread : goal.returns-in-Get-clause-unread
returns-in-Get-clause-unread g c = unrefused c.get.result _ (Get c.in-Get.look) (λ refused. refused) _ _ _ c.get.ensures.cause

pub returns-in-Serve-clause-unread : goal.returns-in-Serve-clause-unread
returns-in-Serve-clause-unread g c = unrefused c.serve.result _ (Serve c.in-Serve.words) (λ refused. refused) _ _ _ c.serve.ensures.cause

pub returns-in-Node-clause-unread : goal.returns-in-Node-clause-unread
returns-in-Node-clause-unread g c = unrefused c.node.result _ (Node c.in-Node.words) (λ refused. refused) _ _ _ c.node.ensures.cause

pub returns-in-Refresh-clause-unread : goal.returns-in-Refresh-clause-unread
returns-in-Refresh-clause-unread g c = unrefused c.refresh.result _ (Refresh c.in-Refresh.words) (λ refused. refused) _ _ _ c.refresh.ensures.cause

pub returns-in_default-clause-unread : goal.returns-in_default-clause-unread
returns-in_default-clause-unread g c =
    unrefused c.plain_output_of.result _ c.args.command.now ((lawful c.args.command.now).refuses (search rules)) _ _ _
    (c.plain_output_of.ensures.cause (g.C.PacedCheck.slow c.args.call.now.check.now) (g.G.SealCheck.accepted c.args.call.now.seal.now) (g.G.Seal.tag_of c.args.call.now.seal.now) nowhere)

-- ---- none of them refuses a proof but that which is given one

pub returns-in-Lookup-clause-unproved : goal.returns-in-Lookup-clause-unproved
returns-in-Lookup-clause-unproved g c = unvouched c.lookup.result _ (Lookup c.in-Lookup.look) _ (λ refused. refused) _ _ c.lookup.ensures.cause

pub returns-in-Peers-clause-unproved : goal.returns-in-Peers-clause-unproved
returns-in-Peers-clause-unproved g c = unvouched c.peers.result _ (Peers c.in-Peers.look c.in-Peers.announce c.in-Peers.spread) _ (λ refused. refused) _ _ c.peers.ensures.cause

pub returns-in-Get-clause-unproved : goal.returns-in-Get-clause-unproved
returns-in-Get-clause-unproved g c = unvouched c.get.result _ (Get c.in-Get.look) _ (λ refused. refused) _ _ c.get.ensures.cause

pub returns-in-Put-clause-unproved : goal.returns-in-Put-clause-unproved
returns-in-Put-clause-unproved g c = unvouched c.put.result _ (Put c.in-Put.look c.as_slice.result.now c.in-Put.spread) _ (λ refused. refused) _ _ c.put.ensures.cause

pub returns-in-Serve-clause-unproved : goal.returns-in-Serve-clause-unproved
returns-in-Serve-clause-unproved g c = unvouched c.serve.result _ (Serve c.in-Serve.words) _ (λ refused. refused) _ _ c.serve.ensures.cause

pub returns-in-Refresh-clause-unproved : goal.returns-in-Refresh-clause-unproved
returns-in-Refresh-clause-unproved g c = unvouched c.refresh.result _ (Refresh c.in-Refresh.words) _ (λ refused. refused) _ _ c.refresh.ensures.cause

pub returns-in_default-clause-unproved : goal.returns-in_default-clause-unproved
returns-in_default-clause-unproved g c =
    unvouched c.plain_output_of.result _ c.args.command.now _ ((lawful c.args.command.now).vouches (search rules) c.args.call.now.random) _ _
    (c.plain_output_of.ensures.cause (g.C.PacedCheck.slow c.args.call.now.check.now) (g.G.SealCheck.accepted c.args.call.now.seal.now) (g.G.Seal.tag_of c.args.call.now.seal.now) nowhere)

pub returns-in_default-clause-hears_last : goal.returns-in_default-clause-hears_last
returns-in_default-clause-hears_last g c is =
    absurd (err_at c.plain_output_of.result LinkFault (λ s. number_of s ≢ 4) is
    (err_then c.plain_output_of.result _ _ (c.plain_output_of.ensures.cause (g.C.PacedCheck.slow c.args.call.now.check.now) (g.G.SealCheck.accepted c.args.call.now.seal.now) (g.G.Seal.tag_of c.args.call.now.seal.now) nowhere)
    (λ status h. (linkless c.args.command.now (search rules) _ _ status h).0)) refl)
