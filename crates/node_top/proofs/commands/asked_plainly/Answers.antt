use Rattle.std.proofs.Common.{rules, refl}
use Rattle.std.proofs.lemmas.Result.{err_from_is_err_and}
use Rattle.kad_words.specs.Bound.{TakesLink}
use Rattle.kad_words.proofs.OneCommand.{command_plain}
use Rattle.command_base.specs.Called.{called_plainly}
use Rattle.node_top.specs.Asked.{bytes_of}
use Rattle.command_base.specs.Shown.{nowhere}
use Rattle.node_top.proofs.Asking.{takes_by}
use Rattle.node_top.proofs.Causes.{caused, linkless, refused, unasked, no_fault}
use Rattle.command_base.proofs.Results.{ok_then, err_then}
use Rattle.command_base.proofs.Parts.{unread_at_most}
use Rattle.node_top.proofs.Lawfully.{ranged}
use Rattle.command_base.specs.declared.status.Status.TheVariants.{SourceFault}
use Rattle.node_top.proofs.commands.asked_plainly.Goals as goal

pub plain_output_of-requires-clause-plain : goal.plain_output_of-requires-clause-plain
plain_output_of-requires-clause-plain g c =
    let none_ : TakesLink (bytes_of c.args.words.now) → ⊥ = search rules in
    λ links. none_ (takes_by _ c.in_ok-command.command c.in_ok-command.ensures.command links)

pub plain_output_of-requires-clause-ranges : goal.plain_output_of-requires-clause-ranges
plain_output_of-requires-clause-ranges g c = ranged _ c.in_ok-command.command c.in_ok-command.ensures.command

pub returns-in_err-command-clause-cause : goal.returns-in_err-command-clause-cause
returns-in_err-command-clause-cause g c =
    let out = err_from_is_err_and c.from_residual.result c.from_residual.ensures.1 in
    refused _ _ _ _ _ c.from_residual.result out.0 _ out.1 out.2 (λ p. p.asks) c.in_err-command.ensures.usage c.in_err-command.ensures.none_else refl

pub returns-clause-asks : goal.returns-clause-asks
returns-clause-asks g c =
    let none_ : TakesLink (bytes_of c.args.words.now) → ⊥ = search rules in
    ok_then c.plain_output_of.result _ _ (c.plain_output_of.ensures.ok (called_plainly c.args.call.now.random).slow (called_plainly c.args.call.now.random).accepts (called_plainly c.args.call.now.random).tags nowhere) (λ text t. record { asks = command_plain _ c.in_ok-command.command c.in_ok-command.ensures.command; no_link = none_ })

pub returns-clause-ok : goal.returns-clause-ok
returns-clause-ok g c = ok_then c.plain_output_of.result _ _ (c.plain_output_of.ensures.ok (called_plainly c.args.call.now.random).slow (called_plainly c.args.call.now.random).accepts (called_plainly c.args.call.now.random).tags nowhere) (λ text t. record { command = c.in_ok-command.command; asked = c.in_ok-command.ensures.command; holds = t })

pub returns-clause-cause : goal.returns-clause-cause
returns-clause-cause g c = err_then c.plain_output_of.result _ _ (c.plain_output_of.ensures.cause (called_plainly c.args.call.now.random).slow (called_plainly c.args.call.now.random).accepts (called_plainly c.args.call.now.random).tags nowhere) (λ status h. caused _ _ _ _ nowhere c.in_ok-command.command c.in_ok-command.ensures.command status h)

pub returns-clause-unread : goal.returns-clause-unread
returns-clause-unread g c = err_then c.plain_output_of.result _ _ (c.plain_output_of.ensures.cause (called_plainly c.args.call.now.random).slow (called_plainly c.args.call.now.random).accepts (called_plainly c.args.call.now.random).tags nowhere) (λ status h two. absurd (unasked c.in_ok-command.command _ _ nowhere status h two))

pub returns-clause-plain : goal.returns-clause-plain
returns-clause-plain g c =
    let none_ : TakesLink (bytes_of c.args.words.now) → ⊥ = search rules in
    λ other. absurd (other (record { asks = command_plain _ c.in_ok-command.command c.in_ok-command.ensures.command; no_link = none_ }))

pub returns-clause-no_input : goal.returns-clause-no_input
returns-clause-no_input g c = λ none_. c.plain_output_of.ensures.no_input (λ reads. none_ (record { command = c.in_ok-command.command; asked = c.in_ok-command.ensures.command; holds = reads }))

pub returns-clause-no_link : goal.returns-clause-no_link
returns-clause-no_link g c =
    let none_ : TakesLink (bytes_of c.args.words.now) → ⊥ = search rules in
    err_then c.plain_output_of.result _ _ (c.plain_output_of.ensures.cause (called_plainly c.args.call.now.random).slow (called_plainly c.args.call.now.random).accepts (called_plainly c.args.call.now.random).tags nowhere)
    (λ status h. linkless c.in_ok-command.command (λ links. none_ (takes_by _ c.in_ok-command.command c.in_ok-command.ensures.command links)) _ _ status h)

pub returns-in_err-command-clause-at_most : goal.returns-in_err-command-clause-at_most
returns-in_err-command-clause-at_most g c = unread_at_most _ _ refl

pub returns-in_err-command-clause-reads_last : goal.returns-in_err-command-clause-reads_last
returns-in_err-command-clause-reads_last g c is =
    let out = err_from_is_err_and c.from_residual.result c.from_residual.ensures.1 in
    absurd (no_fault SourceFault (λ e. absurd cc) (λ e. absurd cc) c.from_residual.result out.0 _ out.1 out.2 c.in_err-command.ensures.none_else is)
