use Rattle.std.proofs.Common.{inl, inr, refl}
use Rattle.kad_words.proofs.OneCommand.{command_plain}
use Rattle.node_top.proofs.Asking.{takes_by}
use Rattle.node_top.proofs.Causes.{caused, unasked, no_fault}
use Rattle.command_base.proofs.Results.{both_err, ok_then, err_then}
use Rattle.node_top.proofs.Lawfully.{ranged}
use Rattle.command_base.proofs.Parts.{unread_at_most}
use Rattle.std.proofs.lemmas.Result.{err_from_is_err_and}
use Rattle.command_base.specs.declared.status.Status.TheVariants.{LinkFault, SourceFault}
use Rattle.node_top.proofs.commands.asked_output.Goals as goal

pub returns-clause-ok : goal.returns-clause-ok
returns-clause-ok g c = ok_then c.output_of.result _ _ c.output_of.ensures.ok (λ text t. record { command = c.in_ok-command.command; asked = c.in_ok-command.ensures.command; holds = t })

pub returns-clause-cause : goal.returns-clause-cause
returns-clause-cause g c = err_then c.output_of.result _ _ c.output_of.ensures.cause (λ status h. caused _ _ _ _ _ c.in_ok-command.command c.in_ok-command.ensures.command status h)

pub returns-clause-unread : goal.returns-clause-unread
returns-clause-unread g c =
    err_then c.output_of.result _ _ (both_err c.output_of.result _ _ c.output_of.ensures.cause (both_err c.output_of.result _ _ c.output_of.ensures.unread c.output_of.ensures.unproved))
    (λ status h either. elim either [
      | inl two ↦ absurd (unasked c.in_ok-command.command _ _ _ status h.0 two)
      | inr later ↦ elim later [ inl twelve ↦ h.1.0 twelve | inr fifteen ↦ h.1.1 fifteen ]
    ])

pub returns-clause-no_memory : goal.returns-clause-no_memory
returns-clause-no_memory g c =
    err_then c.output_of.result _ _ c.output_of.ensures.no_memory
    (λ status h same. elim (h same) [ inl begun ↦ inl (record { command = c.in_ok-command.command; asked = c.in_ok-command.ensures.command; holds = begun }) | inr e ↦ inr e ])

pub returns-clause-plain : goal.returns-clause-plain
returns-clause-plain g c = λ none_. absurd (none_ (command_plain _ c.in_ok-command.command c.in_ok-command.ensures.command))

pub returns-clause-no_input : goal.returns-clause-no_input
returns-clause-no_input g c = λ none_. c.output_of.ensures.no_input (λ reads. none_ (record { command = c.in_ok-command.command; asked = c.in_ok-command.ensures.command; holds = reads }))

pub returns-clause-no_link : goal.returns-clause-no_link
returns-clause-no_link g c = λ plain. c.output_of.ensures.no_link (λ links. plain.no_link (takes_by _ c.in_ok-command.command c.in_ok-command.ensures.command links))

pub returns-in_err-command-clause-at_most : goal.returns-in_err-command-clause-at_most
returns-in_err-command-clause-at_most g c = unread_at_most _ _ refl

pub output_of-requires-clause-ranges : goal.output_of-requires-clause-ranges
output_of-requires-clause-ranges g c _ _ = ranged _ c.in_ok-command.command c.in_ok-command.ensures.command

pub returns-in_err-command-clause-reads_last : goal.returns-in_err-command-clause-reads_last
returns-in_err-command-clause-reads_last g c is =
    let out = err_from_is_err_and c.from_residual.result c.from_residual.ensures.1 in
    absurd (no_fault SourceFault (λ e. absurd cc) (λ e. absurd cc) c.from_residual.result out.0 _ out.1 out.2 c.in_err-command.ensures.none_else is)

pub returns-in_err-command-clause-hears_last : goal.returns-in_err-command-clause-hears_last
returns-in_err-command-clause-hears_last g c is =
    let out = err_from_is_err_and c.from_residual.result c.from_residual.ensures.1 in
    absurd (no_fault LinkFault (λ e. absurd cc) (λ e. absurd cc) c.from_residual.result out.0 _ out.1 out.2 c.in_err-command.ensures.none_else is)
