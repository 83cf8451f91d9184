use Rattle.std.proofs.Common.{◌≡◌, inl, inr, refl, sym, ap, subst, ◌∙◌, Err}
use Rattle.node_top.specs.Commands.{promise_of}
use Rattle.command_base.specs.declared.status.Status.TheVariants.{SourceFault}
use Rattle.command_base.specs.Endings.{MayEnd, OrNoMemory, number_of}
use Rattle.node_top.proofs.Asking.{asks_plain}
use Rattle.node_top.proofs.Lawfully.{lawful}
use Rattle.node_top.proofs.Causes.{done_of, cut_of, done_end, not_bad, not_much, not_nothing, named, usage_alone, bad_line, source_fault, unminted, too_long, bad_line_comes, unminted_comes, too_long_comes, completes, may_end, is_source_fault}
use Rattle.node_top.proofs.top.run_plain.Goals as goal

-- ---- the command has its output

pub returns-in-Ok-clause-done : goal.returns-in-Ok-clause-done
returns-in-Ok-clause-done g c = λ whole. (c.in-Ok.ensures.asks, done_of _ _ _ _ _ c.in-Ok.output _ c.as_slice.ensures c.in-Ok.ensures.ok (c.write_output.ensures.whole whole))

pub returns-in-Ok-clause-cut_short : goal.returns-in-Ok-clause-cut_short
returns-in-Ok-clause-cut_short g c = λ cut. (c.in-Ok.ensures.asks, cut_of _ _ _ _ _ c.in-Ok.output _ c.as_slice.ensures c.in-Ok.ensures.ok (c.write_output.ensures.cut cut))

pub returns-in-Ok-clause-usage : goal.returns-in-Ok-clause-usage
returns-in-Ok-clause-usage g c = ((λ e. absurd (elim c.write_output.ensures.either [ inl zero_ ↦ cc | inr five ↦ cc ])), (λ other. absurd (other c.in-Ok.ensures.asks)))

pub returns-in-Ok-clause-bad_line_comes : goal.returns-in-Ok-clause-bad_line_comes
returns-in-Ok-clause-bad_line_comes g c = λ asks told quiet bad. absurd (not_bad _ _ _ _ _ c.in-Ok.ensures.ok told quiet bad)

pub returns-in-Ok-clause-unminted_comes : goal.returns-in-Ok-clause-unminted_comes
returns-in-Ok-clause-unminted_comes g c = λ none_. absurd (not_nothing _ _ _ _ _ c.in-Ok.ensures.ok none_)

pub returns-in-Ok-clause-too_long_comes : goal.returns-in-Ok-clause-too_long_comes
returns-in-Ok-clause-too_long_comes g c = λ told much. absurd (not_much _ _ _ _ _ c.in-Ok.ensures.ok told much)

pub returns-in-Ok-clause-complete : goal.returns-in-Ok-clause-complete
returns-in-Ok-clause-complete g c = λ well. elim c.write_output.ensures.either [ inl zero_ ↦ inl zero_ | inr five ↦ absurd (well.1.writes (c.write_output.ensures.failed five)) ]

pub returns-in-Ok-clause-by_command : goal.returns-in-Ok-clause-by_command
returns-in-Ok-clause-by_command g c = λ asks. done_end _ _ c.write_output.ensures.either

-- ---- it has none, by its cause

pub returns-in-Err-clause-usage : goal.returns-in-Err-clause-usage
returns-in-Err-clause-usage g c =
    ((λ two. usage_alone _ _ _ _ _ c.in-Err.status c.in-Err.ensures.cause (sym c.write_line.ensures.number ∙ two)), (λ other. c.write_line.ensures.number ∙ c.in-Err.ensures.plain other))

pub returns-in-Err-clause-bad_line : goal.returns-in-Err-clause-bad_line
returns-in-Err-clause-bad_line g c = λ is. bad_line _ _ _ _ _ c.in-Err.status c.in-Err.ensures.cause (sym c.write_line.ensures.number ∙ is)

pub returns-in-Err-clause-source_fault : goal.returns-in-Err-clause-source_fault
returns-in-Err-clause-source_fault g c = λ is. source_fault _ _ _ _ _ c.in-Err.status c.in-Err.ensures.cause (sym c.write_line.ensures.number ∙ is)

pub returns-in-Err-clause-unminted : goal.returns-in-Err-clause-unminted
returns-in-Err-clause-unminted g c = λ is. unminted _ _ _ _ _ c.in-Err.status c.in-Err.ensures.cause (sym c.write_line.ensures.number ∙ is)

pub returns-in-Err-clause-too_long : goal.returns-in-Err-clause-too_long
returns-in-Err-clause-too_long g c = λ is. too_long _ _ _ _ _ c.in-Err.status c.in-Err.ensures.cause (sym c.write_line.ensures.number ∙ is)

pub returns-in-Err-clause-bad_line_comes : goal.returns-in-Err-clause-bad_line_comes
returns-in-Err-clause-bad_line_comes g c = λ asks told quiet bad.
    subst (λ n. OrNoMemory n 3) (sym c.write_line.ensures.number) (bad_line_comes _ _ _ _ _ c.in-Err.status c.in-Err.ensures.cause (λ e. refl) (λ command asked. asks) told quiet bad)

pub returns-in-Err-clause-unminted_comes : goal.returns-in-Err-clause-unminted_comes
returns-in-Err-clause-unminted_comes g c = λ none_.
    subst (λ n. OrNoMemory n 10) (sym c.write_line.ensures.number)
    (unminted_comes _ _ _ _ _ c.in-Err.status c.in-Err.ensures.cause (λ e. refl) (λ n. asks_plain _ n.command n.asked ((lawful n.command).no_link _ n.holds)) none_)

pub returns-in-Err-clause-too_long_comes : goal.returns-in-Err-clause-too_long_comes
returns-in-Err-clause-too_long_comes g c = λ told much.
    subst (λ n. OrNoMemory n 11) (sym c.write_line.ensures.number) (too_long_comes _ _ _ _ _ c.in-Err.status c.in-Err.ensures.cause (λ e. refl) told much)

pub returns-in-Err-clause-complete : goal.returns-in-Err-clause-complete
returns-in-Err-clause-complete g c = λ well. inr (c.write_line.ensures.number ∙ completes _ _ _ _ _ _ c.in-Err.status c.in-Err.ensures.cause well.0 well.1)

pub returns-in-Err-clause-reads_well : goal.returns-in-Err-clause-reads_well
returns-in-Err-clause-reads_well g c other = c.in-Err.ensures.reads_well (λ is. (let fault : c.in-Err.status ≡ SourceFault = cc in other (c.write_line.ensures.number ∙ ap number_of fault)))

pub returns-in-Err-clause-line : goal.returns-in-Err-clause-line
returns-in-Err-clause-line g c = λ some whole. record {
  status = c.in-Err.status;
  numbered = c.write_line.ensures.number;
  names = named _ _ _ _ _ c.in-Err.status c.in-Err.ensures.cause;
  writes = c.write_line.ensures.writes;
}

pub returns-in-Err-clause-by_command : goal.returns-in-Err-clause-by_command
returns-in-Err-clause-by_command g c = λ asks command asked.
    subst (λ n. MayEnd (promise_of command) n) (sym c.write_line.ensures.number) (may_end _ _ _ _ _ c.in-Err.status c.in-Err.ensures.cause asks command asked)

pub returns-in-Err-clause-reads_last : goal.returns-in-Err-clause-reads_last
returns-in-Err-clause-reads_last g c e = c.in-Err.ensures.reads_last (ap (λ x. Err x) (is_source_fault c.in-Err.status (sym c.write_line.ensures.number ∙ e)))
