use Rattle.std.proofs.Common.{◌≡◌, inl, inr, sym, ap, subst, ◌∙◌, Err}
use Rattle.kad_words.proofs.OneCommand.{command_plain}
use Rattle.node_top.specs.Commands.{promise_of}
use Rattle.command_base.specs.declared.status.Status.TheVariants.{LinkFault, SourceFault}
use Rattle.command_base.specs.Endings.{MayEnd, OrNoMemory, number_of}
use Rattle.node_top.proofs.Causes.{done_of, cut_of, done_end, not_bad, not_much, not_seedless, not_strays, not_nothing, not_refused, not_unproved, not_unsound, is_no_memory, named, usage_alone, bad_line, link_fault, source_fault, strays, no_seeds, unminted, too_long, bad_value, bad_proof, unsound, bad_line_comes, no_seeds_come, strays_come, unminted_comes, too_long_comes, bad_value_comes, bad_proof_comes, unsound_comes, completes, may_end, is_link_fault, is_source_fault}
use Rattle.node_top.proofs.top.run.Goals as goal

-- ---- the command has its output

pub returns-in-Ok-clause-done : goal.returns-in-Ok-clause-done
returns-in-Ok-clause-done g c = λ whole. done_of _ _ _ _ _ c.in-Ok.output _ c.as_slice.ensures c.in-Ok.ensures.ok (c.write_output.ensures.whole whole)

pub returns-in-Ok-clause-cut_short : goal.returns-in-Ok-clause-cut_short
returns-in-Ok-clause-cut_short g c = λ cut. cut_of _ _ _ _ _ c.in-Ok.output _ c.as_slice.ensures c.in-Ok.ensures.ok (c.write_output.ensures.cut cut)

pub returns-in-Ok-clause-usage : goal.returns-in-Ok-clause-usage
returns-in-Ok-clause-usage g c =
    let h = c.in-Ok.ensures.ok in
    ((λ e. absurd (elim c.write_output.ensures.either [ inl zero_ ↦ cc | inr five ↦ cc ])), (λ other. absurd (other (command_plain _ h.command h.asked))))

pub returns-in-Ok-clause-bad_line_comes : goal.returns-in-Ok-clause-bad_line_comes
returns-in-Ok-clause-bad_line_comes g c = λ told quiet bad. absurd (not_bad _ _ _ _ _ c.in-Ok.ensures.ok told quiet bad)

pub returns-in-Ok-clause-no_seeds_come : goal.returns-in-Ok-clause-no_seeds_come
returns-in-Ok-clause-no_seeds_come g c = λ told quiet no_one. absurd (not_seedless _ _ _ _ _ c.in-Ok.ensures.ok told quiet no_one)

pub returns-in-Ok-clause-strays_come : goal.returns-in-Ok-clause-strays_come
returns-in-Ok-clause-strays_come g c = λ told last. absurd (not_strays _ _ _ _ _ c.in-Ok.ensures.ok told last)

pub returns-in-Ok-clause-unminted_comes : goal.returns-in-Ok-clause-unminted_comes
returns-in-Ok-clause-unminted_comes g c = λ none_. absurd (not_nothing _ _ _ _ _ c.in-Ok.ensures.ok none_)

pub returns-in-Ok-clause-too_long_comes : goal.returns-in-Ok-clause-too_long_comes
returns-in-Ok-clause-too_long_comes g c = λ told much. absurd (not_much _ _ _ _ _ c.in-Ok.ensures.ok told much)

pub returns-in-Ok-clause-bad_value_comes : goal.returns-in-Ok-clause-bad_value_comes
returns-in-Ok-clause-bad_value_comes g c = λ n. absurd (not_refused _ _ _ _ _ c.in-Ok.ensures.ok n)

pub returns-in-Ok-clause-bad_proof_comes : goal.returns-in-Ok-clause-bad_proof_comes
returns-in-Ok-clause-bad_proof_comes g c = λ n. absurd (not_unproved _ _ _ _ _ c.in-Ok.ensures.ok n)

pub returns-in-Ok-clause-unsound_comes : goal.returns-in-Ok-clause-unsound_comes
returns-in-Ok-clause-unsound_comes g c = λ told quiet n. absurd (not_unsound _ _ _ _ _ c.in-Ok.ensures.ok told quiet n)

pub returns-in-Ok-clause-complete : goal.returns-in-Ok-clause-complete
returns-in-Ok-clause-complete g c = λ well. elim c.write_output.ensures.either [ inl zero_ ↦ inl zero_ | inr five ↦ absurd (well.writes (c.write_output.ensures.failed five)) ]

pub returns-in-Ok-clause-by_command : goal.returns-in-Ok-clause-by_command
returns-in-Ok-clause-by_command g c = done_end _ _ c.write_output.ensures.either

-- ---- it has none, by its cause

pub returns-in-Err-clause-usage : goal.returns-in-Err-clause-usage
returns-in-Err-clause-usage g c =
    ((λ two. usage_alone _ _ _ _ _ c.in-Err.status c.in-Err.ensures.cause (sym c.write_line.ensures.number ∙ two)), (λ other. c.write_line.ensures.number ∙ c.in-Err.ensures.plain other))

pub returns-in-Err-clause-bad_line : goal.returns-in-Err-clause-bad_line
returns-in-Err-clause-bad_line g c = λ is. bad_line _ _ _ _ _ c.in-Err.status c.in-Err.ensures.cause (sym c.write_line.ensures.number ∙ is)

pub returns-in-Err-clause-link_fault : goal.returns-in-Err-clause-link_fault
returns-in-Err-clause-link_fault g c = λ is. (link_fault _ _ _ _ _ c.in-Err.status c.in-Err.ensures.cause (sym c.write_line.ensures.number ∙ is)).0

pub returns-in-Err-clause-source_fault : goal.returns-in-Err-clause-source_fault
returns-in-Err-clause-source_fault g c = λ is. source_fault _ _ _ _ _ c.in-Err.status c.in-Err.ensures.cause (sym c.write_line.ensures.number ∙ is)

pub returns-in-Err-clause-strays : goal.returns-in-Err-clause-strays
returns-in-Err-clause-strays g c = λ is. (strays _ _ _ _ _ c.in-Err.status c.in-Err.ensures.cause (sym c.write_line.ensures.number ∙ is)).0

pub returns-in-Err-clause-few_strays : goal.returns-in-Err-clause-few_strays
returns-in-Err-clause-few_strays g c = λ is. (link_fault _ _ _ _ _ c.in-Err.status c.in-Err.ensures.cause (sym c.write_line.ensures.number ∙ is)).3

pub returns-in-Err-clause-begun : goal.returns-in-Err-clause-begun
returns-in-Err-clause-begun g c = λ either. elim either [
  | inl is ↦ (link_fault _ _ _ _ _ c.in-Err.status c.in-Err.ensures.cause (sym c.write_line.ensures.number ∙ is)).1
  | inr is ↦ (strays _ _ _ _ _ c.in-Err.status c.in-Err.ensures.cause (sym c.write_line.ensures.number ∙ is)).1
]

pub returns-in-Err-clause-unfinished : goal.returns-in-Err-clause-unfinished
returns-in-Err-clause-unfinished g c = λ either. elim either [
  | inl is ↦ (link_fault _ _ _ _ _ c.in-Err.status c.in-Err.ensures.cause (sym c.write_line.ensures.number ∙ is)).2
  | inr is ↦ (strays _ _ _ _ _ c.in-Err.status c.in-Err.ensures.cause (sym c.write_line.ensures.number ∙ is)).2
]

pub returns-in-Err-clause-no_memory : goal.returns-in-Err-clause-no_memory
returns-in-Err-clause-no_memory g c = λ nine. c.in-Err.ensures.no_memory (is_no_memory c.in-Err.status (sym c.write_line.ensures.number ∙ nine))

pub returns-in-Err-clause-no_seeds : goal.returns-in-Err-clause-no_seeds
returns-in-Err-clause-no_seeds g c = λ is. no_seeds _ _ _ _ _ c.in-Err.status c.in-Err.ensures.cause (sym c.write_line.ensures.number ∙ is)

pub returns-in-Err-clause-unminted : goal.returns-in-Err-clause-unminted
returns-in-Err-clause-unminted g c = λ is. unminted _ _ _ _ _ c.in-Err.status c.in-Err.ensures.cause (sym c.write_line.ensures.number ∙ is)

pub returns-in-Err-clause-too_long : goal.returns-in-Err-clause-too_long
returns-in-Err-clause-too_long g c = λ is. too_long _ _ _ _ _ c.in-Err.status c.in-Err.ensures.cause (sym c.write_line.ensures.number ∙ is)

pub returns-in-Err-clause-bad_value : goal.returns-in-Err-clause-bad_value
returns-in-Err-clause-bad_value g c = λ is. bad_value _ _ _ _ _ c.in-Err.status c.in-Err.ensures.cause (sym c.write_line.ensures.number ∙ is)

pub returns-in-Err-clause-bad_proof : goal.returns-in-Err-clause-bad_proof
returns-in-Err-clause-bad_proof g c = λ is. bad_proof _ _ _ _ _ c.in-Err.status c.in-Err.ensures.cause (sym c.write_line.ensures.number ∙ is)

pub returns-in-Err-clause-unsound : goal.returns-in-Err-clause-unsound
returns-in-Err-clause-unsound g c = λ is. unsound _ _ _ _ _ c.in-Err.status c.in-Err.ensures.cause (sym c.write_line.ensures.number ∙ is)

pub returns-in-Err-clause-bad_line_comes : goal.returns-in-Err-clause-bad_line_comes
returns-in-Err-clause-bad_line_comes g c = λ told quiet bad.
    subst (λ n. OrNoMemory n 3) (sym c.write_line.ensures.number) (bad_line_comes _ _ _ _ _ c.in-Err.status c.in-Err.ensures.cause (λ e. ap g.L.Link.told (c.in-Err.ensures.early e)) (λ command asked. command_plain _ command asked) told quiet bad)

pub returns-in-Err-clause-bad_value_comes : goal.returns-in-Err-clause-bad_value_comes
returns-in-Err-clause-bad_value_comes g c = λ n.
    subst (λ n. OrNoMemory n 12) (sym c.write_line.ensures.number) (bad_value_comes _ _ _ _ _ c.in-Err.status c.in-Err.ensures.cause (λ e. ap g.L.Link.told (c.in-Err.ensures.early e)) (λ command asked. command_plain _ command asked) n)

pub returns-in-Err-clause-bad_proof_comes : goal.returns-in-Err-clause-bad_proof_comes
returns-in-Err-clause-bad_proof_comes g c = λ n.
    subst (λ n. OrNoMemory n 15) (sym c.write_line.ensures.number) (bad_proof_comes _ _ _ _ _ c.in-Err.status c.in-Err.ensures.cause (λ e. ap g.L.Link.told (c.in-Err.ensures.early e)) (λ command asked. command_plain _ command asked) n)

pub returns-in-Err-clause-unsound_comes : goal.returns-in-Err-clause-unsound_comes
returns-in-Err-clause-unsound_comes g c = λ told quiet n.
    subst (λ n. OrNoMemory n 13) (sym c.write_line.ensures.number) (unsound_comes _ _ _ _ _ c.in-Err.status c.in-Err.ensures.cause (λ e. ap g.L.Link.told (c.in-Err.ensures.early e)) (λ command asked. command_plain _ command asked) told quiet n)

pub returns-in-Err-clause-no_seeds_come : goal.returns-in-Err-clause-no_seeds_come
returns-in-Err-clause-no_seeds_come g c = λ told quiet no_one.
    subst (λ n. OrNoMemory n 8) (sym c.write_line.ensures.number) (no_seeds_come _ _ _ _ _ c.in-Err.status c.in-Err.ensures.cause (λ e. ap g.L.Link.told (c.in-Err.ensures.early e)) (λ command asked. command_plain _ command asked) told quiet no_one)

pub returns-in-Err-clause-strays_come : goal.returns-in-Err-clause-strays_come
returns-in-Err-clause-strays_come g c = λ told last.
    subst (λ n. OrNoMemory n 7) (sym c.write_line.ensures.number) (strays_come _ _ _ _ _ c.in-Err.status c.in-Err.ensures.cause (λ e. ap g.L.Link.told (c.in-Err.ensures.early e)) (λ command asked. command_plain _ command asked) told last)

pub returns-in-Err-clause-unminted_comes : goal.returns-in-Err-clause-unminted_comes
returns-in-Err-clause-unminted_comes g c = λ none_.
    subst (λ n. OrNoMemory n 10) (sym c.write_line.ensures.number) (unminted_comes _ _ _ _ _ c.in-Err.status c.in-Err.ensures.cause (λ e. ap g.L.Link.told (c.in-Err.ensures.early e)) (λ n. command_plain _ n.command n.asked) none_)

pub returns-in-Err-clause-too_long_comes : goal.returns-in-Err-clause-too_long_comes
returns-in-Err-clause-too_long_comes g c = λ told much.
    subst (λ n. OrNoMemory n 11) (sym c.write_line.ensures.number) (too_long_comes _ _ _ _ _ c.in-Err.status c.in-Err.ensures.cause (λ e. ap g.L.Link.told (c.in-Err.ensures.early e)) told much)

pub returns-in-Err-clause-complete : goal.returns-in-Err-clause-complete
returns-in-Err-clause-complete g c = λ well. inr (c.write_line.ensures.number ∙ completes _ _ _ _ _ _ c.in-Err.status c.in-Err.ensures.cause (command_plain _ well.command well.asked) well)

pub returns-in-Err-clause-reads_well : goal.returns-in-Err-clause-reads_well
returns-in-Err-clause-reads_well g c other = c.in-Err.ensures.reads_well (λ is. (let fault : c.in-Err.status ≡ SourceFault = cc in other (c.write_line.ensures.number ∙ ap number_of fault)))

pub returns-in-Err-clause-hears_well : goal.returns-in-Err-clause-hears_well
returns-in-Err-clause-hears_well g c other = c.in-Err.ensures.hears_well (λ is. (let fault : c.in-Err.status ≡ LinkFault = cc in other (c.write_line.ensures.number ∙ ap number_of fault)))

pub returns-in-Err-clause-line : goal.returns-in-Err-clause-line
returns-in-Err-clause-line g c = λ some whole. record {
  status = c.in-Err.status;
  numbered = c.write_line.ensures.number;
  names = named _ _ _ _ _ c.in-Err.status c.in-Err.ensures.cause;
  writes = c.write_line.ensures.writes;
}

pub returns-in-Err-clause-by_command : goal.returns-in-Err-clause-by_command
returns-in-Err-clause-by_command g c = λ command asked.
    subst (λ n. MayEnd (promise_of command) n) (sym c.write_line.ensures.number) (may_end _ _ _ _ _ c.in-Err.status c.in-Err.ensures.cause (command_plain _ command asked) command asked)

pub returns-in-Err-clause-reads_last : goal.returns-in-Err-clause-reads_last
returns-in-Err-clause-reads_last g c e = c.in-Err.ensures.reads_last (ap (λ x. Err x) (is_source_fault c.in-Err.status (sym c.write_line.ensures.number ∙ e)))

pub returns-in-Err-clause-hears_last : goal.returns-in-Err-clause-hears_last
returns-in-Err-clause-hears_last g c e = c.in-Err.ensures.hears_last (ap (λ x. Err x) (is_link_fault c.in-Err.status (sym c.write_line.ensures.number ∙ e)))
