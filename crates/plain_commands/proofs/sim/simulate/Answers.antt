use Rattle.std.proofs.Common.{rules, List, length, ap, ◌∙◌}
use Rattle.std.specs.Prelude.{IsErrOf}
use Rattle.std.proofs.lemmas.Bool.{iff_false}
use Rattle.kad_base.specs.declared.types.Contact.{Contact}
use Rattle.fake_net.specs.Plays.{SimKept}
use Rattle.lookup_run.specs.declared.types.LookFault.TheVariants as fault
use Rattle.seal_tags.specs.Seals.{is_group_tag}
use Rattle.command_base.specs.Printed.{line_of}
use Rattle.plain_commands.specs.Simulated.{count_among, sim_text}
use Rattle.command_base.proofs.Results.{ok_at, err_at}
use Rattle.plain_commands.proofs.Simulating.{sim_limits, sim_usable, simulates}
use Rattle.plain_commands.proofs.Unstrayed.{no_strays, no_rise}
use Rattle.plain_commands.proofs.sim.simulate.Goals as goal

pub look_up_alone-ended-requires-clause-usable : goal.look_up_alone-ended-requires-clause-usable
look_up_alone-ended-requires-clause-usable g c = sim_usable c.args.simulation.now c.in_ok-start.start c.in_ok-start.ensures

pub returns-in-Ok-clause-ok : goal.returns-in-Ok-clause-ok
returns-in-Ok-clause-ok g c =
    let o = c.in-Ok.outcome in
    simulates c.args.simulation.now c.in_ok-start.start c.new-seal.result c.new-words.result c.look_up_alone-ended.new.words o c.look_up_alone-ended.new.link.network c.look_up_alone-ended.new.link.wide c.in_ok-net.net.told c.look_up_alone-ended.new.link.told c.in_ok-line_for-in-Ok.field-0
    c.in_ok-start.ensures c.new-seal.ensures c.new-words.ensures (ap (λ (k : SimKept). k.network) c.look_up_alone-ended.ensures.looks.kept ∙ c.in_ok-net.ensures.network) (ap (λ (k : SimKept). k.wide) c.look_up_alone-ended.ensures.looks.kept ∙ c.in_ok-net.ensures.wide) c.in_ok-net.ensures.told (λ none_. iff_false c.short.ensures.short c.if-short.false none_) c.short.ensures.plays
    (ok_at c.look_up_alone-ended.result.1 o _ c.in-Ok.is c.look_up_alone-ended.ensures.looks.lookup) (ok_at c.look_up_alone-ended.result.1 o _ c.in-Ok.is c.look_up_alone-ended.ensures.looks.rounds)
    (c.in_ok-line_for-in-Ok.ensures ∙ ap (λ (l : List Contact). line_of (sim_text (length o.found) o.counts.asked o.counts.failed o.counts.turned (count_among l o.found))) c.as_slice.ensures)

pub unreachable-requires : goal.unreachable-requires
unreachable-requires g c =
    let is : IsErrOf c.look_up_alone-ended.result.1 fault.LinkFault = search rules in
    absurd (no_rise (c.look_up_alone-ended.ensures.looks.link is))

pub unreachable-requires-in-Err-Strays : goal.unreachable-requires-in-Err-Strays
unreachable-requires-in-Err-Strays g c =
    let is : IsErrOf c.look_up_alone-ended.result.1 fault.Strays = search rules in
    absurd
    (no_strays c.in_ok-start.start.setting (is_group_tag c.new-seal.result) c.in_ok-start.start.table c.new-words.result c.look_up_alone-ended.new.words c.look_up_alone-ended.new.link.network c.look_up_alone-ended.new.link.wide c.in_ok-net.net.told c.look_up_alone-ended.new.link.told _ _
    (sim_limits c.args.simulation.now c.in_ok-start.start c.requires c.in_ok-start.ensures) c.in_ok-net.ensures.told (λ none_. iff_false c.short.ensures.short c.if-short.false none_) c.short.ensures.plays
    (err_at c.look_up_alone-ended.result.1 c.in-Err-Strays.field-0 _ c.in-Err-Strays.is c.look_up_alone-ended.ensures.looks.unfinished) (c.look_up_alone-ended.ensures.looks.strays is))
