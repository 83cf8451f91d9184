use Rattle.std.proofs.Common.{rules, inl}
use Rattle.std.specs.Prelude.{IsErrOf}
use Rattle.lookup_run.specs.declared.types.LookFault.TheVariants as fault
use Rattle.command_base.specs.Called.{called_with}
use Rattle.command_base.specs.Shown.{shown_link}
use Rattle.lookup_commands.proofs.Begun.{has, usable_in_table, begun_from, few_from, strays_from}
use Rattle.command_base.proofs.Results.{ok_at, err_at}
use Rattle.lookup_commands.proofs.Reaching.{reaches}
use Rattle.lookup_commands.proofs.run_lookup.run_lookup.Goals as goal

pub look_up-ended-requires-clause-usable : goal.look_up-ended-requires-clause-usable
look_up-ended-requires-clause-usable g c _ _ =
    usable_in_table c.args.kind c.args.look.now c.args.call.now.random _ c.setting_for-setting.result c.new-words.result c.in_ok-table.table
    (has c.args.kind c.args.look.now c.args.call.now.random _ c.setting_for-setting.result c.new-words.result c.in_ok-table.table c.in_ok-contacts.contacts c.as_slice.result.now c.setting_for-setting.ensures c.new-words.ensures c.requires c.in_ok-contacts.ensures.ok c.in_ok-contacts.ensures.some_one c.as_slice.ensures c.in_ok-table.ensures)

pub returns-in-Ok-clause-ok : goal.returns-in-Ok-clause-ok
returns-in-Ok-clause-ok g c =
    let r = c.look_up-ended.result.1 in
    let o = c.in-Ok.outcome in
    let e = c.look_up-ended.ensures.looks in
    reaches c.args.kind c.args.look.now (called_with c.args.call.now.random (g.C.PacedCheck.slow c.args.call.now.check.now) (g.G.SealCheck.accepted c.args.call.now.seal.now) (g.G.Seal.tag_of c.args.call.now.seal.now)) _ (shown_link g.L.Link.told g.L.Link.recv_faults g.L.Link.send_faults c.args.link.now c.look_up-ended.new.link) c.setting_for-setting.result c.new-words.result c.look_up-ended.new.words c.in_ok-table.table o
    (has c.args.kind c.args.look.now c.args.call.now.random _ c.setting_for-setting.result c.new-words.result c.in_ok-table.table c.in_ok-contacts.contacts c.as_slice.result.now c.setting_for-setting.ensures c.new-words.ensures c.requires c.in_ok-contacts.ensures.ok c.in_ok-contacts.ensures.some_one c.as_slice.ensures c.in_ok-table.ensures)
    (ok_at r o _ c.in-Ok.is e.lookup) (ok_at r o _ c.in-Ok.is e.rounds) (ok_at r o _ c.in-Ok.is e.gathered) (ok_at r o _ c.in-Ok.is e.few_strays) (ok_at r o _ c.in-Ok.is e.no_last_stray) (ok_at r o _ c.in-Ok.is e.peers_in_order) (ok_at r o _ c.in-Ok.is e.refused)

pub returns-in-Err-LinkFault-clause-cause : goal.returns-in-Err-LinkFault-clause-cause
returns-in-Err-LinkFault-clause-cause g c =
    let is : IsErrOf c.look_up-ended.result.1 fault.LinkFault = search rules in (
      c.look_up-ended.ensures.looks.link is,
      begun_from c.args.kind c.args.look.now (called_with c.args.call.now.random (g.C.PacedCheck.slow c.args.call.now.check.now) (g.G.SealCheck.accepted c.args.call.now.seal.now) (g.G.Seal.tag_of c.args.call.now.seal.now)) _ (shown_link g.L.Link.told g.L.Link.recv_faults g.L.Link.send_faults c.args.link.now c.look_up-ended.new.link) c.setting_for-setting.result c.new-words.result c.look_up-ended.new.words c.in_ok-table.table
          (has c.args.kind c.args.look.now c.args.call.now.random _ c.setting_for-setting.result c.new-words.result c.in_ok-table.table c.in_ok-contacts.contacts c.as_slice.result.now c.setting_for-setting.ensures c.new-words.ensures c.requires c.in_ok-contacts.ensures.ok c.in_ok-contacts.ensures.some_one c.as_slice.ensures c.in_ok-table.ensures) (err_at c.look_up-ended.result.1 c.in-Err-LinkFault.field-0 _ c.in-Err-LinkFault.is c.look_up-ended.ensures.looks.unfinished),
      few_from c.args.kind c.args.look.now (called_with c.args.call.now.random (g.C.PacedCheck.slow c.args.call.now.check.now) (g.G.SealCheck.accepted c.args.call.now.seal.now) (g.G.Seal.tag_of c.args.call.now.seal.now)) _ (shown_link g.L.Link.told g.L.Link.recv_faults g.L.Link.send_faults c.args.link.now c.look_up-ended.new.link) c.setting_for-setting.result c.new-words.result c.in_ok-table.table
          (has c.args.kind c.args.look.now c.args.call.now.random _ c.setting_for-setting.result c.new-words.result c.in_ok-table.table c.in_ok-contacts.contacts c.as_slice.result.now c.setting_for-setting.ensures c.new-words.ensures c.requires c.in_ok-contacts.ensures.ok c.in_ok-contacts.ensures.some_one c.as_slice.ensures c.in_ok-table.ensures) (c.look_up-ended.ensures.looks.few_strays_at_fault is) (c.look_up-ended.ensures.looks.no_last_stray_at_fault is),
    )

pub returns-in-Err-Strays-clause-cause : goal.returns-in-Err-Strays-clause-cause
returns-in-Err-Strays-clause-cause g c =
    let is : IsErrOf c.look_up-ended.result.1 fault.Strays = search rules in (
      strays_from c.args.kind c.args.look.now (called_with c.args.call.now.random (g.C.PacedCheck.slow c.args.call.now.check.now) (g.G.SealCheck.accepted c.args.call.now.seal.now) (g.G.Seal.tag_of c.args.call.now.seal.now)) _ (shown_link g.L.Link.told g.L.Link.recv_faults g.L.Link.send_faults c.args.link.now c.look_up-ended.new.link) c.setting_for-setting.result c.new-words.result c.in_ok-table.table
          (has c.args.kind c.args.look.now c.args.call.now.random _ c.setting_for-setting.result c.new-words.result c.in_ok-table.table c.in_ok-contacts.contacts c.as_slice.result.now c.setting_for-setting.ensures c.new-words.ensures c.requires c.in_ok-contacts.ensures.ok c.in_ok-contacts.ensures.some_one c.as_slice.ensures c.in_ok-table.ensures) (c.look_up-ended.ensures.looks.strays is),
      begun_from c.args.kind c.args.look.now (called_with c.args.call.now.random (g.C.PacedCheck.slow c.args.call.now.check.now) (g.G.SealCheck.accepted c.args.call.now.seal.now) (g.G.Seal.tag_of c.args.call.now.seal.now)) _ (shown_link g.L.Link.told g.L.Link.recv_faults g.L.Link.send_faults c.args.link.now c.look_up-ended.new.link) c.setting_for-setting.result c.new-words.result c.look_up-ended.new.words c.in_ok-table.table
          (has c.args.kind c.args.look.now c.args.call.now.random _ c.setting_for-setting.result c.new-words.result c.in_ok-table.table c.in_ok-contacts.contacts c.as_slice.result.now c.setting_for-setting.ensures c.new-words.ensures c.requires c.in_ok-contacts.ensures.ok c.in_ok-contacts.ensures.some_one c.as_slice.ensures c.in_ok-table.ensures) (err_at c.look_up-ended.result.1 c.in-Err-Strays.field-0 _ c.in-Err-Strays.is c.look_up-ended.ensures.looks.unfinished),
    )

pub returns-clause-no_memory : goal.returns-clause-no_memory
returns-clause-no_memory g c = λ same. inl (begun_from c.args.kind c.args.look.now (called_with c.args.call.now.random (g.C.PacedCheck.slow c.args.call.now.check.now) (g.G.SealCheck.accepted c.args.call.now.seal.now) (g.G.Seal.tag_of c.args.call.now.seal.now)) _ (shown_link g.L.Link.told g.L.Link.recv_faults g.L.Link.send_faults c.args.link.now c.look_up-ended.new.link) c.setting_for-setting.result c.new-words.result c.look_up-ended.new.words c.in_ok-table.table
    (has c.args.kind c.args.look.now c.args.call.now.random _ c.setting_for-setting.result c.new-words.result c.in_ok-table.table c.in_ok-contacts.contacts c.as_slice.result.now c.setting_for-setting.ensures c.new-words.ensures c.requires c.in_ok-contacts.ensures.ok c.in_ok-contacts.ensures.some_one c.as_slice.ensures c.in_ok-table.ensures) (err_at c.look_up-ended.result.1 c.in-Err-NoMemory.field-0 _ c.in-Err-NoMemory.is c.look_up-ended.ensures.looks.unfinished))
