use Rattle.std.proofs.Common.{ℕ, List, take, length, ◌≤◌, sym, subst, ap, ◌∙◌}
use Rattle.node_serve.specs.Gains.{reply_gained}
use Rattle.node_serve.specs.Sizes.{IsSmall}
use Rattle.node_serve.proofs.Few.{gained_small}
use Rattle.kad_krpc.specs.Asking.{proof_of}
use Rattle.kad_krpc.specs.Views.{ask_seen}
use Rattle.node_serve.specs.Responses.{MayTell}
use Rattle.node_serve.proofs.Solving.{notify_may}
use Rattle.node_serve.proofs.Responding.{stop_first, stop_gathering, stop_composing, stop_telling, replies_to}
use Rattle.node_serve.proofs.replying.respond.Goals as goal

pub write-length-requires : goal.write-length-requires
write-length-requires g c =
    let tx = c.in-Ok.tx in
    let short : length tx ≤ 32 = subst (λ (t : List ℕ). length t ≤ 32) (sym c.in-Ok.ensures) c.requires.short in
    subst IsSmall (sym c.in-Ok-compose.ensures.message) (gained_small c.args.setting.now c.args.asked.now.from c.args.at tx short c.in-Ok-gather.gained c.in-Ok-gather.ensures.few)

pub notify-requires-clause-may : goal.notify-requires-clause-may
notify-requires-clause-may g c =
    let asked = c.args.asked.now in
    subst MayTell (sym c.notify_for-notified.ensures) (notify_may c.args.setting.now.policy asked.read_only (proof_of asked.arguments) (ask_seen asked.ask) asked.from)

pub returns-in-Ok-notify-clause-ok : goal.returns-in-Ok-notify-clause-ok
returns-in-Ok-notify-clause-ok g c =
    let s = c.args.setting.now in
    let asked = c.args.asked.now in
    let gained = c.in-Ok-gather.gained in
    replies_to s asked c.args.at g.H.Hold.does (g.G.Seal.tag_of c.args.seal.now) c.in-Ok-plan.wants c.in-Ok-plan.ensures.wants c.notify_for-notified.result c.notify_for-notified.ensures
    gained c.in-Ok-compose.reply (take c.seal_reply.result c.seal_reply.new.out) c.args.hold.now c.gather.new.hold c.notify.new.hold c.in-Ok-gather.ensures.ok
    (c.in-Ok-compose.ensures.message ∙ ap (λ (t : List ℕ). reply_gained s asked.from c.args.at t gained) c.in-Ok.ensures) c.seal_reply.ensures.form c.in-Ok-notify.ensures.ok

pub returns-clause-err : goal.returns-clause-err
returns-clause-err g c =
    stop_telling c.args.setting.now c.args.asked.now c.args.at g.H.Hold.does c.in-Ok-plan.wants c.in-Ok-plan.ensures.wants c.notify_for-notified.result c.notify_for-notified.ensures
    c.in-Ok-gather.gained c.args.hold.now c.gather.new.hold c.notify.new.hold c.in-Ok-gather.ensures.ok c.in-Err-notify.ensures.err

pub returns-in-Err-clause-err : goal.returns-in-Err-clause-err
returns-in-Err-clause-err g c = stop_first c.args.setting.now c.args.asked.now c.args.at g.H.Hold.does c.args.hold.now

pub returns-in-Err-plan-clause-err : goal.returns-in-Err-plan-clause-err
returns-in-Err-plan-clause-err g c = stop_first c.args.setting.now c.args.asked.now c.args.at g.H.Hold.does c.args.hold.now

pub returns-in-Err-gather-clause-err : goal.returns-in-Err-gather-clause-err
returns-in-Err-gather-clause-err g c =
    stop_gathering c.args.setting.now c.args.asked.now c.args.at g.H.Hold.does c.in-Ok-plan.wants c.in-Ok-plan.ensures.wants c.args.hold.now c.gather.new.hold c.in-Err-gather.ensures.err

pub returns-in-Err-compose-clause-err : goal.returns-in-Err-compose-clause-err
returns-in-Err-compose-clause-err g c =
    stop_composing c.args.setting.now c.args.asked.now c.args.at g.H.Hold.does c.in-Ok-plan.wants c.in-Ok-plan.ensures.wants c.in-Ok-gather.gained c.in-Err-compose.ensures.err
    c.args.hold.now c.gather.new.hold c.in-Ok-gather.ensures.ok
