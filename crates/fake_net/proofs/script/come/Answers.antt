use Rattle.std.proofs.Common.{◌<◌, List, length, subst}
use Rattle.std.proofs.lemmas.Option.{slice_get_within}
use Rattle.fake_net.specs.declared.script.ScriptEvent.{ScriptEvent}
use Rattle.fake_net.proofs.Spending.{spent_kept}
use Rattle.fake_net.proofs.script.come.Goals as goal

pub returns-clause-writable : goal.returns-clause-writable
returns-clause-writable c =
    let within : c.in-Some.place < length c.args.script.now.items =
    subst (λ (l : List ScriptEvent). c.in-Some.place < length l) c.as_slice.ensures.value (slice_get_within _ _ _ c.in-Some.ensures.next.here) in
    spent_kept _ _ _ within c.requires c.spend.ensures
