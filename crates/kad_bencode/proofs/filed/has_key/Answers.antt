use Rattle.std.proofs.Common.{ap, sym, ◌∙◌, is_some}
use Rattle.kad_bencode.proofs.Nested.{some_copied}
use Rattle.kad_bencode.proofs.Verifying.{key_there}
use Rattle.kad_bencode.proofs.filed.has_key.Goals as goal

pub returns : goal.returns
returns c ps a = c.is_some.ensures ∙ sym (some_copied c.find.result)
    ∙ ap is_some (c.find.ensures ps a) ∙ key_there ps c.args.key.now
