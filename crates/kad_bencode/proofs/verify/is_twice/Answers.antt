use Rattle.std.proofs.Common.{ap, sym, ◌∙◌}
use Rattle.kad_bencode.specs.Keys.{keys_of}
use Rattle.kad_bencode.specs.Spelling.{has_key}
use Rattle.kad_bencode.proofs.verify.is_twice.Goals as goal

pub returns-clause-twice : goal.returns-clause-twice
returns-clause-twice c h ps key a s = ap (has_key (keys_of ps)) (sym (c.key_at.ensures key s)) ∙ sym (c.has_key.ensures ps a) ∙ h
