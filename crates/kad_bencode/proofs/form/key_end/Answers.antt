use Rattle.std.proofs.Common.{◌+◌, ap, ◌∙◌}
use Rattle.kad_bencode.proofs.Forming.{whole_mid}
use Rattle.kad_bencode.proofs.form.key_end.Goals as goal

pub returns-in-Some-clause-ends : goal.returns-in-Some-clause-ends
returns-in-Some-clause-ends c key rest e = ap (λ n. c.args.at + n) (c.in-Some.ensures.reads key rest (whole_mid c.args.at c.args.text.now ∙ e)).1

pub returns-in-None-clause-ends : goal.returns-in-None-clause-ends
returns-in-None-clause-ends c key rest e = absurd (c.in-None.ensures.reads key rest (whole_mid c.args.at c.args.text.now ∙ e))
