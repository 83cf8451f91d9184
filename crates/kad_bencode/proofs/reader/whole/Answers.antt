use Rattle.std.proofs.Common.{sym, ◌∙◌, subst}
use Rattle.kad_bencode.specs.Spelling.{Spells}
use Rattle.kad_bencode.proofs.Ordered.{text_spells, spelled_fits, spelled_in_order}
use Rattle.kad_bencode.proofs.reader.whole.Goals as goal

pub returns-in_ok-value-in-Ok : goal.returns-in_ok-value-in-Ok
returns-in_ok-value-in-Ok c =
    let s = c.in-Ok.ensures.spells in
    let again = subst (λ l. Spells l s.0) (sym (c.as_slice.ensures.value ∙ c.in_ok-form-in-Ok.ensures s.0 s.1)) (text_spells s.0 (spelled_fits c.args.bytes.now s.0 s.1) (spelled_in_order c.args.bytes.now s.0 s.1)) in
    subst (Spells c.args.bytes.now) (sym (c.in_ok-value-in-Ok.ensures s.0 again)) s.1
