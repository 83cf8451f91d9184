use Rattle.std.proofs.Common.{◌<◌, ◌+◌, ◌++◌, List, ℕ, length, ap, sym, ◌∙◌, arith}
use Rattle.std.specs.Prelude.{take}
use Rattle.kad_krpc.proofs.Queries.{name_text, two_before}
use Rattle.kad_krpc.proofs.query.put_name.Goals as goal

pub returns-clause-place : goal.returns-clause-place
returns-clause-place c =
    let short : length c.args.name.now < 10 = omega (arith, c.requires.short) in
    let text = ap (λ (l : List ℕ). length l) (name_text c.args.name.now short) in
    let behind = c.put_bytes.ensures.place in
    let at = c.put_bytes-at.ensures.place in
    omega (arith, text, behind, at)

pub returns-clause-length : goal.returns-clause-length
returns-clause-length c =
    let short : length c.args.name.now < 10 = omega (arith, c.requires.short) in
    let text = ap (λ (l : List ℕ). length l) (name_text c.args.name.now short) in
    omega (arith, text)

pub returns-clause-text : goal.returns-clause-text
returns-clause-text c =
    let short : length c.args.name.now < 10 = omega (arith, c.requires.short) in
    c.put_bytes.ensures.part
    ∙ ap (λ (l : List ℕ). l ++ c.args.name.now) c.put_bytes-at.ensures.part
    ∙ two_before (take c.args.at c.args.buf.now) (48 + length c.args.name.now) 58 c.args.name.now
    ∙ ap (λ (l : List ℕ). take c.args.at c.args.buf.now ++ l) (sym (name_text c.args.name.now short))
