use Rattle.std.proofs.Common.{◌++◌, ◌∙◌, List, ℕ, ap, refl, sym, rules}
use Rattle.std.specs.Prelude.{codes}
use Rattle.kad_base.specs.Words.{word_bytes}
use Rattle.table_refresh.proofs.Pinging.{ping_text}
use Rattle.table_refresh.proofs.ping.ping_into.Goals as goal

pub returns-clause-form : goal.returns-clause-form
unfolding word_bytes
returns-clause-form c =
    c.put_bytes.ensures.part
    ∙ ap (λ (l : List ℕ). l ++ codes "1:y1:qe") (c.put_bytes-at-4.ensures.part
    ∙ ap (λ (l : List ℕ). l ++ c.to_le_bytes.result) (c.put_bytes-at-3.ensures.part
    ∙ ap (λ (l : List ℕ). l ++ codes "e1:q4:ping2:roi1e1:t4:") (c.put_bytes-at-2.ensures.part
    ∙ ap (λ (l : List ℕ). l ++ c.args.own.now.0) c.put_bytes-at.ensures.part)))
    ∙ ap (λ (l : List ℕ). codes "d1:ad2:id20:" ++ c.args.own.now.0 ++ codes "e1:q4:ping2:roi1e1:t4:" ++ l ++ codes "1:y1:qe") c.to_le_bytes.ensures
    ∙ sym (ping_text c.args.own.now (word_bytes c.args.tx) (search rules) refl)
