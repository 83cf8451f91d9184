use Rattle.std.proofs.Common.{◌++◌, ◌∙◌, List, ℕ, ap}
use Rattle.std.specs.Prelude.{codes}
use Rattle.kad_base.specs.Words.{word_bytes}
use Rattle.kad_bencode.specs.Spelling.{string_text}
use Rattle.kad_krpc.specs.Form.{proof_text}
use Rattle.kad_krpc.proofs.query.text_into.Goals as goal

pub returns-clause-text : goal.returns-clause-text
unfolding word_bytes
returns-clause-text c =
    c.put_bytes.ensures.part
    ∙ ap (λ (l : List ℕ). l ++ codes "1:y1:qe") (c.put_bytes-at-9.ensures.part
    ∙ ap (λ (l : List ℕ). l ++ c.to_le_bytes.result) (c.put_bytes-at-8.ensures.part
    ∙ ap (λ (l : List ℕ). l ++ codes "1:t4:") (c.put_bytes-at-7.ensures.part
    ∙ ap (λ (l : List ℕ). l ++ c.args.ro.now) (c.put_name-at-2.ensures.text
    ∙ ap (λ (l : List ℕ). l ++ string_text c.args.method.now) (c.put_bytes-at-6.ensures.part
    ∙ ap (λ (l : List ℕ). l ++ codes "e1:q") (c.put_bytes-at-5.ensures.part
    ∙ ap (λ (l : List ℕ). l ++ c.args.behind.now) (c.put_sender-at-2.ensures.text
    ∙ ap (λ (l : List ℕ). l ++ proof_text c.args.back.now) (c.put_bytes-at-4.ensures.part
    ∙ ap (λ (l : List ℕ). l ++ c.args.sought.now.0) (c.put_bytes-at-3.ensures.part
    ∙ ap (λ (l : List ℕ). l ++ codes "20:") (c.put_name-at.ensures.text
    ∙ ap (λ (l : List ℕ). l ++ string_text c.args.key.now) (c.put_sender-at.ensures.text
    ∙ ap (λ (l : List ℕ). l ++ proof_text c.args.front.now) (c.put_bytes-at-2.ensures.part
    ∙ ap (λ (l : List ℕ). l ++ c.args.own.now.0) c.put_bytes-at.ensures.part))))))))))))
    ∙ ap (λ (l : List ℕ). codes "d1:ad2:id20:" ++ c.args.own.now.0 ++ proof_text c.args.front.now ++ string_text c.args.key.now ++ codes "20:" ++ c.args.sought.now.0 ++ proof_text c.args.back.now ++ c.args.behind.now ++ codes "e1:q" ++ string_text c.args.method.now ++ c.args.ro.now ++ codes "1:t4:" ++ l ++ codes "1:y1:qe") c.to_le_bytes.ensures
