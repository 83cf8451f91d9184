use Rattle.std.proofs.Common.{◌++◌, ◌∙◌, [], Bool, cond, ap, sym}
use Rattle.std.specs.Prelude.{codes}
use Rattle.kad_base.specs.Words.{word_bytes}
use Rattle.kad_bencode.specs.Spelling.{string_text}
use Rattle.kad_krpc.specs.Form.{proof_text}
use Rattle.kad_krpc.proofs.query.said_into.Goals as goal

pub returns-then-read_only-clause-text : goal.returns-then-read_only-clause-text
returns-then-read_only-clause-text c =
    c.text_into.ensures.text
    ∙ ap (λ (b : Bool). codes "d1:ad2:id20:" ++ c.args.own.now.0 ++ proof_text c.args.front.now ++ string_text c.args.key.now ++ codes "20:" ++ c.args.sought.now.0 ++ proof_text c.args.back.now ++ c.args.behind.now ++ codes "e1:q" ++ string_text c.args.method.now ++ cond b (codes "2:roi1e") [] ++ codes "1:t4:" ++ word_bytes c.args.tx ++ codes "1:y1:qe") (sym c.if-read_only.true)

pub returns-clause-text : goal.returns-clause-text
returns-clause-text c =
    c.text_into-2.ensures.text
    ∙ ap (λ (b : Bool). codes "d1:ad2:id20:" ++ c.args.own.now.0 ++ proof_text c.args.front.now ++ string_text c.args.key.now ++ codes "20:" ++ c.args.sought.now.0 ++ proof_text c.args.back.now ++ c.args.behind.now ++ codes "e1:q" ++ string_text c.args.method.now ++ cond b (codes "2:roi1e") [] ++ codes "1:t4:" ++ word_bytes c.args.tx ++ codes "1:y1:qe") (sym c.if-read_only.false)
