use Rattle.std.proofs.Common.{◌∙◌, Bool, [], cond, ap, refl, sym}
use Rattle.std.specs.Prelude.{codes}
use Rattle.kad_base.specs.Words.{word_bytes}
use Rattle.kad_bencode.specs.Spelling.{text_of}
use Rattle.kad_bencode.specs.declared.value.Value.TheVariants.{Dict}
use Rattle.kad_krpc.specs.Form.{proof_text}
use Rattle.kad_krpc.proofs.Queries.{ids_text, two_ids_query}
use Rattle.kad_krpc.proofs.query.query_into.Goals as goal

pub returns-then-six-clause-form : goal.returns-then-six-clause-form
unfolding word_bytes
returns-then-six-clause-form c = λ proof ask arguments named.
    let own = c.args.own.now in
    let sought = c.args.sought.now in
    let key = c.args.key.now in
    let front = c.args.front.now in
    let back = c.args.back.now in
    let said = c.said_into.ensures in
    said.text
    ∙ sym (two_ids_query own sought (proof_text front) key (proof_text back) (codes "4:wantl2:n6e") c.args.method.now (word_bytes c.args.tx) c.args.read_only proof ask refl
    (ap (λ ps. text_of (Dict ps)) arguments ∙ ids_text own sought key (codes "4:wantl2:n6e") front back c.args.six said.own said.sought (ap (λ (six : Bool). cond six (codes "4:wantl2:n6e") []) c.if-six.true)) named)

pub returns-clause-form : goal.returns-clause-form
unfolding word_bytes
returns-clause-form c = λ proof ask arguments named.
    let own = c.args.own.now in
    let sought = c.args.sought.now in
    let key = c.args.key.now in
    let front = c.args.front.now in
    let back = c.args.back.now in
    let said = c.said_into-2.ensures in
    said.text
    ∙ sym (two_ids_query own sought (proof_text front) key (proof_text back) [] c.args.method.now (word_bytes c.args.tx) c.args.read_only proof ask refl
    (ap (λ ps. text_of (Dict ps)) arguments ∙ ids_text own sought key [] front back c.args.six said.own said.sought (ap (λ (six : Bool). cond six (codes "4:wantl2:n6e") []) c.if-six.false)) named)
