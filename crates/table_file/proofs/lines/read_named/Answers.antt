use Rattle.std.proofs.Common.{true≢false, sym, ◌∙◌}
use Rattle.table_file.proofs.LineSpelling.{no_word}
use Rattle.table_file.proofs.lines.read_named.Goals as goal

pub returns : goal.returns
returns c = λ l s. no_word c.args.word.now c.args.text.now l c.requires
    (λ e. true≢false (sym (c.is_same.ensures.1 e) ∙ c.if-is_same.false))
    (λ e. true≢false (sym (c.is_same-2.ensures.1 e) ∙ c.if-is_same-2.false))
    (λ e. true≢false (sym (c.is_same-3.ensures.1 e) ∙ c.if-is_same-3.false))
    (λ e. true≢false (sym (c.is_same-4.ensures.1 e) ∙ c.if-is_same-4.false))
    (λ e. true≢false (sym (c.is_same-5.ensures.1 e) ∙ c.if-is_same-5.false)) s
