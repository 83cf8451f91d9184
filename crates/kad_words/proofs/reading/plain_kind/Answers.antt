use Rattle.std.proofs.Common.{◌∙◌, sym, ap, map, string_bytes}
use Rattle.kad_words.proofs.Checks.{no_command, plain_cases}
use Rattle.kad_words.proofs.reading.plain_kind.Goals as goal

pub returns-in_err-kind : goal.returns-in_err-kind
returns-in_err-kind c = rw c.from_residual-in_err-kind.ensures (λ plain.
    no_command _ _ _ (ap (map (λ w. string_bytes w)) c.in_ok-first.ensures.cases.0) (λ n e. c.in_err-kind.ensures n (c.as_str.ensures.value ∙ e)) plain)

pub returns : goal.returns
returns c = rw c.then_some.ensures
    (plain_cases c.in_ok-kind.kind _ _ _ _ c.is_plain.result (ap (map (λ w. string_bytes w)) c.in_ok-first.ensures.cases.0) (sym c.as_str.ensures.value ∙ c.in_ok-kind.ensures) c.options.ensures c.is_plain.ensures)
