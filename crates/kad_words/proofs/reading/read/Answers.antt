use Rattle.std.proofs.Common.{map, string_bytes}
use Rattle.kad_words.proofs.Checks.{all_fit, commands_are, err_shows, fit_too, is_plain_then, names_good}
use Rattle.kad_words.proofs.reading.read.Goals as goal

pub matched-requires-clause-names : goal.matched-requires-clause-names
matched-requires-clause-names c = names_good c.in-Some.kind c.options.result.now c.options.ensures

pub returns-in-Err-clause-memory : goal.returns-in-Err-clause-memory
returns-in-Err-clause-memory c = λ e. is_plain_then c.in-Some.kind _ c.in-Some.ensures

pub made-requires : goal.made-requires
made-requires c =
    let plain = c.in-Some.ensures in
    fit_too _ _ _ c.in-Ok.ensures (all_fit _ _ _ plain.plain plain.there)

pub returns-in-Ok-clause-command : goal.returns-in-Ok-clause-command
returns-in-Ok-clause-command c =
    commands_are c.in-Some.kind (map (λ w. string_bytes w) c.args.words.now) _ c.made.result c.in-Some.ensures c.in-Ok.ensures c.made.ensures.says c.made.ensures.word

pub returns-in-Ok-clause-memory : goal.returns-in-Ok-clause-memory
returns-in-Ok-clause-memory c = err_shows c.made.result _ _ (is_plain_then c.in-Some.kind _ c.in-Some.ensures)
