use Rattle.std.proofs.Common.{◌∙◌, ap, map, string_bytes}
use Rattle.std.proofs.lemmas.List.{length-map}
use Rattle.clap.specs.Takes.{takes}
use Rattle.kad_words.proofs.Parsing.{parse_passes, taken_is}
use Rattle.kad_words.proofs.matched.matched.Goals as goal

pub unreachable-requires : goal.unreachable-requires
unreachable-requires c =
    let texts = map (λ w. string_bytes w) c.args.words.now in
    let passes = ap (λ a. takes a texts) c.in_ok-command.ensures ∙ parse_passes c.args.choices.now c.requires.names texts (rw length-map c.requires.some) c.requires.plain in
    c.in_default.not-OutOfMemory (c.kind.ensures ∙ c.in-Err.ensures.passes passes)

pub returns-in-Ok : goal.returns-in-Ok
returns-in-Ok c =
    taken_is c.args.choices.now c.requires.names (map (λ w. string_bytes w) c.args.words.now) (rw length-map c.requires.some) c.requires.plain _ c.in-Ok.matches c.in_ok-command.ensures c.in-Ok.ensures.matches
