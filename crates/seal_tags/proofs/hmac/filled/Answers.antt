use Rattle.std.proofs.Common.{◌++◌, length, drop, ap, ◌∙◌}
use Rattle.std.specs.Prelude.{replicate}
use Rattle.std.proofs.lemmas.List.{drop-replicate}
use Rattle.seal_tags.proofs.hmac.filled.Goals as goal

pub returns : goal.returns
returns c =
    let key = c.args.key.now in
    ap (λ l. l ++ drop (length key) (replicate 64 0)) c.copy_from_slice.ensures.after ∙ ap (λ l. key ++ l) (drop-replicate (length key) 64 0)
