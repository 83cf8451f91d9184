use Rattle.std.proofs.Common.{◌≡◌, [], ◌∷◌, sym, subst}
use Rattle.std.proofs.lemmas.Result.{IfOk-weaker}
use Rattle.item_store.specs.Items.{IsItem}
use Rattle.item_store.proofs.Written.{two_bytes}
use Rattle.answer_trials.proofs.items.item.Goals as goal

pub returns : goal.returns
returns c =
    let high = c.args.high in
    let low = c.args.low in
    IfOk-weaker c.from_slice.result (λ l. l ≡ 50 ∷ 58 ∷ high ∷ low ∷ []) IsItem (λ l e. subst IsItem (sym e) (two_bytes high low)) c.from_slice.ensures
