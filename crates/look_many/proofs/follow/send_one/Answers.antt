use Rattle.std.proofs.Common.{◌≡◌, ◌∙◌, [], ◌∷◌, length, refl, sym, ap, subst, rules}
use Rattle.std.specs.Prelude.{replicate}
use Rattle.kad_base.specs.declared.types.Event.TheVariants.{Sent, Unsent}
use Rattle.kad_base.specs.Outside.{Grows}
use Rattle.kad_base.specs.Words.{word}
use Rattle.lookup_crowd.specs.Many.{follow_bytes}
use Rattle.look_many.proofs.Tagging.{tx_long, tx_same, tx_written, whole_again}
use Rattle.look_many.proofs.follow.send_one.Goals as goal

pub write_tx-requires : goal.write_tx-requires
write_tx-requires g c = tx_long c.as_mut_slice.result.now (replicate 4 0) c.args.proof c.args.ask refl (c.as_mut_slice.ensures.value ∙ c.in-Ok.ensures)

pub returns-in-Ok-send-clause-ok : goal.returns-in-Ok-send-clause-ok
returns-in-Ok-send-clause-ok g c =
    let xs = c.as_mut_slice.result.now in
    let ys = c.write_tx.new.bytes in
    let w = c.next-tx.result in
    let written : ys ≡ follow_bytes c.args.proof w c.args.ask = tx_written xs ys (replicate 4 0) w c.args.proof c.args.ask refl (c.as_mut_slice.ensures.value ∙ c.in-Ok.ensures) c.write_tx.ensures in
    let same : length ys ≡ length xs = tx_same xs ys w (tx_long xs (replicate 4 0) c.args.proof c.args.ask refl (c.as_mut_slice.ensures.value ∙ c.in-Ok.ensures)) c.write_tx.ensures in
    let vec : c.in-Ok.bytes.len ≡ length c.in-Ok.bytes.items = search rules in
    let bytes : c.as_slice.result.now ≡ follow_bytes c.args.proof (word c.args.words.now.seed c.args.words.now.place) c.args.ask =
    c.as_slice.ensures.value ∙ whole_again c.in-Ok.bytes.len c.in-Ok.bytes.items ys (vec ∙ ap length (sym c.as_mut_slice.ensures.value) ∙ sym same) ∙ written ∙ ap (λ n. follow_bytes c.args.proof n c.args.ask) c.next-tx.ensures.value in
    subst (λ l. Grows (g.L.Link.told c.args.link.now) (g.L.Link.told c.send.new.self) (λ es. es ≡ Sent c.args.to l ∷ [])) bytes c.in-Ok-send.ensures.ok

pub returns-clause-ok : goal.returns-clause-ok
returns-clause-ok g c =
    let xs = c.as_mut_slice.result.now in
    let ys = c.write_tx.new.bytes in
    let w = c.next-tx.result in
    let written : ys ≡ follow_bytes c.args.proof w c.args.ask = tx_written xs ys (replicate 4 0) w c.args.proof c.args.ask refl (c.as_mut_slice.ensures.value ∙ c.in-Ok.ensures) c.write_tx.ensures in
    let same : length ys ≡ length xs = tx_same xs ys w (tx_long xs (replicate 4 0) c.args.proof c.args.ask refl (c.as_mut_slice.ensures.value ∙ c.in-Ok.ensures)) c.write_tx.ensures in
    let vec : c.in-Ok.bytes.len ≡ length c.in-Ok.bytes.items = search rules in
    let bytes : c.as_slice.result.now ≡ follow_bytes c.args.proof (word c.args.words.now.seed c.args.words.now.place) c.args.ask =
    c.as_slice.ensures.value ∙ whole_again c.in-Ok.bytes.len c.in-Ok.bytes.items ys (vec ∙ ap length (sym c.as_mut_slice.ensures.value) ∙ sym same) ∙ written ∙ ap (λ n. follow_bytes c.args.proof n c.args.ask) c.next-tx.ensures.value in
    subst (λ l. Grows (g.L.Link.told c.args.link.now) (g.L.Link.told c.send.new.self) (λ es. es ≡ Unsent c.args.to l ∷ [])) bytes c.in-Err-send.ensures.err
