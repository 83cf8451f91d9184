use Rattle.std.proofs.Common.{◌≡◌, refl, rules, get_or, length}
use Rattle.std.specs.Prelude.{◌+◌, ◌*◌, [], ◌∷◌}
use Rattle.hex.specs.Hex.{encode_lower}
use Rattle.kad_text.proofs.Printing.{group_more}
use Rattle.kad_text.proofs.print.put_v6.Goals as goal

pub loop-i-preserved : goal.loop-i-preserved
loop-i-preserved c =
    let bytes = c.args.ip in
    let len : length bytes ≡ 16 = search rules in
    group_more bytes c.loop-i.output c.put_group.new.output (encode_lower (get_or bytes (2 * c.loop-i.i) 0 ∷ get_or bytes (2 * c.loop-i.i + 1) 0 ∷ [])) c.loop-i.lead c.loop-i.i _ len c.loop-i-test.true refl c.loop-i.invariant c.in_ok-put_group.ensures
