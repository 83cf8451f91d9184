use Rattle.std.proofs.Common.{arith}
use Rattle.command_base.proofs.Results.{ok_then}
use Rattle.lookup_commands.proofs.Forming.{form_of, is_form_of, nests_of}
use Rattle.lookup_commands.proofs.item.is_item.Goals as goal

pub returns-then-not-branch : goal.returns-then-not-branch
returns-then-not-branch c = (λ t. cc t, λ i. cc (c.in_ok-nests_within.ensures.1 (nests_of c.args.bytes.now i.written), c.if-not-branch.true))

pub returns : goal.returns
returns c =
    let long = c.if-bytes-gt-MAX_ITEM.false in
    ok_then c.is_form.result _ _ c.is_form.ensures
    (λ may_be h. (
      λ t. record { short = omega (arith, long); written = form_of c.args.bytes.now (h.0 t) (c.in_ok-nests_within.ensures.0 c.if-not-branch.false) },
      λ i. h.1 (is_form_of c.args.bytes.now i.written),
    ))
