use Rattle.std.proofs.Common.{◌≡◌, ◌+◌, ◌<◌, List, get_or, Bool, false, sym, ap, ◌∙◌, arith}
use Rattle.bucket_tree.specs.Partition.{bit}
use Rattle.bucket_tree.proofs.OneBit.{len-is}
use Rattle.bucket_tree.proofs.Ids.{get-bits}
use Rattle.bucket_tree.proofs.prefix.Prefix.bit_at.Goals as goal

pub bit-requires : goal.bit-requires
bit-requires c =
    let l = len-is c.self.inside.len c.self.inside.bits.0 c.args.self.now c.self.view_is in
    let le = c.self.invariant.short in
    omega (arith, l, le, c.requires)

pub returns : goal.returns
returns c =
    let l = len-is c.self.inside.len c.self.inside.bits.0 c.args.self.now c.self.view_is in
    let lt : c.args.at < c.self.inside.len = omega (arith, l, c.requires) in
    let e : 0 + c.args.at ≡ c.args.at = omega arith in
    c.bit.ensures ∙ ap (bit c.self.inside.bits.0) (sym e) ∙ sym (get-bits c.self.inside.len 0 c.args.at c.self.inside.bits.0 lt) ∙ ap (λ (l : List Bool). get_or l c.args.at false) c.self.view_is
